-- The number, the name and the detail of each refusal.
use Rattle.std.specs.Prelude.{ℕ, List, codes}
use Rattle.desk_types.specs.declared.refusal.Refusal.{Refusal}
use Rattle.desk_types.specs.declared.refusal.Refusal.TheVariants.{BadKey, NoAccount, NoCampaign, NoLine, NoNegative, NoPlacement, BadField, BadPattern, LineThere, NegativeThere, BudgetBelowUsed, NotSettled, AccountsFull, CampaignsFull, LinesFull, NegativesFull, PlacementsFull, QueryTooLong, QueryTooMany, BadRow}
use Rattle.desk_types.specs.declared.refusal.Field.{Field}
use Rattle.desk_types.specs.declared.refusal.Field.TheVariants.{Key, Quality, Day, Budget, Bid, Headline, Link, Batch, Rows, Places}
use Rattle.desk_types.specs.declared.refusal.Detail.{Detail}
use Rattle.desk_types.specs.declared.refusal.Detail.TheVariants as detail

-- the number of a refusal
abbrev pub number_of : Refusal → ℕ
number_of BadKey = 1
number_of NoAccount = 2
number_of NoCampaign = 3
number_of NoLine = 4
number_of NoNegative = 5
number_of NoPlacement = 6
number_of (BadField field) = 7
number_of (BadPattern cause) = 8
number_of (LineThere line) = 9
number_of (NegativeThere negative) = 10
number_of (BudgetBelowUsed used) = 11
number_of NotSettled = 12
number_of AccountsFull = 13
number_of CampaignsFull = 14
number_of LinesFull = 15
number_of NegativesFull = 16
number_of PlacementsFull = 17
number_of (QueryTooLong bytes) = 18
number_of (QueryTooMany words) = 19
number_of (BadRow row cause) = 20

-- the name of a refusal
abbrev pub name_of : Refusal → List ℕ
name_of BadKey = codes "BadKey"
name_of NoAccount = codes "NoAccount"
name_of NoCampaign = codes "NoCampaign"
name_of NoLine = codes "NoLine"
name_of NoNegative = codes "NoNegative"
name_of NoPlacement = codes "NoPlacement"
name_of (BadField field) = codes "BadField"
name_of (BadPattern cause) = codes "BadPattern"
name_of (LineThere line) = codes "LineThere"
name_of (NegativeThere negative) = codes "NegativeThere"
name_of (BudgetBelowUsed used) = codes "BudgetBelowUsed"
name_of NotSettled = codes "NotSettled"
name_of AccountsFull = codes "AccountsFull"
name_of CampaignsFull = codes "CampaignsFull"
name_of LinesFull = codes "LinesFull"
name_of NegativesFull = codes "NegativesFull"
name_of PlacementsFull = codes "PlacementsFull"
name_of (QueryTooLong bytes) = codes "QueryTooLong"
name_of (QueryTooMany words) = codes "QueryTooMany"
name_of (BadRow row cause) = codes "BadRow"

-- what a refusal tells beside its name
abbrev pub detail_of : Refusal → Detail
detail_of (BadField field) = detail.Field field
detail_of (BadPattern cause) = detail.Cause cause
detail_of (LineThere line) = detail.Number line
detail_of (NegativeThere negative) = detail.Number negative
detail_of (BudgetBelowUsed used) = detail.Number used
detail_of (QueryTooLong bytes) = detail.Number bytes
detail_of (QueryTooMany words) = detail.Number words
detail_of (BadRow row cause) = detail.Row row cause
detail_of BadKey = detail.Nothing
detail_of NoAccount = detail.Nothing
detail_of NoCampaign = detail.Nothing
detail_of NoLine = detail.Nothing
detail_of NoNegative = detail.Nothing
detail_of NoPlacement = detail.Nothing
detail_of NotSettled = detail.Nothing
detail_of AccountsFull = detail.Nothing
detail_of CampaignsFull = detail.Nothing
detail_of LinesFull = detail.Nothing
detail_of NegativesFull = detail.Nothing
detail_of PlacementsFull = detail.Nothing

-- the name of a field
abbrev pub field_name : Field → List ℕ
field_name Key = codes "Key"
field_name Quality = codes "Quality"
field_name Day = codes "Day"
field_name Budget = codes "Budget"
field_name Bid = codes "Bid"
field_name Headline = codes "Headline"
field_name Link = codes "Link"
field_name Batch = codes "Batch"
field_name Rows = codes "Rows"
field_name Places = codes "Places"
