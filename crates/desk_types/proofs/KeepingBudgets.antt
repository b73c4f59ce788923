-- Each campaign has a budget row, call by call.
use Rattle.std.proofs.Common.{◌≡◌, ℕ, Bool, true, false, ◌==◌, ◌&&◌, List, [], ◌∷◌, ◌++◌, find, map, Option, None, Some, refl, sym, ◌∙◌}
use Rattle.std.specs.Prelude.{if◌then◌else◌}
use Rattle.std.specs.List.{All}
use Rattle.std.proofs.lemmas.Bool.{and_from, eq-eqb}
use Rattle.std.proofs.lemmas.List.Elements.{All-weaker}
use Rattle.desk_types.specs.declared.call.Call.{Call}
use Rattle.desk_types.specs.declared.call.Call.TheVariants.{AddAccount, SetQuality, Suspend, Credit, AddCampaign, SetBudget, AddLine, SetBid, Pause, AddNegative, DropNegative, Import, Search, Click}
use Rattle.desk_types.specs.declared.call.ImportRow.{ImportRow}
use Rattle.desk_types.specs.declared.call.Part.{Part}
use Rattle.desk_types.specs.declared.call.Part.TheVariants.{OfCampaign, OfLine}
use Rattle.desk_types.specs.declared.rows.Account.{Account}
use Rattle.desk_types.specs.declared.rows.Batch.{Batch}
use Rattle.desk_types.specs.declared.rows.BudgetSet.{BudgetSet}
use Rattle.desk_types.specs.declared.rows.Campaign.{Campaign}
use Rattle.desk_types.specs.declared.rows.Fate.{Fate}
use Rattle.desk_types.specs.declared.rows.Fate.TheVariants.{Open, Settled, Credited}
use Rattle.desk_types.specs.declared.rows.Line.{Line}
use Rattle.desk_types.specs.declared.rows.Negative.{Negative}
use Rattle.desk_types.specs.declared.rows.Placement.{Placement}
use Rattle.desk_types.specs.declared.tables.Change.{Change}
use Rattle.desk_types.specs.declared.tables.Change.TheVariants.{PutAccount, PutCampaign, PutBudget, PutLine, PutPlacement, PutBatch, PutFate}
use Rattle.desk_types.specs.declared.tables.Tables.{Tables}
use Rattle.desk_types.specs.Asked.{lines_made}
use Rattle.desk_types.specs.Changes.{changes, credit_of, credit_on, drop_of, import_of, placements_for, put_found, settlement, switch_of}
use Rattle.desk_types.specs.Day.{day_of}
use Rattle.desk_types.specs.Keys.{budget_key, campaign_key, is_same_key}
use Rattle.desk_types.specs.Money.{is_escrowed}
use Rattle.desk_types.specs.Rules.{has_budget}
use Rattle.desk_types.specs.State.{State}
use Rattle.desk_types.specs.Tables.{account_of, batch_of, campaign_of, line_of, negative_of, placement_of, put, put_all, put_fate}
use Rattle.desk_types.proofs.KeepingRows.{any-put, any-put_row, every}
use Rattle.desk_types.proofs.Kept.{HaveBudgets}
use Rattle.desk_types.proofs.Lawful.{All-put, found_all}
use Rattle.desk_types.proofs.Puts.{same_key}

three_parts : (a b c x y z : ℕ) → a ∷ b ∷ c ∷ [] ≡ x ∷ y ∷ z ∷ [] → (a ≡ x) × (b ≡ y) × (c ≡ z)
three_parts a b c x y z e = (cc, cc, cc)

-- a campaign that has a budget row has one after a setting is put
budget_stays : (T : Tables) (b : BudgetSet) (c : Campaign) → has_budget T c ≡ true → has_budget (put T (PutBudget b)) c ≡ true
unfolding put
budget_stays T b c h =
    let test = λ (x : BudgetSet). x.account == c.account && x.campaign == c.number in
    any-put test budget_key b T.budgets
    (every (λ (x : BudgetSet). is_same_key (budget_key x) (budget_key b) ≡ true → test x ≡ true → test b ≡ true) T.budgets
    (λ x same passes.
    let parts = three_parts x.account x.campaign (day_of x.at) b.account b.campaign (day_of b.at) (same_key (budget_key x) (budget_key b) same) in
    (λ i. sym parts.0 i == c.account && sym parts.1 i == c.number) ∙ passes)) h

budgets_stay : (T : Tables) (b : BudgetSet) → HaveBudgets T → All (λ (c : Campaign). has_budget (put T (PutBudget b)) c ≡ true) T.campaigns
budgets_stay T b h = All-weaker (λ (c : Campaign). has_budget T c ≡ true) (λ (c : Campaign). has_budget (put T (PutBudget b)) c ≡ true) (λ c k. budget_stays T b c k) T.campaigns h

-- a change puts no campaign, or one that has a budget row
abbrev IsFunded : Tables → Change → Type 0
IsFunded T (PutCampaign c) = has_budget T c ≡ true
IsFunded T change = Unit {0}

abbrev AreFunded : Tables → List Change → Type 0
AreFunded T [] = Unit {0}
AreFunded T (c ∷ cs) = IsFunded T c × AreFunded (put T c) cs

funded-fate : (T : Tables) (fate : Fate) (found : Option Placement) → HaveBudgets T → HaveBudgets (put_fate T fate found)
funded-fate T fate None h = h
funded-fate T fate (Some p) h = h

funded_put : (T : Tables) (change : Change) → HaveBudgets T → IsFunded T change → HaveBudgets (put T change)
unfolding put
funded_put T (PutCampaign c) h funded = All-put (λ (x : Campaign). has_budget T x ≡ true) campaign_key c T.campaigns funded h
funded_put T (PutBudget b) h funded = budgets_stay T b h
funded_put T (PutFate number fate) h funded = funded-fate T fate (placement_of T number) h
funded_put T change h funded = h

funded_put_all : (T : Tables) (cs : List Change) → HaveBudgets T → AreFunded T cs → HaveBudgets (put_all T cs)
unfolding put_all
funded_put_all T [] h funded = h
funded_put_all T (c ∷ cs) h funded = funded_put_all (put T c) cs (funded_put T c h funded.0) funded.1

-- a new campaign gets its budget row with it
funded_campaign : (T : Tables) (c : Campaign) (b : BudgetSet) → b.account ≡ c.account → b.campaign ≡ c.number → HaveBudgets T → HaveBudgets (put (put T (PutCampaign c)) (PutBudget b))
unfolding put
funded_campaign T c b account campaign h =
    let U = put (put T (PutCampaign c)) (PutBudget b) in
    let test = λ (x : BudgetSet). x.account == c.account && x.campaign == c.number in
    let own : has_budget U c ≡ true = any-put_row test budget_key b T.budgets (and_from (b.account == c.account) (b.campaign == c.number) (eq-eqb b.account c.account account) (eq-eqb b.campaign c.number campaign)) in
    All-put (λ (x : Campaign). has_budget U x ≡ true) campaign_key c T.campaigns own (budgets_stay T b h)

-- the changes of calls
funded_lines : (T : Tables) (ls : List Line) (b : Batch) → AreFunded T (map PutLine ls ++ PutBatch b ∷ [])
funded_lines T [] b = (tt, tt)
funded_lines T (l ∷ ls) b = (tt, funded_lines (put T (PutLine l)) ls b)

funded_placements : (T : Tables) (ps : List Placement) → AreFunded T (map PutPlacement ps)
funded_placements T [] = tt
funded_placements T (p ∷ ps) = (tt, funded_placements (put T (PutPlacement p)) ps)

funded_import : (T : Tables) (account number : ℕ) (rows : List ImportRow) (found : Option Batch) → AreFunded T (import_of T account number rows found)
funded_import T account number rows (Some there) = tt
funded_import T account number rows None = funded_lines T (lines_made T account rows) _

funded_line_found : (T : Tables) (new : Line → Line) (found : Option Line) → AreFunded T (put_found (λ l. PutLine (new l)) found)
funded_line_found T new None = tt
funded_line_found T new (Some l) = (tt, tt)

funded_account_found : (T : Tables) (new : Account → Account) (found : Option Account) → AreFunded T (put_found (λ a. PutAccount (new a)) found)
funded_account_found T new None = tt
funded_account_found T new (Some a) = (tt, tt)

funded_campaign_found : (T : Tables) (on : Bool) (test : Campaign → Bool) (found : Option Campaign) → find test T.campaigns ≡ found → HaveBudgets T → AreFunded T (put_found (λ c. PutCampaign (record c { on = on })) found)
funded_campaign_found T on test None is h = tt
funded_campaign_found T on test (Some c) is h = ((found_all (λ (x : Campaign). has_budget T x ≡ true) test T.campaigns c h is).0, tt)

funded_switched : (T : Tables) (account : ℕ) (part : Part) (on : Bool) → HaveBudgets T → AreFunded T (switch_of T account part on)
funded_switched T account (OfCampaign campaign) on h = funded_campaign_found T on (λ (c : Campaign). c.account == account && c.number == campaign) (campaign_of T account campaign) refl h
funded_switched T account (OfLine line) on h = funded_line_found T (λ l. record l { on = on }) (line_of T account line)

funded_drop : (T : Tables) (found : Option Negative) → AreFunded T (drop_of found)
funded_drop T None = tt
funded_drop T (Some n) = (tt, tt)

funded_settled : (T : Tables) (b : Bool) (number : ℕ) (fate : Fate) (found : Option Placement) → AreFunded T (if b then PutFate number fate ∷ [] else [])
funded_settled T true number fate found = (tt, tt)
funded_settled T false number fate found = tt

funded_click : (T : Tables) (moment : ℕ) (found : Option Placement) → AreFunded T (settlement moment found)
funded_click T moment None = tt
funded_click T moment (Some p) = funded_settled T (is_escrowed moment p) p.number (Settled moment) (Some p)

funded_credit_on : (T : Tables) (moment number : ℕ) (fate : Fate) → AreFunded T (credit_on moment number fate)
funded_credit_on T moment number Open = tt
funded_credit_on T moment number (Settled at) = (tt, tt)
funded_credit_on T moment number (Credited settled credited) = tt

funded_credit : (T : Tables) (moment : ℕ) (found : Option Placement) → AreFunded T (credit_of moment found)
funded_credit T moment None = tt
funded_credit T moment (Some p) = funded_credit_on T moment p.number p.fate

pub funded_call : (S : State) (call : Call) → HaveBudgets S.tables → HaveBudgets (put_all S.tables (changes S call))
unfolding changes put_all
funded_call S (AddAccount key) h = funded_put_all S.tables (changes S (AddAccount key)) h (tt, tt)
funded_call S (SetQuality account line quality) h = funded_put_all S.tables (changes S (SetQuality account line quality)) h (funded_line_found S.tables (λ l. record l { quality = quality }) (line_of S.tables account line))
funded_call S (Suspend account suspended) h = funded_put_all S.tables (changes S (Suspend account suspended)) h (funded_account_found S.tables (λ a. record a { suspended = suspended }) (account_of S.tables account))
funded_call S (Credit placement) h = funded_put_all S.tables (changes S (Credit placement)) h (funded_credit S.tables S.moment (placement_of S.tables placement))
funded_call S (AddCampaign account key budget) h = funded_campaign S.tables _ _ refl refl h
funded_call S (SetBudget account key campaign amount) h = funded_put_all S.tables (changes S (SetBudget account key campaign amount)) h (tt, tt)
funded_call S (AddLine account key campaign bid pattern headline link) h = funded_put_all S.tables (changes S (AddLine account key campaign bid pattern headline link)) h (tt, tt)
funded_call S (SetBid account key line bid) h = funded_put_all S.tables (changes S (SetBid account key line bid)) h (funded_line_found S.tables (λ l. record l { bid = bid }) (line_of S.tables account line))
funded_call S (Pause account key part on) h = funded_put_all S.tables (changes S (Pause account key part on)) h (funded_switched S.tables account part on h)
funded_call S (AddNegative account key campaign pattern) h = funded_put_all S.tables (changes S (AddNegative account key campaign pattern)) h (tt, tt)
funded_call S (DropNegative account key negative) h = funded_put_all S.tables (changes S (DropNegative account key negative)) h (funded_drop S.tables (negative_of S.tables account negative))
funded_call S (Import account key batch rows) h = funded_put_all S.tables (changes S (Import account key batch rows)) h (funded_import S.tables account batch rows (batch_of S.tables account batch))
funded_call S (Search text places) h = funded_put_all S.tables (changes S (Search text places)) h (funded_placements S.tables (placements_for S text places))
funded_call S (Click placement) h = funded_put_all S.tables (changes S (Click placement)) h (funded_click S.tables S.moment (placement_of S.tables placement))
funded_call S call h = h
