-- What holds of the ledger, in the words of the subject.
use Rattle.std.specs.Prelude.{◌≡◌, ℕ, ◌+◌, List, ◌++◌, length, map, Option, Contains}
use Rattle.query_words.specs.Words.{words_of}
use Rattle.desk_types.specs.declared.call.Call.{Call}
use Rattle.desk_types.specs.declared.call.Call.TheVariants.{Click}
use Rattle.desk_types.specs.declared.reply.Reply.{Reply}
use Rattle.desk_types.specs.declared.reply.Reply.TheVariants.{Went}
use Rattle.desk_types.specs.declared.reply.Spot.{Spot}
use Rattle.desk_types.specs.declared.rows.Placement.{Placement}
use Rattle.auction_types.specs.AdValue.{AdValue}
use Rattle.desk_types.specs.Changes.{all_placed, spot_of}
use Rattle.desk_types.specs.Eligible.{eligible_ads, entrants_for}
use Rattle.desk_types.specs.Judged.{places_of}
use Rattle.auction_types.specs.Laws.{AreBestOfAccounts, AreFirstPlaces, IsLeastPrice}
use Rattle.auction_types.specs.Price.{price}
use Rattle.desk_types.specs.State.{State, IsSameButForMoment}
use Rattle.desk_types.specs.Step.{step}

-- a search's page by the generalised second price: it is answered in the state S, `ads` are shown, and `new` is put
pub record IsSecondPricePage
    (S : State) (text : List ℕ) (places : Option ℕ) (ads : List AdValue) (new : List Placement) : Type 0 where
  pub best_of_accounts : AreBestOfAccounts (eligible_ads S (words_of text)) (entrants_for S (words_of text))
  pub first_places : AreFirstPlaces (entrants_for S (words_of text)) (places_of S places) ads
  pub placed : new ≡ all_placed S (entrants_for S (words_of text)) (length S.tables.placements + 1) ads
  pub least_prices : (a : AdValue) → Contains ads a → let entered = entrants_for S (words_of text) in
      IsLeastPrice S.settings.reserve S.settings.floor entered a (price S.settings.reserve S.settings.floor entered a)

-- the page that is answered, and the rows that it puts
pub record IsPageAnswered (S : State) (text : List ℕ) (places : Option ℕ) (spots : List Spot) (T : State) : Type 0 where
  pub ads : List AdValue
  pub new : List Placement
  pub page : IsSecondPricePage S text places ads new
  pub shown : spots ≡ map (spot_of S.tables) new
  pub put : T.tables.placements ≡ S.tables.placements ++ new

-- a click changes no row, and its reply goes to this link
pub record ChangesNoRow (S : State) (moment placement : ℕ) (link : List ℕ) : Type 0 where
  pub rows : IsSameButForMoment S (step S moment (Click placement)).state
  pub reply : (step S moment (Click placement)).reply ≡ Went link

-- a call changes no row, and has this reply
pub record RepliesAlone (S : State) (moment : ℕ) (call : Call) (answer : Reply) : Type 0 where
  pub rows : IsSameButForMoment S (step S moment call).state
  pub reply : (step S moment call).reply ≡ answer
