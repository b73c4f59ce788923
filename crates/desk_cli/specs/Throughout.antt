-- What holds at every moment of a desk's history.
use Rattle.std.specs.Prelude.{◌≡◌, ℕ, List, ◌∷◌, ◌++◌, Option}
use Rattle.desk_types.specs.declared.entry.Entry.{Entry}
use Rattle.desk_types.specs.declared.call.Call.TheVariants.{Search}
use Rattle.desk_types.specs.declared.reply.Reply.TheVariants.{Page}
use Rattle.desk_types.specs.declared.reply.Spot.{Spot}
use Rattle.desk_types.specs.LedgerLaws.{IsPageAnswered}
use Rattle.desk_types.specs.Run.{run}
use Rattle.desk_types.specs.Sound.{StaysWithinBudgets}
use Rattle.desk_types.specs.State.{State}
use Rattle.desk_types.specs.Step.{at_moment, step}
use Rattle.desk_core.specs.DeskValue.{DeskValue, first_state}

-- a search that is answered with a page gives it by the generalised second price
abbrev pub IsPricedPage : State → Entry → Type 0
IsPricedPage S e = (text : List ℕ) (places : Option ℕ) (spots : List Spot) →
    e.call ≡ Search text places → (step S e.moment e.call).reply ≡ Page spots →
    IsPageAnswered (at_moment S e.moment) text places spots (step S e.moment e.call).state

-- throughout the desk's history, spent and escrowed together stay within each budget, and each page is so priced
pub record HoldsThroughout (desk : DeskValue) : Type 0 where
  pub budgets : (before after : List Entry) → desk.log ≡ before ++ after →
      StaysWithinBudgets (run (first_state desk) before)
  pub pages : (before after : List Entry) (e : Entry) → desk.log ≡ before ++ e ∷ after →
      IsPricedPage (run (first_state desk) before) e
