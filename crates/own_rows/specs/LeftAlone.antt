-- What leaves an account alone, and the reply to its advertiser without that.
use Rattle.std.specs.Prelude.{◌≡◌, ◌≢◌, ℕ, List, [], ◌∷◌, ◌++◌, Option, None, Some, Result, All, IfOk, ⊤}
use Rattle.desk_types.specs.declared.call.Call.{Call}
use Rattle.desk_types.specs.declared.call.Call.TheVariants.{AddAccount, Credit, Click}
use Rattle.desk_types.specs.declared.entry.Entry.{Entry}
use Rattle.desk_types.specs.declared.entry.Fault.{Fault}
use Rattle.desk_types.specs.declared.entry.Outcome.{Outcome}
use Rattle.desk_types.specs.declared.entry.Outcome.TheVariants.{Answered, Faulted}
use Rattle.desk_types.specs.declared.reply.Reply.{Reply}
use Rattle.desk_types.specs.declared.reply.Reply.TheVariants.{Made, Page}
use Rattle.desk_types.specs.declared.reply.Spot.{Spot}
use Rattle.desk_types.specs.declared.rows.Placement.{Placement}
use Rattle.desk_types.specs.Own.{account_named}
use Rattle.desk_types.specs.Run.{after, answer, run}
use Rattle.desk_types.specs.State.{State}
use Rattle.desk_types.specs.Step.{at_moment, step}
use Rattle.desk_types.specs.Tables.{placement_of}
use Rattle.own_rows.specs.OwnReply.{Own, advertiser_of, own}

-- the placement that a call names, if it names one
abbrev pub placement_named : Call → Option ℕ
placement_named (Credit placement) = Some placement
placement_named (Click placement) = Some placement
placement_named _ = None

-- a call that is answered leaves an account alone: neither the host nor its advertiser names it, the host does not make
-- it, no placement of it is credited or clicked, and no page has an ad of it
pub record LeavesAlone (S : State) (account moment : ℕ) (call : Call) : Type 0 where
  pub not_named : account_named call ≢ Some account
  pub not_made : (key : List ℕ) → call ≡ AddAccount key → (step S moment call).reply ≢ Made account
  pub no_placement : (placement : ℕ) (p : Placement) →
      placement_named call ≡ Some placement → placement_of S.tables placement ≡ Some p → p.account ≢ account
  pub not_shown : (spots : List Spot) →
      (step S moment call).reply ≡ Page spots → All (λ spot. spot.account ≢ account) spots

-- so does its entry, and that of a fault, which changes nothing
abbrev pub EntryLeavesAlone : State → ℕ → Entry → Outcome → Type 0
EntryLeavesAlone S account e Answered = LeavesAlone S account e.moment e.call
EntryLeavesAlone S account e (Faulted before count) = ⊤

-- each of the entries leaves the account alone, in the state that those before it lead to
unfoldable pub AllLeaveAlone : State → ℕ → List Entry → Type 0
AllLeaveAlone S account [] = ⊤
AllLeaveAlone S account (e ∷ entries) =
    EntryLeavesAlone S account e e.outcome × AllLeaveAlone (after S e.moment e.call e.outcome) account entries

-- an account has the same, but for the moment
abbrev pub IsOwnButForMoment : Own → Own → Type 0
IsOwnButForMoment O P = P ≡ record O { moment = P.moment }

-- an advertiser's call, made after these entries, is replied to as it would be at the same moment without the last of
-- them, where those leave its account alone
unfoldable pub IsAsWithoutOthers : State → List Entry → ℕ → Call → Result Reply Fault → Type 0
IsAsWithoutOthers S entries moment call result =
    (account : ℕ) (before between : List Entry) → advertiser_of call ≡ Some account → entries ≡ before ++ between →
    AllLeaveAlone (run S before) account between →
    IsOwnButForMoment (own (run S before) account) (own (run S entries) account)
    × IfOk result (λ reply. reply ≡ answer S before (at_moment (run S entries) moment).moment call)
