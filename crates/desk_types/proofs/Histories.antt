-- Sound states stay sound over all entries, and what that gives.
use Rattle.std.proofs.Common.{◌≡◌, ℕ, ◌+◌, List, [], ◌∷◌, ◌++◌, length, map, Option, None, Some, refl, sym, ap, subst, ◌∙◌, arith, append_assoc, length-append}
use Rattle.std.proofs.lemmas.List.{append-nil}
use Rattle.query_words.specs.Words.{words_of}
use Rattle.desk_types.specs.declared.call.Call.{Call}
use Rattle.desk_types.specs.declared.call.Call.TheVariants.{Search}
use Rattle.desk_types.specs.declared.entry.Entry.{Entry}
use Rattle.desk_types.specs.declared.entry.Outcome.{Outcome}
use Rattle.desk_types.specs.declared.entry.Outcome.TheVariants.{Answered, Faulted}
use Rattle.desk_types.specs.declared.refusal.Refusal.{Refusal}
use Rattle.desk_types.specs.declared.reply.Reply.TheVariants.{Page}
use Rattle.desk_types.specs.declared.reply.Spot.{Spot}
use Rattle.desk_types.specs.declared.rows.Placement.{Placement}
use Rattle.desk_types.specs.declared.tables.Change.TheVariants.{PutPlacement}
use Rattle.desk_types.specs.declared.tables.Tables.{Tables}
use Rattle.auction_types.specs.AdValue.{AdValue}
use Rattle.desk_types.specs.Changes.{all_placed, changes, placed, placements_for, raises_edition, reply}
use Rattle.desk_types.specs.Eligible.{eligible_ads, entrants_for}
use Rattle.desk_types.specs.Judged.{judged, page_of, places_of}
use Rattle.desk_types.specs.Keys.{placement_key}
use Rattle.desk_types.specs.LedgerLaws.{IsPageAnswered, IsSecondPricePage}
use Rattle.desk_types.specs.Run.{after, run}
use Rattle.desk_types.specs.Sound.{RunFromOne, StaysWithinBudgets}
use Rattle.desk_types.specs.State.{State}
use Rattle.desk_types.specs.Step.{accepted, answered, at_moment, next_edition, step}
use Rattle.desk_types.specs.Tables.{put, put_all}
use Rattle.desk_types.proofs.Accepting.{lawful_call}
use Rattle.auction_types.proofs.Accounts.{AreOfDifferentAccounts-from}
use Rattle.auction_types.proofs.Entrants.{entrants-are_best}
use Rattle.auction_types.proofs.Members.{Has-from_Contains}
use Rattle.desk_types.proofs.Numbering.{next_last, run_next}
use Rattle.auction_types.proofs.Pages.{page-first_places}
use Rattle.auction_types.proofs.PriceLemmas.{price-least_price}
use Rattle.desk_types.proofs.SecondPrice.{apart_entrants, eligible_in_range, fit_entrant, lines_in_range, page_among}
use Rattle.desk_types.proofs.Sound.{sound_edition, sound_later, sound_put_all}
use Rattle.desk_types.proofs.Stable.{IsStable}

sound_answered : (S : State) (call : Call) (judgement : Option Refusal) → IsStable S → judged S call ≡ judgement → IsStable (answered S call judgement).state
unfolding accepted
sound_answered S call (Some refusal) h is = h
sound_answered S call None h is =
    sound_edition (record S { tables = put_all S.tables (changes S call) }) (next_edition (raises_edition S call) S.edition) (sound_put_all S (changes S call) h (lawful_call S call h is))

pub sound_step : (S : State) (moment : ℕ) (call : Call) → IsStable S → IsStable (step S moment call).state
unfolding step
sound_step S moment call h = sound_answered (at_moment S moment) call (judged (at_moment S moment) call) (sound_later S moment h) refl

pub sound_after : (S : State) (moment : ℕ) (call : Call) (outcome : Outcome) → IsStable S → IsStable (after S moment call outcome)
sound_after S moment call Answered h = sound_step S moment call h
sound_after S moment call (Faulted before count) h = h

pub sound_run : (S : State) (entries : List Entry) → IsStable S → IsStable (run S entries)
unfolding run
sound_run S [] h = h
sound_run S (e ∷ entries) h = sound_run (after S e.moment e.call e.outcome) entries (sound_after S e.moment e.call e.outcome h)

pub budgets_held : (S : State) (entries : List Entry) (moment : ℕ) → IsStable S → StaysWithinBudgets (at_moment (run S entries) moment)
budgets_held S entries moment h = (sound_later (run S entries) moment (sound_run S entries h)).within_budgets

-- the placements of a page are put behind the others
pub placements_put : (S : State) (T : Tables) (entered : List AdValue) (number : ℕ) (ads : List AdValue) → RunFromOne (map (λ p. p.number) T.placements) → number ≡ length T.placements + 1
    → (put_all T (map PutPlacement (all_placed S entered number ads))).placements ≡ T.placements ++ all_placed S entered number ads
unfolding put put_all
placements_put S T entered number [] numbered next = sym (append-nil T.placements)
placements_put S T entered number (a ∷ ads) numbered next =
    let p : Placement = placed S entered number a in
    let last = next_last placement_key (λ (x : Placement). x.number) p T.placements (λ x. refl) numbered next in
    let T1 : Tables = put T (PutPlacement p) in
    let longer : length T1.placements ≡ length T.placements + 1 = ap length last ∙ length-append T.placements (p ∷ []) in
    placements_put S T1 entered (number + 1) ads (subst (λ (ps : List Placement). RunFromOne (map (λ q. q.number) ps)) (sym last) (run_next (λ (x : Placement). x.number) p T.placements numbered next)) (omega (arith, next, longer))
    ∙ ap (λ ps. ps ++ all_placed S entered (number + 1) ads) last ∙ append_assoc T.placements (p ∷ []) (all_placed S entered (number + 1) ads)

second_price_page : (S : State) (text : List ℕ) (places : Option ℕ) → IsStable S → IsSecondPricePage S text places (page_of S text places) (placements_for S text places)
second_price_page S text places h =
    let query = words_of text in
    let entered = entrants_for S query in
    let in_range = lines_in_range S h in
    let apart = apart_entrants S query in_range in
    record {
      best_of_accounts = entrants-are_best (eligible_ads S query) (eligible_in_range S query in_range);
      first_places = page-first_places entered (places_of S places) (AreOfDifferentAccounts-from entered apart);
      placed = refl;
      least_prices = λ a k.
          let fit = fit_entrant S query a in_range (page_among entered (places_of S places) a apart (Has-from_Contains (page_of S text places) a k)) in
          price-least_price S.settings.reserve S.settings.floor entered a fit.reserve fit.floor;
    }

page_of_reply : (spots others : List Spot) → Page spots ≡ Page others → spots ≡ others
page_of_reply spots others h = cc

page_answered : (S : State) (text : List ℕ) (places : Option ℕ) (judgement : Option Refusal) (spots : List Spot) → IsStable S → (answered S (Search text places) judgement).reply ≡ Page spots
    → IsPageAnswered S text places spots (answered S (Search text places) judgement).state
unfolding accepted changes reply
page_answered S text places (Some refusal) spots h is = absurd cc
page_answered S text places None spots h is = record {
  ads = page_of S text places;
  new = placements_for S text places;
  page = second_price_page S text places h;
  shown = page_of_reply _ _ (sym is);
  put = placements_put S S.tables (entrants_for S (words_of text)) (length S.tables.placements + 1) (page_of S text places) h.numbered.placements refl;
}

pub page_law : (S : State) (entries : List Entry) (moment : ℕ) (text : List ℕ) (places : Option ℕ) (spots : List Spot) → IsStable S → (step (run S entries) moment (Search text places)).reply ≡ Page spots
    → IsPageAnswered (at_moment (run S entries) moment) text places spots (step (run S entries) moment (Search text places)).state
unfolding step
page_law S entries moment text places spots h is =
    let now = at_moment (run S entries) moment in
    page_answered now text places (judged now (Search text places)) spots (sound_later (run S entries) moment (sound_run S entries h)) is
