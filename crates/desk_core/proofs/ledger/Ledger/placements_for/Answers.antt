use Rattle.std.proofs.Common.{◌≡◌, ◌∙◌, ◌+◌, ◌≤◌, ℕ, Bool, List, length, refl, ap, subst, sym}
use Rattle.std.specs.List.{All}
use Rattle.std.specs.Prelude.{nat_le}
use Rattle.std.proofs.lemmas.Result.{err_from_is_err_and}
use Rattle.std.proofs.lemmas.List.Elements.{All-same}
use Rattle.query_words.specs.Words.{words_of}
use Rattle.desk_types.specs.declared.rows.Placement.{Placement}
use Rattle.desk_types.specs.Eligible.{entrants_for}
use Rattle.placements.specs.PlacementsValue.{AreNext}
use Rattle.desk_types.specs.Judged.{page_of, places_of}
use Rattle.desk_types.specs.State.{State}
use Rattle.desk_types.proofs.SecondPrice.{lines_in_range}
use Rattle.desk_types.specs.Changes.{all_placed}
use Rattle.desk_types.proofs.Soundness.{stable}
use Rattle.rank_core.specs.Ranked.{ranked}
use Rattle.rank_core.specs.declared.page.Ranked.{Ranked}
use Rattle.desk_core.specs.Shown.{AreRankedFrom, CanBePriced, HasLine}
use Rattle.desk_core.proofs.Pages.{ads_of-ranked, length-ranked, placed-lines, ranked-from, ranked-priced}
use Rattle.desk_core.proofs.Placements.{placed_next}
use Rattle.desk_core.proofs.Placing.{ads_of}
use Rattle.desk_core.proofs.Searching.{search_bad_places, search_full, search_not_refused}
use Rattle.desk_core.proofs.Sounds.{moment_of, shown_before}
use Rattle.desk_core.proofs.ledger.Ledger.placements_for.Goals as goal

page_is : (S : State) (text : List ℕ) (query : List (List ℕ)) (places count : _) (page : List Ranked) → query ≡ words_of text → count ≡ places_of S places → page ≡ ranked (entrants_for S query) count → page ≡ ranked (entrants_for S (words_of text)) (places_of S places)
page_is S text query places count page words counted is = is ∙ (λ i. ranked (entrants_for S (words i)) (counted i))

-- the test for room is that of the definition
room_is : (S : State) (text : List ℕ) (places : _) (page : List Ranked) (count : ℕ) (room : Bool) → page ≡ ranked (entrants_for S (words_of text)) (places_of S places) → count ≡ length page → room ≡ nat_le (length S.tables.placements + count) S.settings.placements
    → nat_le (length S.tables.placements + length (page_of S text places)) S.settings.placements ≡ room
room_is S text places page count room is counted tested =
    let long : count ≡ length (page_of S text places) = counted ∙ ap length is ∙ length-ranked _ _ in
    ap (λ n. nat_le (length S.tables.placements + n) S.settings.placements) (sym long) ∙ sym tested

pub returns-in_err-query-clause-stopped : goal.returns-in_err-query-clause-stopped
returns-in_err-query-clause-stopped c =
    let p = err_from_is_err_and c.from_residual.result c.from_residual.ensures.1 in
    rw (p.1, p.2) (c.in_err-query.ensures.stopped c.args.self.now.state c.args.places)

pub returns-in_default-clause-stopped : goal.returns-in_default-clause-stopped
returns-in_default-clause-stopped c = search_bad_places c.args.self.now.state c.args.text.now c.args.places c.in_ok-query.ensures.fits (sym c.in_default.ensures.bad)

pub returns-then-not-has_room-clause-stopped : goal.returns-then-not-has_room-clause-stopped
returns-then-not-has_room-clause-stopped c =
    let S = c.args.self.now.state in
    let text = c.args.text.now in
    let is = page_is S text c.in_ok-query.query c.args.places c.in-Some.count c.in_ok-page.page.items c.in_ok-query.ensures.words c.in-Some.ensures.value c.in_ok-page.ensures in
    let room = room_is S text c.args.places c.in_ok-page.page.items c.len.result c.has_room.result is c.len.ensures.value c.has_room.ensures in
    search_full S text c.args.places c.in_ok-query.ensures.fits (sym c.in-Some.ensures.bad) (room ∙ c.if-not-has_room.true)

pub placed-requires-clause-priced : goal.placed-requires-clause-priced
placed-requires-clause-priced c =
    All-same (CanBePriced c.args.self.now.state) _ _ (c.as_slice.ensures.value ∙ c.in_ok-page.ensures) (ranked-priced c.args.self.now.state c.in_ok-query.query c.in-Some.count (lines_in_range c.args.self.now.state (stable c.args.self.now.state c.requires.sound)))

pub returns-clause-not_refused : goal.returns-clause-not_refused
returns-clause-not_refused c =
    let S = c.args.self.now.state in
    let text = c.args.text.now in
    let is = page_is S text c.in_ok-query.query c.args.places c.in-Some.count c.in_ok-page.page.items c.in_ok-query.ensures.words c.in-Some.ensures.value c.in_ok-page.ensures in
    let room = room_is S text c.args.places c.in_ok-page.page.items c.len.result c.has_room.result is c.len.ensures.value c.has_room.ensures in
    search_not_refused S text c.args.places c.in_ok-query.ensures.fits (sym c.in-Some.ensures.bad) (room ∙ c.if-not-has_room.false)

pub returns-clause-placements : goal.returns-clause-placements
returns-clause-placements c =
    let S = c.args.self.now.state in
    let text = c.args.text.now in
    let entered = entrants_for S (words_of text) in
    let count = places_of S c.args.places in
    let is : c.as_slice.result.now ≡ ranked entered count
    = c.as_slice.ensures.value ∙ page_is S text c.in_ok-query.query c.args.places c.in-Some.count c.in_ok-page.page.items c.in_ok-query.ensures.words c.in-Some.ensures.value c.in_ok-page.ensures in
    c.in_ok-placed.ensures entered (subst (AreRankedFrom entered) (sym is) (ranked-from S (words_of text) count (lines_in_range c.args.self.now.state (stable c.args.self.now.state c.requires.sound))))
    ∙ ap (all_placed S entered (length S.tables.placements + 1)) (ap ads_of is ∙ ads_of-ranked entered count)

pub returns-clause-lines : goal.returns-clause-lines
returns-clause-lines c =
    let S = c.args.self.now.state in
    All-same (HasLine S.tables) _ _ (returns-clause-placements c) (placed-lines S (words_of c.args.text.now) (length S.tables.placements + 1) (places_of S c.args.places) (lines_in_range c.args.self.now.state (stable c.args.self.now.state c.requires.sound)))

pub returns-clause-next : goal.returns-clause-next
returns-clause-next c =
    let S = c.args.self.now.state in
    let past : All (λ (p : Placement). p.shown ≤ S.moment) S.tables.placements = shown_before S c.requires.sound in
    subst (AreNext S.tables.placements) (sym (returns-clause-placements c))
    (placed_next S (entrants_for S (words_of c.args.text.now)) S.tables.placements (length S.tables.placements + 1) (page_of S c.args.text.now c.args.places) (moment_of S c.requires.sound) past refl)
