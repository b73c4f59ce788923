-- The refusals of a search, in order.
use Rattle.std.proofs.Common.{◌≡◌, ℕ, ◌+◌, ◌<◌, ◌≤◌, Bool, true, false, Option, None, Some, List, [], ◌∷◌, length, refl, ◌∙◌, arith}
use Rattle.std.specs.Prelude.{nat_le, nat_lt}
use Rattle.std.proofs.lemmas.Bool.Decides.{nat_tests}
use Rattle.query_words.specs.declared.cut.TheConstants.{QUERY_BYTES, QUERY_WORDS}
use Rattle.query_words.specs.Limits.{IsWithinLimits}
use Rattle.query_words.specs.Words.{words_of}
use Rattle.desk_types.specs.declared.call.Call.TheVariants.{Search}
use Rattle.desk_types.specs.declared.refusal.Refusal.{Refusal}
use Rattle.desk_types.specs.declared.refusal.Refusal.TheVariants.{BadField, PlacementsFull, QueryTooLong, QueryTooMany}
use Rattle.desk_types.specs.declared.refusal.Field.TheVariants as field
use Rattle.desk_types.specs.Judged.{first, is_bad_places, judged, page_of, refusals, when}
use Rattle.desk_types.specs.State.{State}

-- a row that holds gives its refusal, and one that does not leaves the rest
first_holds : (test : Bool) (refused : Refusal) (later : List (Option Refusal)) → test ≡ true → first (when test refused ∷ later) ≡ Some refused
first_holds true refused later h = refl
first_holds false refused later h = absurd cc

first_fails : (test : Bool) (refused : Refusal) (later : List (Option Refusal)) → test ≡ false → first (when test refused ∷ later) ≡ first later
first_fails true refused later h = absurd cc
first_fails false refused later h = refl

short_passes : (text : List ℕ) → length text ≤ QUERY_BYTES → nat_lt QUERY_BYTES (length text) ≡ false
short_passes text h = grind (arith, nat_tests)

few_pass : (text : List ℕ) → length (words_of text) ≤ QUERY_WORDS → nat_lt QUERY_WORDS (length (words_of text)) ≡ false
few_pass text h = grind (arith, nat_tests)

pub search_too_long : (S : State) (text : List ℕ) (places : Option ℕ) → QUERY_BYTES < length text → judged S (Search text places) ≡ Some (QueryTooLong (length text))
unfolding refusals
search_too_long S text places h =
    let holds : nat_lt QUERY_BYTES (length text) ≡ true = grind (arith, nat_tests) in first_holds _ _ _ holds

pub search_too_many : (S : State) (text : List ℕ) (places : Option ℕ) → length text ≤ QUERY_BYTES → QUERY_WORDS < length (words_of text) → judged S (Search text places) ≡ Some (QueryTooMany (length (words_of text)))
unfolding refusals
search_too_many S text places short h =
    let holds : nat_lt QUERY_WORDS (length (words_of text)) ≡ true = grind (arith, nat_tests) in
    first_fails _ _ _ (short_passes text short) ∙ first_holds _ _ _ holds

pub search_bad_places : (S : State) (text : List ℕ) (places : Option ℕ) → IsWithinLimits text → is_bad_places places ≡ true → judged S (Search text places) ≡ Some (BadField field.Places)
unfolding refusals
search_bad_places S text places within h =
    first_fails _ _ _ (short_passes text within.bytes) ∙ first_fails _ _ _ (few_pass text within.words) ∙ first_holds _ _ _ h

-- the last row, where there is room for the page
search_last : (S : State) (text : List ℕ) (places : Option ℕ) → IsWithinLimits text → is_bad_places places ≡ false
    → judged S (Search text places) ≡ first (when (nat_lt S.settings.placements (length S.tables.placements + length (page_of S text places))) PlacementsFull ∷ [])
unfolding refusals
search_last S text places within good =
    first_fails _ _ _ (short_passes text within.bytes) ∙ first_fails _ _ _ (few_pass text within.words) ∙ first_fails _ _ _ good

pub search_full : (S : State) (text : List ℕ) (places : Option ℕ) → IsWithinLimits text → is_bad_places places ≡ false → nat_le (length S.tables.placements + length (page_of S text places)) S.settings.placements ≡ false → judged S (Search text places) ≡ Some PlacementsFull
search_full S text places within good h =
    let holds : nat_lt S.settings.placements (length S.tables.placements + length (page_of S text places)) ≡ true = grind (arith, nat_tests) in
    search_last S text places within good ∙ first_holds _ _ [] holds

pub search_not_refused : (S : State) (text : List ℕ) (places : Option ℕ) → IsWithinLimits text → is_bad_places places ≡ false → nat_le (length S.tables.placements + length (page_of S text places)) S.settings.placements ≡ true → judged S (Search text places) ≡ None
search_not_refused S text places within good h =
    let fails : nat_lt S.settings.placements (length S.tables.placements + length (page_of S text places)) ≡ false = grind (arith, nat_tests) in
    search_last S text places within good ∙ first_fails _ PlacementsFull [] fails
