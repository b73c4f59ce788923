-- The searches and clicks, one behind another.
use Rattle.std.proofs.Common.{◌≡◌, ◌≢◌, ℕ, ◌+◌, ◌*◌, ◌/◌, ◌%◌, ◌≤◌, max, List, [], ◌∷◌, ◌++◌, length, take, Result, Ok, Err, refl, sym, ap, subst, ◌∙◌, arith, append_assoc, append-nil, length-append}
use Rattle.std.specs.Prelude.{◌==◌, if◌then◌else◌, OnOk, OnErr}
use Rattle.desk_types.specs.declared.call.Call.{Call}
use Rattle.desk_types.specs.declared.call.Call.TheVariants.{Click}
use Rattle.desk_types.specs.declared.entry.Fault.{Fault}
use Rattle.desk_types.specs.declared.reply.Reply.{Reply}
use Rattle.desk_types.specs.Serving.{ServiceView, AreServed, with_seen}
use Rattle.desk_types.proofs.ServedInTurn.{AreServed-stays}
use Rattle.drill_calls.specs.Draws.{behind_draws}
use Rattle.drill_calls.specs.DrillCalls.{numbers_to, accounts_part, drill_search, search_calls, searches_part, calls_before_click, greatest_placement, at_moments, drill_calls}
use Rattle.drill_calls.specs.DrillRun.{HasMemory, IsDrilled, IsDrilledInPart}
use Rattle.std.specs.Prelude.{All}
use Rattle.std.proofs.lemmas.List.Elements.{All-append}
use Rattle.drill_calls.specs.Making.{Stand, standing, AreCalled, AreCalledInPart, CallsThrough, Course, IsDrilledSoFar, DrillsOn}
use Rattle.drill_calls.proofs.Counting.{length-accounts, length-searches, length-at_moments, stable, searches-more, searches-first, with-click, without-click}
use Rattle.drill_calls.proofs.Drawing.{draws-then}
use Rattle.drill_calls.proofs.MakingCalls.{at_moments-append, placement-append, length-served, served-then}

behind-search : (search x placement : ℕ) → (tail : List Call) × (search_calls search x placement ≡ drill_search x ∷ [] ++ tail)
unfolding search_calls
behind-search search x placement = ((if search % 5 == 0 then Click placement ∷ [] else []), refl)

take-append : {A : Type 0} (before more : List A) → take (length before) (before ++ more) ≡ before
take-append [] more = refl
take-append (a ∷ before) more = ap (λ rest. a ∷ rest) (take-append before more)

-- the calls so far, and those behind them
abbrev so_far : Course → ℕ → List (Result Reply Fault) → List Call
so_far course n results = accounts_part course.start course.size ++ searches_part course.start course.size n results

module _ (course : Course) (n : ℕ) (now : Stand) (h : IsDrilledSoFar course n now) where
  length-so_far : length h.results ≡ 11 * course.size + n + n / 5
  length-so_far =
      let calls = so_far course n h.results in
      let served = length-served course.service now.service (at_moments 0 calls) h.results h.served in
      let timed = length-at_moments 0 calls in
      let whole = length-append (accounts_part course.start course.size) (searches_part course.start course.size n h.results) in
      let accounts = length-accounts course.start course.size in
      let searches = length-searches course.start course.size n h.results in
      omega (arith, served, timed, whole, accounts, searches)

  -- more results change none of the calls so far
  same-so_far : (more : List (Result Reply Fault)) → so_far course n (h.results ++ more) ≡ so_far course n h.results
  same-so_far more =
      let low : 11 * course.size + n + n / 5 ≤ length h.results = omega (arith, length-so_far) in
      ap (λ searches. accounts_part course.start course.size ++ searches) (stable course.start course.size n h.results more low)

  module _ (x : ℕ) (drawn : x ≡ behind_draws course.start (31 * course.size + 2 * n)) where
    placement : List (Result Reply Fault) → ℕ
    placement results = greatest_placement (take (calls_before_click course.size (n + 1)) results)

    -- the calls up to the next search
    next : (more : List (Result Reply Fault)) →
        so_far course (n + 1) (h.results ++ more) ≡ so_far course n h.results ++ search_calls (n + 1) x (placement (h.results ++ more))
    unfolding placement
    next more =
        let results = h.results ++ more in
        let one : so_far course (n + 1) results ≡ so_far course n results ++ search_calls (n + 1) x (placement results) =
        ap (λ searches. accounts_part course.start course.size ++ searches) (searches-more course.start course.size n results)
        ∙ sym (append_assoc (accounts_part course.start course.size) (searches_part course.start course.size n results)
        (search_calls (n + 1) (behind_draws course.start (31 * course.size + 2 * n)) (placement results)))
        ∙ ap (λ (w : ℕ). (accounts_part course.start course.size ++ searches_part course.start course.size n results) ++ search_calls (n + 1) w (placement results)) (sym drawn) in
        one ∙ ap (λ calls. calls ++ search_calls (n + 1) x (placement results)) (same-so_far more)

    -- calls behind those so far are served
    served-behind : (after : ServiceView) (calls : List Call) (more : List (Result Reply Fault)) → AreServed now.service (at_moments now.made calls) more after
        → AreServed course.service (at_moments 0 (so_far course n h.results ++ calls)) (h.results ++ more) after
    served-behind after calls more k =
        let whole = so_far course n h.results in
        let served = length-served course.service now.service (at_moments 0 whole) h.results h.served in
        let timed = length-at_moments 0 whole in
        let made : now.made ≡ 0 + length whole = omega (arith, served, timed, h.made) in
        served-then course.service now.service after 0 whole calls h.results more h.served
        (subst (λ (m : ℕ). AreServed now.service (at_moments m calls) more after) made k)

    module _ (after : Stand) (calls : List Call) where
      -- all calls of the next search are made
      went-on : (more : List (Result Reply Fault)) → AreServed now.service (at_moments now.made calls) more after.service → after.made ≡ now.made + length calls
          → after.greatest ≡ max now.greatest (greatest_placement more) → All HasMemory more → search_calls (n + 1) x (placement (h.results ++ more)) ≡ calls → IsDrilledSoFar course (n + 1) after
      went-on more k made most answered is =
          let whole : so_far course (n + 1) (h.results ++ more) ≡ so_far course n h.results ++ calls =
          next more ∙ ap (λ (s : List Call). so_far course n h.results ++ s) is in
          let both = placement-append h.results more in
          let lengths = length-append h.results more in
          let served = length-served now.service after.service (at_moments now.made calls) more k in
          let timed = length-at_moments now.made calls in record {
            results = h.results ++ more;
            served = (subst (λ (c : List Call). AreServed course.service (at_moments 0 c) (h.results ++ more) after.service) (sym whole)
                (served-behind after.service calls more k));
            made = omega (arith, h.made, made, lengths, served, timed);
            greatest = omega (arith, h.greatest, most, both);
            answered = All-append HasMemory h.results more h.answered answered;
          }

      -- the first calls of the next search are made, and no more
      broke-off : (more : List (Result Reply Fault)) → AreServed now.service (at_moments now.made calls) more after.service → (rest : List Call)
          → search_calls (n + 1) x (placement (h.results ++ more)) ≡ calls ++ rest → n + 1 ≤ 25 * course.size
          → IsDrilledInPart course.start course.size course.service after.service
      unfolding drill_calls
      broke-off more k rest is low =
          let results = h.results ++ more in
          let made = so_far course n h.results ++ calls in
          let further = searches-first course.start course.size (n + 1) (25 * course.size) results low in
          let whole : so_far course (25 * course.size) results ≡ made ++ (rest ++ further.0) =
          ap (λ searches. accounts_part course.start course.size ++ searches) further.1
          ∙ sym (append_assoc (accounts_part course.start course.size) (searches_part course.start course.size (n + 1) results) further.0)
          ∙ ap (λ (s : List Call). s ++ further.0)
          (next more ∙ ap (λ (s : List Call). so_far course n h.results ++ s) is ∙ sym (append_assoc (so_far course n h.results) calls rest))
          ∙ append_assoc made rest further.0 in record {
            calls = at_moments 0 made;
            rest = at_moments (0 + length made) (rest ++ further.0);
            results = results;
            first = (ap (at_moments 0) whole ∙ at_moments-append 0 made (rest ++ further.0));
            served = served-behind after.service calls more k;
          }

    -- the search is made, and no click follows
    pub search-on : (after : Stand) → AreCalled now after (drill_search x ∷ []) → (n + 1) % 5 ≢ 0 → IsDrilledSoFar course (n + 1) after
    search-on after k other =
        went-on after (drill_search x ∷ []) k.results k.served k.made k.greatest k.answered (without-click (n + 1) x (placement (h.results ++ k.results)) other)

    -- the search is not made, or ended the drill
    pub search-part : (after : Stand) → AreCalledInPart now after (drill_search x ∷ []) → n + 1 ≤ 25 * course.size → IsDrilledInPart course.start course.size course.service after.service
    search-part after k low =
        let tail = behind-search (n + 1) x (placement (h.results ++ k.results)) in
        broke-off after k.made k.results k.served (k.rest ++ tail.0) (tail.1 ∙ ap (λ (s : List Call). s ++ tail.0) k.first ∙ append_assoc k.made k.rest tail.0) low

    module _ (mid : Stand) (k : AreCalled now mid (drill_search x ∷ [])) (fifth : (n + 1) % 5 ≡ 0) where
      -- the click names the greatest placement so far
      clicked : (more : List (Result Reply Fault)) → placement (h.results ++ (k.results ++ more)) ≡ mid.greatest
      unfolding placement
      clicked more =
          let before = h.results ++ k.results in
          let served = length-served now.service mid.service (at_moments now.made (drill_search x ∷ [])) k.results k.served in
          let timed = length-at_moments now.made (drill_search x ∷ []) in
          let lengths = length-append h.results k.results in
          let count : calls_before_click course.size (n + 1) ≡ length before = omega (arith, length-so_far, served, timed, lengths, fifth) in
          let both = placement-append h.results k.results in
          let most : greatest_placement before ≡ mid.greatest = omega (arith, both, h.greatest, k.greatest) in
          ap greatest_placement
          (ap (take (calls_before_click course.size (n + 1))) (sym (append_assoc h.results k.results more))
          ∙ ap (λ m. take m (before ++ more)) count ∙ take-append before more)
          ∙ most

      pub click-on : (after : Stand) → AreCalled mid after (Click mid.greatest ∷ []) → IsDrilledSoFar course (n + 1) after
      click-on after m =
          let both = placement-append k.results m.results in
          went-on after (drill_search x ∷ Click mid.greatest ∷ []) (k.results ++ m.results)
          (served-then now.service mid.service after.service now.made (drill_search x ∷ []) (Click mid.greatest ∷ []) k.results m.results k.served
          (subst (λ (c : ℕ). AreServed mid.service (at_moments c (Click mid.greatest ∷ [])) m.results after.service) k.made m.served))
          (omega (arith, k.made, m.made)) (omega (arith, k.greatest, m.greatest, both)) (All-append HasMemory k.results m.results k.answered m.answered)
          (with-click (n + 1) x (placement (h.results ++ (k.results ++ m.results))) fifth ∙ ap (λ p. drill_search x ∷ Click p ∷ []) (clicked m.results))

      pub click-part : (after : Stand) → AreCalledInPart mid after (Click mid.greatest ∷ []) → n + 1 ≤ 25 * course.size → IsDrilledInPart course.start course.size course.service after.service
      click-part after m low =
          broke-off after (drill_search x ∷ m.made) (k.results ++ m.results)
          (served-then now.service mid.service after.service now.made (drill_search x ∷ []) m.made k.results m.results k.served
          (subst (λ (c : ℕ). AreServed mid.service (at_moments c m.made) m.results after.service) k.made m.served))
          m.rest
          (with-click (n + 1) x (placement (h.results ++ (k.results ++ m.results))) fifth ∙ ap (λ p. drill_search x ∷ Click p ∷ []) (clicked m.results) ∙ ap (λ (s : List Call). drill_search x ∷ s) m.first)
          low

-- the whole drill
pub begun : (course : Course) (now : Stand) → AreCalled (standing course.service 0 0) now (accounts_part course.start course.size) → IsDrilledSoFar course 0 now
unfolding searches_part numbers_to
begun course now h =
    let accounts = accounts_part course.start course.size in
    let served = length-served course.service now.service (at_moments 0 accounts) h.results h.served in
    let timed = length-at_moments 0 accounts in record {
      results = h.results;
      served = subst (λ (c : List Call). AreServed course.service (at_moments 0 c) h.results now.service) (sym (append-nil accounts)) h.served;
      made = omega (arith, h.made, served, timed);
      greatest = omega (arith, h.greatest);
      answered = h.answered;
    }

pub unbegun : (course : Course) (now : Stand) → AreCalledInPart (standing course.service 0 0) now (accounts_part course.start course.size) → IsDrilledInPart course.start course.size course.service now.service
unfolding drill_calls
unbegun course now h =
    let searches = searches_part course.start course.size (25 * course.size) h.results in record {
      calls = at_moments 0 h.made;
      rest = at_moments (0 + length h.made) (h.rest ++ searches);
      results = h.results;
      first = ap (λ (c : List Call). at_moments 0 (c ++ searches)) h.first ∙ ap (at_moments 0) (append_assoc h.made h.rest searches) ∙ at_moments-append 0 h.made (h.rest ++ searches);
      served = h.served;
    }

pub drilled : (course : Course) (now : Stand) → IsDrilledSoFar course (25 * course.size) now → IsDrilled course.start course.size course.service now.service
unfolding drill_calls
drilled course now h = record { results = h.results; served = h.served; answered = h.answered }

pub click-goes : {E : Type 0} (course : Course) (n : ℕ) (now : Stand) (h : IsDrilledSoFar course n now) (x : ℕ) (drawn : x ≡ behind_draws course.start (31 * course.size + 2 * n))
    → (mid : Stand) → AreCalled now mid (drill_search x ∷ []) → (search : ℕ) → search ≡ n + 1 → search ≤ 25 * course.size → search % 5 ≡ 0
    → (after : Stand) (result : Result (Unit {0}) E) → CallsThrough mid after (Click mid.greatest ∷ []) result → DrillsOn course search after result
click-goes course n now h x drawn mid k search is low fifth after (Ok done) m =
    let here : (n + 1) % 5 ≡ 0 = subst (λ (s : ℕ). s % 5 ≡ 0) is fifth in
    subst (λ (s : ℕ). IsDrilledSoFar course s after) (sym is) (click-on course n now h x drawn mid k here after m)
click-goes course n now h x drawn mid k search is low fifth after (Err fault) m =
    let here : (n + 1) % 5 ≡ 0 = subst (λ (s : ℕ). s % 5 ≡ 0) is fifth in
    click-part course n now h x drawn mid k here after m (omega (arith, is, low))

pub searches-drawn : (x y z n : ℕ) → y ≡ behind_draws x (2 * n) → z ≡ behind_draws y 2 → z ≡ behind_draws x (2 * (n + 1))
searches-drawn x y z n e f =
    let sum : 2 * n + 2 ≡ 2 * (n + 1) = omega arith in
    draws-then x y z (2 * n) 2 e f ∙ ap (behind_draws x) sum

pub search-drawn : (start a n x y : ℕ) → x ≡ behind_draws start a → y ≡ behind_draws x (2 * n) → y ≡ behind_draws start (a + 2 * n)
search-drawn start a n x y e f = draws-then start x y a (2 * n) e f

pub ends : {E : Type 0} (course : Course) (n : ℕ) (now : Stand) (result : Result (Unit {0}) E) → n ≡ 25 * course.size → DrillsOn course n now result →
    OnOk result (IsDrilled course.start course.size course.service now.service) × OnErr result (IsDrilledInPart course.start course.size course.service now.service)
ends course n now (Ok done) is h = (drilled course now (subst (λ (k : ℕ). IsDrilledSoFar course k now) is h), tt)
ends course n now (Err fault) is h = (tt, h)

-- what stays of the service
pub drilled-stays : (start size : ℕ) (service now : ServiceView) → IsDrilled start size service now → now ≡ with_seen service now.seen
drilled-stays start size service now h = AreServed-stays service now (drill_calls start size h.results) h.results h.served

pub in_part-stays : (start size : ℕ) (service now : ServiceView) → IsDrilledInPart start size service now → now ≡ with_seen service now.seen
in_part-stays start size service now h = AreServed-stays service now h.calls h.results h.served

pub goes-stays : {E : Type 0} (course : Course) (n : ℕ) (now : Stand) (result : Result (Unit {0}) E) → DrillsOn course n now result → now.service ≡ with_seen course.service now.service.seen
goes-stays course n now (Ok done) h = AreServed-stays course.service now.service _ h.results h.served
goes-stays course n now (Err fault) h = in_part-stays course.start course.size course.service now.service h

-- from what is kept before the first call
pub begun-at : (course : Course) (now : Stand) (draws made most : ℕ) → draws ≡ course.start → made ≡ 0 → most ≡ 0
    → AreCalled (standing course.service made most) now (accounts_part draws course.size) → IsDrilledSoFar course 0 now
begun-at course now draws made most e f g h =
    begun course now
    (subst (λ (d : ℕ). AreCalled (standing course.service 0 0) now (accounts_part d course.size)) e
    (subst (λ (m : ℕ). AreCalled (standing course.service 0 m) now (accounts_part draws course.size)) g
    (subst (λ (m : ℕ). AreCalled (standing course.service m most) now (accounts_part draws course.size)) f h)))

pub unbegun-at : (course : Course) (now : Stand) (draws made most : ℕ) → draws ≡ course.start → made ≡ 0 → most ≡ 0
    → AreCalledInPart (standing course.service made most) now (accounts_part draws course.size) → IsDrilledInPart course.start course.size course.service now.service
unbegun-at course now draws made most e f g h =
    unbegun course now
    (subst (λ (d : ℕ). AreCalledInPart (standing course.service 0 0) now (accounts_part d course.size)) e
    (subst (λ (m : ℕ). AreCalledInPart (standing course.service 0 m) now (accounts_part draws course.size)) g
    (subst (λ (m : ℕ). AreCalledInPart (standing course.service m most) now (accounts_part draws course.size)) f h)))
