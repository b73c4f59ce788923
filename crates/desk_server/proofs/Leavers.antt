-- Workers on their way out of a service.
use Rattle.std.proofs.Common.{◌≡◌, ◌+◌, ◌<◌, Bool, true, false, ◌||◌, List, [], ◌∷◌, ◌++◌, length, map, remove, slice_index_or, sum_by, refl, sym, ap, subst, ◌∙◌, append_assoc, append-nil, arith}
use Rattle.std.specs.List.{list_any}
use Rattle.std.proofs.lemmas.List.{map-append}
use Rattle.std.proofs.lemmas.List.Sums.{sum_by-cons}
use Rattle.desk_hall.specs.Callers.{CallerValue, HallPass, caller_of}
use Rattle.serve_threads.specs.declared.worker.Worker.{Worker}
use Rattle.desk_server.specs.declared.served.Totals.{Totals}
use Rattle.desk_server.specs.Parts.{is_failed, totals_of}

-- the passes and the doors of the first workers are back, and what these did is added up
pub record IsDismissing
    {D C : Type 0} (all left : List (Worker CallerValue D C)) (passes : List HallPass) (doors : List D) (totals : Totals)
    : Type 0 where
  pub back : map caller_of passes ++ map (λ w. w.service) left ≡ map (λ w. w.service) all
  pub at_doors : doors ++ map (λ w. w.door) left ≡ map (λ w. w.door) all
  pub sessions : totals.sessions + sum_by (λ w. w.sessions) left ≡ sum_by (λ w. w.sessions) all
  pub messages : totals.messages + sum_by (λ w. w.messages) left ≡ sum_by (λ w. w.messages) all
  pub failed : (totals.door_failed || list_any (λ w. is_failed w.end) left) ≡ list_any (λ w. is_failed w.end) all

pub none_dismissed : {D C : Type 0} (all : List (Worker CallerValue D C))
    → IsDismissing all all [] [] (record { sessions = 0; messages = 0; door_failed = false })
none_dismissed all = record { back = refl; at_doors = refl; sessions = omega arith; messages = omega arith; failed = refl }

-- the totals with what one more worker did
abbrev pub with_worker : {D C : Type 0} → Totals → Worker CallerValue D C → Totals
with_worker totals w = record {
  sessions = totals.sessions + w.sessions;
  messages = totals.messages + w.messages;
  door_failed = totals.door_failed || is_failed w.end;
}

or_assoc : (a b c : Bool) → ((a || b) || c) ≡ (a || (b || c))
or_assoc true b c = refl
or_assoc false b c = refl

one_more : {D C : Type 0} (all left : List (Worker CallerValue D C)) (passes : List HallPass) (doors : List D) (totals : Totals)
    (w : Worker CallerValue D C) (pass : HallPass)
    → IsDismissing all left passes doors totals → 0 < length left → w ≡ slice_index_or left 0 w → caller_of pass ≡ w.service
    → IsDismissing all (remove left 0) (passes ++ pass ∷ []) (doors ++ w.door ∷ []) (with_worker totals w)
one_more all (v ∷ left) passes doors totals w pass h some first is = record {
  back = ap (λ l. l ++ map (λ u. u.service) left) (map-append caller_of passes (pass ∷ []))
      ∙ append_assoc (map caller_of passes) (caller_of pass ∷ []) (map (λ u. u.service) left)
      ∙ ap (λ s. map caller_of passes ++ s ∷ map (λ u. u.service) left) (is ∙ ap (λ u. u.service) first) ∙ h.back;
  at_doors = append_assoc doors (w.door ∷ []) (map (λ u. u.door) left)
      ∙ ap (λ u. doors ++ u.door ∷ map (λ x. x.door) left) first ∙ h.at_doors;
  sessions = omega (arith, h.sessions, sum_by-cons (λ u. u.sessions) v left, ap (λ u. u.sessions) first);
  messages = omega (arith, h.messages, sum_by-cons (λ u. u.messages) v left, ap (λ u. u.messages) first);
  failed = ap (λ u. (totals.door_failed || is_failed u.end) || list_any (λ x. is_failed x.end) left) first
      ∙ or_assoc totals.door_failed (is_failed v.end) (list_any (λ x. is_failed x.end) left) ∙ h.failed;
}
one_more all [] passes doors totals w pass h some first is = absurd (omega (arith, some))

pub more_dismissed : {D C : Type 0} (all left left_now : List (Worker CallerValue D C)) (passes passes_now : List HallPass)
    (doors doors_now : List D) (totals totals_now : Totals) (w : Worker CallerValue D C) (pass : HallPass)
    → IsDismissing all left passes doors totals → 0 < length left → w ≡ slice_index_or left 0 w → caller_of pass ≡ w.service
    → left_now ≡ remove left 0 → passes_now ≡ passes ++ pass ∷ [] → doors_now ≡ doors ++ w.door ∷ [] → totals_now ≡ with_worker totals w
    → IsDismissing all left_now passes_now doors_now totals_now
more_dismissed all left left_now passes passes_now doors doors_now totals totals_now w pass h some first is rest back given sums =
    let base = one_more all left passes doors totals w pass h some first is in
    subst (λ s. s) (λ i. IsDismissing all (sym rest i) (sym back i) (sym given i) (sym sums i)) base

-- all are dismissed
pub record HaveBeenDismissed
    {D C : Type 0} (all : List (Worker CallerValue D C)) (passes : List HallPass) (doors : List D) (totals : Totals)
    : Type 0 where
  pub back : map caller_of passes ≡ map (λ w. w.service) all
  pub at_doors : doors ≡ map (λ w. w.door) all
  pub sums : totals ≡ totals_of all

or_false : (a : Bool) → (a || false) ≡ a
or_false true = refl
or_false false = refl

pub all_dismissed : {D C : Type 0} (all left : List (Worker CallerValue D C)) (passes : List HallPass) (doors : List D) (totals : Totals)
    → IsDismissing all left passes doors totals → length left ≡ 0 → HaveBeenDismissed all passes doors totals
all_dismissed all [] passes doors totals h none =
    let sessions : totals.sessions ≡ sum_by (λ w. w.sessions) all = omega (arith, h.sessions) in
    let messages : totals.messages ≡ sum_by (λ w. w.messages) all = omega (arith, h.messages) in
    let failed : totals.door_failed ≡ list_any (λ w. is_failed w.end) all = sym (or_false totals.door_failed) ∙ h.failed in
    record {
      back = sym (append-nil (map caller_of passes)) ∙ h.back;
      at_doors = sym (append-nil doors) ∙ h.at_doors;
      sums = λ i. record { sessions = sessions i; messages = messages i; door_failed = failed i };
    }
all_dismissed all (w ∷ left) passes doors totals h none = absurd (omega (arith, none))
