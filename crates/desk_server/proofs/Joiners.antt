-- Workers on their way into a service.
use Rattle.std.proofs.Common.{◌≡◌, ◌<◌, List, [], ◌∷◌, ◌++◌, length, map, remove, slice_index_or, refl, sym, ap, subst, ◌∙◌, append_assoc, append-nil, arith}
use Rattle.std.specs.Prelude.{All}
use Rattle.std.proofs.lemmas.List.{map-append}
use Rattle.std.proofs.lemmas.List.Elements.{All-nil, All-push, All-tail}
use Rattle.desk_core.specs.declared.name.DeskName.{DeskName}
use Rattle.turn_lock.specs.LockValues.{LockId}
use Rattle.desk_hall.specs.Callers.{CallerValue, HallPass, HasSeenLegal, caller_of}
use Rattle.serve_threads.specs.declared.worker.Worker.{Worker}
use Rattle.serve_threads.specs.declared.worker.WorkerEnd.TheVariants.{Unused}
use Rattle.serve_threads.specs.WorkerView.{IsUnused}

-- the passes, the doors and the clocks that are left, and the workers that have one of each
pub record Staff (D C : Type 0) : Type 0 where
  pub passes : List HallPass
  pub doors : List D
  pub clocks : List C
  pub workers : List (Worker CallerValue D C)

abbrev pub staff : {D C : Type 0} → List HallPass → List D → List C → List (Worker CallerValue D C) → Staff D C
staff passes doors clocks workers = record { passes = passes; doors = doors; clocks = clocks; workers = workers }

abbrev pub new_worker : {D C : Type 0} → HallPass → D → C → Worker CallerValue D C
new_worker p door clock =
    record { service = caller_of p; door = door; clock = clock; end = Unused; sessions = 0; messages = 0 }

-- the workers so far have the first of what was there, in order
pub record IsEngaging {D C : Type 0} (lock : LockId DeskName) (start now : Staff D C) : Type 0 where
  pub of_hall : All (λ p. p.lock ≡ lock) now.passes
  pub legal : All HasSeenLegal now.passes
  pub doors_left : length now.doors ≡ length now.passes
  pub clocks_left : length now.clocks ≡ length now.passes
  pub callers : map (λ w. w.service) now.workers ++ map caller_of now.passes ≡ map caller_of start.passes
  pub at_doors : map (λ w. w.door) now.workers ++ now.doors ≡ start.doors
  pub by_clocks : map (λ w. w.clock) now.workers ++ now.clocks ≡ start.clocks
  pub unused : All IsUnused now.workers

pub none_engaged : {D C : Type 0} (lock : LockId DeskName) (passes : List HallPass) (doors : List D) (clocks : List C)
    → All (λ p. p.lock ≡ lock) passes → All HasSeenLegal passes → length doors ≡ length passes → length clocks ≡ length passes
    → IsEngaging lock (staff passes doors clocks []) (staff passes doors clocks [])
none_engaged lock passes doors clocks of_hall legal as_many_doors as_many_clocks = record {
  of_hall = of_hall;
  legal = legal;
  doors_left = as_many_doors;
  clocks_left = as_many_clocks;
  callers = refl;
  at_doors = refl;
  by_clocks = refl;
  unused = All-nil IsUnused;
}

-- one more member of a list goes over to the end of another
goes_over : {A B : Type 0} (f : A → B) (xs : List A) (x : A) (ys zs : List B) (y : B) → f x ≡ y → map f xs ++ y ∷ ys ≡ zs → map f (xs ++ x ∷ []) ++ ys ≡ zs
goes_over f xs x ys zs y is before =
    ap (λ l. l ++ ys) (map-append f xs (x ∷ [])) ∙ append_assoc (map f xs) (f x ∷ []) ys ∙ ap (λ b. map f xs ++ b ∷ ys) is ∙ before

one_more : {D C : Type 0} (lock : LockId DeskName) (start : Staff D C)
    (passes : List HallPass) (doors : List D) (clocks : List C) (workers : List (Worker CallerValue D C))
    (pass : HallPass) (door : D) (clock : C)
    → IsEngaging lock start (staff passes doors clocks workers) → 0 < length passes
    → pass ≡ slice_index_or passes 0 pass → door ≡ slice_index_or doors 0 door → clock ≡ slice_index_or clocks 0 clock
    → IsEngaging lock start (staff (remove passes 0) (remove doors 0) (remove clocks 0) (workers ++ new_worker pass door clock ∷ []))
one_more lock start (p ∷ passes) (d ∷ doors) (c ∷ clocks) workers pass door clock h some first_pass first_door first_clock = record {
  of_hall = All-tail (λ q. q.lock ≡ lock) p passes h.of_hall;
  legal = All-tail HasSeenLegal p passes h.legal;
  doors_left = omega (arith, h.doors_left);
  clocks_left = omega (arith, h.clocks_left);
  callers = goes_over (λ w. w.service) workers (new_worker pass door clock) (map caller_of passes) (map caller_of start.passes) (caller_of p) (ap caller_of first_pass) h.callers;
  at_doors = goes_over (λ w. w.door) workers (new_worker pass door clock) doors start.doors d first_door h.at_doors;
  by_clocks = goes_over (λ w. w.clock) workers (new_worker pass door clock) clocks start.clocks c first_clock h.by_clocks;
  unused = All-push IsUnused workers (new_worker pass door clock) h.unused (record { end = refl; sessions = refl; messages = refl });
}
one_more lock start [] doors clocks workers pass door clock h some first_pass first_door first_clock = absurd (omega (arith, some))
one_more lock start (p ∷ passes) [] clocks workers pass door clock h some first_pass first_door first_clock = absurd (omega (arith, h.doors_left))
one_more lock start (p ∷ passes) (d ∷ doors) [] workers pass door clock h some first_pass first_door first_clock = absurd (omega (arith, h.clocks_left))

pub more_engaged : {D C : Type 0} (lock : LockId DeskName) (start : Staff D C)
    (passes passes_now : List HallPass) (doors doors_now : List D) (clocks clocks_now : List C)
    (workers workers_now : List (Worker CallerValue D C)) (pass : HallPass) (door : D) (clock : C)
    → IsEngaging lock start (staff passes doors clocks workers) → 0 < length passes
    → pass ≡ slice_index_or passes 0 pass → door ≡ slice_index_or doors 0 door → clock ≡ slice_index_or clocks 0 clock
    → passes_now ≡ remove passes 0 → doors_now ≡ remove doors 0 → clocks_now ≡ remove clocks 0
    → workers_now ≡ workers ++ new_worker pass door clock ∷ []
    → IsEngaging lock start (staff passes_now doors_now clocks_now workers_now)
more_engaged lock start passes passes_now doors doors_now clocks clocks_now workers workers_now pass door clock h some first_pass first_door first_clock rest_passes rest_doors rest_clocks more =
    let now : staff (remove passes 0) (remove doors 0) (remove clocks 0) (workers ++ new_worker pass door clock ∷ []) ≡ staff passes_now doors_now clocks_now workers_now =
    λ i. staff (sym rest_passes i) (sym rest_doors i) (sym rest_clocks i) (sym more i) in
    subst (IsEngaging lock start) now (one_more lock start passes doors clocks workers pass door clock h some first_pass first_door first_clock)

-- all are engaged
pub record HaveEngaged {D C : Type 0} (start : Staff D C) (doors : List D) (workers : List (Worker CallerValue D C)) : Type 0 where
  pub no_doors : doors ≡ []
  pub callers : map (λ w. w.service) workers ≡ map caller_of start.passes
  pub at_doors : map (λ w. w.door) workers ≡ start.doors
  pub by_clocks : map (λ w. w.clock) workers ≡ start.clocks
  pub unused : All IsUnused workers

pub all_engaged : {D C : Type 0} (lock : LockId DeskName) (start : Staff D C)
    (passes : List HallPass) (doors : List D) (clocks : List C) (workers : List (Worker CallerValue D C))
    → IsEngaging lock start (staff passes doors clocks workers) → length passes ≡ 0 → HaveEngaged start doors workers
all_engaged lock start [] [] [] workers h none = record {
  no_doors = refl;
  callers = sym (append-nil (map (λ w. w.service) workers)) ∙ h.callers;
  at_doors = sym (append-nil (map (λ w. w.door) workers)) ∙ h.at_doors;
  by_clocks = sym (append-nil (map (λ w. w.clock) workers)) ∙ h.by_clocks;
  unused = h.unused;
}
all_engaged lock start (p ∷ passes) doors clocks workers h none = absurd (omega (arith, none))
all_engaged lock start [] (d ∷ doors) clocks workers h none = absurd (omega (arith, h.doors_left))
all_engaged lock start [] [] (c ∷ clocks) workers h none = absurd (omega (arith, h.clocks_left))
