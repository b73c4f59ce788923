-- A worker before and after its work, with the pass that it leaves.
use Rattle.std.proofs.Common.{◌≡◌, ℕ, ◌+◌, List, [], map, slice_get, Option, Some, sym, ap, ◌∙◌}
use Rattle.desk_types.specs.Serving.{ServiceView, with_seen}
use Rattle.desk_core.specs.declared.name.DeskName.{DeskName}
use Rattle.desk_core.specs.DeskValue.{DeskValue, name_of, service_of}
use Rattle.desk_doors.specs.DoorView.{DoorView}
use Rattle.turn_lock.specs.LockValues.{LockId, LockValue}
use Rattle.turn_lock.specs.Passes.{AreNew, fresh}
use Rattle.desk_hall.specs.Callers.{CallerValue, HallPass, caller_of, opening_of, service_of_pass}
use Rattle.serve_threads.specs.declared.worker.Worker.{Worker}
use Rattle.serve_threads.specs.Visits.{LinkSides}
use Rattle.serve_threads.specs.WorkerView.{PartsSeen, work_state, worker_view}
use Rattle.serve_threads.specs.Working.{HasWorked}
use Rattle.desk_server.specs.Parts.{Orders}
use Rattle.desk_server.specs.Serving.{worker_at}
use Rattle.desk_server.proofs.Places.{same_maps}

-- a service of a pass, on a desk of the name of its lock
pub service_is : (desk : DeskValue) (lock : LockId DeskName) (number : ℕ) → lock.name ≡ name_of desk
    → service_of_pass (fresh lock number) ≡ with_seen (service_of number desk) []
service_is desk lock number is =
    ap (λ (name : DeskName). let s : ServiceView = record { me = number; opening = opening_of name; seen = []; sure = name.sure } in s) is

module _ {D C L : Type 0} (door : D → DoorView L) (moments : C → Option (List ℕ)) (sides : LinkSides L) (orders : Orders) where
  -- how the parts of a worker are seen
  abbrev pub worker_parts : PartsSeen CallerValue D C (LockId DeskName) L
  worker_parts = record { home = λ c. c.home; service = λ c. c.service; door = door; moments = moments }

  -- the worker did its work
  abbrev pub Works : Worker CallerValue D C → Worker CallerValue D C → Type 0
  Works w w_now = HasWorked sides orders.host_key orders.sessions (worker_view worker_parts w) (worker_view worker_parts w_now)

  -- a worker that came with a new pass, did its work, and left with its pass
  pub record IsMember (lock : LockId DeskName) (number : ℕ) (w w_now : Worker CallerValue D C) (pass : HallPass) : Type 0 where
    pub came : w.service ≡ caller_of (fresh lock number)
    pub works : Works w w_now
    pub left : w_now.service ≡ caller_of pass

  pub came_new : (lock : LockValue DeskName) (made : List HallPass) (ws : List (Worker CallerValue D C))
      → AreNew lock made → map (λ w. w.service) ws ≡ map caller_of made
      → (place : ℕ) (w : Worker CallerValue D C) → slice_get ws place ≡ Some w → w.service ≡ caller_of (fresh lock.id (place + 1))
  came_new lock made ws new callers place w here =
      let with_pass = same_maps (λ (u : Worker CallerValue D C). u.service) caller_of ws made callers place w here in
      with_pass.is ∙ ap caller_of (new.each place with_pass.item with_pass.here)

  module _ (lock : LockId DeskName) (number : ℕ) (w w_now : Worker CallerValue D C) (pass : HallPass) (h : IsMember lock number w w_now pass) where
    pub of_lock : pass.lock ≡ lock
    of_lock = sym (ap (λ (c : CallerValue). c.home) h.left) ∙ h.works.home ∙ ap (λ (c : CallerValue). c.home) h.came

    -- it is a service of the same caller, which has seen what the pass has
    service_now : service_of_pass pass ≡ with_seen (service_of_pass (fresh lock number)) pass.seen
    service_now =
        let left : w_now.service.service ≡ service_of_pass pass = ap (λ (c : CallerValue). c.service) h.left in
        let came : w.service.service ≡ service_of_pass (fresh lock number) = ap (λ (c : CallerValue). c.service) h.came in
        let seen : w_now.service.service.seen ≡ pass.seen = ap (λ (s : ServiceView). s.seen) left in
        sym left ∙ h.works.service ∙ (λ i. with_seen (came i) (seen i))

    pub numbered : pass.number ≡ number
    numbered = ap (λ (s : ServiceView). s.me) service_now

    pub state_before : (desk : DeskValue) → lock.name ≡ name_of desk
        → work_state (worker_view worker_parts w) ≡ worker_at number desk [] (moments w.clock)
    state_before desk is = λ i. record {
      service = (ap (λ (c : CallerValue). c.service) h.came ∙ service_is desk lock number is) i;
      moments = moments w.clock;
    }

    pub state_after : (desk : DeskValue) → lock.name ≡ name_of desk
        → work_state (worker_view worker_parts w_now) ≡ worker_at number desk pass.seen (moments w_now.clock)
    state_after desk is =
        let left : w_now.service.service ≡ service_of_pass pass = ap (λ (c : CallerValue). c.service) h.left in
        let all = left ∙ service_now ∙ ap (λ (s : ServiceView). with_seen s pass.seen) (service_is desk lock number is) in
        λ i. record { service = all i; moments = moments w_now.clock }
