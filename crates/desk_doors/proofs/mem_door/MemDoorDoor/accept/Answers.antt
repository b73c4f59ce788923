use Rattle.std.proofs.Common.{rules, arith, ◌≤◌, ◌-◌, ◌∙◌, ap, sym, Some, take}
use Rattle.desk_doors.specs.DoorInMemory.{DoorValue, is_shut}
use Rattle.desk_doors.proofs.OpenDoors.{open_waits}
use Rattle.desk_doors.proofs.mem_door.MemDoorDoor.accept.Goals as goal

pub returns-clause-comes : goal.returns-clause-comes
returns-clause-comes c =
    let inside = c.self.inside in
    let some : 1 ≤ inside.waiting = Prim.omega arith in
    let kept = c.self.invariant.2 in
    let before = ap (λ (v : DoorValue). is_shut v.waiting v.closed) c.self.view_is in
    let was_open = open_waits (take inside.waiting inside.links.items) inside.closed inside.waiting kept some in
    let is_open = open_waits (take (inside.waiting - 1) c.take_first-link.new.links.items) inside.closed inside.waiting kept some in
    let shut = is_open ∙ sym was_open ∙ before in
    record {
      waiting = ap Some (sym (ap (λ (v : DoorValue). v.waiting) c.self.view_is) ∙ c.take_first-link.ensures.waited);
      faults = Prim.search rules;
      rest = Prim.search rules;
    }
