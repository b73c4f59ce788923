use Rattle.std.proofs.Common.{IsTrue, subst}
use Rattle.desk_types.specs.Journal.{IsLegal}
use Rattle.desk_types.specs.Serving.{HasNoFault}
use Rattle.desk_hall.specs.Callers.{CallerValue}
use Rattle.desk_hall.proofs.Passes.{legal_ready, no_fault_ready}
use Rattle.desk_hall.proofs.caller.CallerService.history_is_legal.Goals as goal

pub returns-clause-legal : goal.returns-clause-legal
returns-clause-legal g c = subst (λ (v : CallerValue). IsLegal v.service.opening.settings v.service.seen) c.self.view_is (legal_ready _ _ c.self.invariant)

pub returns-clause-sure : goal.returns-clause-sure
returns-clause-sure g c = subst (λ (v : CallerValue). IsTrue v.service.sure → HasNoFault v.service.seen) c.self.view_is (no_fault_ready _ _ c.self.invariant)
