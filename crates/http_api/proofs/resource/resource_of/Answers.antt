use Rattle.std.proofs.Common.{Some, None, ap, ◌∙◌}
use Rattle.http_api.specs.Routes.{route_of}
use Rattle.http_api.proofs.RoutesLemmas.{resource_by, resource_none}
use Rattle.http_api.proofs.resource.resource_of.Goals as goal

pub returns-in_err-find-in-Ok : goal.returns-in_err-find-in-Ok
returns-in_err-find-in-Ok c =
    c.from_residual.ensures ∙ resource_by c.args.path.now None c.in-Ok.ensures.cases.1 (c.in_err-find-in-Ok.ensures ∙ ap route_of c.in-Ok.ensures.cases.0)

pub returns-in_ok-find-in-Ok : goal.returns-in_ok-find-in-Ok
returns-in_ok-find-in-Ok c =
    c.resource_on.ensures ∙ resource_by c.args.path.now (Some c.in_ok-find-in-Ok.field-0) c.in-Ok.ensures.cases.1 (c.in_ok-find-in-Ok.ensures ∙ ap route_of c.in-Ok.ensures.cases.0)

pub returns-in-Err : goal.returns-in-Err
returns-in-Err c = resource_none c.args.path.now c.in-Err.ensures.cases.0
