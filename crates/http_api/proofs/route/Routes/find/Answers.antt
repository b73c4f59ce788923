use Rattle.http_api.proofs.RoutesLemmas.{route_found, route_none}
use Rattle.http_api.proofs.route.Routes.find.Goals as goal

pub returns-in-Ok : goal.returns-in-Ok
returns-in-Ok c = route_found c.self.inside.router c.args.path.now c.self.invariant _ c.in-Ok.ensures.found

pub returns-in-Err : goal.returns-in-Err
returns-in-Err c = route_none c.self.inside.router c.args.path.now c.self.invariant c.in-Err.ensures.missing
