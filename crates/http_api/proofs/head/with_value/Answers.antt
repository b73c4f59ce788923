use Rattle.http_api.proofs.FieldsLemmas.{found_again, found_twice}
use Rattle.http_api.proofs.head.with_value.Goals as goal

pub returns-in-Once : goal.returns-in-Once
returns-in-Once c = λ values given. found_twice values c.args.found c.in-Once.first c.args.value c.in-Once.is given

pub returns-in-Repeated : goal.returns-in-Repeated
returns-in-Repeated c = λ values given. found_again values c.args.found c.in-Repeated.field-0 c.args.value c.in-Repeated.is given
