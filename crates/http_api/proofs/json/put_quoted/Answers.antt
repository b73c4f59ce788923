use Rattle.std.proofs.Common.{◌++◌, List, ℕ, ap}
use Rattle.std.specs.Prelude.{codes}
use Rattle.desk_io.proofs.Putting.{puts_again, puts_as, puts_broken}
use Rattle.http_api.specs.Json.{escaped, quoted}
use Rattle.http_api.proofs.json.put_quoted.Goals as goal

pub returns-in_err-put_str-clause-puts : goal.returns-in_err-put_str-clause-puts
returns-in_err-put_str-clause-puts g c = puts_broken (escaped c.args.text.now ++ codes "\"") c.in_err-put_str.ensures.puts c.from_residual.ensures.0

pub returns-in_err-put_escaped-clause-puts : goal.returns-in_err-put_escaped-clause-puts
returns-in_err-put_escaped-clause-puts g c =
    puts_as (puts_again c.in_ok-put_str.ensures.puts (puts_broken (codes "\"") c.in_err-put_escaped.ensures.puts c.from_residual-in_err-put_escaped.ensures.0))
    (ap (λ (text : List ℕ). quoted (escaped text)) c.as_bytes.ensures.value)

pub returns-clause-puts : goal.returns-clause-puts
returns-clause-puts g c =
    puts_as (puts_again c.in_ok-put_str.ensures.puts (puts_again c.in_ok-put_escaped.ensures.puts c.put_str-2.ensures.puts))
    (ap (λ (text : List ℕ). quoted (escaped text)) c.as_bytes.ensures.value)
