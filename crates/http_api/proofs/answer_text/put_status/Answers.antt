use Rattle.std.proofs.Common.{◌≡◌, ◌++◌, ◌∙◌, ℕ, List, refl, ap, append_assoc}
use Rattle.std.specs.Borrow.{Bor}
use Rattle.std.specs.Prelude.{codes, decimal}
use Rattle.desk_io.proofs.Putting.{puts_as}
use Rattle.http_api.proofs.AnswerParts.{phrase_is}
use Rattle.http_api.proofs.answer_text.put_status.Goals as goal

line_is : (number status : ℕ) (reason phrase : List ℕ) → number ≡ status → reason ≡ phrase →
    codes "HTTP/1.1 " ++ (decimal number ++ (codes " " ++ (reason ++ codes "\r\n"))) ≡ codes "HTTP/1.1 " ++ decimal status ++ codes " " ++ phrase ++ codes "\r\n"
line_is number status reason phrase same is = rw (same, is) (simp append_assoc)

pub returns-clause-puts : goal.returns-clause-puts
returns-clause-puts g c =
    puts_as c.put_all.ensures.puts (line_is _ _ _ _ (c.from.ensures ∙ c.as_u16.ensures.value)
    (ap (λ (text : Bor (List ℕ)). text.now) c.unwrap_or.ensures ∙ phrase_is c.canonical_reason.result _ _ c.canonical_reason.ensures.value refl))
