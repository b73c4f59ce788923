use Rattle.std.proofs.Common.{◌≡◌, ◌++◌, ◌∙◌, ℕ, List, [], refl, ap, append-nil}
use Rattle.std.specs.Prelude.{codes}
use Rattle.desk_types.specs.declared.refusal.Detail.{Detail}
use Rattle.desk_types.specs.Refusal.{detail_of}
use Rattle.desk_io.proofs.Putting.{puts_again, puts_as, puts_broken}
use Rattle.script_api.specs.ReplyLine.{detail_text}
use Rattle.script_api.proofs.reply_line.put_refusal.Goals as goal

-- the name stands between the word and the detail
named : (name name_is : List ℕ) (detail detail_is : Detail) → name ≡ name_is → detail ≡ detail_is →
    (codes "refused " ++ (name ++ [])) ++ detail_text detail ≡ codes "refused " ++ (name_is ++ detail_text detail_is)
named name name_is detail detail_is same same_detail =
    ap (λ (front : List ℕ). codes "refused " ++ (front ++ detail_text detail)) (append-nil name ∙ same)
    ∙ ap (λ (d : Detail). codes "refused " ++ (name_is ++ detail_text d)) same_detail

pub returns-in_err-put_all-clause-puts : goal.returns-in_err-put_all-clause-puts
returns-in_err-put_all-clause-puts g c =
    let detail = detail_of c.args.refusal.now in
    puts_as (puts_broken (detail_text detail) c.in_err-put_all.ensures.puts c.from_residual.ensures.0) (named _ _ detail detail c.name.ensures refl)

pub returns-clause-puts : goal.returns-clause-puts
returns-clause-puts g c =
    puts_as (puts_again c.in_ok-put_all.ensures.puts c.put_detail.ensures.puts) (named _ _ _ _ c.name.ensures c.detail.ensures)
