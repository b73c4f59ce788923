use Rattle.std.proofs.Common.{ap}
use Rattle.std.specs.Prelude.{codes}
use Rattle.desk_io.proofs.Putting.{puts_again, puts_as, puts_broken}
use Rattle.http_api.specs.AnswerText.{field_line, parts_of, status_line}
use Rattle.http_api.proofs.AnswerHead.{from_allow, from_content, from_length, from_location, head_end, head_is, length_is}
use Rattle.http_api.proofs.answer_text.put_head.Goals as goal

pub returns-in_err-put_status-clause-puts : goal.returns-in_err-put_status-clause-puts
returns-in_err-put_status-clause-puts g c =
    let parts = parts_of c.args.answer.now in
    let broken = puts_as c.in_err-put_status.ensures.puts (ap status_line c.status.ensures) in
    puts_as (puts_broken (from_content parts c.args.closes) broken c.from_residual.ensures.0) (head_is parts c.args.closes)

pub returns-in_err-put_field-clause-puts : goal.returns-in_err-put_field-clause-puts
returns-in_err-put_field-clause-puts g c =
    let parts = parts_of c.args.answer.now in
    let status = puts_as c.in_ok-put_status.ensures.puts (ap status_line c.status.ensures) in
    let broken = puts_as c.in_err-put_field.ensures.puts (ap (field_line (codes "Content-Type")) c.content.ensures) in
    puts_as (puts_again status (puts_broken (from_length parts c.args.closes) broken c.from_residual-in_err-put_field.ensures.0)) (head_is parts c.args.closes)

pub returns-in_err-put_all-clause-puts : goal.returns-in_err-put_all-clause-puts
returns-in_err-put_all-clause-puts g c =
    let parts = parts_of c.args.answer.now in
    let status = puts_as c.in_ok-put_status.ensures.puts (ap status_line c.status.ensures) in
    let content = puts_as c.in_ok-put_field.ensures.puts (ap (field_line (codes "Content-Type")) c.content.ensures) in
    let broken = puts_as c.in_err-put_all.ensures.puts (length_is _ parts c.requires) in
    puts_as (puts_again status (puts_again content (puts_broken (from_location parts c.args.closes) broken c.from_residual-in_err-put_all.ensures.0))) (head_is parts c.args.closes)

pub returns-in_err-put_field-2-clause-puts : goal.returns-in_err-put_field-2-clause-puts
returns-in_err-put_field-2-clause-puts g c =
    let parts = parts_of c.args.answer.now in
    let status = puts_as c.in_ok-put_status.ensures.puts (ap status_line c.status.ensures) in
    let content = puts_as c.in_ok-put_field.ensures.puts (ap (field_line (codes "Content-Type")) c.content.ensures) in
    let told = puts_as c.in_ok-put_all.ensures.puts (length_is _ parts c.requires) in
    let broken = puts_as c.in_err-put_field-2.ensures.puts (ap (field_line (codes "Location")) c.location.ensures) in
    puts_as (puts_again status (puts_again content (puts_again told (puts_broken (from_allow parts c.args.closes) broken c.from_residual-in_err-put_field-2.ensures.0)))) (head_is parts c.args.closes)

pub returns-in_err-put_field-3-clause-puts : goal.returns-in_err-put_field-3-clause-puts
returns-in_err-put_field-3-clause-puts g c =
    let parts = parts_of c.args.answer.now in
    let status = puts_as c.in_ok-put_status.ensures.puts (ap status_line c.status.ensures) in
    let content = puts_as c.in_ok-put_field.ensures.puts (ap (field_line (codes "Content-Type")) c.content.ensures) in
    let told = puts_as c.in_ok-put_all.ensures.puts (length_is _ parts c.requires) in
    let location = puts_as c.in_ok-put_field-2.ensures.puts (ap (field_line (codes "Location")) c.location.ensures) in
    let broken = puts_as c.in_err-put_field-3.ensures.puts (ap (field_line (codes "Allow")) c.allow.ensures) in
    puts_as (puts_again status (puts_again content (puts_again told (puts_again location (puts_broken (head_end parts c.args.closes) broken c.from_residual-in_err-put_field-3.ensures.0))))) (head_is parts c.args.closes)

pub returns-clause-puts : goal.returns-clause-puts
returns-clause-puts g c =
    let parts = parts_of c.args.answer.now in
    let status = puts_as c.in_ok-put_status.ensures.puts (ap status_line c.status.ensures) in
    let content = puts_as c.in_ok-put_field.ensures.puts (ap (field_line (codes "Content-Type")) c.content.ensures) in
    let told = puts_as c.in_ok-put_all.ensures.puts (length_is _ parts c.requires) in
    let location = puts_as c.in_ok-put_field-2.ensures.puts (ap (field_line (codes "Location")) c.location.ensures) in
    let allow = puts_as c.in_ok-put_field-3.ensures.puts (ap (field_line (codes "Allow")) c.allow.ensures) in
    puts_as (puts_again status (puts_again content (puts_again told (puts_again location (puts_again allow c.put_head_end.ensures.puts))))) (head_is parts c.args.closes)
