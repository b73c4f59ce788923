use Rattle.std.proofs.Common.{rules, Some, None, lit<, sym, ◌∙◌}
use Rattle.std.proofs.lemmas.Bool.{true≢false}
use Rattle.std.proofs.lemmas.Str.Pattern.{strip_prefix_char, strip_suffix_char}
use Rattle.match_types.proofs.Marked.{closed-exact, unclosed-exact, closed-phrase, unclosed-phrase, kind-broad, closed-broad, inside-broad}
use Rattle.match_types.proofs.reading.unmarked.Goals as goal

pub returns-in_err-strip_suffix-clause-unclosed : goal.returns-in_err-strip_suffix-clause-unclosed
returns-in_err-strip_suffix-clause-unclosed c =
    let start = strip_prefix_char 91 _ (Some c.in-Some.rest) c.in-Some.ensures.cases (lit< tt) in
    let end = strip_suffix_char 93 _ None c.in_err-strip_suffix.ensures.cases (lit< tt) in
    (λ _. unclosed-exact _ _ start end, λ _. search rules)

pub returns-in-Some-clause-unclosed : goal.returns-in-Some-clause-unclosed
returns-in-Some-clause-unclosed c =
    let start = strip_prefix_char 91 _ (Some c.in-Some.rest) c.in-Some.ensures.cases (lit< tt) in
    let end = strip_suffix_char 93 _ (Some c.in_ok-strip_suffix.field-0) c.in_ok-strip_suffix.ensures.cases (lit< tt) in
    (λ no. absurd (true≢false no), λ no. sym (closed-exact _ _ _ start end) ∙ no)

pub returns-in_err-strip_suffix-2-clause-unclosed :
    goal.returns-in_err-strip_suffix-2-clause-unclosed
returns-in_err-strip_suffix-2-clause-unclosed c =
    let start = strip_prefix_char 34 _ (Some c.in-Some-strip_prefix.rest) c.in-Some-strip_prefix.ensures.cases (lit< tt) in
    let end = strip_suffix_char 34 _ None c.in_err-strip_suffix-2.ensures.cases (lit< tt) in
    (λ _. unclosed-phrase _ _ start end, λ _. search rules)

pub returns-in-Some-strip_prefix-clause-unclosed :
    goal.returns-in-Some-strip_prefix-clause-unclosed
returns-in-Some-strip_prefix-clause-unclosed c =
    let start = strip_prefix_char 34 _ (Some c.in-Some-strip_prefix.rest) c.in-Some-strip_prefix.ensures.cases (lit< tt) in
    let end = strip_suffix_char 34 _ (Some c.in_ok-strip_suffix-2.field-0) c.in_ok-strip_suffix-2.ensures.cases (lit< tt) in
    (λ no. absurd (true≢false no), λ no. sym (closed-phrase _ _ _ start end) ∙ no)

pub returns-clause-unclosed : goal.returns-clause-unclosed
returns-clause-unclosed c =
    let broad = kind-broad c.args.text.now (strip_prefix_char 91 _ None c.in_default.ensures.cases (lit< tt)) (strip_prefix_char 34 _ None c.in_default-strip_prefix.ensures.cases (lit< tt)) in
    (λ no. absurd (true≢false no), λ no. sym (closed-broad c.args.text.now broad) ∙ no)

pub returns-clause-kind : goal.returns-clause-kind
returns-clause-kind c =
    sym (kind-broad c.args.text.now (strip_prefix_char 91 _ None c.in_default.ensures.cases (lit< tt)) (strip_prefix_char 34 _ None c.in_default-strip_prefix.ensures.cases (lit< tt)))

pub returns-clause-inside : goal.returns-clause-inside
returns-clause-inside c =
    let broad = kind-broad c.args.text.now (strip_prefix_char 91 _ None c.in_default.ensures.cases (lit< tt)) (strip_prefix_char 34 _ None c.in_default-strip_prefix.ensures.cases (lit< tt)) in
    sym (inside-broad c.args.text.now broad)
