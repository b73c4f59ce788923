use Rattle.std.proofs.Common.{◌≡◌, ◌∙◌, ◌+◌, None, Some, List, ℕ, drop, sym, ap, subst}
use Rattle.std.proofs.lemmas.List.{take_rest}
use Rattle.memchr.specs.Find.{IsFirstByte, is_byte}
use Rattle.http_api.specs.HeadEnd.{end_in_front}
use Rattle.http_api.proofs.HeadEnds.{passed-all, passed-end, passed-more}
use Rattle.http_api.proofs.head_end.length_through_end.Goals as goal

pub returns-in_err-feed : goal.returns-in_err-feed
returns-in_err-feed c =
    let bytes = c.args.bytes.now in
    let passed = c.loop-feed.passed in
    let none = subst (λ (rest : List ℕ). IsFirstByte (is_byte 10) rest None) (take_rest bytes passed) c.in_err-feed.ensures in
    let all = passed-all bytes passed c.loop-feed.invariant none in
    cc

pub returns-in-Some : goal.returns-in-Some
returns-in-Some c =
    let bytes = c.args.bytes.now in
    let passed = c.loop-feed.passed in
    let feed = c.in_ok-feed.feed in
    let found = subst (λ (rest : List ℕ). IsFirstByte (is_byte 10) rest (Some feed)) (take_rest bytes passed) c.in_ok-feed.ensures in
    let end : end_in_front (drop (passed + feed) bytes) ≡ Some c.in-Some.end = ap end_in_front (sym (take_rest bytes (passed + feed))) ∙ sym c.in-Some.ensures in
    sym (passed-end bytes passed c.loop-feed.invariant feed found c.in-Some.end end)

pub loop-feed-preserved : goal.loop-feed-preserved
loop-feed-preserved c =
    let bytes = c.args.bytes.now in
    let passed = c.loop-feed.passed in
    let feed = c.in_ok-feed.feed in
    let found = subst (λ (rest : List ℕ). IsFirstByte (is_byte 10) rest (Some feed)) (take_rest bytes passed) c.in_ok-feed.ensures in
    let none : end_in_front (drop (passed + feed) bytes) ≡ None = ap end_in_front (sym (take_rest bytes (passed + feed))) ∙ sym c.in_default.ensures in
    passed-more bytes passed c.loop-feed.invariant feed found none
