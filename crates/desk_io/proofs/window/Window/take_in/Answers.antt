use Rattle.std.proofs.Common.{◌≡◌, ◌-◌, ◌≤◌, ◌∙◌, ◌++◌, ℕ, List, rules, arith, ap, take, drop, length}
use Rattle.desk_io.specs.WindowValue.{WindowValue}
use Rattle.desk_io.proofs.Filling.{filled}
use Rattle.desk_io.proofs.window.Window.take_in.Goals as goal

pub returns-clause-bytes : goal.returns-clause-bytes
returns-clause-bytes g c =
    let w = c.self.inside in
    let lent = c.deref_mut.result.now in
    let room = c.read-got.new.room in
    let n = c.count_of.result in
    let fits : length room ≡ length lent - w.end = search rules in
    let all : w.bytes.len ≡ length w.bytes.items = search rules in
    let inside : w.end ≤ w.bytes.len = omega arith in
    let before : w.start ≤ w.end = omega arith in
    let grew = filled lent w.bytes.items room w.start w.end w.bytes.len n c.deref_mut.ensures.value before inside all fits in
    let was : drop w.start (take w.end w.bytes.items) ≡ c.args.self.now.held = ap (λ (v : WindowValue). v.held) c.self.view_is in
    record {
      room = room;
      grew = grew ∙ ap (λ (held : List ℕ). held ++ take n room) was ∙ ap (λ (k : ℕ). c.args.self.now.held ++ take k room) c.count_of.ensures;
      within = search rules;
      reads = c.read-got.ensures.bytes;
    }
