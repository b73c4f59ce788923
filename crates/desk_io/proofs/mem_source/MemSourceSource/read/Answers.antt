use Rattle.std.proofs.Common.{◌≡◌, ◌∙◌, ap, sym, Some, take, drop}
use Rattle.desk_io.proofs.Moved.{moved}
use Rattle.desk_io.specs.SourceInMemory.{SourceValue}
use Rattle.desk_io.proofs.mem_source.MemSourceSource.read.Goals as goal

pub returns-clause-bytes : goal.returns-clause-bytes
returns-clause-bytes c =
    let n = c.copy_front-count.result in
    let left = drop c.self.inside.taken c.self.inside.bytes.items in
    let copied : take n c.copy_front-count.new.room ≡ take n left = cc (c.copy_front-count.ensures.copied, c.split_at.ensures.back, c.as_slice.ensures.value) in
    let is = moved c.self.inside.bytes.items c.copy_front-count.new.room c.self.inside.taken n copied in
    ap Some (sym (ap (λ (v : SourceValue). v.left) c.self.view_is) ∙ is)
