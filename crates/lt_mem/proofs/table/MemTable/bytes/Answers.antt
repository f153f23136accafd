use Rattle.std.proofs.Common.{◌∙◌, ap, arith}
use Rattle.lt_terms.specs.Items.{total_cost}
use Rattle.lt_mem.proofs.IndexLaws.{index-bytes}
use Rattle.lt_mem.proofs.table.MemTable.bytes.Goals as goal

pub overflow_cast-result : goal.overflow_cast-result
overflow_cast-result c =
    let cost = index-bytes _ _ _ _ c.self.invariant.index in
    let fits = c.self.invariant.index.fits in
    let len = c.self.inside.bytes.ok.0 in
    omega arith

pub returns : goal.returns
returns c = c.len.ensures ∙ c.self.inside.bytes.ok.0 ∙ index-bytes _ _ _ _ c.self.invariant.index ∙ ap total_cost c.self.view_is
