use Rattle.std.proofs.Common.{◌∙◌, sym, ap, arith}
use Rattle.std.specs.List.{list_all}
use Rattle.lt_terms.specs.Items.{is_valid}
use Rattle.lt_mem.proofs.IndexLaws.{cost_of_places, index-valid}
use Rattle.lt_mem.proofs.table.MemTable.items.Goals as goal

pub overflow_cast-len : goal.overflow_cast-len
overflow_cast-len c =
    let cost = cost_of_places _ _ _ _ c.self.invariant.index in
    let fits = c.self.invariant.index.fits in
    let len = c.self.inside.places.ok.0 in
    omega arith

pub returns-clause-valid : goal.returns-clause-valid
returns-clause-valid c = ap (list_all is_valid) (sym c.self.view_is) ∙ index-valid _ _ _ _ c.self.invariant.index
