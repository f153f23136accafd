use Rattle.std.proofs.Common.{◌≡◌, ◌∙◌, length, arith}
use Rattle.lt_compact.proofs.PieceLaws.{shows}
use Rattle.lt_compact.proofs.share.Share.extents.Goals as goal

pub returns-clause-count : goal.returns-clause-count
returns-clause-count c =
    let s = shows c.self.inside.node c.self.inside.behind.items c.self.inside.items.items c.self.inside.counts.items c.args.self.now c.self.view_is c.self.invariant in
    let tables : c.len.result ≡ length c.self.inside.counts.items = c.len.ensures ∙ c.self.inside.counts.ok.0 in
    omega (arith, tables, s.tables, c.new_groups.ensures.count)

pub returns-clause-few : goal.returns-clause-few
returns-clause-few c =
    let s = shows c.self.inside.node c.self.inside.behind.items c.self.inside.items.items c.self.inside.counts.items c.args.self.now c.self.view_is c.self.invariant in
    omega (arith, s.few_tables, c.self.inside.counts.ok.0, c.new_groups.ensures.few)
