use Rattle.std.proofs.Common.{◌≡◌, ◌∙◌, sym, length, arith}
use Rattle.lt_compact.proofs.PieceLaws.{new_groups-last, shows}
use Rattle.lt_compact.proofs.share.Share.new_groups.Goals as goal

pub groups_for-requires : goal.groups_for-requires
groups_for-requires c =
    let s = shows c.self.inside.node c.self.inside.behind.items c.self.inside.items.items c.self.inside.counts.items c.args.self.now c.self.view_is c.self.invariant in
    omega (arith, s.few_tables, s.few_behind, c.self.inside.behind.ok.0, c.self.inside.counts.ok.0)

pub returns-then-is_last_level-clause-count : goal.returns-then-is_last_level-clause-count
returns-then-is_last_level-clause-count c =
    let s = shows c.self.inside.node c.self.inside.behind.items c.self.inside.items.items c.self.inside.counts.items c.args.self.now c.self.view_is c.self.invariant in
    let behind : c.len.result ≡ length c.self.inside.behind.items = c.len.ensures ∙ c.self.inside.behind.ok.0 in
    let tables : c.len-then-is_last_level.result ≡ length c.self.inside.counts.items = c.len-then-is_last_level.ensures ∙ c.self.inside.counts.ok.0 in
    let again : c.len-then-is_last_level-2.result ≡ c.len.result = c.len-then-is_last_level-2.ensures ∙ sym c.len.ensures in
    let groups = new_groups-last c.args.levels c.args.self.now c.self.inside.node c.len.result c.len-then-is_last_level.result s.node_is (s.behind_is ∙ sym behind) (s.tables ∙ sym tables) (sym c.is_last_level.ensures ∙ c.if-is_last_level.true) in
    omega (arith, groups, again, c.groups_for.ensures)

pub returns-then-is_last_level-clause-few : goal.returns-then-is_last_level-clause-few
returns-then-is_last_level-clause-few c =
    let s = shows c.self.inside.node c.self.inside.behind.items c.self.inside.items.items c.self.inside.counts.items c.args.self.now c.self.view_is c.self.invariant in
    omega (arith, s.few_tables, s.few_behind, c.self.inside.behind.ok.0, c.self.inside.counts.ok.0)
