use Rattle.std.proofs.Common.{◌≡◌, ◌≤◌, ◌∙◌, ap, arith, length}
use Rattle.lt_format.specs.Trie.{Node, node_at}
use Rattle.lt_node.specs.Changing.{with_entry}
use Rattle.lt_node.proofs.ApplyLaws.{IsSet, was_set, pile_small}
use Rattle.lt_node.proofs.TotalLaws.{new_few}
use Rattle.lt_node.proofs.trie.Trie.set_node.Goals as goal

pub overflow_cast-before : goal.overflow_cast-before
overflow_cast-before c =
    let piles = c.pile.ensures ∙ ap (λ t. (node_at t c.args.node).tables) c.in_ok-reserve.ensures.items in
    let small : length c.pile.result.now ≤ 65536 = pile_small c.self.inside.levels c.self.inside.tables c.self.inside.nodes.items c.args.node c.pile.result.now c.self.invariant piles in
    omega arith

pub overflow_cast-after : goal.overflow_cast-after
overflow_cast-after c =
    let same : length c.list.result.now ≡ length c.args.tables = ap length c.list.ensures in
    let few : length c.args.tables ≤ 65536 = new_few c.args.self.now.nodes c.args.tables c.args.groups c.requires.new in
    omega arith

-- what stands once the node was set
facts : (c : goal.After-set) → IsSet c.self.inside.levels c.set.new.nodes.items c.self.inside.tables (length c.pile.result.now) (length c.list.result.now)
facts c =
    let node : Node = record { base = c.args.base; tables = c.args.tables; groups = c.args.groups } in
    let before = c.self.inside.nodes.items in
    let piles = c.pile.ensures ∙ ap (λ t. (node_at t c.args.node).tables) c.in_ok-reserve.ensures.items in
    let entry : c.of-entry.result ≡ (c.args.node, node) = c.of-entry.ensures ∙ (λ i. (c.args.node, record { base = c.args.base; tables = c.into_list.ensures i; groups = c.into_list-2.ensures i })) in
    let made = c.set.ensures.nodes ∙ ap (λ t. with_entry t c.of-entry.result) c.in_ok-reserve.ensures.items ∙ ap (with_entry before) entry in
    was_set c.args.self.now c.args.node node c.self.inside.levels c.self.inside.tables before c.set.new.nodes.items c.pile.result.now c.list.result.now c.self.view_is c.self.invariant c.requires.node c.requires.shaped c.requires.new piles c.list.ensures made

pub overflow_sub-self : goal.overflow_sub-self
overflow_sub-self c = (facts c).counted

pub overflow_add-self : goal.overflow_add-self
overflow_add-self c =
    let few : c.self.inside.tables ≤ 65536 = (facts c).few in
    let new : length c.list.result.now ≤ 65536 = (facts c).new in
    omega arith

pub invariant_of-self-3 : goal.invariant_of-self-3
invariant_of-self-3 c =
    let node : Node = record { base = c.args.base; tables = c.args.tables; groups = c.args.groups } in
    let before = c.self.inside.nodes.items in
    let piles = c.pile.ensures ∙ ap (λ t. (node_at t c.args.node).tables) c.in_ok-reserve.ensures.items in
    let entry : c.of-entry.result ≡ (c.args.node, node) = c.of-entry.ensures ∙ (λ i. (c.args.node, record { base = c.args.base; tables = c.into_list.ensures i; groups = c.into_list-2.ensures i })) in
    let made = c.set.ensures.nodes ∙ ap (λ t. with_entry t c.of-entry.result) c.in_ok-reserve.ensures.items ∙ ap (with_entry before) entry in
    let set : IsSet c.self.inside.levels c.set.new.nodes.items c.self.inside.tables (length c.pile.result.now) (length c.list.result.now) = was_set c.args.self.now c.args.node node c.self.inside.levels c.self.inside.tables before c.set.new.nodes.items c.pile.result.now c.list.result.now c.self.view_is c.self.invariant c.requires.node c.requires.shaped c.requires.new piles c.list.ensures made in
    set.kept
