-- A change sets nodes, one after another.
use Rattle.std.proofs.Common.{◌≡◌, ℕ, ◌+◌, ◌-◌, ◌*◌, ◌≤◌, refl, sym, ap, subst, ◌∙◌, true, List, [], ◌∷◌, ◌++◌, map, length, arith}
use Rattle.std.specs.List.{fold, list_all}
use Rattle.lt_terms.specs.Bytes.{is_in}
use Rattle.std.specs.Prelude.{not}
use Rattle.std.proofs.lemmas.Bool.{and_parts}
use Rattle.std.proofs.lemmas.List.Sums.{fold-append}
use Rattle.lt_format.specs.declared.node_id.NodeId.{NodeId}
use Rattle.lt_format.specs.Trie.{Node, Trie, node_at, with_node, is_node, all_distinct, all_below, named, is_shaped, table_total, IsTrie}
use Rattle.lt_format.specs.Changes.{Change, flush, deal, rewrite, ChildChange, new_extents, are_new, fits, shape_fits, children_fit, child_after, after_child, without_oldest, after_change}
use Rattle.lt_format.proofs.ChildLaws.{children_fit-first, child-elsewhere}
use Rattle.lt_format.proofs.KeepLaws.{after_change-trie, set-trie, higher}
use Rattle.lt_node.specs.View.{TrieView, IsView, IsKept}
use Rattle.lt_node.specs.Changing.{with_entry, dealt_entry, changed}
use Rattle.lt_node.proofs.TotalLaws.{with_node-total, total_few, pile_few, new_few}

dealt_sets : (levels : ℕ) (trie now : Trie) (node : NodeId) (from : ℕ) (cs : List ChildChange) → children_fit levels trie node from cs ≡ true → ((q : NodeId) → from ≤ q.number → node_at now q ≡ node_at trie q) → fold after_child now cs ≡ fold with_entry now (map (dealt_entry trie) cs)
dealt_sets levels trie now node from [] fit same = refl
dealt_sets levels trie now node from (c ∷ cs) fit same =
    let first = children_fit-first levels trie node from c cs fit in
    let low : from ≤ c.node.number = first.low in
    let here : after_child now c ≡ with_entry now (dealt_entry trie c) = ap (λ (n : Node). with_node now c.node (child_after n c)) (same c.node low) in
    dealt_sets levels trie (after_child now c) node (c.node.number + 1) cs first.rest (λ q above. child-elsewhere now c q (higher q c.node above) ∙ same q (omega arith))
    ∙ ap (λ t. fold with_entry t (map (dealt_entry trie) cs)) here

pub change_sets : (levels : ℕ) (trie : Trie) (change : Change) → fits levels trie change ≡ true → after_change trie change ≡ fold with_entry trie (changed trie change)
unfolding fits after_change
change_sets levels trie (flush tables) fit = refl
change_sets levels trie (deal node dropped children) fit =
    let shape = (and_parts (are_new 65536 trie (new_extents (deal node dropped children))) (shape_fits levels trie (deal node dropped children)) fit).1 in
    let left = (and_parts _ (children_fit levels trie node (8 * node.number) children) shape).1 in
    let left_over : Node = without_oldest (node_at trie node) dropped in
    ap (λ t. with_node t node left_over) (dealt_sets levels trie trie node (8 * node.number) children left (λ q above. refl))
    ∙ sym (fold-append with_entry trie (map (dealt_entry trie) children) ((node, left_over) ∷ []))
change_sets levels trie (rewrite node tables groups) fit = refl

-- ---- the trie after a change

pub fits_below : (levels : ℕ) (trie : Trie) (change : Change) → fits levels trie change ≡ true → are_new 65536 trie (new_extents change) ≡ true
unfolding fits
fits_below levels trie change fit = (and_parts (are_new 65536 trie (new_extents change)) (shape_fits levels trie change) fit).0

pub changed_view : (view : TrieView) (change : Change) → IsView view → fits view.levels view.nodes change ≡ true → IsView (record view { nodes = after_change view.nodes change })
changed_view view change v fit =
    let new = fits_below view.levels view.nodes change fit in
    let fresh = and_parts _ (list_all (λ x. not (is_in x (named view.nodes))) (new_extents change)) new in
    let below = (and_parts (all_distinct (new_extents change)) (all_below 65536 (new_extents change)) fresh.0).1 in
    record { least = v.least; most = v.most; trie = after_change-trie view.levels 65536 view.nodes change v.least v.trie fit below }

-- what stands after the change was made
pub record IsApplied (view : TrieView) (change : Change) (levels : ℕ) (nodes : Trie) : Type 0 where
  pub is : ◌≡◌ {A = TrieView} (record { levels = levels; nodes = nodes }) (record view { nodes = after_change view.nodes change })
  pub shape : IsView (record { levels = levels; nodes = nodes })
  pub few : table_total nodes ≤ 65536

pub applied : (view : TrieView) (change : Change) (levels : ℕ) (before nodes entries : Trie) → ◌≡◌ {A = TrieView} (record { levels = levels; nodes = before }) view → IsView (record { levels = levels; nodes = before }) → fits view.levels view.nodes change ≡ true
    → entries ≡ changed view.nodes change → nodes ≡ fold with_entry before entries → IsApplied view change levels nodes
applied view change levels before nodes entries same v fit sets made =
    let same_nodes : before ≡ view.nodes = ap (λ (t : TrieView). t.nodes) same in
    let same_levels : levels ≡ view.levels = ap (λ (t : TrieView). t.levels) same in
    let after : nodes ≡ after_change view.nodes change = made ∙ ap (λ t. fold with_entry t entries) same_nodes ∙ ap (fold with_entry view.nodes) sets ∙ sym (change_sets view.levels view.nodes change fit) in
    let is : ◌≡◌ {A = TrieView} (record { levels = levels; nodes = nodes }) (record view { nodes = after_change view.nodes change }) = λ i. record { levels = same_levels i; nodes = after i } in
    let shape : IsView (record { levels = levels; nodes = nodes }) = subst IsView (sym is) (changed_view view change (subst IsView same v) fit) in
    record { is = is; shape = shape; few = total_few levels nodes shape.trie }

-- ---- the trie after a node was set

pub record IsSet (levels : ℕ) (nodes : Trie) (count before after : ℕ) : Type 0 where
  pub counted : before ≤ count
  pub few : count ≤ 65536
  pub new : after ≤ 65536
  pub kept : IsKept (record { levels = levels; nodes = nodes }) (count - before + after)

pub was_set : (view : TrieView) (id : NodeId) (node : Node) (levels count : ℕ) (before nodes : Trie) (pile given : List ℕ) → ◌≡◌ {A = TrieView} (record { levels = levels; nodes = before }) view → IsKept (record { levels = levels; nodes = before }) count
    → is_node view.levels id ≡ true → is_shaped view.levels 65536 id node ≡ true → are_new 65536 view.nodes (node.tables ++ node.groups) ≡ true
    → pile ≡ (node_at before id).tables → given ≡ node.tables → nodes ≡ with_node before id node → IsSet levels nodes count (length pile) (length given)
was_set view id node levels count before nodes pile given same k named shaped new piles lists made =
    let t : IsTrie levels 65536 before = k.shape.trie in
    let same_nodes : before ≡ view.nodes = ap (λ (t : TrieView). t.nodes) same in
    let same_levels : levels ≡ view.levels = ap (λ (t : TrieView). t.levels) same in
    let is_here : is_node levels id ≡ true = subst (λ l. is_node l id ≡ true) (sym same_levels) named in
    let fits_here : is_shaped levels 65536 id node ≡ true = subst (λ l. is_shaped l 65536 id node ≡ true) (sym same_levels) shaped in
    let new_here : are_new 65536 before (node.tables ++ node.groups) ≡ true = subst (λ t. are_new 65536 t (node.tables ++ node.groups) ≡ true) (sym same_nodes) new in
    let after : IsTrie levels 65536 (with_node before id node) = set-trie levels 65536 before id node t is_here fits_here new_here in
    let old : length pile ≡ length (node_at before id).tables = ap length piles in
    let added : length given ≡ length node.tables = ap length lists in
    let all : count ≡ table_total before = k.tables in
    let total : table_total (with_node before id node) + length (node_at before id).tables ≡ table_total before + length node.tables = with_node-total before id node t.rising in
    let part : length (node_at before id).tables ≤ table_total before = pile_few levels before id t in
    let most : table_total before ≤ 65536 = total_few levels before t in
    let short : length node.tables ≤ 65536 = new_few before node.tables node.groups new_here in
    let made_total : table_total nodes ≡ table_total (with_node before id node) = ap table_total made in
    record {
      counted = omega arith;
      few = omega arith;
      new = omega arith;
      kept = record {
        shape = record { least = k.shape.least; most = k.shape.most; trie = subst (IsTrie levels 65536) (sym made) after };
        tables = omega arith;
      };
    }

pub pile_small : (levels count : ℕ) (before : Trie) (id : NodeId) (pile : List ℕ) → IsKept (record { levels = levels; nodes = before }) count → pile ≡ (node_at before id).tables → length pile ≤ 65536
pile_small levels count before id pile k piles =
    let same : length pile ≡ length (node_at before id).tables = ap length piles in
    omega (arith, pile_few levels before id k.shape.trie, total_few levels before k.shape.trie)
