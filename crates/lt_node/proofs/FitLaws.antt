-- A loop over the children of a deal, and small powers.
use Rattle.std.proofs.Common.{◌≡◌, ℕ, suc, ◌+◌, ◌<◌, sym, ap, ◌∙◌, true, false, ◌&&◌, List, ◌∷◌, map, length, get_or, drop, drop-cons, add-one}
use Rattle.lt_format.specs.declared.node_id.NodeId.{NodeId}
use Rattle.lt_format.specs.Trie.{Trie}
use Rattle.lt_format.specs.Changes.{child_fits, children_fit}
use Rattle.lt_node.specs.declared.change.ChildChange.{ChildChange}
use Rattle.lt_node.specs.Changing.{child_of}

cut : (cs : List ChildChange) (i : ℕ) (item : ChildChange) → item ≡ get_or cs i item → i < length cs → map child_of (drop i cs) ≡ child_of item ∷ map child_of (drop (i + 1) cs)
cut cs i item is within = rw add-one (ap (map child_of) (drop-cons cs i item within) ∙ ap (λ c. child_of c ∷ map child_of (drop (suc i) cs)) (sym is))

pub fit_step : (levels : ℕ) (trie : Trie) (node : NodeId) (from : ℕ) (cs : List ChildChange) (i : ℕ) (item : ChildChange) → item ≡ get_or cs i item → i < length cs → child_fits levels trie node from (child_of item) ≡ true
    → children_fit levels trie node from (map child_of (drop i cs)) ≡ children_fit levels trie node (item.node.number + 1) (map child_of (drop (i + 1) cs))
fit_step levels trie node from cs i item is within fit =
    ap (children_fit levels trie node from) (cut cs i item is within)
    ∙ ap (λ b. b && children_fit levels trie node (item.node.number + 1) (map child_of (drop (i + 1) cs))) fit

pub fit_stop : (levels : ℕ) (trie : Trie) (node : NodeId) (from : ℕ) (cs : List ChildChange) (i : ℕ) (item : ChildChange) → item ≡ get_or cs i item → i < length cs → child_fits levels trie node from (child_of item) ≡ false
    → children_fit levels trie node from (map child_of (drop i cs)) ≡ false
fit_stop levels trie node from cs i item is within fit =
    ap (children_fit levels trie node from) (cut cs i item is within)
    ∙ ap (λ b. b && children_fit levels trie node (item.node.number + 1) (map child_of (drop (i + 1) cs))) fit
