-- The new extents of a deal, child by child.
use Rattle.std.proofs.Common.{◌≡◌, ℕ, refl, sym, ap, ◌∙◌, ◌&&◌, List, [], ◌∷◌, ◌++◌, map}
use Rattle.std.specs.Prelude.{nat_lt}
use Rattle.std.specs.List.{flat_map, list_all}
use Rattle.std.proofs.lemmas.List.Folds.{list_all-append}
use Rattle.lt_format.specs.Trie.{all_below}
use Rattle.lt_format.specs.Changes as format
use Rattle.lt_node.specs.declared.change.ChildChange.{ChildChange}
use Rattle.lt_node.specs.Changing.{child_of}

pub children_below : (limit : ℕ) (children : List ChildChange)
    → list_all (λ (c : ChildChange). all_below limit c.tables && all_below limit c.groups) children ≡ all_below limit (flat_map (λ (c : format.ChildChange). c.tables ++ c.groups) (map child_of children))
children_below limit [] = refl
children_below limit (c ∷ cs) =
    ap (λ b. (all_below limit c.tables && all_below limit c.groups) && b) (children_below limit cs) ∙ ap (λ b. b && all_below limit (flat_map (λ (d : format.ChildChange). d.tables ++ d.groups) (map child_of cs))) (sym (list_all-append (λ x. nat_lt x limit) c.tables c.groups))
    ∙ sym (list_all-append (λ x. nat_lt x limit) (c.tables ++ c.groups) (flat_map (λ (d : format.ChildChange). d.tables ++ d.groups) (map child_of cs)))
