-- A deal and a rewriting whose shares were given take as many extents as they need.
use Rattle.std.proofs.Common.{◌≡◌, ℕ, ◌+◌, ◌-◌, ◌*◌, ◌/◌, refl, sym, ap, ◌∙◌, List, [], ◌∷◌, ◌++◌, length, length-append, Bool, true, false, cond, arith}
use Rattle.std.specs.Prelude.{◌==◌, sum_by}
use Rattle.std.specs.List.{AllByRecursion, AllZip, flat_map}
use Rattle.std.proofs.lemmas.Bool.{and_parts, eq-eqb, eqb-true}
use Rattle.lt_terms.specs.Bytes.{Image}
use Rattle.lt_terms.specs.Items.{Item}
use Rattle.lt_tables.proofs.FitLaws.{total, sum_total}
use Rattle.lt_format.specs.declared.node_id.NodeId.{NodeId}
use Rattle.lt_format.specs.declared.geometry.Geometry.{Geometry}
use Rattle.lt_format.specs.Changes.{ChildChange, children_fit, deal, fits, groups_fit, new_extents, rewrite}
use Rattle.lt_format.specs.Trie.{Trie, groups_for, is_last_level, node_at}
use Rattle.lt_format.proofs.ChildLaws.{children_fit-first}
use Rattle.lt_image.specs.After.{Gets}
use Rattle.lt_image.specs.Shares.{Share, deal_shares, needed, new_groups, rewrite_share, share_extents}
use Rattle.lt_image.proofs.ShareLaws.{fits-deal, fits-rewrite, shares-behind}
use Rattle.lt_image.proofs.SlackLaws.{own_needed, zip_count}

-- the new groups of a child that fits are those of its share
child_groups : (levels t : ℕ) (c : ChildChange) (s : Share) → c.node ≡ s.node → length s.behind ≡ t → length c.tables ≡ length s.parts → groups_fit (is_last_level levels c.node) t c ≡ true → length c.groups ≡ new_groups levels s
child_groups levels t c s node behind parts fit = by_level (is_last_level levels c.node) (ap (is_last_level levels) node) fit
  where
    by_level : (b : Bool) → b ≡ is_last_level levels s.node → groups_fit b t c ≡ true → length c.groups ≡ new_groups levels s
    by_level true is fit =
        let full : c.kept_groups ≡ t / 64 = eqb-true _ _ (and_parts (c.kept_groups == t / 64) _ fit).0 in
        let all : c.kept_groups + length c.groups ≡ groups_for (t + length c.tables) = eqb-true _ _ (and_parts (c.kept_groups == t / 64) _ fit).1 in
        let new : length c.groups ≡ groups_for (length s.behind + length s.parts) - length s.behind / 64 = omega (arith, full, all, behind, parts) in
        new ∙ ap (λ b. cond b (groups_for (length s.behind + length s.parts) - length s.behind / 64) 0) is
    by_level false is fit = eqb-true _ _ (and_parts (c.kept_groups == 0) _ fit).1 ∙ ap (λ b. cond b (groups_for (length s.behind + length s.parts) - length s.behind / 64) 0) is

children_need : (g : Geometry) (image : Image) (levels : ℕ) (trie : Trie) (id : NodeId) (from : ℕ) (children : List ChildChange) (shares : List Share) → AllZip (Gets g image) children shares → AllByRecursion (λ (s : Share). s.behind ≡ (node_at trie s.node).tables) shares
    → children_fit levels trie id from children ≡ true → length (flat_map (λ (c : ChildChange). c.tables ++ c.groups) children) ≡ total (share_extents levels) shares
children_need g image levels trie id from [] [] zip behind fit = refl
children_need g image levels trie id from [] (s ∷ shares) zip behind fit = absurd zip
children_need g image levels trie id from (c ∷ cs) [] zip behind fit = absurd zip
children_need g image levels trie id from (c ∷ cs) (s ∷ shares) zip behind fit =
    let f = children_fit-first levels trie id from c cs fit in
    let tables : length c.tables ≡ length s.parts = zip_count g image c.tables s.parts zip.0.placed in
    let had : length s.behind ≡ length (node_at trie c.node).tables = ap length (behind.0 ∙ ap (λ q. (node_at trie q).tables) (sym zip.0.node)) in
    omega (
      arith,
      tables,
      length-append (c.tables ++ c.groups) (flat_map (λ (c : ChildChange). c.tables ++ c.groups) cs),
      length-append c.tables c.groups,
      child_groups levels (length (node_at trie c.node).tables) c s zip.0.node had tables f.groups,
      children_need g image levels trie id (c.node.number + 1) cs shares zip.1 behind.1 f.rest,
    )

-- A DEAL takes what it needs
pub deal-takes : (g : Geometry) (image : Image) (levels : ℕ) (trie : Trie) (id : NodeId) (dropped : ℕ) (children : List ChildChange) (items : List Item) → fits levels trie (deal id dropped children) ≡ true
    → AllZip (Gets g image) children (deal_shares trie id items) → length (new_extents (deal id dropped children)) ≡ needed levels trie id items
unfolding needed
deal-takes g image levels trie id dropped children items fit given =
    let is = fits-deal levels trie id dropped children fit in
    children_need g image levels trie id (8 * id.number) children (deal_shares trie id items) given (shares-behind trie id items) is.fit
    ∙ sym (sum_total (share_extents levels) (deal_shares trie id items))
    ∙ sym (ap (λ b. sum_by (share_extents levels) (cond b (rewrite_share id items ∷ []) (deal_shares trie id items))) is.inner)

-- A REWRITING takes what it needs
pub rewrite-takes : (g : Geometry) (image : Image) (levels : ℕ) (trie : Trie) (id : NodeId) (tables groups : List ℕ) (items : List Item) → fits levels trie (rewrite id tables groups) ≡ true
    → Gets g image (record { node = id; tables = tables; kept_groups = 0; groups = groups }) (rewrite_share id items) → length (new_extents (rewrite id tables groups)) ≡ needed levels trie id items
rewrite-takes g image levels trie id tables groups items fit gets =
    let is = fits-rewrite levels trie id tables groups fit in
    let last : is_last_level levels id ≡ true = eq-eqb (id.level + 1) levels is.last in
    let parts : length tables ≡ length (rewrite_share id items).parts = zip_count g image tables (rewrite_share id items).parts gets.placed in
    let fresh : new_groups levels (rewrite_share id items) ≡ groups_for (0 + length (rewrite_share id items).parts) - 0 / 64 = ap (λ b. cond b (groups_for (0 + length (rewrite_share id items).parts) - 0 / 64) 0) last in
    let none : 0 / 64 ≡ 0 = refl in
    let count = is.count in
    length-append tables groups ∙ joined parts fresh count ∙ sym (own_needed levels trie id items last)
  where
    joined : length tables ≡ length (rewrite_share id items).parts → new_groups levels (rewrite_share id items) ≡ groups_for (0 + length (rewrite_share id items).parts) - 0 / 64 → length groups ≡ groups_for (length tables)
        → length tables + length groups ≡ share_extents levels (rewrite_share id items)
    joined parts fresh count = omega (arith, parts, fresh, count)
