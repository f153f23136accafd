-- A pile that was rewritten has no slack.
use Rattle.std.proofs.Common.{◌≡◌, ℕ, suc, ◌+◌, ◌-◌, ◌/◌, ◌≤◌, refl, sym, ap, subst, ◌∙◌, List, [], ◌∷◌, ◌++◌, length, Bool, true, false, not, cond, ◌&&◌, ◌||◌, None, arith}
use Rattle.std.specs.Prelude.{T, ◌==◌, nat_lt}
use Rattle.std.specs.List.{flat_map, filter, list_any, last_or, AllByRecursion, sum_by}
use Rattle.std.specs.Option.{option_to_list}
use Rattle.std.specs.Cmp.Lexicographic.{bytes_decides}
use Rattle.std.proofs.lemmas.Bool.{le-ltb}
use Rattle.std.proofs.lemmas.List.Elements.{filter-append}
use Rattle.std.proofs.lemmas.List.Sums.{sum_by-cons}
use Rattle.lt_terms.specs.Bytes.{Image, same_bytes}
use Rattle.lt_terms.specs.Items.{Item}
use Rattle.lt_tables.specs.Placement.{columns}
use Rattle.lt_tables.specs.Table.{IsPlaced, place_of, table_items, newest, newest_of, versions_of, is_put, has_two_versions, without_deletes}
use Rattle.lt_tables.specs.Alike.{SameNewest}
use Rattle.lt_tables.specs.Cut.{cut}
use Rattle.lt_tables.proofs.CutLaws.{cut-joined}
use Rattle.lt_tables.proofs.ListLaws.{all_drop, all_filter, all_join, all_take}
use Rattle.lt_tables.proofs.NewestLaws.{newest-alike}
use Rattle.lt_tables.proofs.PartLaws.{HasOnce-newest, filter_again, ranked-filter}
use Rattle.lt_tables.proofs.PlanLaws.{placement-within}
use Rattle.lt_tables.proofs.RankedLaws.{is_ranked, ranked-newest, newest-ranked, ranked-take, ranked-drop, pieces_all, each_newest}
use Rattle.lt_tables.proofs.TableLaws.{table_items-placed, versions_of-placed}
use Rattle.lt_format.specs.declared.geometry.Geometry.{Geometry}
use Rattle.lt_format.specs.declared.node_id.NodeId.{NodeId}
use Rattle.lt_format.specs.Snapshot.{Named}
use Rattle.lt_format.specs.Trie.{Trie, is_last_level, groups_for}
use Rattle.lt_image.specs.After.{Gets, PlacedIn}
use Rattle.lt_image.specs.Needs.{has_slack, is_slack}
use Rattle.lt_image.specs.Shares.{rewrite_share, deal_shares, share_extents, new_groups, needed}
use Rattle.lt_image.specs.Versions.{extent_in, items_at, pile_items}
use Rattle.lt_image.proofs.TableSoundLaws.{option_short}

-- ---- each key once

-- the versions of a key in ranked items are its newest one
once_versions : (key : List ℕ) (items : List Item) → T (is_ranked items) → versions_of key items ≡ option_to_list (newest_of key items)
once_versions key items r = subst (λ xs. versions_of key xs ≡ option_to_list (newest_of key xs)) (ranked-newest items r) ((HasOnce-newest items).each key)

-- so a placed table's versions of a key are those of its items
placed_versions : (key : List ℕ) (items : List Item) (block : ℕ → List ℕ) → T (is_ranked items) → IsPlaced items block → versions_of key (table_items block) ≡ versions_of key items
placed_versions key items block r p = versions_of-placed p.plans items block key (placement-within items p.plans p.placement) p.buckets ∙ sym (once_versions key items r)

piles_versions : (key : List ℕ) (g : Geometry) (image : Image) (tables : List ℕ) (parts : List (List Item)) → AllByRecursion (λ p. T (is_ranked p)) parts → PlacedIn g image tables parts → versions_of key (pile_items g image tables) ≡ versions_of key (flat_map (λ p. p) parts)
piles_versions key g image [] [] r zip = refl
piles_versions key g image [] (p ∷ parts) r zip = absurd zip
piles_versions key g image (x ∷ tables) [] r zip = absurd zip
piles_versions key g image (x ∷ tables) (p ∷ parts) r zip =
    filter-append (λ (v : Item). same_bytes v.key key) (items_at g image x) (pile_items g image tables)
    ∙ (λ i. placed_versions key p (extent_in g image x) r.0 zip.0 i ++ piles_versions key g image tables parts r.1 zip.1 i)
    ∙ sym (filter-append (λ (v : Item). same_bytes v.key key) p (flat_map (λ p. p) parts))

-- no key twice
pub none_twice : (items : List Item) → ((key : List ℕ) → length (versions_of key items) ≤ 1) → has_two_versions items ≡ false
none_twice [] h = refl
none_twice (v ∷ vs) h = both (list_any (λ (w : Item). same_bytes w.key v.key) vs) (has_two_versions vs) (alone vs (first (h v.key))) (none_twice vs (λ key. rest (same_bytes v.key key) (versions_of key vs) (h key)))
  where
    both : (a b : Bool) → a ≡ false → b ≡ false → (a || b) ≡ false
    both a b p q = ap (λ t. t || b) p ∙ q

    rest : (t : Bool) (ws : List Item) → length (cond t (v ∷ ws) ws) ≤ 1 → length ws ≤ 1
    rest true ws h = omega arith
    rest false ws h = h

    itself : same_bytes v.key v.key ≡ true
    itself = (bytes_decides v.key v.key).1 refl

    first : length (cond (same_bytes v.key v.key) (v ∷ versions_of v.key vs) (versions_of v.key vs)) ≤ 1 → length (versions_of v.key vs) ≤ 0
    first few = let here = subst (λ t. length (cond t (v ∷ versions_of v.key vs) (versions_of v.key vs)) ≤ 1) itself few in omega arith

    alone : (ws : List Item) → length (versions_of v.key ws) ≤ 0 → list_any (λ (w : Item). same_bytes w.key v.key) ws ≡ false
    alone [] few = refl
    alone (w ∷ ws) few = by_test (same_bytes w.key v.key) few (alone ws)
      where
        by_test : (t : Bool) → length (cond t (w ∷ versions_of v.key ws) (versions_of v.key ws)) ≤ 0 → (length (versions_of v.key ws) ≤ 0 → list_any (λ (w : Item). same_bytes w.key v.key) ws ≡ false) → (t || list_any (λ (w : Item). same_bytes w.key v.key) ws) ≡ false
        by_test true few ih = absurd (omega arith)
        by_test false few ih = ih few

-- ---- puts alone

abbrev Puts : List Item → Type 0
Puts items = AllByRecursion (λ (v : Item). is_put v ≡ true) items

puts_spread : (place : Item → ℕ) (xs : List Item) (cs : List ℕ) → Puts xs → Puts (flat_map (λ c. filter (λ v. place v == c) xs) cs)
puts_spread place xs [] p = tt
puts_spread place xs (c ∷ cs) p = all_join (λ (v : Item). is_put v ≡ true) (filter (λ v. place v == c) xs) (flat_map (λ c. filter (λ v. place v == c) xs) cs) (all_filter (λ (v : Item). is_put v ≡ true) (λ v. place v == c) xs p) (puts_spread place xs cs p)

placed_puts : (items : List Item) (block : ℕ → List ℕ) → IsPlaced items block → Puts items → Puts (table_items block)
placed_puts items block p puts = subst Puts (sym (table_items-placed p.plans items block p.buckets)) (puts_spread (place_of p.plans) (newest items) columns (each_newest (λ (v : Item). is_put v ≡ true) items puts))

piles_puts : (g : Geometry) (image : Image) (tables : List ℕ) (parts : List (List Item)) → AllByRecursion Puts parts → PlacedIn g image tables parts → Puts (pile_items g image tables)
piles_puts g image [] parts puts zip = tt
piles_puts g image (x ∷ tables) [] puts zip = absurd zip
piles_puts g image (x ∷ tables) (p ∷ parts) puts zip = all_join (λ (v : Item). is_put v ≡ true) (items_at g image x) (pile_items g image tables) (placed_puts p (extent_in g image x) zip.0 puts.0) (piles_puts g image tables parts puts.1 zip.1)

only_puts : (items : List Item) → Puts (without_deletes items)
only_puts [] = tt
only_puts (v ∷ items) = by_test (is_put v) refl (only_puts items)
  where
    by_test : (b : Bool) → is_put v ≡ b → Puts (without_deletes items) → Puts (cond b (v ∷ without_deletes items) (without_deletes items))
    by_test true e rest = (e, rest)
    by_test false e rest = rest

no_delete : (items : List Item) → Puts items → list_any (λ v. not (is_put v)) items ≡ false
no_delete [] p = refl
no_delete (v ∷ items) p = ap (λ b. not b || list_any (λ v. not (is_put v)) items) p.0 ∙ no_delete items p.1

-- ---- a rewritten pile

pub zip_count : (g : Geometry) (image : Image) (tables : List ℕ) (parts : List (List Item)) → PlacedIn g image tables parts → length tables ≡ length parts
zip_count g image [] [] zip = refl
zip_count g image [] (p ∷ parts) zip = absurd zip
zip_count g image (x ∷ tables) [] zip = absurd zip
zip_count g image (x ∷ tables) (p ∷ parts) zip = ap suc (zip_count g image tables parts zip.1)

pub own_needed : (levels : ℕ) (trie : Trie) (id : NodeId) (items : List Item) → is_last_level levels id ≡ true → needed levels trie id items ≡ share_extents levels (rewrite_share id items)
unfolding needed
own_needed levels trie id items last =
    ap (λ b. sum_by (share_extents levels) (cond b (rewrite_share id items ∷ []) (deal_shares trie id items))) last
    ∙ sum_by-cons (share_extents levels) (rewrite_share id items) []
    ∙ add_none (share_extents levels (rewrite_share id items))
  where
    add_none : (n : ℕ) → n + 0 ≡ n
    add_none n = omega arith

-- A REWRITTEN PILE has no slack: it holds puts alone, no key twice, and needs again what it has
pub rewritten-slackless : (g : Geometry) (image : Image) (levels : ℕ) (trie : Trie) (id : NodeId) (items : List Item) (tables groups : List ℕ) → is_last_level levels id ≡ true → length groups ≡ groups_for (length tables)
    → PlacedIn g image tables (cut (without_deletes (newest items))) → has_slack levels trie id (pile_items g image tables) (length tables + length groups) ≡ false
rewritten-slackless g image levels trie id items tables groups last count placed =
    let puts : List Item = without_deletes (newest items) in
    let after : List Item = pile_items g image tables in
    let ranked : T (is_ranked puts) = ranked-filter is_put (newest items) (newest-ranked items) in
    let parts_ranked : AllByRecursion (λ p. T (is_ranked p)) (cut puts) = pieces_all (λ p. T (is_ranked p)) ranked-take ranked-drop _ puts ranked in
    let parts_puts : AllByRecursion Puts (cut puts) = pieces_all Puts (λ n xs. all_take (λ (v : Item). is_put v ≡ true) n xs) (λ n xs. all_drop (λ (v : Item). is_put v ≡ true) n xs) _ puts (only_puts (newest items)) in
    let versions : (key : List ℕ) → versions_of key after ≡ versions_of key puts = λ key. piles_versions key g image tables (cut puts) parts_ranked placed ∙ ap (versions_of key) (cut-joined puts) in
    let same : SameNewest after puts = record { each = λ key. ap (last_or None) (versions key) } in
    let again : without_deletes (newest after) ≡ puts = ap without_deletes (newest-alike after puts same ∙ ranked-newest puts ranked) ∙ filter_again is_put (newest items) in
    let few : (key : List ℕ) → length (versions_of key after) ≤ 1 = λ key. subst (λ (vs : List Item). length vs ≤ 1) (sym (versions key ∙ once_versions key puts ranked)) (option_short (newest_of key puts)) in
    let many : length (cut (without_deletes (newest after))) ≡ length tables = ap (λ (vs : List Item). length (cut vs)) again ∙ sym (zip_count g image tables (cut puts) placed) in
    let fresh : new_groups levels (rewrite_share id after) ≡ groups_for (0 + length (cut (without_deletes (newest after)))) - 0 / 64 = ap (λ b. cond b (groups_for (0 + length (cut (without_deletes (newest after)))) - 0 / 64) 0) last in
    let wants : needed levels trie id after ≡ length (cut (without_deletes (newest after))) + new_groups levels (rewrite_share id after) = own_needed levels trie id after last in
    ap (λ b. b || has_two_versions after || nat_lt (needed levels trie id after) (length tables + length groups)) (no_delete after (piles_puts g image tables (cut puts) parts_puts placed))
    ∙ ap (λ b. b || nat_lt (needed levels trie id after) (length tables + length groups)) (none_twice after few)
    ∙ le-ltb (needed levels trie id after) (length tables + length groups) (enough many fresh wants)
  where
    enough : length (cut (without_deletes (newest (pile_items g image tables)))) ≡ length tables → new_groups levels (rewrite_share id (pile_items g image tables)) ≡ groups_for (0 + length (cut (without_deletes (newest (pile_items g image tables))))) - 0 / 64
        → needed levels trie id (pile_items g image tables) ≡ length (cut (without_deletes (newest (pile_items g image tables)))) + new_groups levels (rewrite_share id (pile_items g image tables))
        → length tables + length groups ≤ needed levels trie id (pile_items g image tables)
    enough m f w =
        let none : 0 / 64 ≡ 0 = refl in
        let same_groups : groups_for (0 + length (cut (without_deletes (newest (pile_items g image tables))))) ≡ groups_for (length tables) = ap (λ n. groups_for n) (add_left (length (cut (without_deletes (newest (pile_items g image tables))))) ∙ m) in
        omega (arith, m, f, w, count, same_groups)
      where
        add_left : (n : ℕ) → 0 + n ≡ n
        add_left n = omega arith

pub rewritten-not_slack : (m : Named) (image : Image) (id : NodeId) (items : List Item) (tables groups : List ℕ) → is_last_level m.geometry.levels id ≡ true → length groups ≡ groups_for (length tables)
    → Gets m.geometry image (record { node = id; tables = tables; kept_groups = 0; groups = groups }) (rewrite_share id items) → is_slack m image (id, record { base = length tables; tables = tables; groups = groups }) ≡ false
rewritten-not_slack m image id items tables groups last count gets =
    ap (λ b. b && has_slack m.geometry.levels m.manifest.trie id (pile_items m.geometry image tables) (length tables + length groups)) last
    ∙ rewritten-slackless m.geometry image m.geometry.levels m.manifest.trie id items tables groups last count gets.placed
