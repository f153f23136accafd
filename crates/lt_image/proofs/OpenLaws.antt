-- What an image that opens gives: its manifest and its log, and what is true of them.
use Rattle.std.proofs.Common.{◌≡◌, ℕ, zero, suc, ◌+◌, ◌^◌, ◌≤◌, refl, sym, ap, subst, ◌∙◌, List, [], ◌∷◌, ◌++◌, length, drop, Bool, true, false, ◌&&◌, cond, Option, Some, None, Result, Ok, arith}
use Rattle.std.specs.Prelude.{IsTrue, nat_le, nat_lt, slice_range}
use Rattle.std.specs.FinMap.{is_sorted}
use Rattle.std.proofs.lemmas.Bool.{and_parts, leb-true, ne_eqb}
use Rattle.std.proofs.lemmas.List.{nil_from_length}
use Rattle.std.proofs.lemmas.List.Concat.{flat_map-append}
use Rattle.lt_terms.specs.Bytes.{Image, block_at, u16_at, all_zero}
use Rattle.lt_terms.specs.Items.{Item, total_cost, items_of}
use Rattle.lt_tables.proofs.ValidLaws.{AllValid, AllValid-append, items_of-valid}
use Rattle.lt_format.specs.declared.geometry.Geometry.{Geometry}
use Rattle.lt_format.specs.Layout.{is_geometry, is_open, log_gate, log_content, first_open, closed_from}
use Rattle.lt_format.specs.Log.{group_room, log_room, group_on, items_in, log_fits, with_group, read_with, log_from, log_groups}
use Rattle.lt_format.specs.Trie.{IsTrie, Trie, is_last_level, node_at, node_cmp, root}
use Rattle.lt_format.specs.Snapshot.{◌>>=◌, Named, manifest_of}
use Rattle.lt_format.proofs.ShapeLaws.{node_at-shaped, shaped-inner}
use Rattle.lt_format.proofs.ReadLaws.{bind_ok, ok_same, manifest_of-named}
use Rattle.lt_image.specs.Versions.{Opened, open_image, log_items}

-- an image that opens has a manifest, and a log that this names
pub record IsOpen (image : Image) (o : Opened) : Type 0 where
  pub named : manifest_of image ≡ Ok o.named
  pub log : log_groups o.named.geometry image o.named.manifest.header.log_area o.named.manifest.header.writes ≡ Ok o.groups

pub opens-is : (image : Image) (o : Opened) → open_image image ≡ Ok o → IsOpen image o
unfolding open_image
opens-is image o h =
    let m = bind_ok (manifest_of image) _ o h in
    let l = bind_ok (log_groups m.0.geometry image m.0.manifest.header.log_area m.0.manifest.header.writes) _ o m.2 in
    let read : Opened = record { named = m.0; groups = l.0 } in
    subst (IsOpen image) (ok_same read o l.2) (record { named = m.1; log = l.1 })

pub opened-same : (image : Image) (o p : Opened) → open_image image ≡ Ok o → open_image image ≡ Ok p → o ≡ p
opened-same image o p a b = ok_same o p (sym a ∙ b)

pub is-opens : (image : Image) (o : Opened) → manifest_of image ≡ Ok o.named → log_groups o.named.geometry image o.named.manifest.header.log_area o.named.manifest.header.writes ≡ Ok o.groups → open_image image ≡ Ok o
unfolding open_image
is-opens image o named log =
    let read : Named → Result Opened ℕ = λ n. (log_groups n.geometry image n.manifest.header.log_area n.manifest.header.writes) >>= (λ groups. Ok (record { named = n; groups = groups })) in
    ap (λ r. r >>= read) named ∙ ap (λ r. r >>= (λ groups. Ok (record { named = o.named; groups = groups }))) log

-- ---- the log

some_valid : (block : List ℕ) (items : List Item) → group_on block ≡ Some items → AllValid items
unfolding group_on
some_valid block items h = by_test (nat_le 1 (u16_at block 0) && nat_le (u16_at block 2) group_room && all_zero (drop (4 + u16_at block 2) block)) h
  where
    by_test : (b : Bool) → cond b (items_of (u16_at block 0) (slice_range block 4 (4 + u16_at block 2))) None ≡ Some items → AllValid items
    by_test true e = items_of-valid (u16_at block 0) (slice_range block 4 (4 + u16_at block 2)) items e
    by_test false e = cc

more_valid : (groups : List (List Item)) (items : List Item) → AllValid (items_in groups) → AllValid items → AllValid (items_in (groups ++ items ∷ []))
more_valid groups items a b =
    subst AllValid (sym (flat_map-append (λ (xs : List Item). xs) groups (items ∷ []))) (AllValid-append (items_in groups) (items ++ []) a (AllValid-append items [] b tt))

-- what the groups of a log are
pub record IsLog (groups : List (List Item)) : Type 0 where
  pub valid : AllValid (items_in groups)
  pub cost : total_cost (items_in groups) ≤ log_room

closed_same : (o : Option ℕ) (groups read : List (List Item)) → closed_from o groups ≡ Ok read → groups ≡ read
closed_same None groups read h = ok_same groups read h
closed_same (Some gate) groups read h = cc

abbrev Later : Geometry → Image → ℕ → ℕ → ℕ → ℕ → List (List Item) → Type 0
Later g image b writes i n read = (more : List (List Item)) → IsLog more → log_from g image b writes (i + 1) n more ≡ Ok read → IsLog read

log_from-is : (g : Geometry) (image : Image) (b writes i n : ℕ) (groups read : List (List Item)) → IsLog groups → log_from g image b writes i n groups ≡ Ok read → IsLog read
unfolding log_from
log_from-is g image b writes i zero groups read log h = subst IsLog (ok_same groups read h) log
log_from-is g image b writes i (suc n) groups read log h = by_gate (is_open (block_at image (log_gate g b i))) h (λ more is e. log_from-is g image b writes (i + 1) n more read is e)
  where
    by_room : (items : List Item) (more : Bool) → log_fits writes (items_in (groups ++ items ∷ [])) ≡ more → AllValid items → read_with (cond more (Some (groups ++ items ∷ [])) None) (log_content g b i) (λ gs. log_from g image b writes (i + 1) n gs) ≡ Ok read → Later g image b writes i n read → IsLog read
    by_room items true fits valid h later =
        let room = and_parts (nat_le (total_cost (items_in (groups ++ items ∷ []))) log_room) (nat_lt (writes + length (items_in (groups ++ items ∷ []))) (2 ^ 64)) fits in
        later (groups ++ items ∷ []) (record { valid = more_valid groups items log.valid valid; cost = leb-true (total_cost (items_in (groups ++ items ∷ []))) log_room room.0 }) h
    by_room items false fits valid h later = cc

    by_group : (o : Option (List Item)) → group_on (block_at image (log_content g b i)) ≡ o → read_with (with_group writes groups o) (log_content g b i) (λ gs. log_from g image b writes (i + 1) n gs) ≡ Ok read → Later g image b writes i n read → IsLog read
    by_group None e h later = cc
    by_group (Some items) e h later = by_room items (log_fits writes (items_in (groups ++ items ∷ []))) refl (some_valid (block_at image (log_content g b i)) items e) h later

    by_gate : (opened : Bool) → cond opened (read_with (with_group writes groups (group_on (block_at image (log_content g b i)))) (log_content g b i) (λ gs. log_from g image b writes (i + 1) n gs)) (closed_from (first_open image (log_gate g b) (i + 1) n) groups) ≡ Ok read → Later g image b writes i n read → IsLog read
    by_gate true h later = by_group (group_on (block_at image (log_content g b i))) refl h later
    by_gate false h later = subst IsLog (closed_same (first_open image (log_gate g b) (i + 1) n) groups read h) log

pub opens-log : (image : Image) (o : Opened) → open_image image ≡ Ok o → IsLog o.groups
opens-log image o h =
    log_from-is o.named.geometry image o.named.manifest.header.log_area o.named.manifest.header.writes 0 o.named.geometry.slots [] o.groups (record { valid = tt; cost = omega arith }) (opens-is image o h).log

pub log_items-valid : (image : Image) (o : Opened) → open_image image ≡ Ok o → AllValid (log_items o)
log_items-valid image o h = (opens-log image o h).valid

-- ---- the manifest

pub record IsWell (o : Opened) : Type 0 where
  pub levels : 2 ≤ o.named.geometry.levels
  pub rising : IsTrue (is_sorted node_cmp o.named.manifest.trie)
  pub bare : (node_at o.named.manifest.trie root).groups ≡ []

geometry_levels : (g : Geometry) → is_geometry g ≡ true → nat_le 2 g.levels ≡ true
geometry_levels g h = (and_parts (nat_le 2 g.levels) (nat_le g.levels 5) (and_parts _ (nat_le 1 g.slots) (and_parts _ (nat_le g.slots 512) h).0).0).0

-- the root has no groups
root-bare : (levels extents : ℕ) (trie : Trie) → 2 ≤ levels → IsTrie levels extents trie → (node_at trie root).groups ≡ []
root-bare levels extents trie deep t =
    let inner : is_last_level levels root ≡ false = ne_eqb (0 + 1) levels (λ e. absurd (omega arith)) in
    nil_from_length (node_at trie root).groups (shaped-inner levels extents root (node_at trie root) inner (node_at-shaped levels extents trie root t.nodes)).1

pub opens-well : (image : Image) (o : Opened) → open_image image ≡ Ok o → IsWell o
opens-well image o h =
    let n = manifest_of-named image o.named (opens-is image o h).named in
    let t : IsTrie o.named.geometry.levels o.named.manifest.header.extents o.named.manifest.trie = n.read.trie in
    let deep : 2 ≤ o.named.geometry.levels = leb-true 2 o.named.geometry.levels (geometry_levels o.named.geometry n.geometry) in
    record {
      levels = deep;
      rising = t.rising;
      bare = root-bare o.named.geometry.levels o.named.manifest.header.extents o.named.manifest.trie deep t;
    }
