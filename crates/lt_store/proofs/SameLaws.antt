-- Images that agree on all that a manifest names, and what they share.
use Rattle.std.proofs.Common.{◌≡◌, ℕ, zero, suc, ◌+◌, ◌<◌, ◌≤◌, refl, sym, ap, ◌∙◌, true, false, List, [], ◌∷◌, length, Option, Some, arith, true≢false}
use Rattle.std.specs.Prelude.{IsTrue}
use Rattle.std.specs.List.{AllByRecursion}
use Rattle.lt_terms.specs.Bytes.{Image, block_at, is_in}
use Rattle.lt_terms.specs.Items.{Item}
use Rattle.lt_device.specs.State.{SameOutside}
use Rattle.lt_language.specs.Machine.{State}
use Rattle.lt_format.specs.declared.geometry.Geometry.{Geometry}
use Rattle.lt_format.specs.Layout.{extent_block, log_gate}
use Rattle.lt_format.specs.Snapshot.{Named}
use Rattle.lt_format.specs.Trie.{named}
use Rattle.lt_format.proofs.LocalLaws.{manifest-local}
use Rattle.lt_format.specs.Snapshot.{Names}
use Rattle.lt_redo.specs.LogState.{other_area}
use Rattle.lt_redo.specs.Slots.{HasLog, InLogArea}
use Rattle.lt_redo.proofs.AreaLaws.{has_log-local}
use Rattle.lt_image.specs.After.{SameExtent, SameExtents, SameNamed}
use Rattle.lt_image.specs.Standing.{Stands, is_free_block}
use Rattle.lt_image.proofs.LocalLaws.{local-stands, not_free-named, fixed_not_free}
use Rattle.lt_search.specs.Kept.{KeepsFilter}
use Rattle.lt_search.proofs.KeepLaws.{inner-named}
use Rattle.lt_store.specs.Building.{InExtents}
use Rattle.lt_store.specs.Open.{inner_of}

-- the images have as many blocks, and the same below the logs, in the log area and in the extents that the manifest names
pub record Same (m : Named) (a b : Image) : Type 0 where
  pub size : length b ≡ length a
  pub low : (n : ℕ) → n < 868 → block_at b n ≡ block_at a n
  pub named : SameNamed m a b

extents-trans : (g : Geometry) (a b c : Image) (xs : List ℕ) → SameExtents g a b xs → SameExtents g b c xs → SameExtents g a c xs
extents-trans g a b c [] one two = tt
extents-trans g a b c (x ∷ xs) one two = (λ k small. two.0 k small ∙ one.0 k small, extents-trans g a b c xs one.1 two.1)

pub same-trans : (m : Named) (a b c : Image) → Same m a b → Same m b c → Same m a c
same-trans m a b c one two = record {
  size = two.size ∙ one.size;
  low = λ n small. two.low n small ∙ one.low n small;
  named = record {
    log = λ n low high. two.named.log n low high ∙ one.named.log n low high;
    kept = extents-trans m.geometry a b c (named m.manifest.trie) one.named.kept two.named.kept;
  };
}

-- ---- what is shared

pub same-names : (m : Named) (a b : Image) → Same m a b → Names m a → Names m b
same-names m a b same names = record { read = manifest-local a b same.size same.low ∙ names.read }

pub same-stands : (m : Named) (a b : Image) (s : State) → Same m a b → Names m a → Stands a s → Stands b s
same-stands m a b s same names stands = local-stands a b m s names.read (same-names m a b same names).read same.named stands

pub same-log : (m : Named) (a b : Image) (writes : ℕ) (groups : List (List Item)) → Same m a b → HasLog m.geometry m.manifest.header.log_area writes groups a → HasLog m.geometry m.manifest.header.log_area writes groups b
same-log m a b writes groups same has = has_log-local m.geometry m.manifest.header.log_area writes groups a b (λ n inside. same.named.log n inside.0 inside.1) has

filters-same : (g : Geometry) (kept : List (Option (List ℕ))) (a b : Image) (xs : List ℕ) → SameExtents g a b xs → AllByRecursion (KeepsFilter g kept a) xs → AllByRecursion (KeepsFilter g kept b) xs
filters-same g kept a b [] same all = tt
filters-same g kept a b (x ∷ xs) same all = (all.0 ∙ ap Some (sym (same.0 64 (omega arith))), filters-same g kept a b xs same.1 all.1)

pub same-filters : (m : Named) (kept : List (Option (List ℕ))) (a b : Image) → Same m a b → AllByRecursion (KeepsFilter m.geometry kept a) (inner_of m) → AllByRecursion (KeepsFilter m.geometry kept b) (inner_of m)
same-filters m kept a b same all = filters-same m.geometry kept a b (inner_of m) (inner-named (SameExtent m.geometry a b) m.geometry.levels m.manifest.trie same.named.kept) all

-- ---- where it comes from

-- each number of a list is in a greater one
pub within_all : (P : ℕ → Type 0) (all xs : List ℕ) → ((x : ℕ) → is_in x all ≡ true → P x) → ((x : ℕ) → is_in x xs ≡ true → is_in x all ≡ true) → AllByRecursion P xs
within_all P all [] each sub = tt
within_all P all (x ∷ xs) each sub = (each x (sub x (rw (here x xs) refl)), within_all P all xs each (λ y there. sub y (later y x xs there)))
  where
    here : (x : ℕ) (xs : List ℕ) → is_in x (x ∷ xs) ≡ true
    here x xs = grind arith

    later : (y x : ℕ) (xs : List ℕ) → is_in y xs ≡ true → is_in y (x ∷ xs) ≡ true
    later y x xs there = grind arith

-- blocks that are free differ
pub same-free : (m : Named) (a b : Image) → Names m a → SameOutside (λ n. IsTrue (is_free_block m n)) a b → Same m a b
same-free m a b names same = record {
  size = same.size;
  low = λ n small. same.others n (λ free. absurd (true≢false (sym free ∙ fixed_not_free m n small)));
  named = not_free-named a b m names.read (λ n taken. sym (same.others n (λ free. absurd (true≢false (sym free ∙ taken)))));
}

-- extents lie behind the log areas
pub log-extents : (g : Geometry) (area : ℕ) (a b : Image) (xs : List ℕ) → area < 2 → SameOutside (InLogArea g (other_area area)) a b → SameExtents g a b xs
log-extents g area a b [] small same = tt
log-extents g area a b (x ∷ xs) small same = (λ c within. same.others (extent_block g x + c) (λ inside. absurd (behind area x c small inside.1)), log-extents g area a b xs small same)
  where
    behind : (area x c : ℕ) → area < 2 → extent_block g x + c < log_gate g (other_area area) g.slots → ⊥
    behind zero x c small to = omega arith
    behind (suc zero) x c small to = omega arith
    behind (suc (suc a)) x c small to = omega arith

-- extents that are not among these stay
pub other-extents : (g : Geometry) (numbers xs : List ℕ) (a b : Image) → ((x : ℕ) → is_in x numbers ≡ true → is_in x xs ≡ false) → SameOutside (InExtents g numbers) a b → SameExtents g a b xs
other-extents g numbers xs a b apart same = within_all (SameExtent g a b) xs xs
    (λ x there c small. same.others (extent_block g x + c) (λ inside.
    let one : inside.number ≡ x = let from = inside.from in let to = inside.to in omega arith in
    true≢false (sym there ∙ ap (λ y. is_in y xs) (sym one) ∙ apart inside.number inside.among))) (λ x there. there)

-- blocks of the other log area differ
pub same-other : (m : Named) (a b : Image) → m.manifest.header.log_area < 2 → SameOutside (InLogArea m.geometry (other_area m.manifest.header.log_area)) a b → Same m a b
same-other m a b area same = record {
  size = same.size;
  low = λ n small. same.others n (λ inside. absurd (omega (arith, inside.0)));
  named = record {
    log = λ n low high. same.others n (λ inside. absurd (apart m.manifest.header.log_area area n low high inside.0 inside.1));
    kept = within_all (SameExtent m.geometry a b) (named m.manifest.trie) (named m.manifest.trie)
        (λ x there c small. same.others (extent_block m.geometry x + c) (λ inside. absurd (behind m.manifest.header.log_area x c area inside.1))) (λ x there. there);
  };
}
  where
    apart : (area : ℕ) → area < 2 → (n : ℕ) → log_gate m.geometry area 0 ≤ n → n < log_gate m.geometry area m.geometry.slots → log_gate m.geometry (other_area area) 0 ≤ n → n < log_gate m.geometry (other_area area) m.geometry.slots → ⊥
    apart zero small n low high from to = omega arith
    apart (suc zero) small n low high from to = omega arith
    apart (suc (suc a)) small n low high from to = omega arith

    behind : (area x c : ℕ) → area < 2 → extent_block m.geometry x + c < log_gate m.geometry (other_area area) m.geometry.slots → ⊥
    behind zero x c small to = omega arith
    behind (suc zero) x c small to = omega arith
    behind (suc (suc a)) x c small to = omega arith

-- blocks of extents differ that the manifest does not name
pub same-unnamed : (m : Named) (numbers : List ℕ) (a b : Image) → m.manifest.header.log_area < 2 → ((x : ℕ) → is_in x numbers ≡ true → is_in x (named m.manifest.trie) ≡ false) → SameOutside (InExtents m.geometry numbers) a b → Same m a b
same-unnamed m numbers a b area apart same = record {
  size = same.size;
  low = λ n small. same.others n (λ inside. absurd (let from = inside.from in omega arith));
  named = record {
    log = λ n low high. same.others n (λ inside. absurd (before m.manifest.header.log_area n inside.number area high inside.from));
    kept = within_all (SameExtent m.geometry a b) (named m.manifest.trie) (named m.manifest.trie)
        (λ x there c small. same.others (extent_block m.geometry x + c) (λ inside.
        let one : inside.number ≡ x = let from = inside.from in let to = inside.to in omega arith in
        true≢false (sym there ∙ ap (λ y. is_in y (named m.manifest.trie)) (sym one) ∙ apart inside.number inside.among))) (λ x there. there);
  };
}
  where
    before : (area n x : ℕ) → area < 2 → n < log_gate m.geometry area m.geometry.slots → extent_block m.geometry x ≤ n → ⊥
    before zero n x small high from = omega arith
    before (suc zero) n x small high from = omega arith
    before (suc (suc a)) n x small high from = omega arith
