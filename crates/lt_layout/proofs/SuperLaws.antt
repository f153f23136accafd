-- The superblock of a valid geometry is read as this geometry, and no other block is.
use Rattle.std.proofs.Common.{◌≡◌, ℕ, ◌≤◌, refl, sym, ap, subst, ◌∙◌, List, [], ◌∷◌, ◌++◌, length, take, drop, true, ◌&&◌, Option, Some, None, IsTrue, arith, get_or, nat_le}
use Rattle.std.specs.Prelude.{codes, ◌==◌, if◌then◌else◌}
use Rattle.std.specs.Int.{w16, from_be_bytes}
use Rattle.std.proofs.lemmas.Bool.{leb-true, eqb-true, and_parts}
use Rattle.std.proofs.lemmas.List.{take-append-drop, length-drop}
use Rattle.std.proofs.lemmas.Nat.{from_be_bytes-to_be_bytes_2, be_bytes_2}
use Rattle.std.proofs.lemmas.Option.{cond_some}
use Rattle.std.proofs.lemmas.Slice.Eq.{bytes_eq-Decides}
use Rattle.std.proofs.Math.Seq.{drop-cons}
use Rattle.lt_terms.specs.Bytes.{IsBlock, u16, u16_at, zeros, all_zero, same_bytes}
use Rattle.lt_format.specs.declared.geometry.Geometry.{Geometry}
use Rattle.lt_format.specs.Layout.{is_geometry, superblock, geometry_of}
use Rattle.lt_terms.proofs.SpellingLaws.{all_zero-zeros}
use Rattle.lt_terms.proofs.ItemLaws.{two_bytes}

zeros_from_all : (bytes : List ℕ) → all_zero bytes ≡ true → bytes ≡ zeros (length bytes)
unfolding zeros
zeros_from_all [] h = refl
zeros_from_all (b ∷ bytes) h =
    let parts = and_parts (b == 0) (all_zero bytes) h in
    ap (λ x. x ∷ bytes) (eqb-true b 0 parts.0) ∙ ap (λ xs. 0 ∷ xs) (zeros_from_all bytes parts.1)

-- what is read of a block, once its numbers are read
abbrev read_as : List ℕ → Geometry → Option Geometry
read_as block g = if same_bytes (take 8 block) (codes "LSMTRIE1") && is_geometry g && all_zero (drop 11 block) then Some g else None

few_slots : (g : Geometry) → IsTrue (is_geometry g) → g.slots ≤ 512
few_slots g valid = leb-true _ _ (and_parts (nat_le 2 g.levels && nat_le g.levels 5 && nat_le 1 g.slots) (nat_le g.slots 512) valid).1

pub geometry_of-superblock : (g : Geometry) → IsTrue (is_geometry g) → geometry_of (superblock g) ≡ Some g
unfolding geometry_of
geometry_of-superblock g valid =
    let few = few_slots g valid in
    let slots : u16_at (superblock g) 9 ≡ g.slots = from_be_bytes-to_be_bytes_2 g.slots (omega arith) in
    let all : all_zero (drop 11 (superblock g)) ≡ true = all_zero-zeros 4085 in
    ap (λ (n : ℕ). read_as (superblock g) (record { levels = g.levels; slots = n })) slots ∙ rw (valid, all) refl

-- the bytes of a block up to its twelfth
front : (block : List ℕ) → 11 ≤ length block → block ≡ take 8 block ++ (get_or block 8 0 ∷ get_or block 9 0 ∷ get_or block 10 0 ∷ drop 11 block)
front block long =
    sym (take-append-drop 8 block) ∙ ap (λ xs. take 8 block ++ xs) (drop-cons block 8 0 (omega arith) ∙ ap (λ xs. get_or block 8 0 ∷ xs) (drop-cons block 9 0 (omega arith) ∙ ap (λ xs. get_or block 9 0 ∷ xs) (drop-cons block 10 0 (omega arith))))

-- the spelling of the number that is read of a block
slots_again : (block : List ℕ) → IsBlock block → u16 (u16_at block 9) ≡ get_or block 9 0 ∷ get_or block 10 0 ∷ []
slots_again block is =
    let long = is.len in
    let two : take 2 (drop 9 block) ≡ get_or block 9 0 ∷ get_or block 10 0 ∷ [] =
    ap (take 2) (drop-cons block 9 0 (omega arith) ∙ ap (λ xs. get_or block 9 0 ∷ xs) (drop-cons block 10 0 (omega arith))) in
    be_bytes_2 (get_or block 9 0 ∷ get_or block 10 0 ∷ []) (u16_at block 9) refl (two_bytes _ _ (is.bytes 9 0 (omega arith)) (is.bytes 10 0 (omega arith))) (ap (from_be_bytes w16) two)

pub superblock_from_geometry_of : (block : List ℕ) (g : Geometry) → IsBlock block → geometry_of block ≡ Some g → IsTrue (is_geometry g) × (block ≡ superblock g)
unfolding geometry_of
superblock_from_geometry_of block g is read =
    let long = is.len in
    let found = cond_some _ _ g read in
    let parts = and_parts _ (all_zero (drop 11 block)) found.0 in
    let tests = and_parts (same_bytes (take 8 block) (codes "LSMTRIE1")) _ parts.0 in
    let magic : take 8 block ≡ codes "LSMTRIE1" = (bytes_eq-Decides (take 8 block) (codes "LSMTRIE1")).0 tests.0 in
    let rest : drop 11 block ≡ zeros 4085 = zeros_from_all (drop 11 block) parts.1 ∙ ap zeros (omega (arith, length-drop 11 block)) in
    let whole : block ≡ superblock (record { levels = get_or block 8 0; slots = u16_at block 9 }) =
    front block (omega arith) ∙ ap (λ xs. xs ++ (get_or block 8 0 ∷ get_or block 9 0 ∷ get_or block 10 0 ∷ drop 11 block)) magic
    ∙ ap (λ xs. codes "LSMTRIE1" ++ (get_or block 8 0 ∷ xs ++ drop 11 block)) (sym (slots_again block is))
    ∙ ap (λ xs. codes "LSMTRIE1" ++ (get_or block 8 0 ∷ u16 (u16_at block 9) ++ xs)) rest in
    subst (λ (h : Geometry). IsTrue (is_geometry h) × (block ≡ superblock h)) found.1 (tests.1, whole)
