-- The geometry of block 0 is that of the image.
use Rattle.std.proofs.Common.{◌≡◌, ℕ, refl, sym, ap, ◌∙◌, subst, List, Option, Some, None, Result, Ok, Err, IfOk, IsErrOf, IsTrue, [], ◌∷◌, length, take, drop, arith}
use Rattle.std.specs.Prelude.{codes}
use Rattle.std.specs.Option.{ForSome, ok_or}
use Rattle.std.proofs.lemmas.Bool.{and_parts}
use Rattle.std.proofs.lemmas.Option.{cond_some}
use Rattle.lt_terms.specs.Bytes.{Image, block_at, all_zero, same_bytes}
use Rattle.lt_device.specs.State.{State, IsFit}
use Rattle.lt_format.specs.declared.geometry.Geometry.{Geometry}
use Rattle.lt_format.specs.Layout.{is_geometry, geometry_of}
use Rattle.lt_format.specs.Snapshot.{geometry_in, roomy}
use Rattle.lt_layout.specs.declared.fault.OpenFault.{OpenFault}
use Rattle.lt_layout.specs.declared.fault.OpenFault.TheVariants.{Damaged}

pub geometry_of-valid : (block : List ℕ) (g : Geometry) → geometry_of block ≡ Some g → IsTrue (is_geometry g)
unfolding geometry_of
geometry_of-valid block g read =
    let found = cond_some _ _ g read in
    let front = and_parts _ (all_zero (drop 11 block)) found.0 in
    let valid = and_parts (same_bytes (take 8 block) (codes "LSMTRIE1")) _ front.0 in
    subst (λ (h : Geometry). IsTrue (is_geometry h)) found.1 valid.1

-- what block 0 says of a device of so many blocks
pub geometry_in-read : (n m : ℕ) (s t : State) (page : List ℕ) (r : Option Geometry) → IsFit n t → t ≡ s → m ≡ n → ForSome s.shown (λ image. page ≡ block_at image 0) → ok_or r 0 ≡ roomy m (geometry_of page) → ForSome s.shown (λ image. geometry_in image ≡ ok_or r 0)
unfolding geometry_in
geometry_in-read n m s t page r fit same size read is image told =
    ap (λ (k : ℕ). roomy k (geometry_of (block_at image 0))) ((fit.shown image (ap (λ (u : State). u.shown) same ∙ told)).size ∙ sym size) ∙ ap (λ (block : List ℕ). roomy m (geometry_of block)) (sym (read image told)) ∙ sym is

pub read-ok : (shown : Option Image) (r : Option Geometry) (out : Result Geometry OpenFault) → out ≡ ok_or r (Damaged 0) → ForSome shown (λ image. geometry_in image ≡ ok_or r 0) → IfOk out (λ g. ForSome shown (λ image. geometry_in image ≡ Ok g))
read-ok shown None out is told = rw is tt
read-ok shown (Some g) out is told = rw is told

same_damage : (b : ℕ) (out : Result Geometry OpenFault) → out ≡ Err (Damaged 0) → IsErrOf out (Damaged b) → 0 ≡ b
same_damage b out is err = cc

no_damage : (b : ℕ) (g : Geometry) (out : Result Geometry OpenFault) → out ≡ Ok g → IsErrOf out (Damaged b) → ⊥
no_damage b g out is err = cc

pub read-damaged : (shown : Option Image) (r : Option Geometry) (out : Result Geometry OpenFault) → out ≡ ok_or r (Damaged 0) → ForSome shown (λ image. geometry_in image ≡ ok_or r 0) → (b : ℕ) → IsErrOf out (Damaged b) → ForSome shown (λ image. geometry_in image ≡ Err b)
read-damaged shown None out is told b err image here = told image here ∙ ap Err (same_damage b out is err)
read-damaged shown (Some g) out is told b err image here = absurd (no_damage b g out is err)

-- a device without blocks
pub none-damaged : (n : ℕ) (s : State) → IsFit n s → n ≡ 0 → (b : ℕ) → 0 ≡ b → ForSome s.shown (λ image. geometry_in image ≡ Err b)
unfolding geometry_in geometry_of
none-damaged n s fit none b at image told = empty image ((fit.shown image told).size ∙ none) ∙ ap Err at
  where
    empty : (i : Image) → length i ≡ 0 → geometry_in i ≡ Err 0
    empty [] len = refl
    empty (block ∷ blocks) len = absurd (omega arith)
