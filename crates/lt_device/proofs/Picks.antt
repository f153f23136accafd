-- What the picks leave of the blocks, one block after another.
use Rattle.std.proofs.Common.{◌≡◌, inl, inr, ℕ, ◌+◌, ◌<◌, ◌≤◌, Bool, true, false, List, ◌++◌, length, take, get_or, set, replicate, cond, refl, sym, ◌∙◌, ap, subst, arith}
use Rattle.std.specs.List.{count_by}
use Rattle.std.proofs.lemmas.Bool.{cases_eq, cases_lt}
use Rattle.std.proofs.lemmas.List.{append-nil, drop_all, length-replicate, get_or_past}
use Rattle.std.proofs.lemmas.List.Elements.{All-set}
use Rattle.std.proofs.lemmas.List.Sums.{count_by_more_yes, count_by_more_no}
use Rattle.lt_terms.specs.Bytes.{Image, IsBlock, AreBlocks, block_at, filled}
use Rattle.lt_device.specs.declared.pick.Pick.{Pick}
use Rattle.lt_device.specs.declared.pick.Pick.TheVariants.{Stable}
use Rattle.lt_device.specs.Memory.{Memory, memory_state, IsPicked, left_at, picked, pick_of, filled_with}
use Rattle.lt_device.specs.Moments.{MayLeave}
use Rattle.lt_device.proofs.Images.{block_at-set_same, block_at-set_other, both_past}
use Rattle.lt_device.proofs.Histories.{IsStable}

-- a page that is filled as a whole
pub filled_whole : (page : List ℕ) (byte : ℕ) → length page ≡ 4096 → filled page 0 (replicate 4096 byte) ≡ filled_with byte
unfolding filled_with
filled_whole page byte len =
    let long = length-replicate 4096 byte in
    ap (λ rest. replicate 4096 byte ++ rest) (drop_all (0 + length (replicate 4096 byte)) page (omega arith)) ∙ append-nil (replicate 4096 byte)

-- the picks were followed below block i, with as many of them taken
pub record Followed (picks : List Pick) (flags : List Bool) (stable shown pages : Image) (i next : ℕ) : Type 0 where
  pub before : (k : ℕ) → k < i → block_at pages k ≡ left_at picks flags stable shown k
  pub after : (k : ℕ) → i ≤ k → block_at pages k ≡ block_at stable k
  pub blocks : AreBlocks pages
  pub count : next ≡ count_by (λ (flag : Bool). flag) (take i flags)
  pub few : next ≤ i

-- a block that is synced
pub Followed-sure : (picks : List Pick) (flags : List Bool) (stable shown pages : Image) (i next : ℕ) → i < length flags → get_or flags i false ≡ false → Followed picks flags stable shown pages i next → Followed picks flags stable shown pages (i + 1) next
Followed-sure picks flags stable shown pages i next below off so_far = record {
  before = λ k lt. elim (cases_eq k i) [
    | inl same ↦ subst (λ j. block_at pages j ≡ left_at picks flags stable shown j) (sym same)
        (so_far.after i (omega arith) ∙ sym (ap (λ b. cond b (picked (pick_of picks flags i) (block_at stable i) (block_at shown i)) (block_at stable i)) off))
    | inr other ↦ so_far.before k (omega arith)
  ];
  after = λ k le. so_far.after k (omega arith);
  blocks = so_far.blocks;
  count = so_far.count ∙ sym (count_by_more_no (λ (flag : Bool). flag) flags i false below off);
  few = omega (arith, so_far.few);
}

-- a block that is not
pub Followed-unsure : (picks : List Pick) (flags : List Bool) (stable shown pages : Image) (i next : ℕ) (page : List ℕ) → i < length flags → i < length pages → get_or flags i false ≡ true
    → page ≡ picked (get_or picks next Stable) (block_at pages i) (block_at shown i) → IsBlock page → Followed picks flags stable shown pages i next → Followed picks flags stable shown (set pages i page) (i + 1) (next + 1)
Followed-unsure picks flags stable shown pages i next page below inside on is whole so_far = record {
  before = λ k lt. elim (cases_eq k i) [
    | inl same ↦ subst (λ j. block_at (set pages i page) j ≡ left_at picks flags stable shown j) (sym same)
        (block_at-set_same pages i page inside ∙ is
        ∙ ap (λ n. picked (get_or picks n Stable) (block_at pages i) (block_at shown i)) so_far.count
        ∙ ap (λ p. picked (pick_of picks flags i) p (block_at shown i)) (so_far.after i (omega arith))
        ∙ sym (ap (λ b. cond b (picked (pick_of picks flags i) (block_at stable i) (block_at shown i)) (block_at stable i)) on))
    | inr other ↦ block_at-set_other pages i k page other ∙ so_far.before k (omega arith)
  ];
  after = λ k le. block_at-set_other pages i k page (λ same. omega arith) ∙ so_far.after k (omega arith);
  blocks = All-set IsBlock pages i page whole so_far.blocks;
  count = ap (λ n. n + 1) so_far.count ∙ sym (count_by_more_yes (λ (flag : Bool). flag) flags i false below on);
  few = omega (arith, so_far.few);
}

-- the image that the picks name
pub IsPicked-each : (picks : List Pick) (d : Memory) (left : Image) → IsStable d.unsynced d.stable d.shown → length left ≡ length d.shown → length d.unsynced ≡ length d.shown
    → ((k : ℕ) → k < length d.stable → block_at left k ≡ left_at picks d.unsynced d.stable d.shown k) → IsPicked picks d left
IsPicked-each picks d left stable size long each = record {
  size = size;
  synced = λ k off. elim (cases_lt k (length d.shown)) [
    | inl below ↦ each k (omega (arith, stable.size)) ∙ ap (λ b. cond b (picked (pick_of picks d.unsynced k) (block_at d.stable k) (block_at d.shown k)) (block_at d.stable k)) off ∙ stable.sure k below off
    | inr past ↦ both_past left d.shown k (omega arith) past
  ];
  unsynced = λ k on. elim (cases_lt k (length d.shown)) [
    | inl below ↦ each k (omega (arith, stable.size)) ∙ ap (λ b. cond b (picked (pick_of picks d.unsynced k) (block_at d.stable k) (block_at d.shown k)) (block_at d.stable k)) on
    | inr past ↦ let off : get_or d.unsynced k false ≡ false = get_or_past d.unsynced k false (omega arith) in absurd (cc (on, off))
  ];
}

-- is one that a crash may leave
pub MayLeave-picked : (picks : List Pick) (d : Memory) (left : Image) → IsPicked picks d left → AreBlocks left → MayLeave (memory_state d) left
MayLeave-picked picks d left is blocks = record {
  shown = d.shown;
  unsynced = d.unsynced;
  shown_is = refl;
  unsynced_is = refl;
  crash = record { size = is.size; kept = is.synced; pages = blocks };
}
