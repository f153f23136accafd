-- No two regions share a block.
use Rattle.std.proofs.Common.{◌≡◌, ℕ, zero, suc, ◌<◌, refl, ap, ◌∙◌, arith, ◌≤◌, true, ◌&&◌, nat_le}
use Rattle.std.proofs.lemmas.Bool.{and_parts, leb-true}
use Rattle.lt_format.specs.declared.geometry.Geometry.{Geometry}
use Rattle.lt_format.specs.Layout.{blocks_needed, is_geometry}
use Rattle.lt_format.specs.Regions.{Region, superblock, selector, snapshot, edit_slot, log_slot, extent, IsRegion, IsIn}

pub regions-apart : (g : Geometry) (extents n : ℕ) (r s : Region) → IsRegion g extents r → IsRegion g extents s → IsIn g n r → IsIn g n s → r ≡ s
regions-apart g extents n superblock superblock a b x y = refl
regions-apart g extents n superblock s a b x y = absurd (omega arith)
regions-apart g extents n selector selector a b x y = refl
regions-apart g extents n selector s a b x y = absurd (omega arith)
regions-apart g extents n (snapshot i) (snapshot j) a b x y = ap snapshot (omega arith)
regions-apart g extents n (snapshot i) s a b x y = absurd (omega arith)
regions-apart g extents n (edit_slot i k) (edit_slot j l) a b x y = ap (λ m. edit_slot m k) (omega arith) ∙ ap (edit_slot j) (omega arith)
regions-apart g extents n (edit_slot i k) s a b x y = absurd (omega arith)
regions-apart g extents n (log_slot zero k) (log_slot zero l) a b x y = ap (log_slot 0) (omega arith)
regions-apart g extents n (log_slot (suc zero) k) (log_slot (suc zero) l) a b x y = ap (log_slot 1) (omega arith)
regions-apart g extents n (log_slot zero k) s a b x y = absurd (omega arith)
regions-apart g extents n (log_slot (suc zero) k) s a b x y = absurd (omega arith)
regions-apart g extents n (log_slot (suc (suc i)) k) s a b x y = absurd (omega arith)
regions-apart g extents n (extent i) (extent j) a b x y = ap extent (omega arith)
regions-apart g extents n (extent i) (log_slot zero l) a b x y = absurd (omega arith)
regions-apart g extents n (extent i) (log_slot (suc zero) l) a b x y = absurd (omega arith)
regions-apart g extents n (extent i) s a b x y = absurd (omega arith)

pub regions-within : (g : Geometry) (extents n : ℕ) (r : Region) → IsRegion g extents r → IsIn g n r → n < blocks_needed g extents
regions-within g extents n (log_slot zero k) a x = omega arith
regions-within g extents n (log_slot (suc zero) k) a x = omega arith
regions-within g extents n (log_slot (suc (suc i)) k) a x = absurd (omega arith)
regions-within g extents n r a x = omega arith

-- a geometry has two levels or more
pub geometry-deep : (g : Geometry) → is_geometry g ≡ true → 2 ≤ g.levels
geometry-deep g valid =
    let most = and_parts (nat_le 2 g.levels && nat_le g.levels 5 && nat_le 1 g.slots) (nat_le g.slots 512) valid in
    let some = and_parts (nat_le 2 g.levels && nat_le g.levels 5) (nat_le 1 g.slots) most.0 in
    leb-true 2 g.levels (and_parts (nat_le 2 g.levels) (nat_le g.levels 5) some.0).0
