-- How large a store is, which no call changes.
use Rattle.std.specs.Prelude.{◌≡◌}
use Rattle.lt_store.specs.Open.{StoreView, blocks_of, extents_of}

-- both stores have the same geometry, and as many extents and blocks
pub record SameSizes (v w : StoreView) : Type 0 where
  pub geometry : w.named.geometry ≡ v.named.geometry
  pub extents : extents_of w ≡ extents_of v
  pub blocks : blocks_of w ≡ blocks_of v
