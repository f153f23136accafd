-- Stores that are as large, and a get that stops in one of them.
use Rattle.std.proofs.Common.{◌≡◌, ℕ, refl, ◌∙◌, ap}
use Rattle.std.specs.Option.{ForSome}
use Rattle.lt_device.specs.State as told
use Rattle.lt_format.specs.Layout.{blocks_needed}
use Rattle.lt_image.specs.Versions.{Opened, open_image}
use Rattle.lt_store.specs.Open.{SameRegions, StoreView, extents_of}
use Rattle.lt_store.specs.Reading.{Reads}
use Rattle.lt_serve.specs.Promise.{FoundByGet, StopsSomeGet}
use Rattle.lt_serve.specs.Sizes.{SameSizes}
use Rattle.lt_serve.proofs.ResultLaws.{one-ok}

pub sizes-same : (v : StoreView) → SameSizes v v
sizes-same v = record { geometry = refl; extents = refl; blocks = refl }

pub sizes-more : (v w x : StoreView) → SameSizes v w → SameSizes w x → SameSizes v x
sizes-more v w x first then = record { geometry = then.geometry ∙ first.geometry; extents = then.extents ∙ first.extents; blocks = then.blocks ∙ first.blocks }

pub sizes-regions : (v w : StoreView) → SameRegions v w → SameSizes v w
sizes-regions v w same = record {
  geometry = same.geometry;
  extents = same.extents;
  blocks = ap (λ g. blocks_needed g (extents_of w)) same.geometry ∙ ap (blocks_needed v.named.geometry) same.extents;
}

pub stops-same : (v w : StoreView) (block : ℕ) (now : told.State) → SameSizes v w → StopsSomeGet w.named.geometry (extents_of w) block now → StopsSomeGet v.named.geometry (extents_of v) block now
stops-same v w block now same s = record {
  key = s.key;
  named = s.named;
  geometry_is = s.geometry_is ∙ same.geometry;
  extents_are = s.extents_are ∙ same.extents;
  stops = s.stops;
}

-- in a store that a device opened as
pub found-by-get : (v : StoreView) (old : told.State) (block : ℕ) (now : told.State) → ForSome old.shown (Reads v) → StopsSomeGet v.named.geometry (extents_of v) block now → FoundByGet old block now
found-by-get v old block now reads s = record {
  geometry = v.named.geometry;
  extents = extents_of v;
  opened = λ image opened shown opens.
      let r = reads image shown in
      let one : r.opened ≡ opened = one-ok (open_image image) r.opened opened r.opens opens in
      let names : v.named ≡ opened.named = r.named_is ∙ ap (λ (o : Opened). o.named) one in
      (ap (λ n. n.geometry) names, ap (λ n. n.manifest.header.extents) names);
  get = s;
}
