-- With no pile left to begin a job at, the images that a crash may leave are settled, or exhausted.
use Rattle.std.proofs.Common.{◌≡◌, ◌∙◌, ℕ, false, None, Bool}
use Rattle.std.specs.Prelude.{IsTrue}
use Rattle.std.specs.List.{list_any}
use Rattle.lt_terms.specs.Bytes.{Image}
use Rattle.lt_device.specs.Moments.{MayLeave}
use Rattle.lt_device.specs.State as told
use Rattle.lt_language.specs.Machine.{State}
use Rattle.lt_format.specs.Snapshot.{Named}
use Rattle.lt_format.specs.Trie.{named}
use Rattle.lt_image.specs.After.{SameExtents}
use Rattle.lt_image.specs.Needs.{is_exhausted, is_paced, is_settled, is_twice_full}
use Rattle.lt_image.proofs.PressureLaws.{exhausted-same, paced-same, settled-same}
use Rattle.lt_pace.specs.Candidates.{next_full}
use Rattle.lt_pace.proofs.CandidateLaws.{settled-paced, small-paced}
use Rattle.lt_work.specs.declared.advancing.Wanted.TheVariants as wants
use Rattle.lt_work.specs.Advancing.{next_wanted}
use Rattle.lt_work.proofs.EndLaws.{exhausted-image, settled-image}
use Rattle.lt_store.specs.Kept.{IsKept}
use Rattle.lt_store.specs.Open.{IsOpen, StoreView}
use Rattle.lt_store.specs.Pressing.{LeavesAll, Passes}
use Rattle.lt_store.proofs.FullLaws.{image-opens, opened_of}
use Rattle.lt_store.proofs.MomentLaws.{open-same}

-- a test that rests on the manifest and on the extents that it names
abbrev IsLocal : (Named → Image → Bool) → Type 0
IsLocal test = (m : Named) (old new : Image) → SameExtents m.geometry old new (named m.manifest.trie) → test m new ≡ test m old

-- all images that a crash may leave pass it where the one does that the device shows
all-pass : (test : Named → Image → Bool) (v : StoreView) (d : State) (s : told.State) (filters : ℕ) → IsLocal test → (o : IsOpen v d s) → IsKept v.named v.log v.memory v.taken filters v.writes v.work → IsTrue (test v.named o.rest.image) → LeavesAll test s
all-pass test v d s filters local o k holds left may = record {
  opened = opened_of v o.groups;
  opens = image-opens v d s filters o k left may;
  passes = local v.named o.rest.image left (open-same v d s o left may).named.kept ∙ holds;
}

module _ (v : StoreView) (d : State) (s : told.State) (filters : ℕ) (o : IsOpen v d s) (k : IsKept v.named v.log v.memory v.taken filters v.writes v.work) where
  -- WITH NO FULL PILE LEFT they are settled
  pub open-settled : next_full v.named.geometry.levels v.named.manifest.trie v.work.passed_over ≡ None → LeavesAll is_settled s
  open-settled none = all-pass is_settled v d s filters settled-same o k (settled-image v.named o.rest.image v.named.manifest.header.extents v.work k.manifest.trie o.work none)

  -- AND PACED
  pub open-settled-paced : next_full v.named.geometry.levels v.named.manifest.trie v.work.passed_over ≡ None → LeavesAll is_paced s
  open-settled-paced none = all-pass is_paced v d s filters paced-same o k (settled-paced v.named o.rest.image (settled-image v.named o.rest.image v.named.manifest.header.extents v.work k.manifest.trie o.work none))

  -- WITH NO PILE LEFT that may have slack either they are exhausted
  pub open-exhausted : next_wanted wants.Slack v.named.geometry.levels v.named.manifest.trie v.work ≡ None → LeavesAll is_exhausted s
  open-exhausted none = all-pass is_exhausted v d s filters exhausted-same o k (exhausted-image v.named o.rest.image v.named.manifest.header.extents v.work k.manifest.trie o.work none)

  -- WITH NO PILE that is twice full they are paced
  pub open-small-paced : list_any (is_twice_full v.named.geometry.levels) v.named.manifest.trie ≡ false → LeavesAll is_paced s
  open-small-paced small = all-pass is_paced v d s filters paced-same o k (small-paced v.named o.rest.image small)
