-- Blocks of an extent that are written one after another.
use Rattle.std.proofs.Common.{◌≡◌, ◌≢◌, ℕ, ◌+◌, ◌<◌, ◌≤◌, sym, ap, subst, ◌∙◌, List, [], Some, arith, ⊎_elim}
use Rattle.std.proofs.lemmas.Bool.{cases_eq}
use Rattle.lt_terms.specs.Bytes.{Image, block_at}
use Rattle.lt_terms.specs.Items.{Item}
use Rattle.lt_device.specs.State.{State, IsFit, Wrote, written}
use Rattle.lt_device.proofs.Steps.{written_is, written_shown}
use Rattle.std.proofs.lemmas.List.{get_or-set_other}
use Rattle.lt_tables.specs.declared.ColumnPlan.{ColumnPlan}
use Rattle.lt_tables.specs.Bucket.{bucket_of}
use Rattle.lt_tables.specs.Filter.{filter_block}
use Rattle.lt_tables.specs.Placement.{placement_of}
use Rattle.lt_tables.specs.Table.{blocks_from, bucket_in, IsPlaced}
use Rattle.lt_htable.specs.Building.{HasBuckets}

-- blocks that a write leaves
left_alone : (b : ℕ) (old new : State) (page : List ℕ) → new ≡ written old b page → (image : Image) → new.shown ≡ Some image
    → (before : Image) × (old.shown ≡ Some before) × ((k : ℕ) → k ≢ b → block_at image k ≡ block_at before k)
left_alone b old new page is image shown =
    let was = written_is b old new page is image shown in
    (was.0, was.1, λ k other. ap (λ (i : Image). block_at i k) was.2 ∙ get_or-set_other was.0 b k page [] other)

-- the buckets that were written before stay
buckets-stay : (plans : List ColumnPlan) (items : List Item) (first n number : ℕ) (old new : State) (page : List ℕ) → n ≤ number → new ≡ written old (first + number) page
    → HasBuckets plans items first n old.shown → HasBuckets plans items first n new.shown
buckets-stay plans items first n number old new page high is has = record {
  each = λ image shown c small.
      let was = left_alone (first + number) old new page is image shown in
      let other : first + c ≢ first + number = omega arith in
      ap bucket_of (was.2 (first + c) other) ∙ has.each was.0 was.1 c small;
}

-- one bucket more
pub buckets-more : (plans : List ColumnPlan) (items : List Item) (first n blocks b : ℕ) (old new : State) (page : List ℕ) → b ≡ first + n → b < blocks → IsFit blocks old → new ≡ written old b page → bucket_of page ≡ Some (bucket_in plans items n)
    → HasBuckets plans items first n old.shown → HasBuckets plans items first (n + 1) new.shown
buckets-more plans items first n blocks b old new page at below fit is spelled has =
    let is_there : new ≡ written old (first + n) page = subst (λ k. new ≡ written old k page) at is in
    let stay = buckets-stay plans items first n n old new page (omega arith) is_there has in
    record {
      each = λ image shown c small. ⊎_elim
          (λ (same : c ≡ n). subst (λ k. bucket_of (blocks_from image first k) ≡ Some (bucket_in plans items k)) (sym same)
          (ap bucket_of (written_shown blocks (first + n) old new page fit (omega arith) is_there image shown) ∙ spelled))
          (λ (other : c ≡ n → ⊥). let lower : c < n = omega arith in stay.each image shown c lower)
          (cases_eq c n);
    }

-- with its filters the table is whole
pub placed-whole : (plans : List ColumnPlan) (items : List Item) (first blocks b : ℕ) (old new : State) → b ≡ first + 64 → b < blocks → IsFit blocks old → new ≡ written old b (filter_block items) → placement_of items ≡ Some plans
    → HasBuckets plans items first 64 old.shown → (image : Image) → new.shown ≡ Some image → IsPlaced items (blocks_from image first)
placed-whole plans items first blocks b old new at below fit is placed has image shown =
    let is_there : new ≡ written old (first + 64) (filter_block items) = subst (λ k. new ≡ written old k (filter_block items)) at is in
    record {
      plans = plans;
      placement = placed;
      buckets = (buckets-stay plans items first 64 64 old new (filter_block items) (omega arith) is_there has).each image shown;
      filters = written_shown blocks (first + 64) old new (filter_block items) fit (omega arith) is_there image shown;
    }

pub same_past : {n b : ℕ} {old new : State} → Wrote n b old new → new.past ≡ old.past
same_past {n} {b} {old} {new} wrote = ap (λ (s : State). s.past) wrote.is
