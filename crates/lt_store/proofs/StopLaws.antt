-- The blocks that a get stops at.
use Rattle.std.proofs.Common.{◌≡◌, ℕ, ◌<◌, refl, sym, ap, subst, ◌∙◌, List, [], ◌∷◌, Bool, true, false, Option}
use Rattle.std.specs.Prelude.{nat_lt, ◌==◌, ◌||◌}
use Rattle.std.specs.List.{AllByRecursion}
use Rattle.std.proofs.lemmas.Bool.{and_parts, ltb-true, eqb-true}
use Rattle.lt_terms.specs.Bytes.{Image, is_in}
use Rattle.lt_tables.specs.Bucket.{bucket_of}
use Rattle.lt_format.specs.Snapshot.{Named}
use Rattle.lt_format.specs.Trie.{all_below, named, node_at, path}
use Rattle.lt_htable.specs.Reading.{IsNoBucket}
use Rattle.lt_image.proofs.MapLaws.{named-tables}
use Rattle.lt_manifest.specs.Promise as manifests
use Rattle.lt_search.specs.Seen.{IsBucketOnPath}
use Rattle.lt_store.specs.Promise.{StopsGet}

all_in : (P : ℕ → Type 0) (xs : List ℕ) (x : ℕ) → AllByRecursion P xs → is_in x xs ≡ true → P x
all_in P [] x all there = cc
all_in P (y ∷ ys) x all there = by_head (y == x) refl there (all_in P ys x all.1)
  where
    by_head : (b : Bool) → (y == x) ≡ b → (b || is_in x ys) ≡ true → (is_in x ys ≡ true → P x) → P x
    by_head true is there later = subst P (eqb-true y x is) all.0
    by_head false is there later = later there

below_all : (n : ℕ) (xs : List ℕ) → all_below n xs ≡ true → AllByRecursion (λ x. x < n) xs
below_all n [] all = tt
below_all n (x ∷ xs) all = let parts = and_parts (nat_lt x n) (all_below n xs) all in (ltb-true x n parts.0, below_all n xs parts.1)

-- what a kept manifest names are extents of the store
pub named-below : (n : Named) → manifests.IsKept n → AllByRecursion (λ x. x < n.manifest.header.extents) (named n.manifest.trie)
named-below n k = below_all n.manifest.header.extents (named n.manifest.trie) k.trie.below

-- a block of the tables on a key's path that spells no bucket stops a get of the key
pub path-stops : (n : Named) → manifests.IsKept n → (shown : Option Image) (key : List ℕ) (block : ℕ) → IsNoBucket shown block → IsBucketOnPath n.geometry n.manifest.trie key block → StopsGet n shown key block
path-stops n k shown key block none on = record {
  level = on.level;
  deep = on.deep;
  extent = on.bucket.number;
  on_path = on.bucket.among;
  within = all_in (λ x. x < n.manifest.header.extents) (node_at n.manifest.trie (path key on.level)).tables on.bucket.number
      (named-tables (λ x. x < n.manifest.header.extents) n.manifest.trie (path key on.level) (named-below n k)) on.bucket.among;
  column = on.bucket.column;
  in_buckets = on.bucket.within;
  is = on.bucket.is;
  damaged = λ image told. ap bucket_of (sym (none.read image told)) ∙ none.spells_none;
}
