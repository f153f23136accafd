-- The newest items of versions, and their parts by digit and kind; versions are items in order, the oldest first. The
-- 65 blocks of a table: 64 buckets and the filter block; the blocks of an extent are a function of their number in it.
use Rattle.std.specs.Prelude.{ℕ, Bool, true, false, List, [], ◌∷◌, map, Option, Some, None, ◌||◌, ◌==◌, if◌then◌else◌}
use Rattle.std.specs.Prelude.{◌≡◌, ◌+◌, ◌<◌, ◌&&◌, nat_le}
use Rattle.std.specs.FinMap.{put}
use Rattle.std.specs.List.{filter, fold, last_or, list_any, flat_map}
use Rattle.lt_terms.specs.Bytes.{same_bytes, Image, block_at}
use Rattle.lt_terms.specs.Items.{Item}
use Rattle.lt_terms.specs.Hashes.{key_digit, rank_cmp, home_column, key_suffix}
use Rattle.lt_terms.specs.declared.Kind.TheVariants.{Put, Delete}
use Rattle.lt_tables.specs.declared.Sends.{Sends}
use Rattle.lt_tables.specs.declared.ColumnPlan.{ColumnPlan}
use Rattle.lt_tables.specs.Bucket.{Bucket, bucket_of, items_on}
use Rattle.lt_tables.specs.Filter.{filter_block}
use Rattle.lt_tables.specs.Placement.{columns, plan_at, placement_of}

-- the versions of a key
abbrev pub versions_of : List ℕ → List Item → List Item
versions_of key vs = filter (λ (v : Item). same_bytes v.key key) vs

-- the newest version of a key
abbrev pub newest_of : List ℕ → List Item → Option Item
newest_of key vs = last_or None (versions_of key vs)

-- the version is a put and no delete
abbrev pub is_put : Item → Bool
is_put v = elim v.kind [ Put ↦ true | Delete ↦ false ]

-- what a version leaves of its key: a value or nothing
abbrev pub value_of : Option Item → Option (List ℕ)
value_of None = None
value_of (Some v) = if is_put v then Some v.value else None

-- the newest version of each key, under its key, in rank order
abbrev pub ranked : List Item → List (List ℕ × Item)
ranked vs = fold (λ es (v : Item). put rank_cmp v.key v es) [] vs

-- the newest version of each key, in rank order
abbrev pub newest : List Item → List Item
newest vs = map (λ e. e.1) (ranked vs)

-- the items whose digit at this level is d, in their order
abbrev pub with_digit : ℕ → ℕ → List Item → List Item
with_digit level d items = filter (λ (v : Item). key_digit v.key level == d) items

-- the puts among the items, in their order
abbrev pub without_deletes : List Item → List Item
without_deletes items = filter is_put items

-- some key stands twice among the items
abbrev pub has_two_versions : List Item → Bool
has_two_versions [] = false
has_two_versions (v ∷ vs) = list_any (λ (w : Item). same_bytes w.key v.key) vs || has_two_versions vs

-- the blocks of an extent from its first block on
abbrev pub blocks_from : Image → ℕ → ℕ → List ℕ
blocks_from image first c = block_at image (first + c)

-- the column whose bucket holds the item: its home, or the target where it is sent
abbrev pub place_of : List ColumnPlan → Item → ℕ
place_of plans item =
    let plan = plan_at plans (home_column item.key) in
    if plan.sends && nat_le plan.mark (key_suffix item.key) then plan.target else home_column item.key

-- where a column's bucket says that it sends
abbrev pub sends_in : ColumnPlan → Option Sends
sends_in plan = if plan.sends then Some (record { target = plan.target; mark = plan.mark }) else None

-- bucket c of a table with these items, which have distinct keys: in rank order those that lie there
abbrev pub bucket_in : List ColumnPlan → List Item → ℕ → Bucket
bucket_in plans items c =
    record { sends = sends_in (plan_at plans c); items = filter (λ item. place_of plans item == c) (newest items) }

-- the blocks are those of the table of these items
pub record IsPlaced (items : List Item) (block : ℕ → List ℕ) : Type 0 where
  pub plans : List ColumnPlan
  pub placement : placement_of items ≡ Some plans
  pub buckets : (c : ℕ) → c < 64 → bucket_of (block c) ≡ Some (bucket_in plans items c)
  pub filters : block 64 ≡ filter_block items

-- all items of the 64 buckets, bucket after bucket
abbrev pub table_items : (ℕ → List ℕ) → List Item
table_items block = flat_map (λ c. items_on (block c)) columns
