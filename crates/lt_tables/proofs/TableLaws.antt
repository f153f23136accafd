-- The items of a table that is placed are those that were placed.
use Rattle.std.proofs.Common.{◌≡◌, ℕ, zero, suc, ◌+◌, ◌<◌, ◌≤◌, refl, sym, ap, ◌∙◌, List, [], ◌∷◌, ◌++◌, true, cond, Option, Some, None, arith, eq-eqb, ne_eqb, ⊎_elim}
use Rattle.std.specs.Prelude.{◌==◌, ◌&&◌, nat_lt}
use Rattle.std.specs.List.{flat_map, filter, last_or, range_with_len, list_all}
use Rattle.std.specs.Option.{option_to_list, option_map_or}
use Rattle.std.proofs.lemmas.Bool.{cases_eq}
use Rattle.std.proofs.lemmas.List.Elements.{filter-append}
use Rattle.lt_terms.specs.Bytes.{same_bytes}
use Rattle.lt_terms.specs.Items.{Item, is_valid, total_cost}
use Rattle.lt_tables.specs.declared.Sends.{Sends}
use Rattle.lt_tables.specs.declared.ColumnPlan.{ColumnPlan}
use Rattle.lt_tables.specs.Bucket.{Bucket, capacity, bucket_of, items_on}
use Rattle.lt_tables.specs.Placement.{columns}
use Rattle.lt_tables.specs.Table.{versions_of, newest_of, newest, place_of, bucket_in, table_items}
use Rattle.lt_tables.specs.Alike.{SameNewest, HasOnce}
use Rattle.lt_tables.proofs.NewestLaws.{filters_swap, last_of_option, versions_of-newest}

-- what a bucket asks
pub record Fits (b : Bucket) : Type 0 where
  pub valid : list_all is_valid b.items ≡ true
  pub small : total_cost b.items ≤ capacity
  pub sending : option_map_or (λ (s : Sends). nat_lt s.target 64 && nat_lt s.mark 4294967296) b.sends true ≡ true

-- each item lies in one of the 64 columns, and each column's bucket fits
pub record PlansFit (plans : List ColumnPlan) (items : List Item) : Type 0 where
  pub within : (v : Item) → place_of plans v < 64
  pub fit : (c : ℕ) → c < 64 → Fits (bucket_in plans items c)

-- ---- one bucket

items_on-placed : (plans : List ColumnPlan) (items : List Item) (block : ℕ → List ℕ) (c : ℕ) → bucket_of (block c) ≡ Some (bucket_in plans items c) → items_on (block c) ≡ filter (λ v. place_of plans v == c) (newest items)
items_on-placed plans items block c is = ap (λ o. option_map_or (λ (b : Bucket). b.items) o []) is

pub flat_map-range : {A : Type 0} (f g : ℕ → List A) (a n : ℕ) → ((c : ℕ) → c < a + n → f c ≡ g c) → flat_map f (range_with_len a n) ≡ flat_map g (range_with_len a n)
flat_map-range f g a zero h = refl
flat_map-range f g a (suc n) h = ap (λ xs. xs ++ flat_map f (range_with_len (a + 1) n)) (h a (omega arith)) ∙ ap (λ xs. g a ++ xs) (flat_map-range f g (a + 1) n (λ c small. h c (omega arith)))

-- the items of a placed table, bucket after bucket
pub table_items-placed : (plans : List ColumnPlan) (items : List Item) (block : ℕ → List ℕ) → ((c : ℕ) → c < 64 → bucket_of (block c) ≡ Some (bucket_in plans items c))
    → table_items block ≡ flat_map (λ c. filter (λ v. place_of plans v == c) (newest items)) columns
unfolding columns
table_items-placed plans items block buckets = flat_map-range (λ c. items_on (block c)) (λ c. filter (λ v. place_of plans v == c) (newest items)) 0 64 (λ c small. items_on-placed plans items block c (buckets c (omega arith)))

-- ---- spread over columns

-- the versions of a key in a spread list are its versions spread
versions_spread : (key : List ℕ) (place : Item → ℕ) (xs : List Item) (cs : List ℕ) → versions_of key (flat_map (λ c. filter (λ v. place v == c) xs) cs) ≡ flat_map (λ c. filter (λ v. place v == c) (versions_of key xs)) cs
versions_spread key place xs [] = refl
versions_spread key place xs (c ∷ cs) =
    filter-append (λ (v : Item). same_bytes v.key key) (filter (λ v. place v == c) xs) (flat_map (λ c. filter (λ v. place v == c) xs) cs)
    ∙ ap (λ ys. ys ++ versions_of key (flat_map (λ c. filter (λ v. place v == c) xs) cs)) (filters_swap (λ v. same_bytes v.key key) (λ v. place v == c) xs)
    ∙ ap (λ ys. filter (λ v. place v == c) (versions_of key xs) ++ ys) (versions_spread key place xs cs)

none_spread : (place : Item → ℕ) (cs : List ℕ) → flat_map (λ c. filter (λ v. place v == c) []) cs ≡ []
none_spread place [] = refl
none_spread place (c ∷ cs) = none_spread place cs

-- one item stands in no column past its own
past : (p : ℕ) (v : Item) (a n : ℕ) → p < a → flat_map (λ c. cond (p == c) (v ∷ []) []) (range_with_len a n) ≡ []
past p v a zero h = refl
past p v a (suc n) h =
    ap (λ b. cond b (v ∷ []) [] ++ flat_map (λ c. cond (p == c) (v ∷ []) []) (range_with_len (a + 1) n)) (ne_eqb p a (λ e. absurd (omega arith)))
    ∙ past p v (a + 1) n (omega arith)

once : (p : ℕ) (v : Item) (a n : ℕ) → a ≤ p → p < a + n → flat_map (λ c. cond (p == c) (v ∷ []) []) (range_with_len a n) ≡ v ∷ []
once p v a zero low high = absurd (omega arith)
once p v a (suc n) low high =
    ⊎_elim
    (λ (is : p ≡ a). ap (λ b. cond b (v ∷ []) [] ++ flat_map (λ c. cond (p == c) (v ∷ []) []) (range_with_len (a + 1) n)) (eq-eqb p a is) ∙ ap (λ xs. v ∷ xs) (past p v (a + 1) n (omega arith)))
    (λ (other : p ≡ a → ⊥). ap (λ b. cond b (v ∷ []) [] ++ flat_map (λ c. cond (p == c) (v ∷ []) []) (range_with_len (a + 1) n)) (ne_eqb p a other) ∙ once p v (a + 1) n (above other) (omega arith))
    (cases_eq p a)
  where
    above : (p ≡ a → ⊥) → a + 1 ≤ p
    above other = omega arith

option_spread : (place : Item → ℕ) (o : Option Item) → ((v : Item) → place v < 64) → flat_map (λ c. filter (λ v. place v == c) (option_to_list o)) columns ≡ option_to_list o
unfolding columns
option_spread place None within = none_spread place (range_with_len 0 64)
option_spread place (Some v) within = once (place v) v 0 64 (omega arith) (let h = within v in omega arith)

-- the versions of a key in a placed table: its newest version alone
pub versions_of-placed : (plans : List ColumnPlan) (items : List Item) (block : ℕ → List ℕ) (key : List ℕ) → ((v : Item) → place_of plans v < 64) → ((c : ℕ) → c < 64 → bucket_of (block c) ≡ Some (bucket_in plans items c))
    → versions_of key (table_items block) ≡ option_to_list (newest_of key items)
versions_of-placed plans items block key within buckets =
    ap (versions_of key) (table_items-placed plans items block buckets)
    ∙ versions_spread key (place_of plans) (newest items) columns
    ∙ ap (λ xs. flat_map (λ c. filter (λ v. place_of plans v == c) xs) columns) (versions_of-newest key items)
    ∙ option_spread (place_of plans) (newest_of key items) within

-- A PLACED TABLE holds what was placed
pub SameNewest-placed : (plans : List ColumnPlan) (items : List Item) (block : ℕ → List ℕ) → ((v : Item) → place_of plans v < 64) → ((c : ℕ) → c < 64 → bucket_of (block c) ≡ Some (bucket_in plans items c)) → SameNewest (table_items block) items
SameNewest-placed plans items block within buckets = record { each = λ key. ap (last_or None) (versions_of-placed plans items block key within buckets) ∙ last_of_option (newest_of key items) }

-- each key once
pub HasOnce-placed : (plans : List ColumnPlan) (items : List Item) (block : ℕ → List ℕ) → ((v : Item) → place_of plans v < 64) → ((c : ℕ) → c < 64 → bucket_of (block c) ≡ Some (bucket_in plans items c)) → HasOnce (table_items block)
HasOnce-placed plans items block within buckets = record { each = λ key. versions_of-placed plans items block key within buckets ∙ ap option_to_list (sym ((SameNewest-placed plans items block within buckets).each key)) }
