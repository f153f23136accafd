-- What a key has in the map that versions make: the value of its newest version.
use Rattle.std.proofs.Common.{◌≡◌, ℕ, refl, sym, ap, ◌∙◌, List, [], ◌∷◌, Bool, true, false, cond, Option, Some, None}
use Rattle.std.specs.Ordering.{nat_cmp, eq_by_cmp}
use Rattle.std.specs.Cmp.Lexicographic.{slice_cmp, nat_list_cmp_total, texts_ties}
use Rattle.std.proofs.lemmas.Cmp.{eq_by_cmp_equiv}
use Rattle.std.specs.FinMap.{get-insert, get-remove, get-empty}
use Rattle.std.specs.List.{last_or}
use Rattle.lt_terms.specs.declared.Kind.{Kind}
use Rattle.lt_terms.specs.declared.Kind.TheVariants.{Put, Delete}
use Rattle.lt_terms.specs.Bytes.{same_bytes}
use Rattle.lt_terms.specs.Items.{Item, Map, applied, applied_as, after_items, value_at, empty_map}
use Rattle.lt_tables.specs.Table.{versions_of, newest_of, value_of}

-- the value of the newest of these versions, or what stood before where there is none
abbrev pub newest_value : Option (List ℕ) → Option Item → Option (List ℕ)
newest_value before None = before
newest_value before (Some v) = value_of (Some v)

at_none : (o : Option Item) → newest_value None o ≡ value_of o
at_none None = refl
at_none (Some v) = refl

-- the order's test on keys is equality of bytes
key_ties : (a b : List ℕ) → eq_by_cmp (slice_cmp nat_cmp) a b ≡ same_bytes b a
key_ties a b = (eq_by_cmp_equiv nat_list_cmp_total).symm a b ∙ sym (texts_ties b a)

get_applied_as : (kind : Kind) (map : Map) (k value key : List ℕ) → value_at (applied_as kind map k value) key ≡ cond (same_bytes k key) (value_of (Some (record { kind = kind; key = k; value = value }))) (value_at map key)
get_applied_as Put map k value key = get-insert nat_list_cmp_total map k value key ∙ ap (λ b. cond b (Some value) (value_at map key)) (key_ties key k)
get_applied_as Delete map k value key = get-remove nat_list_cmp_total map k key ∙ ap (λ b. cond b None (value_at map key)) (key_ties key k)

-- what a key has after one more item
pub get_applied : (map : Map) (item : Item) (key : List ℕ) → value_at (applied map item) key ≡ cond (same_bytes item.key key) (value_of (Some item)) (value_at map key)
get_applied map item key = get_applied_as item.kind map item.key item.value key

some_last : (a b : Option (List ℕ)) (x : Item) (xs : List Item) → newest_value a (last_or (Some x) xs) ≡ newest_value b (last_or (Some x) xs)
some_last a b x [] = refl
some_last a b x (y ∷ ys) = some_last a b y ys

last_step : (before : Option (List ℕ)) (o : Option Item) (xs : List Item) → newest_value (newest_value before o) (last_or None xs) ≡ newest_value before (last_or o xs)
last_step before o [] = refl
last_step before o (x ∷ xs) = some_last (newest_value before o) before x xs

by_match : (before : Option (List ℕ)) (v : Item) (rest : List Item) (same : Bool) → newest_value (cond same (value_of (Some v)) before) (last_or None rest) ≡ newest_value before (last_or None (cond same (v ∷ rest) rest))
by_match before v rest true = last_step before (Some v) rest
by_match before v rest false = refl

-- after versions a key has the value of its newest one, or what it had before
pub get_after_items : (map : Map) (vs : List Item) (key : List ℕ) → value_at (after_items map vs) key ≡ newest_value (value_at map key) (newest_of key vs)
get_after_items map [] key = refl
get_after_items map (v ∷ vs) key =
    get_after_items (applied map v) vs key
    ∙ ap (λ before. newest_value before (newest_of key vs)) (get_applied map v key)
    ∙ by_match (value_at map key) v (versions_of key vs) (same_bytes v.key key)

-- so an image's map has at each key the value of its newest version
pub get_versions : (vs : List Item) (key : List ℕ) → value_at (after_items empty_map vs) key ≡ value_of (newest_of key vs)
get_versions vs key = get_after_items empty_map vs key ∙ ap (λ before. newest_value before (newest_of key vs)) (get-empty (slice_cmp nat_cmp) key) ∙ at_none (newest_of key vs)
