-- What a look-up in a bucket of a placed table answers.
use Rattle.std.proofs.Common.{◌≡◌, ℕ, ◌<◌, refl, ap, subst, ◌∙◌, List, [], ◌∷◌, Bool, true, false, cond, ◌&&◌, Option, Some, None}
use Rattle.std.specs.Prelude.{◌==◌, nat_le}
use Rattle.std.specs.List.{filter, find, last_or, AllByRecursion}
use Rattle.std.specs.Option.{option_to_list, option_map}
use Rattle.std.specs.Cmp.Lexicographic.{bytes_decides}
use Rattle.std.proofs.lemmas.Option.{none-some}
use Rattle.lt_terms.specs.Bytes.{same_bytes}
use Rattle.lt_terms.specs.Hashes.{home_column, key_suffix}
use Rattle.lt_terms.specs.Items.{Item}
use Rattle.lt_tables.specs.declared.ColumnPlan.{ColumnPlan}
use Rattle.lt_tables.specs.Bucket.{moved, absent, look_of, look_in_1, look_on, sent_to, bucket_of}
use Rattle.lt_tables.specs.Placement.{plan_at}
use Rattle.lt_tables.specs.Table.{place_of, sends_in, bucket_in, versions_of, newest_of, newest}
use Rattle.lt_tables.proofs.NewestLaws.{filters_swap, versions_of-newest}

head : List Item → Option Item
head [] = None
head (v ∷ xs) = Some v

find_step : (b : Bool) (v : Item) (xs : List Item) (o : Option Item) → o ≡ head xs → cond b (Some v) o ≡ head (cond b (v ∷ xs) xs)
unfolding head
find_step true v xs o h = refl
find_step false v xs o h = h

find_head : (test : Item → Bool) (xs : List Item) → find test xs ≡ head (filter test xs)
unfolding head
find_head test [] = refl
find_head test (v ∷ xs) = find_step (test v) v (filter test xs) (find test xs) (find_head test xs)

-- the first version of a key, where there is one at most
pub find-once : (key : List ℕ) (xs : List Item) (o : Option Item) → versions_of key xs ≡ option_to_list o → find (λ (v : Item). same_bytes v.key key) xs ≡ o
unfolding head
find-once key xs o h = find_head (λ (v : Item). same_bytes v.key key) xs ∙ ap head h ∙ of_option o
  where
    of_option : (o : Option Item) → head (option_to_list o) ≡ o
    of_option None = refl
    of_option (Some v) = refl

versions_keys : (key : List ℕ) (xs : List Item) → AllByRecursion (λ (v : Item). v.key ≡ key) (versions_of key xs)
versions_keys key [] = tt
versions_keys key (x ∷ xs) = step (same_bytes x.key key) refl (versions_keys key xs)
  where
    step : (b : Bool) → same_bytes x.key key ≡ b → AllByRecursion (λ (v : Item). v.key ≡ key) (versions_of key xs) → AllByRecursion (λ (v : Item). v.key ≡ key) (cond b (x ∷ versions_of key xs) (versions_of key xs))
    step true e rest = ((bytes_decides x.key key).0 e, rest)
    step false e rest = rest

last_holds : (P : Item → Type 0) (o : Option Item) (xs : List Item) (v : Item) → ((w : Item) → o ≡ Some w → P w) → AllByRecursion P xs → last_or o xs ≡ Some v → P v
last_holds P o [] v p all h = p v h
last_holds P o (x ∷ xs) v p all h = last_holds P (Some x) xs v (λ w e. subst P (let s : x ≡ w = cc in s) all.0) all.1 h

pub newest_of-key : (key : List ℕ) (xs : List Item) (v : Item) → newest_of key xs ≡ Some v → v.key ≡ key
newest_of-key key xs v h = last_holds (λ (v : Item). v.key ≡ key) None (versions_of key xs) v (λ w e. absurd (none-some w e)) (versions_keys key xs) h

-- the column where a key's item lies
abbrev pub place_key : List ColumnPlan → List ℕ → ℕ
place_key plans key = cond ((plan_at plans (home_column key)).sends && nat_le (plan_at plans (home_column key)).mark (key_suffix key)) (plan_at plans (home_column key)).target (home_column key)

here_or_none : (b : Bool) (v : Item) → cond b (v ∷ []) [] ≡ option_to_list (cond b (Some v) None)
here_or_none true v = refl
here_or_none false v = refl

none_twice : (b : Bool) → ◌≡◌ {A = List Item} [] (option_to_list (cond b None None))
none_twice true = refl
none_twice false = refl

kept_in : (plans : List ColumnPlan) (key : List ℕ) (c : ℕ) (o : Option Item) → ((v : Item) → o ≡ Some v → v.key ≡ key) → filter (λ v. place_of plans v == c) (option_to_list o) ≡ option_to_list (cond (place_key plans key == c) o None)
kept_in plans key c None k = none_twice (place_key plans key == c)
kept_in plans key c (Some v) k = ap (λ (q : List ℕ). cond (place_key plans q == c) (v ∷ []) []) (k v refl) ∙ here_or_none (place_key plans key == c) v

-- what a look-up in bucket c of a placed table answers
pub look_on-placed : (plans : List ColumnPlan) (items : List Item) (block : ℕ → List ℕ) (key : List ℕ) (c : ℕ) → c < 64 → ((c : ℕ) → c < 64 → bucket_of (block c) ≡ Some (bucket_in plans items c))
    → look_on (block c) key ≡ Some (look_of (cond (place_key plans key == c) (newest_of key items) None) (sent_to (sends_in (plan_at plans c)) (key_suffix key)))
look_on-placed plans items block key c small buckets =
    ap (option_map (look_in_1 key)) (buckets c small)
    ∙ ap (λ o. Some (look_of o (sent_to (sends_in (plan_at plans c)) (key_suffix key))))
    (find-once key (filter (λ v. place_of plans v == c) (newest items)) (cond (place_key plans key == c) (newest_of key items) None)
    (filters_swap (λ (v : Item). same_bytes v.key key) (λ v. place_of plans v == c) (newest items)
    ∙ ap (filter (λ v. place_of plans v == c)) (versions_of-newest key items)
    ∙ kept_in plans key c (newest_of key items) (λ v h. newest_of-key key items v h)))

-- where a plan sends a suffix
pub sent_where : (sends : Bool) (target mark suffix : ℕ) → sent_to (cond sends (Some (record { target = target; mark = mark })) None) suffix ≡ cond (sends && nat_le mark suffix) (moved target) absent
sent_where true target mark suffix = refl
sent_where false target mark suffix = refl
