-- Extents that a flush reserves, and the facts in memory after it.
use Rattle.std.proofs.Common.{◌≡◌, ℕ, ◌+◌, ◌<◌, ◌≤◌, ◌^◌, refl, sym, ap, subst, ◌∙◌, List, [], length, Bool, true, false, not, ◌&&◌, ◌||◌, arith}
use Rattle.std.specs.Prelude.{nat_le, nat_lt}
use Rattle.std.proofs.lemmas.Bool.{true≢false, and_from, and_parts, leb-true, ltb-true, lt-ltb, not-true, or_parts}
use Rattle.lt_terms.specs.Items.{Item, total_cost}
use Rattle.lt_bucket.proofs.BucketPages.{count_small}
use Rattle.lt_terms.specs.Bytes.{is_in}
use Rattle.lt_terms.proofs.AmongLaws.{in_append, in_place}
use Rattle.lt_alloc.specs.Extents.{is_free, Reserves}
use Rattle.lt_format.specs.declared.header.Header.{Header}
use Rattle.lt_format.specs.Changes.{flush, after_change}
use Rattle.lt_format.specs.Log.{log_room}
use Rattle.lt_format.specs.Snapshot.{Named, after_commit, Manifest}
use Rattle.lt_format.specs.Trie.{Trie, named, node_cmp, all_distinct}
use Rattle.std.specs.FinMap.{is_sorted}
use Rattle.lt_format.proofs.NamedLaws.{flush-times}
use Rattle.lt_format.proofs.Numbers.{times, absent-times, times-absent, pairs-distinct}
use Rattle.lt_manifest.specs.Promise as opened
use Rattle.lt_redo.specs.LogState.{LogState, other_area}
use Rattle.lt_store.specs.Flushing.{AreFree, flushed_log}
use Rattle.lt_work.specs.Work.{SuitsTrie, WorkView, flushed_work, reserved_by}
use Rattle.lt_work.proofs.OutlastLaws.{alike-suits, flushed-suits}
use Rattle.lt_format.specs.declared.geometry.Geometry.{Geometry}
use Rattle.lt_format.proofs.RegionLaws.{geometry-deep}
use Rattle.lt_store.specs.Kept.{IsKept, in_use}
use Rattle.lt_alloc.proofs.StackLaws.{is_free-within}

-- ---- numbers in a list

-- ---- what is reserved

module _ (n : Named) (log : LogState) (memory : List Item) (taken now : List Bool) (filters writes count : ℕ) (work : WorkView) (numbers : List ℕ) (k : IsKept n log memory taken filters writes work) (r : Reserves count taken now [] numbers) where
  pub reserved-len : length numbers ≡ count
  reserved-len = ap length r.appended ∙ r.len

  was_free : (x : ℕ) → is_in x numbers ≡ true → is_free taken x ≡ true
  was_free x there =
      let at = in_place x r.numbers (subst (λ xs. is_in x xs ≡ true) r.appended there) in
      subst (λ y. is_free taken y ≡ true) at.2 (r.were_free at.0 0 at.1)

  unused : (x : ℕ) → is_in x numbers ≡ true → is_in x (in_use n work) ≡ false
  unused x there =
      let free = was_free x there in
      let below : x < n.manifest.header.extents = let b = is_free-within taken x free in let size = k.taken_in_use.len in omega (arith, b, size) in
      not-true (is_in x (in_use n work)) (sym (k.taken_in_use.free x below) ∙ free)

  pub reserved-free : AreFree n work numbers
  reserved-free = record {
    below = λ x there. let below = is_free-within taken x (was_free x there) in let size = k.taken_in_use.len in omega (arith, below, size);
    unnamed = λ x there. (or_parts (is_in x (named n.manifest.trie)) (is_in x (reserved_by work)) (sym (in_append x (named n.manifest.trie) (reserved_by work)) ∙ unused x there)).0;
    unreserved = λ x there. (or_parts (is_in x (named n.manifest.trie)) (is_in x (reserved_by work)) (sym (in_append x (named n.manifest.trie) (reserved_by work)) ∙ unused x there)).1;
  }

  pub reserved-distinct : all_distinct numbers ≡ true
  reserved-distinct = subst (λ xs. all_distinct xs ≡ true) (sym r.appended) (pairs-distinct r.numbers (λ i j less below. r.differ i j 0 less below))

  pub reserved-below : (x : ℕ) → is_in x numbers ≡ true → x < length now
  reserved-below x there = let below = is_free-within taken x (was_free x there) in let size = r.same_extents in omega (arith, below, size)

  -- what is given back is free as before
  pub given-free : (given : List Bool) → ((x : ℕ) → x < length now → is_free given x ≡ (is_free now x || is_in x numbers)) → (x : ℕ) → x < length taken → is_free given x ≡ is_free taken x
  given-free given back x small = back x (let size = r.same_extents in omega (arith, small, size)) ∙ ap (λ b. b || is_in x numbers) (r.others_stay x) ∙ decide (is_in x numbers) refl
    where
      same : is_in x r.numbers ≡ is_in x numbers
      same = ap (is_in x) (sym r.appended)

      decide : (b : Bool) → is_in x numbers ≡ b → ((is_free taken x && not (is_in x r.numbers)) || is_in x numbers) ≡ is_free taken x
      decide true is = rw (same, is) (right (is_free taken x) ∙ sym (was_free x is))
        where
          right : (b : Bool) → ((b && false) || true) ≡ true
          right true = refl
          right false = refl
      decide false is = rw (same, is) (none (is_free taken x))
        where
          none : (b : Bool) → ((b && true) || false) ≡ b
          none true = refl
          none false = refl

-- a flush names the reserved extents beside the others
named-flush : (trie : Trie) (numbers : List ℕ) (x : ℕ) → is_sorted node_cmp trie ≡ true → 1 ≤ length numbers → is_in x (named (after_change trie (flush numbers))) ≡ (is_in x (named trie) || is_in x numbers)
named-flush trie numbers x rising some = decide (is_in x (named trie)) (is_in x numbers) (is_in x (named (after_change trie (flush numbers)))) refl refl refl
  where
    count : times x (named (after_change trie (flush numbers))) ≡ times x (named trie) + times x numbers
    count = flush-times x trie numbers rising some

    -- a number that is in a list stands there some times
    some_times : (xs : List ℕ) → is_in x xs ≡ true → times x xs ≡ 0 → ⊥
    some_times xs there none = true≢false (sym there ∙ absent-times x xs none)

    no_times : (xs : List ℕ) → is_in x xs ≡ false → times x xs ≡ 0
    no_times xs absent = times-absent x xs absent

    decide : (a b c : Bool) → is_in x (named trie) ≡ a → is_in x numbers ≡ b → is_in x (named (after_change trie (flush numbers))) ≡ c → c ≡ (a || b)
    decide true b true one two three = refl
    decide true b false one two three = absurd (some_times (named trie) one (let none = no_times (named (after_change trie (flush numbers))) three in omega (arith, none, count)))
    decide false true true one two three = refl
    decide false true false one two three = absurd (some_times numbers two (let none = no_times (named (after_change trie (flush numbers))) three in omega (arith, none, count)))
    decide false false true one two three = absurd (some_times (named (after_change trie (flush numbers))) three (let a = no_times (named trie) one in let b = no_times numbers two in omega (arith, a, b, count)))
    decide false false false one two three = refl

-- ---- the facts in memory

-- after a flush
pub flushed-kept : (n m : Named) (log : LogState) (memory : List Item) (taken now : List Bool) (filters writes count : ℕ) (work : WorkView) (numbers : List ℕ) (header : Header) (k : IsKept n log memory taken filters writes work) → Reserves count taken now [] numbers → 1 ≤ length numbers
    → opened.IsKept m → m.geometry ≡ n.geometry → m.manifest ≡ after_commit n.manifest (flush numbers) header → header.log_area ≡ other_area n.manifest.header.log_area → header.extents ≡ n.manifest.header.extents → header.writes ≡ writes
    → IsKept m (flushed_log log header) [] now filters writes (flushed_work work)
flushed-kept n m log memory taken now filters writes count work numbers header k r some stands geometry manifest area extents number =
    let head : m.manifest.header ≡ header = ap (λ (x : Manifest). x.header) manifest in
    let head_area : m.manifest.header.log_area ≡ header.log_area = ap (λ (h : Header). h.log_area) head in
    let head_extents : m.manifest.header.extents ≡ n.manifest.header.extents = ap (λ (h : Header). h.extents) head ∙ extents in
    let head_writes : m.manifest.header.writes ≡ writes = ap (λ (h : Header). h.writes) head ∙ number in
    let trie : m.manifest.trie ≡ after_change n.manifest.trie (flush numbers) = ap (λ (x : Manifest). x.trie) manifest in
    let few : writes < 2 ^ 64 =
    let bound = ltb-true _ (2 ^ 64) (and_parts (nat_le (total_cost memory) log_room) (nat_lt (n.manifest.header.writes + length memory) (2 ^ 64)) k.fits).1 in
    let is = k.number in
    omega (arith, bound, is) in
    let size = k.taken_in_use.len in
    let same = r.same_extents in
    let filled = k.filters_len in
    record {
      manifest = stands;
      geometry = k.geometry ∙ sym geometry;
      area = ap other_area k.area ∙ sym area ∙ sym head_area;
      start = sym (ap (λ (h : Header). h.writes) head);
      items = refl;
      fits = and_from (nat_le 0 log_room) (nat_lt (m.manifest.header.writes + 0) (2 ^ 64)) refl (lt-ltb (m.manifest.header.writes + 0) (2 ^ 64) (omega (arith, head_writes, few)));
      number = omega (arith, head_writes);
      enough = omega arith;
      within = omega arith;
      slot = λ none. absurd (omega arith);
      room = omega arith;
      least = omega arith;
      suits = subst (λ (g : Geometry). SuitsTrie g.levels m.manifest.trie now (flushed_work work)) (sym geometry)
          (subst (λ (t : Trie). SuitsTrie n.geometry.levels t now (flushed_work work)) (sym trie)
          (flushed-suits n.geometry.levels n.manifest.header.extents count n.manifest.trie taken now numbers work (geometry-deep n.geometry k.manifest.geometry) k.manifest.trie some r k.suits));
      taken_in_use = record {
        len = same ∙ size ∙ sym head_extents;
        free = λ x small.
            let within : x < n.manifest.header.extents = omega (arith, small, head_extents) in
            let there : is_in x (named m.manifest.trie) ≡ (is_in x (named n.manifest.trie) || is_in x numbers) = ap (λ (t : Trie). is_in x (named t)) trie ∙ named-flush n.manifest.trie numbers x k.manifest.trie.rising some in
            r.others_stay x ∙ ap (λ b. b && not (is_in x r.numbers)) (k.taken_in_use.free x within)
            ∙ ap (λ b. not b && not (is_in x r.numbers)) (in_append x (named n.manifest.trie) (reserved_by work))
            ∙ ap (λ b. not (is_in x (named n.manifest.trie) || is_in x (reserved_by work)) && not b) (ap (is_in x) (sym r.appended))
            ∙ both (is_in x (named n.manifest.trie)) (is_in x (reserved_by work)) (is_in x numbers)
            ∙ ap (λ b. not (b || is_in x (reserved_by work))) (sym there) ∙ ap not (sym (in_append x (named m.manifest.trie) (reserved_by work)));
      };
      filters_len = filled ∙ sym head_extents;
    }
  where
    both : (a b c : Bool) → (not (a || b) && not c) ≡ not ((a || c) || b)
    both true b c = refl
    both false true true = refl
    both false true false = refl
    both false false true = refl
    both false false false = refl

-- after a flush that was refused, once the extents were given back
pub back-kept : (n m : Named) (log log' : LogState) (memory memory' : List Item) (taken now given : List Bool) (filters filters' writes writes' count : ℕ) (work work' : WorkView) (numbers : List ℕ) (k : IsKept n log memory taken filters writes work) (k' : IsKept m log' memory' taken filters' writes' work') → Reserves count taken now [] numbers
    → length given ≡ length now → ((x : ℕ) → x < length now → is_free given x ≡ (is_free now x || is_in x numbers)) → IsKept m log' memory' given filters' writes' work'
back-kept n m log log' memory memory' taken now given filters filters' writes writes' count work work' numbers k k' r size back = record {
  manifest = k'.manifest;
  geometry = k'.geometry;
  area = k'.area;
  start = k'.start;
  items = k'.items;
  fits = k'.fits;
  number = k'.number;
  enough = k'.enough;
  within = k'.within;
  slot = k'.slot;
  room = k'.room;
  least = k'.least;
  suits = alike-suits m.geometry.levels m.manifest.trie taken given work' (size ∙ r.same_extents) (λ x small. given-free n log memory taken now filters writes count work numbers k r given back x small) k'.suits;
  taken_in_use = record {
    len = size ∙ r.same_extents ∙ k'.taken_in_use.len;
    free = λ x small. given-free n log memory taken now filters writes count work numbers k r given back x (let len = k'.taken_in_use.len in omega (arith, small, len)) ∙ k'.taken_in_use.free x small;
  };
  filters_len = k'.filters_len;
}

-- the items in memory are few
pub memory-few : (n : Named) (log : LogState) (memory : List Item) (taken : List Bool) (filters writes : ℕ) (work : WorkView) → IsKept n log memory taken filters writes work → length memory ≤ 204092
memory-few n log memory taken filters writes work k =
    let cost = leb-true (total_cost memory) log_room (and_parts (nat_le (total_cost memory) log_room) (nat_lt (n.manifest.header.writes + length memory) (2 ^ 64)) k.fits).0 in
    let small = count_small memory in
    omega (arith, cost, small)

-- the same facts of equal parts
pub kept-along : (n : Named) (log log' : LogState) (memory memory' : List Item) (taken taken' : List Bool) (filters filters' writes writes' : ℕ) (work work' : WorkView) → log' ≡ log → memory' ≡ memory → taken' ≡ taken → filters' ≡ filters → writes' ≡ writes → work' ≡ work
    → IsKept n log memory taken filters writes work → IsKept n log' memory' taken' filters' writes' work'
kept-along n log log' memory memory' taken taken' filters filters' writes writes' work work' a b c d e f k =
    subst (λ l. IsKept n l memory' taken' filters' writes' work') (sym a)
    (subst (λ m. IsKept n log m taken' filters' writes' work') (sym b)
    (subst (λ t. IsKept n log memory t filters' writes' work') (sym c)
    (subst (λ f. IsKept n log memory taken f writes' work') (sym d)
    (subst (λ w. IsKept n log memory taken filters w work') (sym e)
    (subst (λ (w : WorkView). IsKept n log memory taken filters writes w) (sym f) k)))))
