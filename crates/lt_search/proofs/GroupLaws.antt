-- Searching a pile group after group: each group that is read has a table that is met.
use Rattle.std.proofs.Common.{◌≡◌, ℕ, suc, ◌+◌, ◌-◌, ◌*◌, ◌/◌, ◌%◌, ◌<◌, ◌≤◌, refl, sym, ap, subst, ◌∙◌, List, [], ◌∷◌, ◌++◌, length, take, drop, map, Bool, true, false, cond, ◌||◌, Option, None, Result, Ok, Err, append_assoc, arith}
use Rattle.std.specs.Prelude.{◌==◌, count_by, slice_index}
use Rattle.std.specs.List.{AllByRecursion, filter}
use Rattle.std.specs.Option.{is_some}
use Rattle.std.proofs.lemmas.Bool.{ne_eqb}
use Rattle.std.proofs.lemmas.List.{drop-drop, length-drop, length-take, map-append}
use Rattle.std.proofs.lemmas.List.Elements.{filter-append}
use Rattle.std.proofs.lemmas.List.Sums.{count_by-le-length}
use Rattle.lt_terms.specs.Bytes.{Image, block_at, is_in}
use Rattle.lt_terms.specs.Causes.{CountsOne}
use Rattle.lt_terms.specs.Hashes.{home_column}
use Rattle.lt_terms.specs.Items.{Item}
use Rattle.lt_terms.proofs.AmongLaws.{in_take, in_drop}
use Rattle.lt_device.specs.Reads.{CountsAtMost}
use Rattle.lt_tables.specs.Filter.{covers}
use Rattle.lt_tables.proofs.ListLaws.{all_filter, all_join, all_weaker}
use Rattle.lt_format.specs.declared.geometry.Geometry.{Geometry}
use Rattle.lt_format.specs.declared.node_id.NodeId.{NodeId}
use Rattle.lt_format.specs.Layout.{extent_block}
use Rattle.lt_format.specs.Trie.{is_last_level}
use Rattle.lt_htable.specs.declared.faults.LookFault.{LookFault}
use Rattle.lt_htable.specs.declared.faults.LookFault.TheVariants.{Device}
use Rattle.lt_image.specs.Bound.{distinct_count, groups_met}
use Rattle.lt_image.specs.Versions.{Stop}
use Rattle.lt_search.specs.declared.version.Version.{Version}
use Rattle.lt_search.specs.Seen.{asks_group}
use Rattle.lt_search.specs.Reads.{bucket_reads, path_reads}
use Rattle.lt_search.specs.Searched.{Searched}
use Rattle.lt_search.specs.Seen.{IsBucketOf, IsSeen, before_older, is_told, met_along, pile_stops, seen_along, seen_at}
use Rattle.lt_search.proofs.SearchLaws.{IsLast, SoFar, buckets-append, buckets-front, counts-more, counts-none, device-seen, met-all, met-front, met-quiet, none-is, same-search, seen-behind, seen-none, seen-older, seen_along-append}
use Rattle.lt_search.proofs.StopLaws.{all_up_to, stops-all, stops-some, stops-split, up_to-some}

-- ---- different numbers

in-append : (x : ℕ) (xs ys : List ℕ) → is_in x ys ≡ false → is_in x (xs ++ ys) ≡ is_in x xs
in-append x [] ys none = none
in-append x (y ∷ xs) ys none = ap (λ b. (y == x) || b) (in-append x xs ys none)

absent : (v x : ℕ) (ys : List ℕ) → v < x → AllByRecursion (λ y. y ≤ v) ys → is_in x ys ≡ false
absent v x [] above all = refl
absent v x (y ∷ ys) above all = ap (λ b. b || is_in x ys) (ne_eqb y x (λ same. let low = all.0 in absurd (omega arith))) ∙ absent v x ys above all.1

distinct-apart : (v : ℕ) (xs ys : List ℕ) → AllByRecursion (λ x. v < x) xs → AllByRecursion (λ y. y ≤ v) ys → distinct_count (xs ++ ys) ≡ distinct_count xs + distinct_count ys
distinct-apart v [] ys high low = let zero_first : distinct_count ys ≡ 0 + distinct_count ys = omega arith in zero_first
distinct-apart v (x ∷ xs) ys high low =
    ap (λ b. cond b (distinct_count (xs ++ ys)) (suc (distinct_count (xs ++ ys)))) (in-append x xs ys (absent v x ys high.0 low))
    ∙ by_in (is_in x xs) (distinct-apart v xs ys high.1 low)
  where
    by_in : (b : Bool) → distinct_count (xs ++ ys) ≡ distinct_count xs + distinct_count ys → cond b (distinct_count (xs ++ ys)) (suc (distinct_count (xs ++ ys))) ≡ cond b (distinct_count xs) (suc (distinct_count xs)) + distinct_count ys
    by_in true rest = rest
    by_in false rest = omega (arith, rest)

in-some : (x : ℕ) (xs : List ℕ) → is_in x xs ≡ true → 0 < length xs
in-some x [] there = cc
in-some x (y ∷ xs) there = omega arith

distinct-some : (xs : List ℕ) → 0 < length xs → 1 ≤ distinct_count xs
distinct-some [] some = absurd (omega arith)
distinct-some (x ∷ xs) some = by_in (is_in x xs) refl (λ there. distinct-some xs (in-some x xs there))
  where
    by_in : (b : Bool) → is_in x xs ≡ b → (is_in x xs ≡ true → 1 ≤ distinct_count xs) → 1 ≤ cond b (distinct_count xs) (suc (distinct_count xs))
    by_in true there rest = rest there
    by_in false there rest = omega arith

-- ---- groups

-- a table of a last-level node in a group up to this one
abbrev pub IsUpTo : ℕ → ℕ → Stop → Type 0
IsUpTo levels v s = (s.index / 64 ≤ v) × (is_last_level levels s.node ≡ true)

all_map : (f : Stop → ℕ) (P : ℕ → Type 0) (ss : List Stop) → AllByRecursion (λ s. P (f s)) ss → AllByRecursion P (map f ss)
all_map f P [] all = tt
all_map f P (s ∷ ss) all = (all.0, all_map f P ss all.1)

groups_of : ℕ → List Stop → List ℕ
groups_of levels ss = map (λ (s : Stop). s.index / 64) (filter (λ (s : Stop). is_last_level levels s.node) ss)

kept-some : (levels v : ℕ) (ss : List Stop) → AllByRecursion (IsUpTo levels v) ss → 0 < length ss → 0 < length (groups_of levels ss)
unfolding groups_of
kept-some levels v [] all some = absurd (omega arith)
kept-some levels v (s ∷ ss) all some = by_last (is_last_level levels s.node) all.0.1
  where
    by_last : (b : Bool) → b ≡ true → 0 < length (map (λ (t : Stop). t.index / 64) (cond b (s ∷ filter (λ (t : Stop). is_last_level levels t.node) ss) (filter (λ (t : Stop). is_last_level levels t.node) ss)))
    by_last true h = omega arith
    by_last false h = cc

-- tables of a lower group are of one group more, at least
pub groups-more : (levels v : ℕ) (done more : List Stop) → AllByRecursion (λ s. v < s.index / 64) done → AllByRecursion (IsUpTo levels v) more → 0 < length more → groups_met levels done + 1 ≤ groups_met levels (done ++ more)
unfolding groups_of
groups-more levels v done more high low some =
    let last = λ (s : Stop). is_last_level levels s.node in
    let group = λ (s : Stop). s.index / 64 in
    let joined : groups_of levels (done ++ more) ≡ groups_of levels done ++ groups_of levels more = ap (map group) (filter-append last done more) ∙ map-append group (filter last done) (filter last more) in
    let highs = all_map group (λ x. v < x) (filter last done) (all_filter (λ s. v < s.index / 64) last done high) in
    let lows = all_map group (λ x. x ≤ v) (filter last more) (all_filter (λ s. s.index / 64 ≤ v) last more (all_weaker (IsUpTo levels v) (λ (s : Stop). s.index / 64 ≤ v) (λ s h. h.0) more low)) in
    let apart = ap distinct_count joined ∙ distinct-apart v (groups_of levels done) (groups_of levels more) highs lows in
    let one = distinct-some (groups_of levels more) (kept-some levels v more low some) in
    omega (arith, apart, one)

-- ---- a group after others

module _ (asks : Stop → Bool) (g : Geometry) (image : Image) (key : List ℕ) where
  -- its tables told nothing
  pub group-next : (v : ℕ) (done part : List Stop) (version : Option Version) (out new : List ℕ) (before mid read now : ℕ) → SoFar asks path_reads g image key done before mid → CountsOne mid read → Searched asks bucket_reads g image key part (Ok version) out new read now → is_some version ≡ false
      → AllByRecursion (λ s. v < s.index / 64) done → AllByRecursion (IsUpTo g.levels v) part → 0 < length part → SoFar asks path_reads g image key (done ++ part) before now
  group-next v done part version out new before mid read now so_far once searched none high low some =
      let quiet = seen-none (seen_along asks g image key part) out new (subst (λ (x : Option Version). IsSeen (seen_along asks g image key part) (Ok x) out new) (none-is version none) searched.seen) in
      let all = ap (bucket_reads asks g image key) (met-all asks g image key part quiet) in
      let parts = buckets-append asks g image key done part in
      let groups = groups-more g.levels v done part high low some in
      record {
        quiet = seen-behind asks g image key done part so_far.quiet ∙ quiet;
        reads = counts-more (path_reads asks g image key done + 1) _ _ before read now (counts_one (path_reads asks g image key done) before mid read so_far.reads once) searched.reads (omega (arith, all, parts, groups));
      }
    where
      counts_one : (n a b c : ℕ) → CountsAtMost n a b → CountsOne b c → CountsAtMost (n + 1) a c
      counts_one n a b c first second = record {
        later = omega (arith, first.later, second.later);
        at_most = omega (arith, first.later, first.at_most, second.later, second.at_most_one);
      }

  -- one of its tables ended the search, or the device failed
  pub group-exit : (v : ℕ) (done part rest whole : List Stop) (result : Result (Option Version) LookFault) (out old new : List ℕ) (before mid read now : ℕ) → SoFar asks path_reads g image key done before mid → CountsOne mid read → Searched asks bucket_reads g image key part result out new read now → IsLast result
      → whole ≡ (done ++ part) ++ rest → out ≡ old → AllByRecursion (λ s. v < s.index / 64) done → AllByRecursion (IsUpTo g.levels v) part → AllByRecursion (IsUpTo g.levels v) rest → 0 < length part → Searched asks path_reads g image key whole result old new before now
  group-exit v done part rest whole result out old new before mid read now so_far once searched last whole_is same high low low_rest some =
      let joined : whole ≡ done ++ (part ++ rest) = whole_is ∙ append_assoc done part rest in
      let seen_is : seen_along asks g image key whole ≡ before_older (seen_along asks g image key part) (seen_along asks g image key rest) =
      ap (seen_along asks g image key) joined ∙ seen-behind asks g image key done (part ++ rest) so_far.quiet ∙ seen_along-append asks g image key part rest in
      let more : List Stop = met_along asks g image key (part ++ rest) in
      let met_is : met_along asks g image key whole ≡ done ++ more = ap (met_along asks g image key) joined ∙ met-quiet asks g image key done (part ++ rest) so_far.quiet in
      let told = λ (s : Stop). is_told (seen_at asks g image key s) in
      let low_more = all_up_to (IsUpTo g.levels v) told (part ++ rest) (all_join (IsUpTo g.levels v) part rest low low_rest) in
      let some_more = up_to-some told (part ++ rest) (longer part rest some) in
      let groups = groups-more g.levels v done more high low_more some_more in
      let parts = buckets-append asks g image key done more in
      let front = buckets-front asks g image key _ _ (met-front asks g image key part rest) in
      record {
        seen = subst (λ (page : List ℕ). IsSeen (seen_along asks g image key whole) result page new) same
            (subst (λ (a : Result (Option Item) LookFault). IsSeen a result out new) (sym seen_is) (seen-older (seen_along asks g image key part) (seen_along asks g image key rest) result out new last searched.seen));
        reads = subst (λ (ss : List Stop). CountsAtMost (path_reads asks g image key ss) before now) (sym met_is)
            (counts-more (path_reads asks g image key done + 1) _ _ before read now (counts_one (path_reads asks g image key done) before mid read so_far.reads once) searched.reads (omega (arith, groups, parts, front)));
      }
    where
      counts_one : (n a b c : ℕ) → CountsAtMost n a b → CountsOne b c → CountsAtMost (n + 1) a c
      counts_one n a b c first second = record {
        later = omega (arith, first.later, second.later);
        at_most = omega (arith, first.later, first.at_most, second.later, second.at_most_one);
      }

      longer : (xs ys : List Stop) → 0 < length xs → 0 < length (xs ++ ys)
      longer [] ys some = absurd (omega arith)
      longer (x ∷ xs) ys some = omega arith

  -- a device that failed before any table was asked
  pub group-failed : (part : List Stop) (out new : List ℕ) (read : ℕ) → Searched asks bucket_reads g image key part (Err Device) out new read read
  group-failed part out new read = record { seen = device-seen (seen_along asks g image key part) out new; reads = counts-none _ read }

  pub group-start : (before : ℕ) → SoFar asks path_reads g image key [] before before
  group-start before = record { quiet = refl; reads = counts-none _ before }

  pub group-all : (whole : List Stop) (old : List ℕ) (before now : ℕ) → SoFar asks path_reads g image key whole before now → Searched asks path_reads g image key whole (Ok None) old old before now
  group-all whole old before now so_far = record {
    seen = subst (λ (a : Result (Option Item) LookFault). IsSeen a (Ok None) old old) (sym so_far.quiet) refl;
    reads = subst (λ (ss : List Stop). CountsAtMost (path_reads asks g image key ss) before now) (sym (met-all asks g image key whole so_far.quiet)) so_far.reads;
  }

-- ---- the tables of a group

-- the stops of a group's tables
abbrev pub part_stops : NodeId → List ℕ → ℕ → List Stop
part_stops id tables j = pile_stops id (64 * j) (take 64 (drop (64 * j) tables))

-- those of the groups behind so many
abbrev pub later_stops : NodeId → List ℕ → ℕ → List Stop
later_stops id tables j = pile_stops id (64 * j) (drop (64 * j) tables)

-- those of so many groups
abbrev pub first_stops : NodeId → List ℕ → ℕ → List Stop
first_stops id tables j = pile_stops id 0 (take (64 * j) tables)

module _ (id : NodeId) (tables : List ℕ) (i j : ℕ) (step : j + 1 ≡ i) where
  pub later-is : later_stops id tables j ≡ later_stops id tables i ++ part_stops id tables j
  later-is =
      let there : 64 * j + 64 ≡ 64 * i = omega arith in
      stops-split id (64 * j) 64 (drop (64 * j) tables)
      ∙ ap (λ xs. pile_stops id (64 * j + 64) xs ++ part_stops id tables j) (drop-drop 64 (64 * j) tables)
      ∙ ap (λ n. pile_stops id n (drop n tables) ++ part_stops id tables j) there

  pub whole-is : pile_stops id 0 tables ≡ (later_stops id tables i ++ part_stops id tables j) ++ first_stops id tables j
  whole-is =
      let from_zero : 0 + 64 * j ≡ 64 * j = omega arith in
      stops-split id 0 (64 * j) tables
      ∙ ap (λ n. pile_stops id n (drop (64 * j) tables) ++ first_stops id tables j) from_zero
      ∙ ap (λ ss. ss ++ first_stops id tables j) later-is

  pub later-high : AllByRecursion (λ s. j < s.index / 64) (later_stops id tables i)
  later-high = stops-all (λ s. j < s.index / 64) id (64 * i) (drop (64 * i) tables) (λ m below. omega arith)

module _ (id : NodeId) (tables : List ℕ) (j : ℕ) where
  pub part-low : (levels : ℕ) → is_last_level levels id ≡ true → AllByRecursion (IsUpTo levels j) (part_stops id tables j)
  part-low levels last = stops-all (IsUpTo levels j) id (64 * j) (take 64 (drop (64 * j) tables)) (λ m below. let len = length-take 64 (drop (64 * j) tables) in (omega (arith, len), last))

  pub first-low : (levels : ℕ) → is_last_level levels id ≡ true → AllByRecursion (IsUpTo levels j) (first_stops id tables j)
  first-low levels last = stops-all (IsUpTo levels j) id 0 (take (64 * j) tables) (λ m below. let len = length-take (64 * j) tables in (omega (arith, len), last))

  pub part-some : 64 * j < length tables → 0 < length (part_stops id tables j)
  part-some below = stops-some id (64 * j) (take 64 (drop (64 * j) tables)) (let len = length-take 64 (drop (64 * j) tables) in let left = length-drop (64 * j) tables in omega (arith, len, left))

  -- the block of the column in the group answers for them
  pub part-asks : (g : Geometry) (image : Image) (key groups page : List ℕ) → page ≡ block_at image (extent_block g (slice_index groups j) + home_column key) → AllByRecursion (λ s. covers page (s.index % 64) key ≡ asks_group g groups image key s) (part_stops id tables j)
  part-asks g image key groups page read =
      stops-all (λ s. covers page (s.index % 64) key ≡ asks_group g groups image key s) id (64 * j) (take 64 (drop (64 * j) tables)) (λ m below.
      let len = length-take 64 (drop (64 * j) tables) in
      let group : j ≡ (64 * j + m) / 64 = omega (arith, len) in
      ap (λ p. covers p ((64 * j + m) % 64) key) read ∙ ap (λ n. covers (block_at image (extent_block g (slice_index groups n) + home_column key)) ((64 * j + m) % 64) key) group)

-- ---- one group more

module _ (g : Geometry) (image : Image) (key groups tables : List ℕ) (id : NodeId) (last : is_last_level g.levels id ≡ true) (i j : ℕ) (step : j + 1 ≡ i) (some : 64 * j < length tables) where
  asked : (page part : List ℕ) (result : Result (Option Version) LookFault) (old new : List ℕ) (before now : ℕ) → page ≡ block_at image (extent_block g (slice_index groups j) + home_column key) → part ≡ take 64 (drop (64 * j) tables)
      → Searched (λ s. covers page (s.index % 64) key) bucket_reads g image key (pile_stops id (64 * j) part) result old new before now → Searched (asks_group g groups image key) bucket_reads g image key (part_stops id tables j) result old new before now
  asked page part result old new before now read is searched =
      same-search (λ s. covers page (s.index % 64) key) (asks_group g groups image key) g image key (part_stops id tables j) result old new before now (part-asks id tables j g image key groups page read)
      (subst (λ xs. Searched (λ s. covers page (s.index % 64) key) bucket_reads g image key (pile_stops id (64 * j) xs) result old new before now) is searched)

  pub next-at : (page part : List ℕ) (version : Option Version) (out new : List ℕ) (before mid read now : ℕ) → SoFar (asks_group g groups image key) path_reads g image key (later_stops id tables i) before mid → CountsOne mid read
      → page ≡ block_at image (extent_block g (slice_index groups j) + home_column key) → part ≡ take 64 (drop (64 * j) tables) → Searched (λ s. covers page (s.index % 64) key) bucket_reads g image key (pile_stops id (64 * j) part) (Ok version) out new read now → is_some version ≡ false
      → SoFar (asks_group g groups image key) path_reads g image key (later_stops id tables j) before now
  next-at page part version out new before mid read now so_far once page_is is searched none =
      subst (λ (ss : List Stop). SoFar (asks_group g groups image key) path_reads g image key ss before now) (sym (later-is id tables i j step))
      (group-next (asks_group g groups image key) g image key j (later_stops id tables i) (part_stops id tables j) version out new before mid read now so_far once
      (asked page part (Ok version) out new read now page_is is searched) none (later-high id tables i j step) (part-low id tables j g.levels last) (part-some id tables j some))

  pub exit-at : (page part : List ℕ) (result : Result (Option Version) LookFault) (out old new : List ℕ) (before mid read now : ℕ) → SoFar (asks_group g groups image key) path_reads g image key (later_stops id tables i) before mid → CountsOne mid read
      → page ≡ block_at image (extent_block g (slice_index groups j) + home_column key) → part ≡ take 64 (drop (64 * j) tables) → Searched (λ s. covers page (s.index % 64) key) bucket_reads g image key (pile_stops id (64 * j) part) result out new read now → IsLast result → out ≡ old
      → Searched (asks_group g groups image key) path_reads g image key (pile_stops id 0 tables) result old new before now
  exit-at page part result out old new before mid read now so_far once page_is is searched ends same =
      group-exit (asks_group g groups image key) g image key j (later_stops id tables i) (part_stops id tables j) (first_stops id tables j) (pile_stops id 0 tables) result out old new before mid read now so_far once
      (asked page part result out new read now page_is is searched) ends (whole-is id tables i j step) same (later-high id tables i j step) (part-low id tables j g.levels last) (first-low id tables j g.levels last) (part-some id tables j some)

  pub failed-at : (out old new : List ℕ) (before mid read : ℕ) → SoFar (asks_group g groups image key) path_reads g image key (later_stops id tables i) before mid → CountsOne mid read → out ≡ old
      → Searched (asks_group g groups image key) path_reads g image key (pile_stops id 0 tables) (Err Device) old new before read
  failed-at out old new before mid read so_far once same =
      group-exit (asks_group g groups image key) g image key j (later_stops id tables i) (part_stops id tables j) (first_stops id tables j) (pile_stops id 0 tables) (Err Device) out old new before mid read read so_far once
      (group-failed (asks_group g groups image key) g image key (part_stops id tables j) out new read) tt (whole-is id tables i j step) same (later-high id tables i j step) (part-low id tables j g.levels last) (first-low id tables j g.levels last) (part-some id tables j some)

-- ---- how many blocks are read of a group, whatever they tell

pub group-count : (test : ℕ → Bool) (tables part : List ℕ) (groups i j : ℕ) → j + 1 ≡ i → i ≤ groups → part ≡ take 64 (drop (64 * j) tables)
    → (2 * length (drop (64 * i) tables) + (groups - i) + 1) + 2 * count_by test part ≤ 2 * length (drop (64 * j) tables) + (groups - j)
group-count test tables part groups i j step within is =
    let few = count_by-le-length test part in
    let len = ap length is ∙ length-take 64 (drop (64 * j) tables) in
    let here = length-drop (64 * j) tables in
    let later = length-drop (64 * i) tables in
    omega (arith, few, len, here, later)

-- ---- a number among the first or last of a list

-- a bucket of a group's table is one of the pile's
pub part-bucket : (g : Geometry) (tables part : List ℕ) (j block : ℕ) → part ≡ take 64 (drop (64 * j) tables) → IsBucketOf g part block → IsBucketOf g tables block
part-bucket g tables part j block is b = record {
  number = b.number;
  among = in_drop b.number (64 * j) tables (in_take b.number 64 (drop (64 * j) tables) (ap (is_in b.number) (sym is) ∙ b.among));
  column = b.column;
  within = b.within;
  is = b.is;
}
