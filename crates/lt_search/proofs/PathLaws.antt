-- Searching the levels of a path: the inner ones, and then the last pile.
use Rattle.std.proofs.Common.{◌≡◌, ℕ, zero, suc, ◌+◌, ◌-◌, ◌/◌, ◌<◌, ◌≤◌, refl, sym, ap, subst, ◌∙◌, List, [], ◌∷◌, ◌++◌, length, get_or, map, Bool, true, false, cond, Option, None, Result, Ok, add-one, append_assoc, append-nil, zero-add, arith}
use Rattle.std.specs.Prelude.{count_by}
use Rattle.std.specs.List.{AllByRecursion, filter, range_with_len, sum_by}
use Rattle.std.specs.Option.{is_some}
use Rattle.std.proofs.lemmas.Bool.{eq-eqb, ne_eqb}
use Rattle.std.proofs.lemmas.List.Elements.{filter-append}
use Rattle.std.proofs.lemmas.List.Sums.{sum_by-append}
use Rattle.lt_terms.specs.Bytes.{Image}
use Rattle.lt_terms.specs.Items.{Item}
use Rattle.lt_device.specs.Reads.{CountsAtMost}
use Rattle.lt_tables.proofs.ListLaws.{all_join, all_left, all_right, all_weaker}
use Rattle.lt_format.specs.declared.geometry.Geometry.{Geometry}
use Rattle.lt_format.specs.declared.node_id.NodeId.{NodeId}
use Rattle.lt_format.specs.Trie.{Node, Trie, groups_for, is_last_level, named, node_at, node_extents, path, IsTrie}
use Rattle.lt_format.proofs.ShapeLaws.{node_at-shaped, shaped-last}
use Rattle.lt_htable.specs.declared.faults.LookFault.{LookFault}
use Rattle.lt_image.specs.Bound.{distinct_count, groups_met}
use Rattle.lt_image.specs.Versions.{Stop, stops}
use Rattle.lt_image.proofs.AfterLaws.{node_at-holds}
use Rattle.lt_search.specs.declared.version.Version.{Version}
use Rattle.lt_search.specs.Asking.{asks_kept, inner_asked, is_asked}
use Rattle.lt_search.specs.Seen.{asks_group}
use Rattle.lt_search.specs.Kept.{may_hold}
use Rattle.lt_search.specs.Reads.{bucket_reads, path_reads}
use Rattle.lt_search.specs.Searched.{Searched}
use Rattle.lt_search.specs.Seen.{IsSeen, met_along, pile_stops, seen_along}
use Rattle.lt_search.proofs.SearchLaws.{Fronts, IsLast, SoFar, buckets-append, buckets-front, counts-fewer, counts-more, exit, met-all, met-front, met-quiet, next, same-path, same-search, seen-behind, seen-none, seen-older, seen_along-append}
use Rattle.lt_search.proofs.StopLaws.{levels-more, path-more, stops-all}

-- ---- which stops are of the last level

pub inner-stops : (levels n : ℕ) (trie : Trie) (key : List ℕ) → n < levels → AllByRecursion (λ s. is_last_level levels s.node ≡ false) (stops n trie key)
inner-stops levels zero trie key above = tt
inner-stops levels (suc n) trie key above =
    let other : is_last_level levels (path key n) ≡ false = ne_eqb (n + 1) levels (λ same. absurd (omega arith)) in
    subst (AllByRecursion (λ s. is_last_level levels s.node ≡ false)) (sym (path-more n trie key))
    (all_join (λ s. is_last_level levels s.node ≡ false) (stops n trie key) (pile_stops (path key n) 0 (node_at trie (path key n)).tables) (inner-stops levels n trie key (omega arith))
    (stops-all (λ s. is_last_level levels s.node ≡ false) (path key n) 0 (node_at trie (path key n)).tables (λ j below. other)))

inner-asks : (g : Geometry) (kept : List (Option (List ℕ))) (image : Image) (trie : Trie) (key : List ℕ) (n : ℕ) → n < g.levels → AllByRecursion (λ s. asks_kept kept key s ≡ is_asked g kept image trie key s) (stops n trie key)
inner-asks g kept image trie key n above =
    all_weaker (λ (s : Stop). is_last_level g.levels s.node ≡ false) (λ (s : Stop). asks_kept kept key s ≡ is_asked g kept image trie key s)
    (λ s other. sym (ap (λ (b : Bool). cond b (asks_group g (node_at trie s.node).groups image key s) (asks_kept kept key s)) other))
    (stops n trie key) (inner-stops g.levels n trie key above)

last-asks : (g : Geometry) (kept : List (Option (List ℕ))) (image : Image) (trie : Trie) (key : List ℕ) (id : NodeId) → is_last_level g.levels id ≡ true
    → AllByRecursion (λ s. asks_group g (node_at trie id).groups image key s ≡ is_asked g kept image trie key s) (pile_stops id 0 (node_at trie id).tables)
last-asks g kept image trie key id last =
    stops-all (λ s. asks_group g (node_at trie id).groups image key s ≡ is_asked g kept image trie key s) id 0 (node_at trie id).tables (λ j below.
    let s : Stop = record { node = id; index = 0 + j; extent = get_or (node_at trie id).tables j 0 } in
    sym (ap (λ (b : Bool). cond b (asks_group g (node_at trie id).groups image key s) (asks_kept kept key s)) last))

none_last : (levels : ℕ) (ss : List Stop) → AllByRecursion (λ s. is_last_level levels s.node ≡ false) ss → filter (λ (s : Stop). is_last_level levels s.node) ss ≡ []
none_last levels [] all = refl
none_last levels (s ∷ ss) all = ap (λ (b : Bool). cond b (s ∷ filter (λ (s : Stop). is_last_level levels s.node) ss) (filter (λ (s : Stop). is_last_level levels s.node) ss)) all.0 ∙ none_last levels ss all.1

-- the groups of what follows are all that there are
inner-groups : (levels : ℕ) (inner more : List Stop) → AllByRecursion (λ s. is_last_level levels s.node ≡ false) inner → groups_met levels (inner ++ more) ≡ groups_met levels more
inner-groups levels inner more all =
    let last = λ (s : Stop). is_last_level levels s.node in
    ap (λ (ss : List Stop). distinct_count (map (λ (s : Stop). s.index / 64) ss)) (filter-append last inner more ∙ ap (λ (ss : List Stop). ss ++ filter last more) (none_last levels inner all))

-- ---- a search of the path

module _ (g : Geometry) (kept : List (Option (List ℕ))) (image : Image) (trie : Trie) (key : List ℕ) (n : ℕ) (levels : n + 1 ≡ g.levels) where
  abbrev asks : Stop → Bool
  asks = is_asked g kept image trie key

  abbrev inner : List Stop
  inner = stops n trie key

  abbrev last : List Stop
  last = pile_stops (path key n) 0 (node_at trie (path key n)).tables

  path-is : stops g.levels trie key ≡ inner ++ last
  path-is = let top : g.levels ≡ suc n = omega arith in ap (λ l. stops l trie key) top ∙ path-more n trie key

  pub last-level : is_last_level g.levels (path key n) ≡ true
  last-level = eq-eqb (n + 1) g.levels levels

  -- it ended above the last level
  pub ended-inside : (result : Result (Option Version) LookFault) (old new : List ℕ) (before now : ℕ) → IsLast result → Searched (asks_kept kept key) bucket_reads g image key (stops n trie key) result old new before now → Searched (is_asked g kept image trie key) path_reads g image key (stops g.levels trie key) result old new before now
  ended-inside result old new before now ends searched =
      let s = same-search (asks_kept kept key) asks g image key inner result old new before now (inner-asks g kept image trie key n (omega arith)) searched in
      let seen_is = ap (seen_along asks g image key) path-is ∙ seen_along-append asks g image key inner last in
      let front = buckets-front asks g image key _ _ (met-front asks g image key inner last) in
      let met_is = ap (met_along asks g image key) path-is in
      record {
        seen = subst (λ (a : Result (Option Item) LookFault). IsSeen a result old new) (sym seen_is) (seen-older (seen_along asks g image key inner) (seen_along asks g image key last) result old new ends s.seen);
        reads = counts-fewer _ _ before now s.reads (let all = ap (bucket_reads asks g image key) met_is in omega (arith, all, front));
      }

  -- it went on to the last pile
  pub ended-last : (result : Result (Option Version) LookFault) (page old new : List ℕ) (before mid now : ℕ) → Searched (asks_kept kept key) bucket_reads g image key (stops n trie key) (Ok None) page old before mid
      → Searched (asks_group g (node_at trie (path key n)).groups image key) path_reads g image key (pile_stops (path key n) 0 (node_at trie (path key n)).tables) result old new mid now
      → Searched (is_asked g kept image trie key) path_reads g image key (stops g.levels trie key) result old new before now
  ended-last result page old new before mid now first second =
      let s = same-search (asks_kept kept key) asks g image key inner (Ok None) page old before mid (inner-asks g kept image trie key n (omega arith)) first in
      let t = same-path (asks_group g (node_at trie (path key n)).groups image key) asks g image key last result old new mid now (last-asks g kept image trie key (path key n) last-level) second in
      let quiet = seen-none (seen_along asks g image key inner) page old s.seen in
      let seen_is = ap (seen_along asks g image key) path-is ∙ seen-behind asks g image key inner last quiet in
      let met_is = ap (met_along asks g image key) path-is ∙ met-quiet asks g image key inner last quiet in
      let buckets = buckets-append asks g image key inner (met_along asks g image key last) in
      let groups = inner-groups g.levels inner (met_along asks g image key last) (inner-stops g.levels n trie key (omega arith)) in
      let before_is = ap (bucket_reads asks g image key) (met-all asks g image key inner quiet) in
      record {
        seen = subst (λ (a : Result (Option Item) LookFault). IsSeen a result old new) (sym seen_is) t.seen;
        reads = subst (λ (ss : List Stop). CountsAtMost (path_reads asks g image key ss) before now) (sym met_is)
            (counts-more _ _ _ before mid now s.reads t.reads (omega (arith, before_is, buckets, groups)));
      }

-- ---- one level more

-- the path over some levels is the front of that over more
path-front : (trie : Trie) (key : List ℕ) (m k : ℕ) → Fronts (stops m trie key) (stops (k + m) trie key)
path-front trie key m zero = let same : m ≡ 0 + m = omega arith in record { rest = []; is = ap (λ n. stops n trie key) (sym same) ∙ sym (append-nil (stops m trie key)) }
path-front trie key m (suc k) =
    let front = path-front trie key m k in
    let there : suc k + m ≡ suc (k + m) = omega arith in
    let pile : List Stop = pile_stops (path key (k + m)) 0 (node_at trie (path key (k + m))).tables in
    record {
      rest = front.rest ++ pile;
      is = ap (λ n. stops n trie key) there ∙ path-more (k + m) trie key ∙ ap (λ ss. ss ++ pile) front.is ∙ append_assoc (stops m trie key) front.rest pile;
    }

module _ (g : Geometry) (kept : List (Option (List ℕ))) (image : Image) (trie : Trie) (key : List ℕ) (m : ℕ) (tables : List ℕ) (tables_are : tables ≡ (node_at trie (path key m)).tables) where
  here : stops (m + 1) trie key ≡ stops m trie key ++ pile_stops (path key m) 0 tables
  here = ap (λ n. stops n trie key) (add-one m) ∙ path-more m trie key ∙ ap (λ xs. stops m trie key ++ pile_stops (path key m) 0 xs) (sym tables_are)

  pub level-next : (version : Option Version) (out new : List ℕ) (before mid now : ℕ) → SoFar (asks_kept kept key) bucket_reads g image key (stops m trie key) before mid
      → Searched (asks_kept kept key) bucket_reads g image key (pile_stops (path key m) 0 tables) (Ok version) out new mid now → is_some version ≡ false → SoFar (asks_kept kept key) bucket_reads g image key (stops (m + 1) trie key) before now
  level-next version out new before mid now so_far searched none =
      subst (λ (ss : List Stop). SoFar (asks_kept kept key) bucket_reads g image key ss before now) (sym here)
      (next (asks_kept kept key) g image key (stops m trie key) (pile_stops (path key m) 0 tables) version out new before mid now so_far searched none)

  pub level-exit : (top : ℕ) (result : Result (Option Version) LookFault) (out old new : List ℕ) (before mid now : ℕ) → m + 1 ≤ top → SoFar (asks_kept kept key) bucket_reads g image key (stops m trie key) before mid
      → Searched (asks_kept kept key) bucket_reads g image key (pile_stops (path key m) 0 tables) result out new mid now → IsLast result → out ≡ old → Searched (asks_kept kept key) bucket_reads g image key (stops top trie key) result old new before now
  level-exit top result out old new before mid now above so_far searched ends same =
      let front = path-front trie key (m + 1) (top - (m + 1)) in
      let there : top ≡ (top - (m + 1)) + (m + 1) = omega arith in
      exit (asks_kept kept key) g image key (stops m trie key) (pile_stops (path key m) 0 tables) front.rest (stops top trie key) result out old new before mid now so_far searched ends
      (ap (λ n. stops n trie key) there ∙ front.is ∙ ap (λ ss. ss ++ front.rest) here) same

-- ---- how many tables may be asked

pub asked-more : (kept : List (Option (List ℕ))) (trie : Trie) (key : List ℕ) (n : ℕ) → inner_asked kept trie key (suc n) ≡ inner_asked kept trie key n + count_by (may_hold kept key) (node_at trie (path key n)).tables
asked-more kept trie key n =
    let f = λ (level : ℕ). count_by (may_hold kept key) (node_at trie (path key level)).tables in
    ap (sum_by f) (levels-more n)
    ∙ sum_by-append f (range_with_len 0 n) (n ∷ [])
    ∙ ap (λ m. inner_asked kept trie key n + m) (zero-add (count_by (may_hold kept key) (node_at trie (path key n)).tables))

-- fewer levels have no more of them
pub asked-grows : (kept : List (Option (List ℕ))) (trie : Trie) (key : List ℕ) (m k : ℕ) → inner_asked kept trie key m ≤ inner_asked kept trie key (k + m)
asked-grows kept trie key m zero = let same : m ≡ 0 + m = omega arith in subst (λ n. inner_asked kept trie key m ≤ inner_asked kept trie key n) same (omega arith)
asked-grows kept trie key m (suc k) =
    let more = asked-more kept trie key (k + m) in
    let rest = asked-grows kept trie key m k in
    let there : suc (k + m) ≡ suc k + m = omega arith in
    subst (λ n. inner_asked kept trie key m ≤ inner_asked kept trie key n) there (omega (arith, more, rest))

-- ---- the extents of a node

groups_all : (P : ℕ → Type 0) (trie : Trie) → AllByRecursion P (named trie) → AllByRecursion (λ (e : NodeId × Node). AllByRecursion P e.1.groups) trie
groups_all P [] all = tt
groups_all P (e ∷ es) all = (all_right P e.1.tables e.1.groups (all_left P (node_extents e.1) (named es) all), groups_all P es (all_right P (node_extents e.1) (named es) all))

-- what holds of all named extents holds of the groups of each node
pub named-groups : (P : ℕ → Type 0) (trie : Trie) (id : NodeId) → AllByRecursion P (named trie) → AllByRecursion P (node_at trie id).groups
named-groups P trie id all = node_at-holds (λ (e : NodeId × Node). AllByRecursion P e.1.groups) id trie tt (groups_all P trie all)

-- a node of the last level has a group for each 64 tables
pub last-count : (levels extents : ℕ) (trie : Trie) (n : ℕ) (node : NodeId) (tables groups : List ℕ) → IsTrie levels extents trie → n + 1 ≡ levels → node.level ≡ n → tables ≡ (node_at trie node).tables → groups ≡ (node_at trie node).groups → length groups ≡ groups_for (length tables)
last-count levels extents trie n node tables groups is top level_is tables_are groups_are =
    let last : is_last_level levels node ≡ true = eq-eqb (node.level + 1) levels (omega (arith, top, level_is)) in
    ap length groups_are
    ∙ (shaped-last levels extents node (node_at trie node) last (node_at-shaped levels extents trie node is.nodes)).1
    ∙ ap (λ (xs : List ℕ). groups_for (length xs)) (sym tables_are)
