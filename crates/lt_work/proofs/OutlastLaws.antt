-- What suits a trie, and what is true on an image, outlasts what leaves the named and the reserved extents.
use Rattle.std.proofs.Common.{◌≡◌, ℕ, ◌+◌, ◌*◌, ◌<◌, ◌≤◌, refl, sym, ap, subst, ◌∙◌, List, [], ◌∷◌, ◌++◌, length, Bool, true, false, not, ◌&&◌, ◌||◌, cond, Option, Some, None, arith, append-nil}
use Rattle.std.specs.Prelude.{IsTrue, IsFalse, nat_le, nat_lt, replicate, slice_index_or, zero, suc}
use Rattle.std.specs.List.{AllByRecursion, list_all, list_any}
use Rattle.std.proofs.lemmas.Bool.{and_from, le-leb, leb-true, or_right, true≢false}
use Rattle.std.proofs.lemmas.List.{length-append, length-replicate}
use Rattle.std.proofs.lemmas.Option.{none-some}
use Rattle.lt_terms.specs.Bytes.{Image, is_in}
use Rattle.lt_terms.specs.Items.{Item}
use Rattle.lt_terms.proofs.AmongLaws.{in_right}
use Rattle.lt_alloc.specs.Extents.{Reserves, is_free}
use Rattle.lt_tables.specs.Table.{is_put, has_two_versions}
use Rattle.lt_tables.proofs.ListLaws.{all_left, all_right}
use Rattle.lt_format.specs.declared.node_id.NodeId.{NodeId}
use Rattle.lt_format.specs.Changes.{after_change, appended, flush}
use Rattle.lt_format.specs.Snapshot.{Named}
use Rattle.lt_format.specs.Trie.{IsTrie, Node, Trie, all_distinct, is_last_level, named, node_at, node_extents, root, same_node, with_node}
use Rattle.lt_format.proofs.TrieLaws.{if_any, node_at-with_node, same_node-same}
use Rattle.lt_format.proofs.NamedLaws.{flush-times}
use Rattle.lt_format.proofs.Numbers.{times, times-append, times-absent, absent-times, distinct-joined}
use Rattle.lt_format.proofs.FreeLaws.{root_inner}
use Rattle.lt_image.specs.After.{SameExtent, SameExtents}
use Rattle.lt_image.specs.Needs.{has_slack, is_full, is_slack, node_items, waits}
use Rattle.lt_image.specs.Shares.{needed}
use Rattle.lt_image.proofs.ChangeLaws.{tables-flush, with_node-all}
use Rattle.lt_image.proofs.PressureLaws.{slack-same, waits-same}
use Rattle.lt_pace.specs.Marks.{is_marked, most_nodes, no_marks, place_of}
use Rattle.lt_compact.specs.Extents.{GoesWith}
use Rattle.lt_compact.specs.Jobs.{JobView, taken_in}
use Rattle.lt_compact.proofs.LocalLaws.{flush-shaped, same-keeps, flush-keeps_job}
use Rattle.lt_compact.proofs.TakeLaws.{reserved-distinct, reserved-taken, was_free}
use Rattle.lt_work.specs.Work.{IsTrueOn, SuitsTrie, WorkView, at_rest, flushed_work, may_begin, reserved_by, reserved_for}

-- ---- fresh work

-- no node has a mark where none is marked
pub none-marked : (n k : ℕ) → slice_index_or (replicate n false) k false ≡ false
none-marked zero k = refl
none-marked (suc n) zero = refl
none-marked (suc n) (suc k) = none-marked n k

unmarked : (id : NodeId) → is_marked no_marks id ≡ true → ⊥
unmarked id is = true≢false (sym is ∙ none-marked most_nodes (place_of id))

pub none-wait : (m : Named) (image : Image) (es : Trie) → AllByRecursion (λ e. IsTrue (is_marked no_marks e.0) → IsTrue (waits m image e)) es
none-wait m image [] = tt
none-wait m image (e ∷ es) = ((λ is. absurd (unmarked e.0 is)), none-wait m image es)

none-slackless : (m : Named) (image : Image) (es : Trie) → AllByRecursion (λ e. IsTrue (is_marked no_marks e.0) → IsFalse (is_slack m image e)) es
none-slackless m image [] = tt
none-slackless m image (e ∷ es) = ((λ is. absurd (unmarked e.0 is)), none-slackless m image es)

pub rest-suits : (levels : ℕ) (trie : Trie) (taken : List Bool) → SuitsTrie levels trie taken at_rest
rest-suits levels trie taken = record {
  job = λ j none. absurd (none-some j none);
  candidate = λ j none. absurd (none-some j none);
  passed_over = length-replicate most_nodes false;
  without_slack = length-replicate most_nodes false;
}

pub rest-true : (m : Named) (image : Image) → IsTrueOn m image at_rest
rest-true m image = record { job = λ j none. absurd (none-some j none); waiting = none-wait m image m.manifest.trie; slackless = none-slackless m image m.manifest.trie }

-- ---- extents as before

-- what the job in flight reserved
pub of_job : (w : WorkView) (j : JobView) → w.job ≡ Some j → reserved_by w ≡ taken_in j.stage
of_job w j is = ap reserved_for is

pub wait-same : (m : Named) (old new : Image) (marks : List Bool) (es : Trie) → SameExtents m.geometry old new (named es) → AllByRecursion (λ e. IsTrue (is_marked marks e.0) → IsTrue (waits m old e)) es
    → AllByRecursion (λ e. IsTrue (is_marked marks e.0) → IsTrue (waits m new e)) es
wait-same m old new marks [] same all = tt
wait-same m old new marks (e ∷ es) same all =
    let here = all_left (SameExtent m.geometry old new) e.1.tables e.1.groups (all_left (SameExtent m.geometry old new) (node_extents e.1) (named es) same) in
    ((λ is. waits-same m old new e here ∙ all.0 is), wait-same m old new marks es (all_right (SameExtent m.geometry old new) (node_extents e.1) (named es) same) all.1)

pub slackless-same : (m : Named) (old new : Image) (marks : List Bool) (es : Trie) → SameExtents m.geometry old new (named es) → AllByRecursion (λ e. IsTrue (is_marked marks e.0) → IsFalse (is_slack m old e)) es
    → AllByRecursion (λ e. IsTrue (is_marked marks e.0) → IsFalse (is_slack m new e)) es
slackless-same m old new marks [] same all = tt
slackless-same m old new marks (e ∷ es) same all =
    let here = all_left (SameExtent m.geometry old new) e.1.tables e.1.groups (all_left (SameExtent m.geometry old new) (node_extents e.1) (named es) same) in
    ((λ is. slack-same m old new e here ∙ all.0 is), slackless-same m old new marks es (all_right (SameExtent m.geometry old new) (node_extents e.1) (named es) same) all.1)

-- EXTENTS AS BEFORE keep what is true
pub same-true : (m : Named) (old new : Image) (taken : List Bool) (w : WorkView) → SuitsTrie m.geometry.levels m.manifest.trie taken w → SameExtents m.geometry old new (named m.manifest.trie)
    → SameExtents m.geometry old new (reserved_by w) → IsTrueOn m old w → IsTrueOn m new w
same-true m old new taken w suits same fresh true_on = record {
  job = λ j is. same-keeps m old new j same (subst (SameExtents m.geometry old new) (of_job w j is) fresh) (suits.job j is).shaped (true_on.job j is);
  waiting = wait-same m old new w.passed_over m.manifest.trie same true_on.waiting;
  slackless = slackless-same m old new w.without_slack m.manifest.trie same true_on.slackless;
}

-- ---- a flush

-- a rewriting needs as much in each trie
rewriting-needs : (levels : ℕ) (trie now : Trie) (id : NodeId) (items : List Item) → is_last_level levels id ≡ true → needed levels now id items ≡ needed levels trie id items
unfolding needed
rewriting-needs levels trie now id items last = rw last refl

-- a last-level pile has slack in each trie or in none
pub slack-alike : (m n : Named) (image : Image) (e : NodeId × Node) → n.geometry ≡ m.geometry → is_slack n image e ≡ is_slack m image e
slack-alike m n image e geometry = by_level (is_last_level m.geometry.levels e.0) refl
  where
    of_levels : is_last_level n.geometry.levels e.0 ≡ is_last_level m.geometry.levels e.0
    of_levels = ap (λ g. is_last_level g.levels e.0) geometry

    items : List Item
    items = node_items m image e.1

    by_level : (b : Bool) → is_last_level m.geometry.levels e.0 ≡ b → is_slack n image e ≡ is_slack m image e
    by_level false inner =
        ap (λ b. b && has_slack n.geometry.levels n.manifest.trie e.0 (node_items n image e.1) (length e.1.tables + length e.1.groups)) (of_levels ∙ inner)
        ∙ sym (ap (λ b. b && has_slack m.geometry.levels m.manifest.trie e.0 (node_items m image e.1) (length e.1.tables + length e.1.groups)) inner)
    by_level true last =
        ap (λ g. is_last_level g.levels e.0 && (list_any (λ v. not (is_put v)) (node_items (record n { geometry = g }) image e.1) || has_two_versions (node_items (record n { geometry = g }) image e.1) || nat_lt (needed g.levels n.manifest.trie e.0 (node_items (record n { geometry = g }) image e.1)) (length e.1.tables + length e.1.groups))) geometry
        ∙ ap (λ k. is_last_level m.geometry.levels e.0 && (list_any (λ v. not (is_put v)) (node_items m image e.1) || has_two_versions (node_items m image e.1) || nat_lt k (length e.1.tables + length e.1.groups))) (rewriting-needs m.geometry.levels m.manifest.trie n.manifest.trie e.0 (node_items m image e.1) last)

pub all-alike : (m n : Named) (image : Image) (marks : List Bool) (es : Trie) → n.geometry ≡ m.geometry → AllByRecursion (λ e. IsTrue (is_marked marks e.0) → IsFalse (is_slack m image e)) es → AllByRecursion (λ e. IsTrue (is_marked marks e.0) → IsFalse (is_slack n image e)) es
all-alike m n image marks [] geometry all = tt
all-alike m n image marks (e ∷ es) geometry all = ((λ is. slack-alike m n image e geometry ∙ all.0 is), all-alike m n image marks es geometry all.1)

root-slackless : (n : Named) (image : Image) (node : Node) → 2 ≤ n.geometry.levels → is_slack n image (root, node) ≡ false
root-slackless n image node deep = ap (λ b. b && has_slack n.geometry.levels n.manifest.trie root (node_items n image node) (length node.tables + length node.groups)) (root_inner n.geometry.levels deep)

-- A FLUSH keeps what is true, but for the nodes that were passed over
pub flushed-true : (m n : Named) (old new : Image) (taken : List Bool) (numbers : List ℕ) (w : WorkView) → 2 ≤ m.geometry.levels → n.geometry ≡ m.geometry → n.manifest.trie ≡ after_change m.manifest.trie (flush numbers)
    → SuitsTrie m.geometry.levels m.manifest.trie taken w → SameExtents m.geometry old new (named m.manifest.trie) → SameExtents m.geometry old new (reserved_by w) → IsTrueOn m old w → IsTrueOn n new (flushed_work w)
unfolding after_change
flushed-true m n old new taken numbers w deep geometry trie suits same fresh true_on =
    let kept = slackless-same m old new w.without_slack m.manifest.trie same true_on.slackless in
    let deep_now : 2 ≤ n.geometry.levels = subst (λ g. 2 ≤ g.levels) (sym geometry) deep in
    record {
      job = λ j is. flush-keeps_job m n old new numbers j deep geometry trie same (subst (SameExtents m.geometry old new) (of_job w j is) fresh) (suits.job j is).shaped (true_on.job j is);
      waiting = none-wait n new n.manifest.trie;
      slackless = subst (AllByRecursion (λ e. IsTrue (is_marked w.without_slack e.0) → IsFalse (is_slack n new e))) (sym trie)
          (with_node-all (λ e. IsTrue (is_marked w.without_slack e.0) → IsFalse (is_slack n new e)) m.manifest.trie root (appended (node_at m.manifest.trie root) numbers)
          (λ is. root-slackless n new (appended (node_at m.manifest.trie root) numbers) deep_now)
          (all-alike m n new w.without_slack m.manifest.trie geometry kept));
    }

-- ---- the extents that are taken

-- a number that stands in neither list stands nowhere
present : (x : ℕ) (xs ys zs : List ℕ) → times x zs ≡ times x xs + times x ys → is_in x zs ≡ true → (is_in x ys ≡ false → is_in x xs ≡ true)
present x xs ys zs sum there absent = decide (is_in x xs) refl
  where
    decide : (b : Bool) → is_in x xs ≡ b → is_in x xs ≡ true
    decide true is = is
    decide false is =
        let one = times-absent x xs is in
        let two = times-absent x ys absent in
        let none : times x zs ≡ 0 = omega (arith, one, two, sum) in
        absurd (true≢false (sym there ∙ absent-times x zs none))

pub all-absent : (before xs : List ℕ) → ((x : ℕ) → is_in x xs ≡ true → is_in x before ≡ false) → list_all (λ x. not (is_in x before)) xs ≡ true
all-absent before [] apart = refl
all-absent before (x ∷ xs) apart = and_from (not (is_in x before)) (list_all (λ y. not (is_in y before)) xs) (ap not (apart x (first x xs))) (all-absent before xs (λ y there. apart y (behind y x xs there)))
  where
    first : (x : ℕ) (xs : List ℕ) → is_in x (x ∷ xs) ≡ true
    first x xs = grind arith

    behind : (y x : ℕ) (xs : List ℕ) → is_in y xs ≡ true → is_in y (x ∷ xs) ≡ true
    behind y x xs there = grind arith

goes-flushed : (levels extents count : ℕ) (trie : Trie) (taken now : List Bool) (numbers : List ℕ) (j : JobView) → 2 ≤ levels → IsTrie levels extents trie → 1 ≤ length numbers → Reserves count taken now [] numbers
    → GoesWith levels trie taken j → GoesWith levels (after_change trie (flush numbers)) now j
goes-flushed levels extents count trie taken now numbers j deep t some r goes = record {
  shaped = flush-shaped levels trie numbers j deep goes.shaped;
  reserved = record {
    below = λ x there. by_new x there (is_in x numbers) refl;
    each = λ x there. each_new x there (is_in x numbers) refl;
  };
  apart = distinct-joined before numbers after goes.apart (reserved-distinct count taken now numbers r) (all-absent before numbers absent) (λ x. let sum = sums x in omega (arith, sum));
}
  where
    before : List ℕ
    before = named trie ++ taken_in j.stage

    after : List ℕ
    after = named (after_change trie (flush numbers)) ++ taken_in j.stage

    sums : (x : ℕ) → times x after ≡ times x before + times x numbers
    sums x = omega (arith, times-append x (named trie) (taken_in j.stage), times-append x (named (after_change trie (flush numbers))) (taken_in j.stage), flush-times x trie numbers t.rising some)

    absent : (x : ℕ) → is_in x numbers ≡ true → is_in x before ≡ false
    absent x there = decide (is_in x before) refl
      where
        decide : (b : Bool) → is_in x before ≡ b → is_in x before ≡ false
        decide false is = is
        decide true is = absurd (true≢false (sym (was_free count taken now numbers r x there) ∙ goes.reserved.each x is))

    by_new : (x : ℕ) → IsTrue (is_in x after) → (b : Bool) → is_in x numbers ≡ b → x < length now
    by_new x there true is = (reserved-taken count taken now numbers r).below x is
    by_new x there false is = let small = goes.reserved.below x (present x before numbers after (sums x) there is) in let size = r.same_extents in omega (arith, small, size)

    each_new : (x : ℕ) → IsTrue (is_in x after) → (b : Bool) → is_in x numbers ≡ b → is_free now x ≡ false
    each_new x there true is = (reserved-taken count taken now numbers r).each x is
    each_new x there false is = r.others_stay x ∙ ap (λ b. b && not (is_in x r.numbers)) (goes.reserved.each x (present x before numbers after (sums x) there is))

-- a full pile stays full
flushed-full : (levels : ℕ) (trie : Trie) (numbers : List ℕ) (id : NodeId) → 2 ≤ levels → is_full levels (id, node_at trie id) ≡ true → is_full levels (id, node_at (after_change trie (flush numbers)) id) ≡ true
unfolding after_change
flushed-full levels trie numbers id deep full = by_root (same_node id root) refl
  where
    now : Trie
    now = with_node trie root (appended (node_at trie root) numbers)

    by_root : (b : Bool) → same_node id root ≡ b → is_full levels (id, node_at now id) ≡ true
    by_root false is = ap (λ n. is_full levels (id, n)) (node_at-with_node trie root (appended (node_at trie root) numbers) id ∙ ap (λ b. cond b (if_any (appended (node_at trie root) numbers)) (node_at trie id)) is) ∙ full
    by_root true is =
        let at : id ≡ root = same_node-same id root is in
        let inner : is_last_level levels id ≡ false = ap (is_last_level levels) at ∙ root_inner levels deep in
        let was : 8 ≤ length (node_at trie id).tables = leb-true 8 (length (node_at trie id).tables) (sym (ap (λ b. nat_le (cond b (2 * (node_at trie id).base + 8) 8) (length (node_at trie id).tables)) inner) ∙ full) in
        let grown : (node_at now id).tables ≡ (node_at trie root).tables ++ numbers = tables-flush trie numbers id ∙ ap (λ b. cond b ((node_at trie root).tables ++ numbers) (node_at trie id).tables) is in
        let same : length (node_at trie id).tables ≡ length (node_at trie root).tables = ap (λ q. length (node_at trie q).tables) at in
        let more : length (node_at now id).tables ≡ length (node_at trie root).tables + length numbers = ap length grown ∙ length-append (node_at trie root).tables numbers in
        ap (λ b. nat_le (cond b (2 * (node_at now id).base + 8) 8) (length (node_at now id).tables)) inner ∙ le-leb 8 (length (node_at now id).tables) (omega (arith, was, same, more))

-- and where a job may have begun it still may
flushed-begins : (levels : ℕ) (trie : Trie) (numbers : List ℕ) (without_slack : List Bool) (id : NodeId) → 2 ≤ levels → may_begin levels trie without_slack id ≡ true → may_begin levels (after_change trie (flush numbers)) without_slack id ≡ true
flushed-begins levels trie numbers without_slack id deep begins = by_full (is_full levels (id, node_at trie id)) refl
  where
    rest : Bool
    rest = is_last_level levels id && not (is_marked without_slack id)

    by_full : (b : Bool) → is_full levels (id, node_at trie id) ≡ b → may_begin levels (after_change trie (flush numbers)) without_slack id ≡ true
    by_full true full = ap (λ b. b || rest) (flushed-full levels trie numbers id deep full)
    by_full false part = or_right (is_full levels (id, node_at (after_change trie (flush numbers)) id)) rest (sym (ap (λ b. b || rest) part) ∙ begins)

-- A FLUSH into extents that were free keeps what suits
pub flushed-suits : (levels extents count : ℕ) (trie : Trie) (taken now : List Bool) (numbers : List ℕ) (w : WorkView) → 2 ≤ levels → IsTrie levels extents trie → 1 ≤ length numbers → Reserves count taken now [] numbers
    → SuitsTrie levels trie taken w → SuitsTrie levels (after_change trie (flush numbers)) now (flushed_work w)
flushed-suits levels extents count trie taken now numbers w deep t some r suits = record {
  job = λ j is. goes-flushed levels extents count trie taken now numbers j deep t some r (suits.job j is);
  candidate = λ j is. record { begins = flushed-begins levels trie numbers w.without_slack j.node deep (suits.candidate j is).begins; unmarked = none-marked most_nodes (place_of j.node) };
  passed_over = length-replicate most_nodes false;
  without_slack = suits.without_slack;
}

goes-alike : (levels : ℕ) (trie : Trie) (taken now : List Bool) (j : JobView) → length now ≡ length taken → ((x : ℕ) → x < length taken → is_free now x ≡ is_free taken x) → GoesWith levels trie taken j → GoesWith levels trie now j
goes-alike levels trie taken now j size same goes = record {
  shaped = goes.shaped;
  reserved = record { below = λ x there. let small = goes.reserved.below x there in omega (arith, small, size); each = λ x there. same x (goes.reserved.below x there) ∙ goes.reserved.each x there };
  apart = goes.apart;
}

-- flags that say the same
pub alike-suits : (levels : ℕ) (trie : Trie) (taken now : List Bool) (w : WorkView) → length now ≡ length taken → ((x : ℕ) → x < length taken → is_free now x ≡ is_free taken x) → SuitsTrie levels trie taken w → SuitsTrie levels trie now w
alike-suits levels trie taken now w size same suits = record {
  job = λ j is. goes-alike levels trie taken now j size same (suits.job j is);
  candidate = suits.candidate;
  passed_over = suits.passed_over;
  without_slack = suits.without_slack;
}

-- ---- the extents that are in use

-- what suits names and reserves each extent once
pub suits-apart : (levels : ℕ) (trie : Trie) (taken : List Bool) (w : WorkView) → SuitsTrie levels trie taken w → all_distinct (named trie) ≡ true → all_distinct (named trie ++ reserved_by w) ≡ true
suits-apart levels trie taken w suits distinct = by_job w.job refl
  where
    by_job : (job : Option JobView) → w.job ≡ job → all_distinct (named trie ++ reserved_by w) ≡ true
    by_job None is = ap (λ o. all_distinct (named trie ++ reserved_for o)) is ∙ ap all_distinct (append-nil (named trie)) ∙ distinct
    by_job (Some j) is = ap (λ o. all_distinct (named trie ++ reserved_for o)) is ∙ (suits.job j is).apart

-- and reserves none but those that there are
pub suits-below : (levels : ℕ) (trie : Trie) (taken : List Bool) (w : WorkView) → SuitsTrie levels trie taken w → (x : ℕ) → is_in x (reserved_by w) ≡ true → x < length taken
suits-below levels trie taken w suits x there = by_job w.job refl
  where
    by_job : (job : Option JobView) → w.job ≡ job → x < length taken
    by_job None is = absurd (true≢false (sym there ∙ ap (λ o. is_in x (reserved_for o)) is))
    by_job (Some j) is = (suits.job j is).reserved.below x (in_right x (named trie) (taken_in j.stage) (sym (ap (λ o. is_in x (reserved_for o)) is) ∙ there))
