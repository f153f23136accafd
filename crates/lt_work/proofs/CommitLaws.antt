-- A ready job's commit: its change may be committed, and what suits and is true stays so.
use Rattle.std.proofs.Common.{◌≡◌, ℕ, zero, suc, ◌+◌, ◌<◌, ◌≤◌, refl, sym, ap, subst, ◌∙◌, List, [], ◌∷◌, ◌++◌, length, Bool, true, false, not, ◌&&◌, ◌||◌, cond, Ok, arith}
use Rattle.std.specs.Prelude.{◌==◌, nat_lt, slice_index_or, slice_set}
use Rattle.std.specs.List.{AllByRecursion, fold}
use Rattle.std.proofs.lemmas.Bool.{and_from, and_parts, eq-eqb, eqb-true, lt-ltb, ltb-true, true≢false}
use Rattle.std.proofs.lemmas.List.{length-replicate, length-set}
use Rattle.std.proofs.lemmas.Option.{none-some}
use Rattle.lt_terms.specs.Bytes.{Image, is_in}
use Rattle.lt_terms.proofs.AmongLaws.{in_right, in_left, in_first}
use Rattle.lt_language.specs.Machine as machine
use Rattle.lt_alloc.specs.Extents.{AreTaken, is_free}
use Rattle.lt_format.specs.declared.header.Header.{Header}
use Rattle.lt_format.specs.declared.node_id.NodeId.{NodeId}
use Rattle.lt_format.specs.Changes.{Change, ChildChange, after_change, after_child, are_new, child_after, deal, fits, flush, freed, new_extents, rewrite, shape_fits, without_oldest}
use Rattle.lt_format.specs.Snapshot.{Named, after_commit, log_moves, may_commit}
use Rattle.lt_format.specs.Trie.{IsTrie, Node, Trie, all_below, all_distinct, empty_node, groups_for, is_last_level, is_node, named, node_at, same_node}
use Rattle.lt_format.proofs.FreeLaws.{change-named, freed-once, freed-was}
use Rattle.lt_format.proofs.KeepLaws.{after_change-trie}
use Rattle.lt_format.proofs.TrieLaws.{same_node-itself, same_node-same}
use Rattle.lt_image.specs.After.{Gets, SameExtents}
use Rattle.lt_image.specs.Needs.{has_slack, is_slack, node_items}
use Rattle.lt_image.specs.Shares.{needed, rewrite_share}
use Rattle.lt_image.specs.Standing.{Stands}
use Rattle.lt_image.specs.Versions.{Opened, open_image, pile_items}
use Rattle.lt_image.proofs.AfterLaws.{node_at-holds}
use Rattle.lt_image.proofs.ChangeLaws.{with_node-all}
use Rattle.lt_image.proofs.SlackLaws.{rewritten-not_slack}
use Rattle.lt_node.proofs.AfterLaws.{rewritten_node, unset_node}
use Rattle.lt_pace.specs.Marks.{is_marked, marked, most_nodes, place_of, unmarked}
use Rattle.lt_pace.proofs.MarkLaws.{mark-one}
use Rattle.lt_compact.specs.Extents.{AllTaken, GoesWith}
use Rattle.lt_compact.specs.Jobs.{JobView, taken_in}
use Rattle.lt_compact.specs.Plans.{all_given, rewriting}
use Rattle.lt_compact.proofs.CommitLaws.{IsFor, job-committed, job-fits, job-ready, ready-deals, ready-rewrites}
use Rattle.lt_compact.proofs.ExtentLaws.{apart-joined, distinct_behind}
use Rattle.lt_work.specs.Committing.{CanCommit, cleared_of, committed_work, slackless_after}
use Rattle.lt_work.specs.Work.{IsTrueOn, SuitsTrie, WorkView, reserved_by}
use Rattle.lt_work.proofs.CandidateLaws.{IsListed, all-listed, job-node, node-of-five}
use Rattle.lt_work.proofs.OutlastLaws.{all-absent, all-alike, none-wait, of_job, slackless-same}

-- ---- the change may be committed

below-all : (n : ℕ) (xs : List ℕ) → ((x : ℕ) → is_in x xs ≡ true → x < n) → all_below n xs ≡ true
below-all n [] below = refl
below-all n (x ∷ xs) below = and_from (nat_lt x n) (all_below n xs) (lt-ltb x n (below x (in_first x xs))) (below-all n xs (λ y there. below y (in_right y (x ∷ []) xs there)))

-- the change of a job leaves the log area and the writes
log-stays : (b : Bool) (id : NodeId) (n : ℕ) (cs : List ChildChange) (h : Header) → log_moves (cond b (rewriting id cs) (deal id n cs)) h h ≡ true
log-stays true id n [] h = and_from _ _ (eq-eqb h.log_area h.log_area refl) (eq-eqb h.writes h.writes refl)
log-stays true id n (c ∷ cs) h = and_from _ _ (eq-eqb h.log_area h.log_area refl) (eq-eqb h.writes h.writes refl)
log-stays false id n cs h = and_from _ _ (eq-eqb h.log_area h.log_area refl) (eq-eqb h.writes h.writes refl)

module _ (m : Named) (taken : List Bool) (w : WorkView) (change : Change) (c : CanCommit m taken w change) where
  -- the job that is ready
  abbrev pub j : JobView
  j = c.ready.job

  goes : GoesWith m.geometry.levels m.manifest.trie taken j
  goes = c.suits.job j c.ready.in_flight

  reserved_is : reserved_by w ≡ taken_in j.stage
  reserved_is = of_job w j c.ready.in_flight

  within : (x : ℕ) → is_in x (taken_in j.stage) ≡ true → x < m.manifest.header.extents
  within x there = let small = goes.reserved.below x (in_right x (named m.manifest.trie) (taken_in j.stage) there) in let size = c.in_use.len in omega (arith, small, size)

  unnamed : (x : ℕ) → is_in x (taken_in j.stage) ≡ true → is_in x (named m.manifest.trie) ≡ false
  unnamed x there = decide (is_in x (named m.manifest.trie)) refl
    where
      decide : (b : Bool) → is_in x (named m.manifest.trie) ≡ b → is_in x (named m.manifest.trie) ≡ false
      decide false is = is
      decide true is = absurd (true≢false (sym there ∙ apart-joined (named m.manifest.trie) (taken_in j.stage) goes.apart x is))

  new_ones : are_new 65536 m.manifest.trie (taken_in j.stage) ≡ true
  new_ones = and_from _ _ (and_from _ _ (distinct_behind (named m.manifest.trie) (taken_in j.stage) goes.apart) (below-all 65536 (taken_in j.stage) (λ x there. let small = within x there in let few = c.few in omega (arith, small, few))))
      (all-absent (named m.manifest.trie) (taken_in j.stage) unnamed)

  pub commit-for : IsFor m.geometry.levels m.manifest.trie change (taken_in j.stage)
  commit-for = job-fits m.geometry.levels m.manifest.header.extents m.manifest.trie j change c.trie_is goes.shaped c.ready.change_is new_ones

  pub commit-below : all_below m.manifest.header.extents (new_extents change) ≡ true
  commit-below = ap (all_below m.manifest.header.extents) commit-for.names ∙ below-all m.manifest.header.extents (taken_in j.stage) within

  -- THE CHANGE may be committed
  pub can-commit : may_commit m.geometry.levels m.manifest change m.manifest.header ≡ true
  can-commit =
      let ready = job-ready j change c.ready.change_is in
      let logs = ap (λ q. log_moves q m.manifest.header m.manifest.header) ready.change_is ∙ log-stays (is_last_level j.levels j.node) j.node (length j.sources) (all_given j.levels ready.shares ready.numbers) m.manifest.header in
      and_from _ _ (and_from _ _ (and_from _ _ commit-for.fit commit-below) (eq-eqb m.manifest.header.extents m.manifest.header.extents refl)) logs

  -- AND NEWLY NAMES what the job reserved
  pub commit-names : new_extents change ≡ reserved_by w
  commit-names = commit-for.names ∙ sym reserved_is

  -- ---- the extents that it frees

  pub commit-freed : AllTaken taken (freed m.manifest.trie change)
  commit-freed = record {
    below = λ x there. goes.reserved.below x (in_left x (named m.manifest.trie) (taken_in j.stage) (freed-was m.manifest.trie change x there));
    each = λ x there. goes.reserved.each x (in_left x (named m.manifest.trie) (taken_in j.stage) (freed-was m.manifest.trie change x there));
  }

  pub commit-once : all_distinct (freed m.manifest.trie change) ≡ true
  commit-once = freed-once m.geometry.levels m.manifest.header.extents m.manifest.trie change c.least c.trie_is commit-for.fit

  -- ONCE THEY ARE GIVEN BACK, what is taken is what the trie names
  pub commit-in_use : (given : List Bool) → length given ≡ length taken → ((x : ℕ) → is_free given x ≡ (is_free taken x || is_in x (freed m.manifest.trie change))) → AreTaken m.manifest.header.extents (named (after_change m.manifest.trie change)) given
  commit-in_use given size back = record {
    len = size ∙ c.in_use.len;
    free = λ x below.
        let was = c.in_use.free x below in
        let now = change-named m.geometry.levels m.manifest.header.extents m.manifest.trie change x c.least c.trie_is commit-for.fit in
        back x ∙ ap (λ b. b || is_in x (freed m.manifest.trie change)) (was ∙ ap not (in-both x (named m.manifest.trie) (reserved_by w)))
        ∙ decide (is_in x (named m.manifest.trie)) (is_in x (reserved_by w)) (is_in x (freed m.manifest.trie change)) (freed-was m.manifest.trie change x) (λ there. not_named x there)
        ∙ ap not (sym (now ∙ ap (λ xs. (is_in x (named m.manifest.trie) && not (is_in x (freed m.manifest.trie change))) || is_in x xs) commit-names));
  }
    where
      not_named : (x : ℕ) → is_in x (named m.manifest.trie) ≡ true → is_in x (reserved_by w) ≡ false
      not_named x there = ap (is_in x) reserved_is ∙ apart-joined (named m.manifest.trie) (taken_in j.stage) goes.apart x there

      in-both : (x : ℕ) (xs ys : List ℕ) → is_in x (xs ++ ys) ≡ (is_in x xs || is_in x ys)
      in-both x [] ys = refl
      in-both x (z ∷ xs) ys = by_head (z == x) (in-both x xs ys)
        where
          by_head : (b : Bool) → is_in x (xs ++ ys) ≡ (is_in x xs || is_in x ys) → (b || is_in x (xs ++ ys)) ≡ ((b || is_in x xs) || is_in x ys)
          by_head true rest = refl
          by_head false rest = rest

      decide : (a r f : Bool) → (f ≡ true → a ≡ true) → (a ≡ true → r ≡ false) → (not (a || r) || f) ≡ not ((a && not f) || r)
      decide true true f fa ar = absurd (true≢false (ar refl))
      decide true false true fa ar = refl
      decide true false false fa ar = refl
      decide false true true fa ar = absurd (true≢false (sym (fa refl)))
      decide false true false fa ar = refl
      decide false false true fa ar = absurd (true≢false (sym (fa refl)))
      decide false false false fa ar = refl

-- ---- what suits

clear-size : (marks : List Bool) (children : List ChildChange) → length (cleared_of marks children) ≡ length marks
clear-size marks [] = refl
clear-size marks (c ∷ cs) = clear-size (unmarked marks c.node) cs ∙ length-set marks (place_of c.node) false

pub slackless-size : (change : Change) (marks : List Bool) → length (slackless_after change marks) ≡ length marks
slackless-size (flush tables) marks = refl
slackless-size (deal node dropped children) marks = clear-size marks children
slackless-size (rewrite node tables groups) marks = length-set marks (place_of node) true

-- WHAT SUITS suits after the commit, with whatever trie and extents
pub commit-suits : (levels now_levels : ℕ) (trie now_trie : Trie) (taken now : List Bool) (w : WorkView) (change : Change) → SuitsTrie levels trie taken w → SuitsTrie now_levels now_trie now (committed_work change w)
commit-suits levels now_levels trie now_trie taken now w change suits = record {
  job = λ q none. absurd (none-some q none);
  candidate = λ q none. absurd (none-some q none);
  passed_over = length-replicate most_nodes false;
  without_slack = slackless-size change w.without_slack ∙ suits.without_slack;
}

-- WHAT AN IMAGE STANDS FOR it stands for after the commit
pub commit-stands : (old new : Image) (o p : Opened) (taken : List Bool) (w : WorkView) (change : Change) (s : machine.State) → open_image old ≡ Ok o → open_image new ≡ Ok p → Stands old s → CanCommit o.named taken w change → p.named.geometry ≡ o.named.geometry
    → p.named.manifest ≡ after_commit o.named.manifest change o.named.manifest.header → p.groups ≡ o.groups → SameExtents o.named.geometry old new (named o.named.manifest.trie) → SameExtents o.named.geometry old new (reserved_by w) → IsTrueOn o.named old w → Stands new s
commit-stands old new o p taken w change s was is stands c geometry manifest groups same fresh true_on =
    job-committed old new o p c.ready.job change o.named.manifest.header s was is stands geometry c.ready.change_is manifest (can-commit o.named taken w change c) groups same
    (subst (SameExtents o.named.geometry old new) (of_job w c.ready.job c.ready.in_flight) fresh) (c.suits.job c.ready.job c.ready.in_flight).shaped (true_on.job c.ready.job c.ready.in_flight)

-- ---- what is true

-- a node with this name, if it is marked, has no slack
abbrev Slackless : Named → Image → List Bool → NodeId × Node → Type 0
Slackless n new marks e = is_marked marks e.0 ≡ true → is_slack n new e ≡ false

clear-none : (marks : List Bool) (i : ℕ) → slice_index_or (slice_set marks i false) i false ≡ false
clear-none [] i = refl
clear-none (b ∷ marks) zero = refl
clear-none (b ∷ marks) (suc i) = clear-none marks i

clear-was : (marks : List Bool) (i k : ℕ) → slice_index_or (slice_set marks i false) k false ≡ true → slice_index_or marks k false ≡ true
clear-was [] i k h = h
clear-was (b ∷ marks) zero zero h = absurd (true≢false (sym h))
clear-was (b ∷ marks) zero (suc k) h = h
clear-was (b ∷ marks) (suc i) zero h = h
clear-was (b ∷ marks) (suc i) (suc k) h = clear-was marks i k h

still_marked : (n : Named) (new : Image) (marks : List Bool) (id : NodeId) (es : Trie) → AllByRecursion (Slackless n new marks) es → AllByRecursion (Slackless n new (unmarked marks id)) es
still_marked n new marks id [] all = tt
still_marked n new marks id (e ∷ es) all = ((λ is. all.0 (clear-was marks (place_of id) (place_of e.0) is)), still_marked n new marks id es all.1)

children-slackless : (n : Named) (new : Image) (marks : List Bool) (children : List ChildChange) (trie : Trie) → AllByRecursion (Slackless n new marks) trie → AllByRecursion (Slackless n new (cleared_of marks children)) (fold after_child trie children)
children-slackless n new marks [] trie all = all
children-slackless n new marks (c ∷ cs) trie all =
    children-slackless n new (unmarked marks c.node) cs (after_child trie c)
    (with_node-all (Slackless n new (unmarked marks c.node)) trie c.node (child_after (node_at trie c.node) c) (λ is. absurd (true≢false (sym is ∙ clear-none marks (place_of c.node)))) (still_marked n new marks c.node trie all))

inner-slackless : (n : Named) (new : Image) (id : NodeId) (node : Node) → is_last_level n.geometry.levels id ≡ false → is_slack n new (id, node) ≡ false
inner-slackless n new id node inner = ap (λ b. b && has_slack n.geometry.levels n.manifest.trie id (node_items n new node) (length node.tables + length node.groups)) inner

deal-slackless : (n : Named) (new : Image) (marks : List Bool) (trie : Trie) (id : NodeId) (dropped : ℕ) (children : List ChildChange) → is_last_level n.geometry.levels id ≡ false → AllByRecursion (Slackless n new marks) trie → AllByRecursion (Slackless n new (cleared_of marks children)) (after_change trie (deal id dropped children))
unfolding after_change
deal-slackless n new marks trie id dropped children inner all =
    with_node-all (Slackless n new (cleared_of marks children)) (fold after_child trie children) id (without_oldest (node_at trie id) dropped) (λ is. inner-slackless n new id (without_oldest (node_at trie id) dropped) inner) (children-slackless n new marks children trie all)

-- a node without tables has no slack
empty-slackless : (n : Named) (new : Image) (id : NodeId) → is_slack n new (id, empty_node) ≡ false
empty-slackless n new id = by_last (is_last_level n.geometry.levels id) (needed_none n new id)
  where
    needed_none : (n : Named) (new : Image) (id : NodeId) → has_slack n.geometry.levels n.manifest.trie id [] 0 ≡ false
    needed_none n new id = never (needed n.geometry.levels n.manifest.trie id [])
      where
        never : (k : ℕ) → nat_lt k 0 ≡ false
        never k = decide (nat_lt k 0) refl
          where
            decide : (b : Bool) → nat_lt k 0 ≡ b → nat_lt k 0 ≡ false
            decide false is = is
            decide true is = absurd (let less = ltb-true k 0 is in omega (arith, less))

    by_last : (b : Bool) → has_slack n.geometry.levels n.manifest.trie id [] 0 ≡ false → (b && has_slack n.geometry.levels n.manifest.trie id [] 0) ≡ false
    by_last true none = none
    by_last false none = refl

rewrite-slackless : (n : Named) (new : Image) (levels extents : ℕ) (marks : List Bool) (trie : Trie) (id : NodeId) (tables groups : List ℕ) → n.manifest.trie ≡ after_change trie (rewrite id tables groups) → fits levels trie (rewrite id tables groups) ≡ true → IsTrie levels extents n.manifest.trie
    → levels ≤ 5 → length marks ≡ most_nodes → is_node levels id ≡ true → is_slack n new (id, record { base = length tables; tables = tables; groups = groups }) ≡ false → AllByRecursion (Slackless n new marks) trie → AllByRecursion (Slackless n new (marked marks id)) n.manifest.trie
rewrite-slackless n new levels extents marks trie id tables groups after fit t few size node bare all = each n.manifest.trie (all-listed levels extents n.manifest.trie t)
  where
    one : (e : NodeId × Node) → IsListed levels n.manifest.trie e → (b : Bool) → same_node e.0 id ≡ b → same_node id e.0 ≡ b → Slackless n new (marked marks id) e
    one e listed true same swapped is =
        let at : e.0 ≡ id = same_node-same e.0 id same in
        let node_is : e.1 ≡ record { base = length tables; tables = tables; groups = groups } = sym listed.there ∙ ap (λ q. node_at n.manifest.trie q) at ∙ ap (λ ns. node_at ns id) after ∙ rewritten_node levels trie id tables groups fit in
        (λ i. is_slack n new (at i, node_is i)) ∙ bare
    one e listed false apart swapped is =
        let node_is : node_at trie e.0 ≡ e.1 = sym (ap (λ ns. node_at ns e.0) after ∙ unset_node trie (rewrite id tables groups) e.0 apart) ∙ listed.there in
        let was : is_marked marks e.0 ≡ true = sym (mark-one marks id e.0 size (node-of-five levels id few node) (node-of-five levels e.0 few listed.node) ∙ ap (λ b. b || is_marked marks e.0) swapped) ∙ is in
        ap (λ q. is_slack n new (e.0, q)) (sym node_is) ∙ node_at-holds (Slackless n new marks) e.0 trie (λ m. empty-slackless n new e.0) all was

    each : (es : Trie) → AllByRecursion (IsListed levels n.manifest.trie) es → AllByRecursion (Slackless n new (marked marks id)) es
    each [] listed = tt
    each (e ∷ es) listed = (one e listed.0 (same_node e.0 id) refl (turned e.0 id), each es listed.1)
      where
        turned : (a b : NodeId) → same_node b a ≡ same_node a b
        turned a b = decide (same_node a b) (same_node b a) refl refl
          where
            decide : (x y : Bool) → same_node a b ≡ x → same_node b a ≡ y → same_node b a ≡ same_node a b
            decide true true p q = q ∙ sym p
            decide false false p q = q ∙ sym p
            decide true false p q = absurd (true≢false (sym (ap (same_node b) (same_node-same a b p) ∙ same_node-itself b) ∙ q))
            decide false true p q = absurd (true≢false (sym (ap (same_node a) (same_node-same b a q) ∙ same_node-itself a) ∙ p))

rewrite-groups : (levels : ℕ) (trie : Trie) (id : NodeId) (tables groups : List ℕ) → fits levels trie (rewrite id tables groups) ≡ true → length groups ≡ groups_for (length tables)
unfolding fits
rewrite-groups levels trie id tables groups fit =
    let shape = (and_parts (are_new 65536 trie (new_extents (rewrite id tables groups))) (shape_fits levels trie (rewrite id tables groups)) fit).1 in
    eqb-true (length groups) (groups_for (length tables)) (and_parts _ (length groups == groups_for (length tables)) shape).1

-- WHAT IS TRUE stays so: no node is passed over any more, and a node has the mark of no slack where it was rewritten, or had it and got no tables
pub commit-true : (m n : Named) (old new : Image) (taken : List Bool) (w : WorkView) (change : Change) → CanCommit m taken w change → n.geometry ≡ m.geometry → n.manifest.trie ≡ after_change m.manifest.trie change
    → SameExtents m.geometry old new (named m.manifest.trie) → SameExtents m.geometry old new (reserved_by w) → IsTrueOn m old w → IsTrueOn n new (committed_work change w)
commit-true m n old new taken w change c geometry after same fresh true_on = record {
  job = λ q none. absurd (none-some q none);
  waiting = none-wait n new n.manifest.trie;
  slackless = by_level (is_last_level m.geometry.levels job.node) refl;
}
  where
    job : JobView
    job = c.ready.job

    trie : Trie
    trie = m.manifest.trie

    mine : GoesWith m.geometry.levels m.manifest.trie taken job
    mine = c.suits.job job c.ready.in_flight

    kept : AllByRecursion (Slackless n new w.without_slack) m.manifest.trie
    kept = all-alike m n new w.without_slack m.manifest.trie geometry (slackless-same m old new w.without_slack m.manifest.trie same true_on.slackless)

    level_now : is_last_level n.geometry.levels job.node ≡ is_last_level m.geometry.levels job.node
    level_now = ap (λ g. is_last_level g.levels job.node) geometry

    moved : (q : Change) → change ≡ q → AllByRecursion (Slackless n new (slackless_after q w.without_slack)) (after_change m.manifest.trie q) → AllByRecursion (Slackless n new (slackless_after change w.without_slack)) n.manifest.trie
    moved q is all = subst (AllByRecursion (Slackless n new (slackless_after change w.without_slack))) (sym after) (subst (λ x. AllByRecursion (Slackless n new (slackless_after x w.without_slack)) (after_change m.manifest.trie x)) (sym is) all)

    by_level : (b : Bool) → is_last_level m.geometry.levels job.node ≡ b → AllByRecursion (Slackless n new (slackless_after change w.without_slack)) n.manifest.trie
    by_level false inner =
        let d = ready-deals m.geometry.levels m.manifest.trie job change c.ready.change_is inner mine.shaped in
        moved (deal job.node (length job.sources) d.children) d.is (deal-slackless n new w.without_slack m.manifest.trie job.node (length job.sources) d.children (level_now ∙ inner) kept)
    by_level true last =
        let r = ready-rewrites m old new job change c.ready.change_is last (subst (SameExtents m.geometry old new) (of_job w job c.ready.in_flight) fresh) mine.shaped (true_on.job job c.ready.in_flight) in
        let fit : fits m.geometry.levels m.manifest.trie (rewrite job.node r.tables r.groups) ≡ true = ap (fits m.geometry.levels m.manifest.trie) (sym r.is) ∙ (commit-for m taken w change c).fit in
        let node = job-node m.geometry.levels m.manifest.header.extents m.manifest.trie job c.trie_is mine.shaped in
        let t : IsTrie m.geometry.levels m.manifest.header.extents n.manifest.trie = subst (IsTrie m.geometry.levels m.manifest.header.extents) (sym after)
        (after_change-trie m.geometry.levels m.manifest.header.extents m.manifest.trie change c.least c.trie_is (commit-for m taken w change c).fit (commit-below m taken w change c)) in
        let gets = subst (λ g. Gets g new (record { node = job.node; tables = r.tables; kept_groups = 0; groups = r.groups }) (rewrite_share job.node (pile_items m.geometry old (node_at m.manifest.trie job.node).tables))) (sym geometry) r.gets in
        let bare = rewritten-not_slack n new job.node (pile_items m.geometry old (node_at m.manifest.trie job.node).tables) r.tables r.groups (level_now ∙ last) (rewrite-groups m.geometry.levels m.manifest.trie job.node r.tables r.groups fit) gets in
        let now : n.manifest.trie ≡ after_change m.manifest.trie (rewrite job.node r.tables r.groups) = after ∙ ap (after_change m.manifest.trie) r.is in
        let all = rewrite-slackless n new m.geometry.levels m.manifest.header.extents w.without_slack m.manifest.trie job.node r.tables r.groups now fit t c.most c.suits.without_slack node bare kept in
        subst (λ x. AllByRecursion (Slackless n new (slackless_after x w.without_slack)) n.manifest.trie) (sym r.is) all
