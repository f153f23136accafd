-- The candidate that a job begins at.
use Rattle.std.proofs.Common.{◌≡◌, ℕ, suc, zero, ◌+◌, ◌^◌, ◌<◌, ◌≤◌, refl, sym, ap, subst, ◌∙◌, List, [], ◌∷◌, length, Bool, true, false, not, cond, ◌-◌, ◌&&◌, ◌||◌, Option, Some, None, arith}
use Rattle.std.specs.Prelude.{◌==◌, nat_le, nat_lt, take}
use Rattle.std.specs.List.{AllByRecursion, filter, find, list_all}
use Rattle.std.specs.Ordering.{is_eq, is_lt}
use Rattle.std.specs.declared.cmp.Ordering.TheVariants.{Less}
use Rattle.std.specs.FinMap as map
use Rattle.std.specs.FinMap.{is_sorted}
use Rattle.std.specs.FinMap.Entries.{below_all}
use Rattle.std.specs.Option.{option_or, unwrap_or}
use Rattle.std.proofs.lemmas.Bool.{and_from, and_parts, eq-eqb, eqb-true, leb-true, lt-ltb, ltb-true, true≢false, not-true, or_left, or_right}
use Rattle.std.proofs.lemmas.List.{length-take}
use Rattle.std.proofs.lemmas.Option.{none-some}
use Rattle.lt_format.specs.declared.node_id.NodeId.{NodeId}
use Rattle.lt_format.specs.Trie.{IsTrie, Node, Trie, empty_node, is_last_level, is_node, is_shaped, named, node_at, node_cmp, same_node}
use Rattle.lt_format.proofs.ShapeLaws.{node_at-node}
use Rattle.lt_format.proofs.TrieLaws.{is_less, same_node-itself, same_node-same}
use Rattle.lt_image.specs.Needs.{is_full}
use Rattle.lt_image.specs.Versions.{level_nodes}
use Rattle.lt_pace.specs.Candidates.{full_nodes, name_of, next_full, next_slack}
use Rattle.lt_pace.specs.Marks.{is_marked}
use Rattle.lt_compact.specs.Extents.{AllTaken, GoesWith}
use Rattle.lt_compact.specs.Jobs.{IsShaped, JobView, begun}
use Rattle.lt_compact.proofs.BeginLaws.{begun-goes}
use Rattle.lt_work.specs.declared.advancing.Wanted.{Wanted}
use Rattle.lt_work.specs.declared.advancing.Wanted.TheVariants as wants
use Rattle.lt_work.specs.Advancing.{next_wanted}
use Rattle.lt_work.specs.Work.{IsCandidate, SuitsTrie, WorkView, may_begin}
use Rattle.lt_tables.proofs.ListLaws.{all_filter, all_join}

-- what a walk finds has what all have, and passes the test
record Found {A : Type 0} (P : A → Type 0) (p : A → Bool) (x : A) : Type 0 where
  pub has : P x
  pub passes : p x ≡ true

some_of : {A : Type 0} (x y : A) → Some x ≡ Some y → x ≡ y
some_of x y e = cc

found : {A : Type 0} (P : A → Type 0) (p : A → Bool) (xs : List A) (x : A) → AllByRecursion P xs → find p xs ≡ Some x → Found P p x
found P p [] x all h = absurd (none-some x h)
found P p (y ∷ ys) x all h = by_test (p y) refl h (found P p ys x all.1)
  where
    by_test : (b : Bool) → p y ≡ b → cond b (Some y) (find p ys) ≡ Some x → (find p ys ≡ Some x → Found P p x) → Found P p x
    by_test true is h later = subst (Found P p) (some_of y x h) (record { has = all.0; passes = is })
    by_test false is h later = later h

-- what all have those that pass a test have, and they pass it
sifted : {A : Type 0} (P : A → Type 0) (q : A → Bool) (xs : List A) → AllByRecursion P xs → AllByRecursion (λ x. P x × (q x ≡ true)) (filter q xs)
sifted P q [] all = tt
sifted P q (x ∷ xs) all = by_test (q x) refl (sifted P q xs all.1)
  where
    by_test : (b : Bool) → q x ≡ b → AllByRecursion (λ x. P x × (q x ≡ true)) (filter q xs) → AllByRecursion (λ x. P x × (q x ≡ true)) (cond b (x ∷ filter q xs) (filter q xs))
    by_test true is rest = ((all.0, is), rest)
    by_test false is rest = rest

-- ---- the nodes that a trie lists

later_found : (e : NodeId × Node) (es rest : Trie) → below_all node_cmp e.0 rest ≡ true → AllByRecursion (λ (f : NodeId × Node). map.find node_cmp f.0 es ≡ Some f.1) rest → AllByRecursion (λ (f : NodeId × Node). map.find node_cmp f.0 (e ∷ es) ≡ Some f.1) rest
later_found e es [] above all = tt
later_found e es (f ∷ rest) above all =
    let parts = and_parts (is_lt (node_cmp e.0 f.0)) (below_all node_cmp e.0 rest) above in
    (by_test (same_node f.0 e.0) refl (is_less (node_cmp e.0 f.0) parts.0), later_found e es rest parts.1 all.1)
  where
    by_test : (b : Bool) → same_node f.0 e.0 ≡ b → node_cmp e.0 f.0 ≡ Less → map.find node_cmp f.0 (e ∷ es) ≡ Some f.1
    by_test false is less = ap (λ b. cond b (Some e.1) (map.find node_cmp f.0 es)) is ∙ all.0
    by_test true is less =
        let itself : node_cmp e.0 e.0 ≡ Less = ap (node_cmp e.0) (sym (same_node-same f.0 e.0 is)) ∙ less in
        absurd (true≢false (sym (same_node-itself e.0) ∙ ap is_eq itself))

all_found : (es : Trie) → is_sorted node_cmp es ≡ true → AllByRecursion (λ (f : NodeId × Node). map.find node_cmp f.0 es ≡ Some f.1) es
all_found [] h = tt
all_found (e ∷ es) h =
    let parts = and_parts (below_all node_cmp e.0 es) (is_sorted node_cmp es) h in
    (ap (λ b. cond b (Some e.1) (map.find node_cmp e.0 es)) (same_node-itself e.0), later_found e es es parts.0 (all_found es parts.1))

-- each node that a trie lists is the one under its name, a node of the trie's levels, and has tables
pub record IsListed (levels : ℕ) (trie : Trie) (e : NodeId × Node) : Type 0 where
  pub there : node_at trie e.0 ≡ e.1
  pub node : is_node levels e.0 ≡ true
  pub some : 1 ≤ length e.1.tables

pub all-listed : (levels extents : ℕ) (trie : Trie) → IsTrie levels extents trie → AllByRecursion (IsListed levels trie) trie
unfolding node_at
all-listed levels extents trie t = both trie (all_found trie t.rising) t.nodes
  where
    both : (es : Trie) → AllByRecursion (λ (f : NodeId × Node). map.find node_cmp f.0 trie ≡ Some f.1) es
        → list_all (λ (e : NodeId × Node). is_node levels e.0 && nat_le 1 (length e.1.tables) && is_shaped levels extents e.0 e.1) es ≡ true → AllByRecursion (IsListed levels trie) es
    both [] found h = tt
    both (e ∷ es) found h =
        let p = and_parts (is_node levels e.0 && nat_le 1 (length e.1.tables) && is_shaped levels extents e.0 e.1) _ h in
        let a = and_parts (is_node levels e.0 && nat_le 1 (length e.1.tables)) _ p.0 in
        let b = and_parts (is_node levels e.0) _ a.0 in
        (record { there = ap (λ o. unwrap_or o empty_node) found.0; node = b.0; some = leb-true 1 (length e.1.tables) b.1 }, both es found.1 p.1)

-- a node of so many levels is one of five
pub node-of-five : (levels : ℕ) (id : NodeId) → levels ≤ 5 → is_node levels id ≡ true → is_node 5 id ≡ true
node-of-five levels id few h =
    let parts = and_parts (nat_lt id.level levels) (nat_lt id.number (8 ^ id.level)) h in
    and_from _ _ (lt-ltb id.level 5 (let less = ltb-true id.level levels parts.0 in omega (arith, less, few))) parts.1

-- ---- candidates

all_full : (levels : ℕ) (trie : Trie) (P : NodeId × Node → Type 0) (n : ℕ) → AllByRecursion P trie → AllByRecursion (λ e. P e × (is_full levels e ≡ true)) (full_nodes levels trie n)
unfolding full_nodes
all_full levels trie P zero all = tt
all_full levels trie P (suc n) all =
    all_join (λ e. P e × (is_full levels e ≡ true)) (filter (is_full levels) (level_nodes trie n)) (full_nodes levels trie n)
    (sifted P (is_full levels) (level_nodes trie n) (all_filter P (λ e. e.0.level == n) trie all)) (all_full levels trie P n all)

-- what a candidate is
pub record IsNext (levels : ℕ) (trie : Trie) (v : WorkView) (id : NodeId) : Type 0 where
  pub node : is_node levels id ≡ true
  pub some : 1 ≤ length (node_at trie id).tables
  pub begins : may_begin levels trie v.without_slack id ≡ true
  pub unmarked : is_marked v.passed_over id ≡ false

neither : (a b : Bool) → not (a || b) ≡ true → (a ≡ false) × (b ≡ false)
neither true b h = absurd (true≢false (sym h))
neither false b h = (refl, not-true b h)

-- a full pile that is found
full-next : (levels extents : ℕ) (trie : Trie) (v : WorkView) (e : NodeId × Node) → IsTrie levels extents trie → next_full levels trie v.passed_over ≡ Some e → IsNext levels trie v e.0
full-next levels extents trie v e t at =
    let f = found (λ e. IsListed levels trie e × (is_full levels e ≡ true)) (λ e. not (is_marked v.passed_over e.0)) (full_nodes levels trie levels) e (all_full levels trie (IsListed levels trie) levels (all-listed levels extents trie t)) at in
    let full : is_full levels (e.0, node_at trie e.0) ≡ true = ap (λ n. is_full levels (e.0, n)) f.has.0.there ∙ f.has.1 in
    record {
      node = f.has.0.node;
      some = subst (λ (n : Node). 1 ≤ length n.tables) (sym f.has.0.there) f.has.0.some;
      begins = or_left (is_full levels (e.0, node_at trie e.0)) (is_last_level levels e.0 && not (is_marked v.without_slack e.0)) full;
      unmarked = not-true (is_marked v.passed_over e.0) f.passes;
    }

-- a last-level pile that is found
slack-next : (levels extents : ℕ) (trie : Trie) (v : WorkView) (e : NodeId × Node) → IsTrie levels extents trie → next_slack levels trie v.passed_over v.without_slack ≡ Some e → IsNext levels trie v e.0
slack-next levels extents trie v e t at =
    let f = found (λ (e : NodeId × Node). IsListed levels trie e × ((e.0.level == levels - 1) ≡ true)) (λ (e : NodeId × Node). not (is_marked v.passed_over e.0 || is_marked v.without_slack e.0)) (level_nodes trie (levels - 1)) e
    (sifted (IsListed levels trie) (λ (e : NodeId × Node). e.0.level == levels - 1) trie (all-listed levels extents trie t)) at in
    let both = neither (is_marked v.passed_over e.0) (is_marked v.without_slack e.0) f.passes in
    let within : e.0.level < levels = ltb-true e.0.level levels (and_parts (nat_lt e.0.level levels) (nat_lt e.0.number (8 ^ e.0.level)) f.has.0.node).0 in
    let here : e.0.level ≡ levels - 1 = eqb-true e.0.level (levels - 1) f.has.1 in
    let last : is_last_level levels e.0 ≡ true = eq-eqb (e.0.level + 1) levels (omega (arith, within, here)) in
    record {
      node = f.has.0.node;
      some = subst (λ (n : Node). 1 ≤ length n.tables) (sym f.has.0.there) f.has.0.some;
      begins = or_right (is_full levels (e.0, node_at trie e.0)) (is_last_level levels e.0 && not (is_marked v.without_slack e.0)) (and_from _ _ last (ap not both.1));
      unmarked = both.0;
    }

-- where a job begins next is a candidate
pub next-is : (wanted : Wanted) (levels extents : ℕ) (trie : Trie) (v : WorkView) (id : NodeId) → IsTrie levels extents trie → name_of (next_wanted wanted levels trie v) ≡ Some id → IsNext levels trie v id
next-is wanted levels extents trie v id t is = by_wanted wanted is
  where
    full_found : (o : Option (NodeId × Node)) → next_full levels trie v.passed_over ≡ o → name_of o ≡ Some id → IsNext levels trie v id
    full_found None at named = absurd (none-some id named)
    full_found (Some e) at named = subst (IsNext levels trie v) (some_of e.0 id named) (full-next levels extents trie v e t at)

    slack_found : (o : Option (NodeId × Node)) → next_slack levels trie v.passed_over v.without_slack ≡ o → name_of o ≡ Some id → IsNext levels trie v id
    slack_found None at named = absurd (none-some id named)
    slack_found (Some e) at named = subst (IsNext levels trie v) (some_of e.0 id named) (slack-next levels extents trie v e t at)

    either_found : (o : Option (NodeId × Node)) → next_full levels trie v.passed_over ≡ o → name_of (option_or o (next_slack levels trie v.passed_over v.without_slack)) ≡ Some id → IsNext levels trie v id
    either_found None at named = slack_found (next_slack levels trie v.passed_over v.without_slack) refl named
    either_found (Some e) at named = full_found (Some e) at named

    by_wanted : (w : Wanted) → name_of (next_wanted w levels trie v) ≡ Some id → IsNext levels trie v id
    by_wanted wants.Full named = full_found (next_full levels trie v.passed_over) refl named
    by_wanted wants.Slack named = either_found (next_full levels trie v.passed_over) refl named

-- a job's node is one of the trie's
pub job-node : (levels extents : ℕ) (trie : Trie) (j : JobView) → IsTrie levels extents trie → IsShaped levels trie j → is_node levels j.node ≡ true
job-node levels extents trie j t shaped =
    let count : length (take (length j.sources) (node_at trie j.node).tables) ≡ length j.sources = ap length shaped.oldest in
    let least = shaped.some in
    node_at-node levels extents trie j.node t.nodes (omega (arith, least, count, length-take (length j.sources) (node_at trie j.node).tables))

-- A JOB THAT BEGINS at a candidate suits the trie
pub begun-suits : (wanted : Wanted) (levels : ℕ) (trie : Trie) (taken : List Bool) (v : WorkView) (id : NodeId) → IsTrie levels 65536 trie → name_of (next_wanted wanted levels trie v) ≡ Some id → AllTaken taken (named trie) → SuitsTrie levels trie taken v → SuitsTrie levels trie taken (record v { job = Some (begun levels trie id) })
begun-suits wanted levels trie taken v id t first are suits =
    let next = next-is wanted levels 65536 trie v id t first in
    record {
      job = λ j is. subst (GoesWith levels trie taken) (some_of (begun levels trie id) j is) (begun-goes levels trie taken id next.some are t.distinct);
      candidate = λ j is. subst (IsCandidate levels trie v.passed_over v.without_slack) (some_of (begun levels trie id) j is) (record { begins = next.begins; unmarked = next.unmarked });
      passed_over = suits.passed_over;
      without_slack = suits.without_slack;
    }
