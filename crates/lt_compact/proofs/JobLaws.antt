-- What a job keeps beside what it shows.
use Rattle.std.proofs.Common.{◌≡◌, ℕ, ◌+◌, ◌<◌, ◌≤◌, refl, sym, ap, subst, ◌∙◌, List, [], ◌++◌, length, take, get_or, Bool, true, false, cond, Option, arith}
use Rattle.std.specs.Prelude.{nat_lt}
use Rattle.std.specs.Option.{option_to_list}
use Rattle.std.proofs.lemmas.Bool.{eqb-true, ltb-true, true≢false}
use Rattle.std.proofs.lemmas.List.{length-take}
use Rattle.lt_device.specs.State.{State}
use Rattle.lt_device.specs.Moments.{ConfinedTo, ShowsSameOutside}
use Rattle.lt_device.proofs.Runs.{confined_widens}
use Rattle.lt_device.proofs.Shows.{shows-widens}
use Rattle.lt_terms.specs.Bytes.{Image}
use Rattle.lt_terms.specs.Items.{Item}
use Rattle.lt_format.specs.declared.geometry.Geometry.{Geometry}
use Rattle.lt_format.specs.declared.node_id.NodeId.{NodeId}
use Rattle.lt_format.specs.Layout.{extent_block}
use Rattle.lt_format.specs.Trie.{IsTrie, Trie, child, is_last_level, is_node, node_at}
use Rattle.lt_format.proofs.ShapeLaws.{node_at-node}
use Rattle.lt_htable.specs.Building.{InExtent}
use Rattle.lt_image.specs.Shares.{Share}
use Rattle.lt_compact.specs.Extents.{filters_in}
use Rattle.lt_compact.specs.Inside.{built_in, filters_among, for_inner, kept_of, reserved_in}
use Rattle.lt_compact.specs.Jobs.{JobView, Stage, scanning, planned, filling, IsShaped, is_filled, taken_in}
use Rattle.lt_compact.specs.Plans.{Content, all_contents, filters_of}
use Rattle.lt_compact.specs.Steps.{InExtents, next_extents, turn_from}
use Rattle.lt_compact.specs.declared.step.Turn.TheVariants as turns
use Rattle.lt_compact.proofs.BuiltLaws.{next-built, next-inside, whole-built}

-- the node of a shaped job is one of the trie's
pub shaped-node : (levels : ℕ) (trie : Trie) (j : JobView) → IsTrie levels 65536 trie → IsShaped levels trie j → is_node levels j.node ≡ true
shaped-node levels trie j t s =
    let count : length (take (length j.sources) (node_at trie j.node).tables) ≡ length j.sources = ap length s.oldest in
    let some : 1 ≤ length (node_at trie j.node).tables = let least = s.some in omega (arith, count, length-take (length j.sources) (node_at trie j.node).tables) in
    node_at-node levels 65536 trie j.node t.nodes some

-- a job that scans next has a table left
pub scans-left : (count n : ℕ) (kept : List Item) (loose : Bool) → turn_from count (scanning n kept loose) ≡ turns.Scan → n < count
scans-left count n kept loose is = by_test (nat_lt n count) refl is
  where
    by_test : (b : Bool) → nat_lt n count ≡ b → cond b turns.Scan turns.Plan ≡ turns.Scan → n < count
    by_test true less is = ltb-true n count less
    by_test false more is = absurd (differ is)
      where
        differ : turns.Plan ≡ turns.Scan → ⊥
        differ e = cc

-- the filters of a job whose extents are all filled
pub filters-whole : (j : JobView) (stage : Stage) (filters : List (List ℕ)) → is_filled stage ≡ true → length (taken_in stage) ≡ reserved_in j.levels stage → filters ≡ built_in j stage → filters ≡ filters_in j stage
filters-whole j (scanning n kept loose) filters filled count are = absurd (true≢false (sym filled))
filters-whole j (planned shares) filters filled count are = absurd (true≢false (sym filled))
filters-whole j (filling shares numbers k) filters filled count are =
    are ∙ ap (for_inner j.levels j.node) (whole-built j.levels shares numbers k (eqb-true k (length numbers) filled) count)

-- the filters of one extent more
pub built-more : (levels own : ℕ) (node : NodeId) (shares : List Share) (numbers : List ℕ) (k : ℕ) (filters after : List (List ℕ)) (built : Option (List ℕ)) (c : Content) → own ≡ levels → k < length (all_contents levels shares numbers)
    → built ≡ filters_of (get_or (all_contents own shares numbers) k c) → after ≡ filters ++ kept_of levels node built → filters ≡ for_inner levels node (filters_among (take k (all_contents levels shares numbers)))
    → after ≡ for_inner levels node (filters_among (take (k + 1) (all_contents levels shares numbers)))
built-more levels own node shares numbers k filters after built c same small built_is after_is are =
    after_is ∙ (λ i. are i ++ kept_of levels node (built_is i))
    ∙ ap (λ n. for_inner levels node (filters_among (take k contents)) ++ kept_of levels node (filters_of (get_or (all_contents n shares numbers) k c))) same
    ∙ by_level (is_last_level levels node) (is_last_level levels (child node 0))
    ∙ ap (for_inner levels node) (sym (next-built contents k c small))
  where
    contents : List Content
    contents = all_contents levels shares numbers

    more : List (List ℕ)
    more = option_to_list (filters_of (get_or contents k c))

    by_level : (a b : Bool) → (cond a [] (cond b [] (filters_among (take k contents))) ++ cond a [] (cond b [] more)) ≡ cond a [] (cond b [] (filters_among (take k contents) ++ more))
    by_level true b = refl
    by_level false true = refl
    by_level false false = refl

-- ---- the extent that is filled next

module _ (g : Geometry) (stage : Stage) (shares : List Share) (numbers given : List ℕ) (filled : ℕ) (is : stage ≡ filling shares numbers filled) (given_is : given ≡ numbers) (less : filled < length numbers) where
  inside : (n : ℕ) → InExtent (extent_block g (get_or given filled 0)) n → InExtents g (next_extents stage) n
  inside n there = subst (λ (s : Stage). InExtents g (next_extents s) n) (sym is) (next-inside g numbers filled less n (subst (λ xs. InExtent (extent_block g (get_or xs filled 0)) n) given_is there))

  pub next-confined : (old new : State) → ConfinedTo (InExtent (extent_block g (get_or given filled 0))) old new → ConfinedTo (InExtents g (next_extents stage)) old new
  next-confined old new confined = confined_widens confined inside

  pub next-others : (old new : Option Image) → ShowsSameOutside (InExtent (extent_block g (get_or given filled 0))) old new → ShowsSameOutside (InExtents g (next_extents stage)) old new
  next-others old new shows = shows-widens _ _ old new inside shows
