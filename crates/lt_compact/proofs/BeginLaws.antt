-- A job as it begins, and extents that are taken.
use Rattle.std.proofs.Common.{◌≡◌, ℕ, suc, ◌<◌, ◌≤◌, refl, sym, ap, subst, ◌∙◌, List, [], ◌∷◌, ◌++◌, length, Bool, true, false, not, arith, append-nil}
use Rattle.std.specs.Prelude.{◌==◌, ◌||◌, All}
use Rattle.std.proofs.Math.Seq.{take-length}
use Rattle.std.proofs.lemmas.Bool.{eqb-true, le-leb, true≢false}
use Rattle.lt_terms.specs.Bytes.{is_in}
use Rattle.lt_alloc.specs.Extents.{AreTaken}
use Rattle.lt_format.specs.declared.node_id.NodeId.{NodeId}
use Rattle.lt_format.specs.Trie.{Trie, all_distinct, named, node_at}
use Rattle.lt_compact.specs.Extents.{AllTaken, GoesWith}
use Rattle.lt_compact.specs.Jobs.{IsShaped, JobView, begun, taken_in}

-- ---- as it begins

pub begun-shaped : (levels : ℕ) (trie : Trie) (id : NodeId) → 1 ≤ length (node_at trie id).tables → IsShaped levels trie (begun levels trie id)
begun-shaped levels trie id some = record {
  same = refl;
  some = some;
  oldest = take-length (node_at trie id).tables;
  whole = λ last. refl;
  stage = le-leb 0 (length (node_at trie id).tables) (omega arith);
}

-- a job that has reserved nothing goes with extents of which those are taken that the trie names
pub goes-unreserved : (levels : ℕ) (trie : Trie) (taken : List Bool) (j : JobView) → IsShaped levels trie j → taken_in j.stage ≡ [] → AllTaken taken (named trie) → all_distinct (named trie) ≡ true → GoesWith levels trie taken j
goes-unreserved levels trie taken j shaped none are apart =
    let all : named trie ++ taken_in j.stage ≡ named trie = ap (λ xs. named trie ++ xs) none ∙ append-nil (named trie) in
    record {
      shaped = shaped;
      reserved = subst (AllTaken taken) (sym all) are;
      apart = ap all_distinct all ∙ apart;
    }

pub begun-goes : (levels : ℕ) (trie : Trie) (taken : List Bool) (id : NodeId) → 1 ≤ length (node_at trie id).tables → AllTaken taken (named trie) → all_distinct (named trie) ≡ true → GoesWith levels trie taken (begun levels trie id)
begun-goes levels trie taken id some are apart = goes-unreserved levels trie taken (begun levels trie id) (begun-shaped levels trie id some) refl are apart

-- ---- extents that are taken

-- a number of a list is one at a place
at-place : (P : ℕ → Type 0) (xs : List ℕ) → All P xs → (x : ℕ) → is_in x xs ≡ true → P x
at-place P [] all x there = absurd (true≢false (sym there))
at-place P (y ∷ xs) all x there = by_test (y == x) refl there (at-place P xs (λ i d below. all (suc i) d (omega arith)) x)
  where
    by_test : (b : Bool) → (y == x) ≡ b → (b || is_in x xs) ≡ true → (is_in x xs ≡ true → P x) → P x
    by_test true same there later = subst P (eqb-true y x same) (all 0 y (omega arith))
    by_test false other there later = later there

-- numbers below a count are taken where those of the set are these
pub all-taken : (count : ℕ) (used : List ℕ) (extents : List Bool) → AreTaken count used extents → All (λ n. n < count) used → AllTaken extents used
all-taken count used extents are below = record {
  below = λ x there. let small = at-place (λ n. n < count) used below x there in let size = are.len in omega arith;
  each = λ x there. are.free x (at-place (λ n. n < count) used below x there) ∙ ap not there;
}
