-- The extents that a trie names and those that are free are no more than there are.
use Rattle.std.proofs.Common.{◌≡◌, ℕ, zero, suc, ◌+◌, ◌<◌, ◌≤◌, refl, sym, ap, subst, ◌∙◌, List, [], ◌∷◌, ◌++◌, length, Bool, true, false, not, cond, length-append, zero-add, arith}
use Rattle.std.proofs.lemmas.Bool.{eq-eqb, ne_eqb, not-true}
use Rattle.std.proofs.lemmas.List.Sums.{sum_by-cons}
use Rattle.lt_terms.specs.Bytes.{is_in}
use Rattle.lt_alloc.specs.Extents.{is_free, free_count}
use Rattle.lt_alloc.proofs.StackLaws.{is_free-within}
use Rattle.lt_format.specs.Snapshot.{Named}
use Rattle.lt_format.specs.Trie.{named, table_total, all_distinct, all_below}
use Rattle.lt_format.proofs.Numbers.{times, times-append, times-absent, times-distinct, times-below, below-times, few-below, length-distinct}
use Rattle.lt_redo.specs.LogState.{LogState}
use Rattle.lt_terms.specs.Items.{Item}
use Rattle.lt_image.specs.Versions.{free_extents}
use Rattle.lt_manifest.specs.Promise as manifests
use Rattle.lt_work.specs.Work.{WorkView, reserved_by}
use Rattle.lt_work.proofs.OutlastLaws.{suits-apart, suits-below}
use Rattle.lt_store.specs.Kept.{IsKept, in_use}
use Rattle.lt_node.proofs.TotalLaws.{total_named}

-- the free numbers from k on
free_from : ℕ → List Bool → List ℕ
free_from k [] = []
free_from k (true ∷ taken) = free_from (k + 1) taken
free_from k (false ∷ taken) = k ∷ free_from (k + 1) taken

length-free_from : (k : ℕ) (taken : List Bool) → length (free_from k taken) ≡ free_count taken
unfolding free_from
length-free_from k [] = refl
length-free_from k (true ∷ taken) = let sum = sum_by-cons (λ b. cond (not b) 1 0) true taken in let rest = length-free_from (k + 1) taken in omega (arith, sum, rest)
length-free_from k (false ∷ taken) = let sum = sum_by-cons (λ b. cond (not b) 1 0) false taken in let rest = length-free_from (k + 1) taken in omega (arith, sum, rest)

none_before : (k x : ℕ) (taken : List Bool) → x < k → times x (free_from k taken) ≡ 0
unfolding free_from
none_before k x [] h = refl
none_before k x (true ∷ taken) h = none_before (k + 1) x taken (omega arith)
none_before k x (false ∷ taken) h =
    ap (λ b. cond b 1 0 + times x (free_from (k + 1) taken)) (ne_eqb k x (λ e. absurd (omega arith)))
    ∙ zero-add (times x (free_from (k + 1) taken)) ∙ none_before (k + 1) x taken (omega arith)

once_free : (k i : ℕ) (taken : List Bool) → times (k + i) (free_from k taken) ≡ cond (is_free taken i) 1 0
unfolding free_from
once_free k i [] = refl
once_free k zero (true ∷ taken) = none_before (k + 1) (k + 0) taken (omega arith)
once_free k zero (false ∷ taken) =
    let rest = none_before (k + 1) (k + 0) taken (omega arith) in
    ap (λ b. cond b 1 0 + times (k + 0) (free_from (k + 1) taken)) (eq-eqb k (k + 0) (omega arith)) ∙ ap (λ n. 1 + n) rest
once_free k (suc i) (true ∷ taken) = let e : k + suc i ≡ (k + 1) + i = omega arith in ap (λ x. times x (free_from (k + 1) taken)) e ∙ once_free (k + 1) i taken
once_free k (suc i) (false ∷ taken) =
    let e : k + suc i ≡ (k + 1) + i = omega arith in
    ap (λ b. cond b 1 0 + times (k + suc i) (free_from (k + 1) taken)) (ne_eqb k (k + suc i) (λ same. absurd (omega arith)))
    ∙ zero-add (times (k + suc i) (free_from (k + 1) taken)) ∙ ap (λ x. times x (free_from (k + 1) taken)) e ∙ once_free (k + 1) i taken

-- what is taken is what is named: then neither is counted twice
pub apart-few : (n : ℕ) (taken : List Bool) (xs : List ℕ) → length taken ≡ n → ((x : ℕ) → x < n → is_free taken x ≡ not (is_in x xs)) → all_distinct xs ≡ true → all_below n xs ≡ true → length xs + free_count taken ≤ n
apart-few n taken xs len free distinct below =
    let all = few-below n (xs ++ free_from 0 taken) (λ x. omega (arith, times-append x xs (free_from 0 taken), once x)) (below-times n (xs ++ free_from 0 taken) (λ x past. omega (arith, times-append x xs (free_from 0 taken), times-below n xs below x past, beyond x past))) in
    omega (arith, all, length-append xs (free_from 0 taken), length-free_from 0 taken)
  where
    at : (x : ℕ) → times x (free_from 0 taken) ≡ cond (is_free taken x) 1 0
    at x = let e : x ≡ 0 + x = omega arith in ap (λ y. times y (free_from 0 taken)) e ∙ once_free 0 x taken

    by_free : (x : ℕ) (b : Bool) → is_free taken x ≡ b → times x xs + cond b 1 0 ≤ 1
    by_free x true e =
        let within : x < n = subst (λ m. x < m) len (is_free-within taken x e) in
        let none : times x xs ≡ 0 = times-absent x xs (not-true _ (sym (free x within) ∙ e)) in
        omega arith
    by_free x false e = let once = times-distinct xs distinct x in omega arith

    once : (x : ℕ) → times x xs + times x (free_from 0 taken) ≤ 1
    once x = subst (λ m. times x xs + m ≤ 1) (sym (at x)) (by_free x (is_free taken x) refl)

    outside : (x : ℕ) (b : Bool) → is_free taken x ≡ b → n ≤ x → ◌≡◌ {A = ℕ} (cond b 1 0) 0
    outside x true e past = absurd (let within : x < n = subst (λ m. x < m) len (is_free-within taken x e) in omega arith)
    outside x false e past = refl

    beyond : (x : ℕ) → n ≤ x → times x (free_from 0 taken) ≡ 0
    beyond x past = at x ∙ outside x (is_free taken x) refl past

-- the tables and the free extents of a store
pub tables-free : (n : Named) → manifests.IsKept n → table_total n.manifest.trie + free_extents n ≤ n.manifest.header.extents
tables-free n k =
    let few = length-distinct n.manifest.header.extents (named n.manifest.trie) k.trie.distinct k.trie.below in
    let tables = total_named n.manifest.trie in
    omega (arith, few, tables)

-- the extents that are in use stand there once
pub use-apart : (n : Named) (log : LogState) (memory : List Item) (taken : List Bool) (filters writes : ℕ) (work : WorkView) → IsKept n log memory taken filters writes work → all_distinct (in_use n work) ≡ true
use-apart n log memory taken filters writes work k = suits-apart n.geometry.levels n.manifest.trie taken work k.suits k.manifest.trie.distinct

-- and are extents of the store
pub use-below : (n : Named) (log : LogState) (memory : List Item) (taken : List Bool) (filters writes : ℕ) (work : WorkView) → IsKept n log memory taken filters writes work → all_below n.manifest.header.extents (in_use n work) ≡ true
use-below n log memory taken filters writes work k =
    below-times n.manifest.header.extents (in_use n work) (λ x past. omega (arith, times-append x (named n.manifest.trie) (reserved_by work), times-below n.manifest.header.extents (named n.manifest.trie) k.manifest.trie.below x past, absent x past (is_in x (reserved_by work)) refl))
  where
    absent : (x : ℕ) → n.manifest.header.extents ≤ x → (b : Bool) → is_in x (reserved_by work) ≡ b → times x (reserved_by work) ≡ 0
    absent x past false is = times-absent x (reserved_by work) is
    absent x past true is = let small = suits-below n.geometry.levels n.manifest.trie taken work k.suits x is in let size = k.taken_in_use.len in absurd (omega (arith, small, size, past))
