-- The blocks of a group, gathered from filter pages and written one after another.
use Rattle.std.proofs.Common.{◌≡◌, ◌≢◌, ℕ, ◌+◌, ◌-◌, ◌<◌, sym, ap, subst, ◌∙◌, List, [], ◌∷◌, ◌++◌, length, take, drop, get_or, arith, ⊎_elim, length-append}
use Rattle.std.specs.List.{flat_map}
use Rattle.std.proofs.Math.Seq.{take-append_seam, drop-append-add}
use Rattle.std.proofs.lemmas.Bool.{cases_eq}
use Rattle.std.proofs.lemmas.List.{append-nil, get_or-set_other, take_more, drop-replicate}
use Rattle.std.proofs.lemmas.List.Concat.{flat_map-append}
use Rattle.lt_terms.specs.Bytes.{Image, block_at, filled, padded, zeros}
use Rattle.lt_device.specs.State.{State, IsFit, written}
use Rattle.lt_device.proofs.Steps.{written_is, written_shown}
use Rattle.lt_tables.specs.Filter.{filter_in, group_block}
use Rattle.lt_tables.specs.Table.{blocks_from}
use Rattle.lt_container.specs.Columns.{HasColumns}

-- the filters of a column, one after another
abbrev pub joined : List (List ℕ) → ℕ → List ℕ
joined filters c = flat_map (λ page. filter_in page c) filters

-- bytes put behind those at the front, before zeros
pub padded-more : (n : ℕ) (front bytes : List ℕ) → filled (padded n front) (length front) bytes ≡ padded n (front ++ bytes)
unfolding zeros
padded-more n front bytes =
    let rest : drop (length front + length bytes) (padded n front) ≡ zeros (n - length (front ++ bytes)) =
    drop-append-add front (zeros (n - length front)) (length bytes)
    ∙ drop-replicate (length bytes) (n - length front) 0
    ∙ ap zeros (omega (arith, length-append front bytes)) in
    ap (λ xs. xs ++ bytes ++ drop (length front + length bytes) (padded n front)) (take-append_seam front (zeros (n - length front)))
    ∙ ap (λ xs. front ++ bytes ++ xs) rest

-- one filter more
pub joined-more : (filters : List (List ℕ)) (c n : ℕ) (page : List ℕ) → n < length filters → page ≡ get_or filters n page → joined (take (n + 1) filters) c ≡ joined (take n filters) c ++ filter_in page c
joined-more filters c n page within is =
    ap (λ xs. joined xs c) (take_more filters n page within)
    ∙ flat_map-append (λ p. filter_in p c) (take n filters) (get_or filters n page ∷ [])
    ∙ ap (λ xs. joined (take n filters) c ++ xs) (append-nil (filter_in (get_or filters n page) c))
    ∙ ap (λ p. joined (take n filters) c ++ filter_in p c) (sym is)

-- the block of one column more
pub columns-more : (filters : List (List ℕ)) (first n blocks b : ℕ) (old new : State) (page : List ℕ) → b ≡ first + n → b < blocks → IsFit blocks old → new ≡ written old b page → page ≡ group_block filters n
    → HasColumns filters first n old.shown → HasColumns filters first (n + 1) new.shown
columns-more filters first n blocks b old new page at below fit is block has =
    let is_there : new ≡ written old (first + n) page = subst (λ k. new ≡ written old k page) at is in
    record {
      each = λ image shown c small. ⊎_elim
          (λ (same : c ≡ n). subst (λ k. blocks_from image first k ≡ group_block filters k) (sym same) (written_shown blocks (first + n) old new page fit (omega arith) is_there image shown ∙ block))
          (λ (other : c ≡ n → ⊥).
          let was = written_is (first + n) old new page is_there image shown in
          let elsewhere : first + c ≢ first + n = omega arith in
          let lower : c < n = omega arith in
          ap (λ (i : Image). block_at i (first + c)) was.2 ∙ get_or-set_other was.0 (first + n) (first + c) page [] elsewhere ∙ has.each was.0 was.1 c lower)
          (cases_eq c n);
    }
