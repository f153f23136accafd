-- The newest of some items are some.
use Rattle.std.proofs.Common.{◌≡◌, ℕ, ◌<◌, List, [], ◌∷◌, length, arith}
use Rattle.std.specs.List.{fold}
use Rattle.std.proofs.lemmas.List.{length-map}
use Rattle.std.specs.FinMap.{put}
use Rattle.std.specs.FinMap.Entries.{by_order}
use Rattle.std.specs.declared.cmp.Ordering.{Ordering}
use Rattle.std.specs.declared.cmp.Ordering.TheVariants.{Less, Equal, Greater}
use Rattle.lt_terms.specs.Hashes.{rank_cmp}
use Rattle.lt_terms.specs.Items.{Item}
use Rattle.lt_tables.specs.Table.{newest, ranked}

by_order-some : (o : Ordering) (a b c : List (List ℕ × Item)) → 0 < length a → 0 < length b → 0 < length c → 0 < length (by_order o a b c)
by_order-some Less a b c one two three = one
by_order-some Equal a b c one two three = two
by_order-some Greater a b c one two three = three

put-some : (key : List ℕ) (v : Item) (es : List (List ℕ × Item)) → 0 < length (put rank_cmp key v es)
put-some key v [] = omega arith
put-some key v (e ∷ es) = by_order-some (rank_cmp key e.0) ((key, v) ∷ e ∷ es) ((e.0, v) ∷ es) (e ∷ put rank_cmp key v es) (omega arith) (omega arith) (omega arith)

fold-some : (vs : List Item) (es : List (List ℕ × Item)) → 0 < length es → 0 < length (fold (λ es (v : Item). put rank_cmp v.key v es) es vs)
fold-some [] es some = some
fold-some (v ∷ vs) es some = fold-some vs (put rank_cmp v.key v es) (put-some v.key v es)

pub newest-some : (vs : List Item) → 0 < length vs → 0 < length (newest vs)
newest-some [] some = absurd (omega arith)
newest-some (v ∷ vs) some =
    let size : length (newest (v ∷ vs)) ≡ length (ranked (v ∷ vs)) = length-map (ranked (v ∷ vs)) (λ (e : List ℕ × Item). e.1) in
    let more : 0 < length (ranked (v ∷ vs)) = fold-some vs (put rank_cmp v.key v []) (put-some v.key v []) in
    omega (arith, size, more)
