-- Items that are put into a memory table one after another.
use Rattle.std.proofs.Common.{◌≡◌, ℕ, zero, suc, ◌+◌, ◌<◌, ◌≤◌, ap, List, [], ◌∷◌, length, take, get_or, arith}
use Rattle.std.proofs.lemmas.List.Sums.{sum_by-cons}
use Rattle.lt_terms.specs.Items.{Item, item_cost, total_cost}

-- there is room for the next item where there is room for all
pub room-next : (items : List Item) (i : ℕ) (x : Item) → i < length items → x ≡ get_or items i x → total_cost (take i items) + item_cost x ≤ total_cost items
room-next [] i x below is = absurd (omega arith)
room-next (y ∷ ys) zero x below is = let same = ap item_cost is in omega (arith, sum_by-cons item_cost y ys)
room-next (y ∷ ys) (suc i) x below is = omega (arith, sum_by-cons item_cost y ys, sum_by-cons item_cost y (take i ys), room-next ys i x (omega arith) is)
