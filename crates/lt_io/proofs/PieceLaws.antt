-- The pieces that are left, and what is taken of the first of them.
use Rattle.std.proofs.Common.{◌≡◌, ℕ, suc, ◌+◌, ◌<◌, ◌≤◌, refl, sym, ap, ◌∙◌, subst, List, [], ◌∷◌, ◌++◌, length, take, drop, map, get_or, Bool, true, false, cond, append_assoc, drop-cons, nat_lt}
use Rattle.std.specs.List.{All, filter}
use Rattle.std.proofs.lemmas.List.{take-append-drop, take_at, drop-drop, length-take-le}
use Rattle.std.proofs.lemmas.List.Elements.{filter_passes}
use Rattle.std.proofs.lemmas.Bool.{ltb-true}
use Rattle.lt_io.specs.Memory.{nonempty, bytes_of}
use Rattle.lt_io.specs.Pieces.{without_front}

pub without_none : (pieces : List (List ℕ)) → without_front 0 pieces ≡ pieces
without_none [] = refl
without_none (piece ∷ pieces) = refl

map_cond : {X Y : Type 0} (f : X → Y) (b : Bool) (xs ys : List X) → map f (cond b xs ys) ≡ cond b (map f xs) (map f ys)
map_cond f true xs ys = refl
map_cond f false xs ys = refl

pub map-filter : {X Y : Type 0} (f : X → Y) (test : Y → Bool) (xs : List X) → map f (filter (λ x. test (f x)) xs) ≡ filter test (map f xs)
map-filter f test [] = refl
map-filter f test (x ∷ xs) =
    map_cond f (test (f x)) (x ∷ filter (λ y. test (f y)) xs) (filter (λ y. test (f y)) xs)
    ∙ ap (λ ys. cond (test (f x)) (f x ∷ ys) ys) (map-filter f test xs)

pub All-nonempty : (pieces left : List (List ℕ)) → left ≡ nonempty pieces → All (λ piece. 0 < length piece) left
All-nonempty pieces left e =
    subst (λ (ps : List (List ℕ)). All (λ piece. 0 < length piece) ps) (sym e) (λ k d lt. ltb-true 0 (length (get_or (nonempty pieces) k d)) (filter_passes (λ piece. nat_lt 0 (length piece)) pieces k d lt))

-- a front of a piece is taken, and stands in front of the page
part_taken : (piece page rest others : List ℕ) (n : ℕ) → n ≤ length piece → page ≡ take n piece ++ rest → piece ++ others ≡ take n page ++ (drop n piece ++ others)
part_taken piece page rest others n fits filled =
    let front : take n page ≡ take n piece = rw filled (take_at (take n piece) rest n (length-take-le n piece fits)) in
    rw (front, ← append_assoc, take-append-drop) refl

-- n bytes of the first piece are taken, and stand in front of the page
pub bytes_of-part : (pieces : List (List ℕ)) (first at n : ℕ) (piece page rest : List ℕ) → first < length pieces → get_or pieces first [] ≡ piece → n ≤ length (drop at piece) → page ≡ take n (drop at piece) ++ rest → bytes_of (without_front at (drop first pieces)) ≡ take n page ++ bytes_of (without_front (at + n) (drop first pieces))
bytes_of-part pieces first at n piece page rest within is fits filled =
    let taken = part_taken (drop at piece) page rest (bytes_of (drop (suc first) pieces)) n fits filled in
    rw (drop-cons pieces first [], is) (rw drop-drop at taken)
