-- Answers of calls.
use Rattle.std.proofs.Common.{◌≡◌, Result, Ok, Err}

-- what is Ok of two values is Ok of one
pub one-ok : {T E : Type 0} (r : Result T E) (a b : T) → r ≡ Ok a → r ≡ Ok b → a ≡ b
one-ok (Ok x) a b first second = let one : x ≡ a = cc (first) in let two : x ≡ b = cc (second) in cc
one-ok (Err e) a b first second = absurd (cc (first))
