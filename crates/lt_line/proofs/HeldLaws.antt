-- What is kept of a line is enough to tell its command, also as it grows.
use Rattle.std.proofs.Common.{◌≡◌, ℕ, zero, suc, ◌+◌, ◌-◌, ◌<◌, ◌≤◌, min, refl, sym, ap, ◌∙◌, List, [], ◌∷◌, ◌++◌, length, take, arith, inl, inr}
use Rattle.std.proofs.lemmas.List.{length-take-le, take_all, take_min}
use Rattle.std.proofs.lemmas.Bool.{lt-ltb, cases_lt}
use Rattle.std.proofs.Math.Nat.{min_comm}
use Rattle.std.proofs.Math.Seq.{take-append-add}
use Rattle.lt_language.specs.declared.Bad.TheVariants.{Long}
use Rattle.lt_language.specs.Commands.{bad, command_of}
use Rattle.lt_line.specs.Held.{kept_of}

take-take-append : (n : ℕ) (line more : List ℕ) → take n (take n line ++ more) ≡ take n (line ++ more)
take-take-append zero line more = refl
take-take-append (suc n) [] more = refl
take-take-append (suc n) (b ∷ line) more = ap (λ bytes. b ∷ bytes) (take-take-append n line more)

pub kept_of-append : (line more : List ℕ) → kept_of (kept_of line ++ more) ≡ kept_of (line ++ more)
unfolding kept_of
kept_of-append line more = take-take-append 3261 line more

pub kept_of-none : kept_of [] ≡ []
unfolding kept_of
kept_of-none = refl

take_nothing : (n : ℕ) (line : List ℕ) → take (suc n) line ≡ [] → line ≡ []
take_nothing n [] e = refl
take_nothing n (b ∷ line) e = cc

pub kept_of-nothing : (line : List ℕ) → kept_of line ≡ [] → line ≡ []
unfolding kept_of
kept_of-nothing line e = take_nothing 3260 line e

is_long : (line : List ℕ) → 3260 < length line → command_of line ≡ bad Long
unfolding command_of
is_long line long = rw (lt-ltb 3260 (length line) long) refl

pub command_of-kept : (line : List ℕ) → command_of (kept_of line) ≡ command_of line
unfolding kept_of
command_of-kept line = elim (cases_lt 3260 (length line)) [
  | inl long ↦ is_long (take 3261 line) (let n : length (take 3261 line) ≡ 3261 = length-take-le 3261 line (omega arith) in omega arith) ∙ sym (is_long line long)
  | inr short ↦ ap command_of (take_all 3261 line (omega arith))
]

-- what room there is for is all that is kept of more
room_kept : (n : ℕ) (kept more : List ℕ) → length kept ≤ n → kept ++ take (min (length more) (n - length kept)) more ≡ take n (kept ++ more)
room_kept n kept more within =
    let room : length kept + (n - length kept) ≡ n = omega arith in
    let least : take (min (length more) (n - length kept)) more ≡ take (n - length kept) more = ap (λ k. take k more) (min_comm (length more) (n - length kept)) ∙ take_min (n - length kept) more in
    ap (λ bytes. kept ++ bytes) least ∙ sym (take-append-add kept more (n - length kept)) ∙ ap (λ k. take k (kept ++ more)) room

pub kept_of-room : (kept more : List ℕ) (n : ℕ) → length kept ≤ 3261 → n ≡ min (length more) (3261 - length kept) → kept ++ take n more ≡ kept_of (kept ++ more)
unfolding kept_of
kept_of-room kept more n within least = ap (λ k. kept ++ take k more) least ∙ room_kept 3261 kept more within
