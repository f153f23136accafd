-- What is shown of the text of some replies, and which of them it acknowledges.
use Rattle.std.proofs.Common.{◌≡◌, ℕ, ◌+◌, ◌-◌, ◌≤◌, subst, List, [], ◌∷◌, ◌++◌, length, length-append, nat_le, inl, inr, arith}
use Rattle.std.proofs.lemmas.Bool.{cases_Bool, leb-true}
use Rattle.lt_language.specs.Commands.{line_feed}
use Rattle.lt_language.specs.Replies.{Reply, text, texts, words_of}
use Rattle.lt_serve.specs.Runs.{ok_count}
use Rattle.lt_serve.specs.Promise.{acknowledged}
use Rattle.lt_serve.proofs.RunLaws.{ok_count-cons}

text_some : (r : Reply) → 1 ≤ length (text r)
text_some r = let n : length (text r) ≡ length (words_of r) + 1 = length-append (words_of r) (line_feed ∷ []) in omega arith

-- nothing is acknowledged where nothing is shown
none_shown : (rs : List Reply) → acknowledged rs 0 ≤ 0
unfolding acknowledged
none_shown [] = omega arith
none_shown (r ∷ rs) = elim (cases_Bool (nat_le (length (text r)) 0)) [
  | inl fits ↦ let n : length (text r) ≤ 0 = leb-true _ _ fits in let m = text_some r in absurd (omega arith)
  | inr past ↦ rw (past) (omega arith)
]

-- what is shown lies in the text of the first replies: only `OK`s of these are acknowledged
pub acknowledged-append : (rs hs : List Reply) (n : ℕ) → n ≤ length (texts rs) → acknowledged (rs ++ hs) n ≤ ok_count rs
unfolding acknowledged
acknowledged-append [] hs n le = subst (λ k. acknowledged hs k ≤ 0) (let z : 0 ≡ n = omega arith in z) (none_shown hs)
acknowledged-append (r ∷ rs) hs n le = elim (cases_Bool (nat_le (length (text r)) n)) [
  | inl fits ↦
      let whole : length (texts (r ∷ rs)) ≡ length (text r) + length (texts rs) = length-append (text r) (texts rs) in
      let here : length (text r) ≤ n = leb-true _ _ fits in
      let more = acknowledged-append rs hs (n - length (text r)) (omega arith) in
      let count = ok_count-cons r rs in
      rw (fits) (omega arith)
  | inr past ↦ rw (past) (omega arith)
]
