use Rattle.std.proofs.Common.{ℕ, ◌<◌, List, length, get_or, inl, inr, subst, sym, arith}
use Rattle.std.proofs.lemmas.List.{get_or_past}
use Rattle.std.proofs.lemmas.Bool.{cases_lt}
use Rattle.lt_terms.specs.Bytes.{AreBytes}
use Rattle.lt_terms.proofs.ItemLaws.{front_item-takes}
use Rattle.lt_terms.proofs.laws.spelled_so.Goals as goal

-- past the end there is 0
byte_at : (bytes : List ℕ) → AreBytes bytes → (i : ℕ) → get_or bytes i 0 < 256
byte_at bytes are i = elim (cases_lt i (length bytes)) [
  | inl below ↦ are i 0 below
  | inr past ↦ subst (λ n. n < 256) (sym (get_or_past bytes i 0 past)) (omega arith)
]

pub returns : goal.returns
returns c = λ bytes found are read. let front = front_item-takes bytes found (byte_at bytes are) read in (front.whole, front.valid)
