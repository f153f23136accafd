-- Faults that name a block.
use Rattle.std.specs.Prelude.{ℕ, Option, Result, IsErrOf}
use Rattle.std.specs.Option.{ForSome}
use Rattle.lt_terms.specs.Bytes.{Image}

-- an answer that is this fault names one of these blocks
abbrev pub FaultIn : {T E : Type 0} → Result T E → (ℕ → E) → (ℕ → Type 0) → Type 0
FaultIn result fault inside = (b : ℕ) → IsErrOf result (fault b) → inside b

-- an answer that is this fault names a block of which this holds, where a device tells what it reads as
abbrev pub FaultBy : {T E : Type 0} → Result T E → (ℕ → E) → Option Image → (Image → ℕ → Type 0) → Type 0
FaultBy result fault shown named = (b : ℕ) → IsErrOf result (fault b) → ForSome shown (λ image. named image b)
