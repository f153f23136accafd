-- A device that tells nothing.
use Rattle.std.proofs.Common.{ℕ, refl}
use Rattle.lt_terms.specs.Bytes.{zero_block}
use Rattle.lt_page.proofs.Zeros.{IsBlock-zero_block}
use Rattle.lt_device.specs.State.{Wrote, IsFit, tells_nothing}

pub fits_nothing : (blocks : ℕ) → IsFit blocks tells_nothing
fits_nothing blocks = record { shown = λ image is. absurd (cc); unsynced = λ flags is. absurd (cc); past = λ epochs is. absurd (cc) }

pub wrote_nothing : (blocks block : ℕ) → Wrote blocks block tells_nothing tells_nothing
wrote_nothing blocks block = record { fit = fits_nothing blocks; page = zero_block; whole = IsBlock-zero_block zero_block refl; is = refl }
