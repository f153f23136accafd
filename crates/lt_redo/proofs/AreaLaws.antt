-- The log of one area, whatever is done outside it.
use Rattle.std.proofs.Common.{◌≡◌, ℕ, ◌<◌, ◌∙◌, List, arith}
use Rattle.lt_terms.specs.Bytes.{Image, block_at}
use Rattle.lt_terms.specs.Items.{Item}
use Rattle.lt_format.specs.declared.geometry.Geometry.{Geometry}
use Rattle.lt_format.specs.Layout.{log_gate, log_content}
use Rattle.lt_format.proofs.LocalLaws.{log_from-same}
use Rattle.lt_redo.specs.Slots.{HasLog, InLogArea}

-- the slots of log area b have the same blocks
record SameSlots (g : Geometry) (b : ℕ) (image left : Image) : Type 0 where
  pub gates : (k : ℕ) → k < g.slots → block_at left (log_gate g b k) ≡ block_at image (log_gate g b k)
  pub contents : (k : ℕ) → k < g.slots → block_at left (log_content g b k) ≡ block_at image (log_content g b k)

same-log : (g : Geometry) (b writes : ℕ) (groups : List (List Item)) (image left : Image) → SameSlots g b image left → HasLog g b writes groups image → HasLog g b writes groups left
same-log g b writes groups image left same has = record { read = log_from-same g image left b writes 0 g.slots _ (λ k low high. (same.gates k (omega arith), same.contents k (omega arith))) ∙ has.read }

-- a log is told by the blocks of its area
pub has_log-local : (g : Geometry) (b writes : ℕ) (groups : List (List Item)) (image left : Image) → ((n : ℕ) → InLogArea g b n → block_at left n ≡ block_at image n) → HasLog g b writes groups image → HasLog g b writes groups left
has_log-local g b writes groups image left same has =
    let slots : SameSlots g b image left = record {
      gates = λ k small. same (log_gate g b k) (omega arith, omega arith);
      contents = λ k small. same (log_content g b k) (omega arith, omega arith);
    } in
    same-log g b writes groups image left slots has
