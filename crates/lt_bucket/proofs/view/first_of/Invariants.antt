use Rattle.std.proofs.Common.{◌≡◌}
use Rattle.std.specs.List.{find}
use Rattle.lt_terms.specs.Bytes.{same_bytes}
use Rattle.lt_terms.specs.Items.{Item}
use Rattle.lt_bucket.proofs.view.first_of.Given as goal

abbrev pub invariant-loop-item : goal.invariant-loop-item
invariant-loop-item l = find (λ (item : Item). same_bytes item.key l.key) l.fn.items ≡ find (λ (item : Item). same_bytes item.key l.key) l.item-iterator
