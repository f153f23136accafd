-- Calls of a device, one after another.
use Rattle.std.proofs.Common.{◌≡◌, ℕ, ◌+◌, ◌≤◌, ◌∙◌, Result, arith}
use Rattle.lt_terms.specs.Causes.{CountsOne, HasCause}
use Rattle.lt_device.specs.declared.device.Device.{Ghosts}
use Rattle.lt_device.specs.Calls.{OnlyReads, OnlyWrites, ReadsAndWrites}
use Rattle.lt_device.specs.Reads.{CountsAtMost}

counts_more : {m n k before mid now : ℕ} → m + n ≤ k → CountsAtMost m before mid → CountsAtMost n mid now → CountsAtMost k before now
counts_more within first second = record {
  later = omega (arith, first.later, second.later);
  at_most = omega (arith, within, first.later, first.at_most, second.later, second.at_most);
}

pub reads_more : {D : Type 0} {g : Ghosts D} {A B : Type 0} {m n k : ℕ} {old mid new : D} → m + n ≤ k → OnlyReads g m A old mid → OnlyReads g n B mid new → OnlyReads g k ⊥ old new
reads_more within first second = record {
  state = second.state ∙ first.state;
  size = second.size ∙ first.size;
  count = counts_more within first.count second.count;
  later = omega (arith, first.later, second.later);
  cause = λ never. absurd never;
}

pub writes_more : {D : Type 0} {g : Ghosts D} {A B : Type 0} {old mid new : D} → OnlyWrites g A old mid → OnlyWrites g B mid new → OnlyWrites g ⊥ old new
writes_more first second = record {
  size = second.size ∙ first.size;
  count = second.count ∙ first.count;
  later = omega (arith, first.later, second.later);
  cause = λ never. absurd never;
}

pub more : {D : Type 0} {g : Ghosts D} {A B : Type 0} {m n k : ℕ} {old mid new : D} → m + n ≤ k → ReadsAndWrites g m A old mid → ReadsAndWrites g n B mid new → ReadsAndWrites g k ⊥ old new
more within first second = record {
  size = second.size ∙ first.size;
  count = counts_more within first.count second.count;
  later = omega (arith, first.later, second.later);
  cause = λ never. absurd never;
}

-- one block read more
pub reads_block : {D T E A : Type 0} {g : Ghosts D} {m k : ℕ} {old mid new : D} {result : Result T E} → m + 1 ≤ k → OnlyReads g m A old mid
    → g.state new ≡ g.state mid → g.blocks new ≡ g.blocks mid → CountsOne (g.reads mid) (g.reads new) → HasCause (g.faults mid) (g.faults new) result → OnlyReads g k ⊥ old new
reads_block within first state size count cause = record {
  state = state ∙ first.state;
  size = size ∙ first.size;
  count = record {
    later = omega (arith, first.count.later, count.later);
    at_most = omega (arith, within, first.count.later, first.count.at_most, count.later, count.at_most_one);
  };
  later = omega (arith, first.later, cause.later);
  cause = λ never. absurd never;
}

-- one block written more, or one sync
pub writes_block : {D T E A : Type 0} {g : Ghosts D} {old mid new : D} {result : Result T E} → OnlyWrites g A old mid
    → g.blocks new ≡ g.blocks mid → g.reads new ≡ g.reads mid → HasCause (g.faults mid) (g.faults new) result → OnlyWrites g ⊥ old new
writes_block first size count cause = record {
  size = size ∙ first.size;
  count = count ∙ first.count;
  later = omega (arith, first.later, cause.later);
  cause = λ never. absurd never;
}
