use Rattle.std.proofs.Common.{length, arith, lt-ltb, ltb-true}
use Rattle.std.proofs.lemmas.List.Sorted.{IsNonDecreasingBy-from_all_adjacent}
use Rattle.lt_tables.specs.declared.Entry.{Entry}
use Rattle.lt_balance.proofs.entries.are_entries.Goals as goal

pub returns : goal.returns
returns c = (
  λ small. record {
    columns = λ k d below. (c.loop-i.invariant.0 k d (omega arith) (omega arith)).0;
    costs = λ k d below. (c.loop-i.invariant.0 k d (omega arith) (omega arith)).1;
    order = IsNonDecreasingBy-from_all_adjacent (λ (e : Entry). e.suffix) c.args.entries.now (λ k d below. c.loop-i.invariant.1 k d (omega arith));
    few = ltb-true (length c.args.entries.now) 4294967296 small;
  },
  λ entries. lt-ltb (length c.args.entries.now) 4294967296 entries.few,
)
