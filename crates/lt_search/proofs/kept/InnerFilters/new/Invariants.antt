use Rattle.std.proofs.Common.{◌≡◌, None, replicate, vec_len}
use Rattle.lt_search.proofs.kept.InnerFilters.new.Given as goal

abbrev pub invariant-loop : goal.invariant-loop
invariant-loop l = record {
  items : l.pages.items ≡ replicate l.counter None;
  len : vec_len l.pages ≡ l.counter;
}
