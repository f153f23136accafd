use Rattle.std.proofs.Common.{◌≡◌, ◌++◌, true}
use Rattle.std.specs.List.{list_all}
use Rattle.lt_terms.specs.Items.{is_valid}
use Rattle.lt_bucket.proofs.owned.push_all.Given as goal

-- all that were there, and those that are left
abbrev pub invariant-loop-item : goal.invariant-loop-item
invariant-loop-item l = record {
  copied : l.all.items ++ l.item-iterator ≡ l.fn.all.items ++ l.fn.items;
  valid : list_all is_valid l.item-iterator ≡ true;
}
