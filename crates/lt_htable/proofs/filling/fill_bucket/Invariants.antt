use Rattle.std.proofs.Common.{◌≡◌, take}
use Rattle.std.specs.Prelude.{◌==◌}
use Rattle.std.specs.List.{filter}
use Rattle.lt_bucket.specs.Added.{added}
use Rattle.lt_tables.specs.Table.{place_of}
use Rattle.lt_htable.proofs.filling.fill_bucket.Given as goal

-- those of the items so far that lie in the column were added
abbrev pub invariant-loop-item : goal.invariant-loop-item
invariant-loop-item l = record {
  added : added l.builder ≡ filter (λ item. place_of l.placement item == l.column) (take l.item-index l.items);
  same_page : l.builder.page.ghost_name ≡ l.initial.builder.page.ghost_name;
}
