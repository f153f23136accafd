-- What a builder has on its page.
use Rattle.std.specs.Prelude.{List}
use Rattle.lt_terms.specs.Items.{Item}
use Rattle.lt_bucket.specs.Building.{items_used}
use Rattle.lt_bucket.specs.declared.builder.BucketBuilder.{BucketBuilder}

-- the items that were added, in their order
abbrev pub added : BucketBuilder → List Item
added builder = items_used builder.page.now builder.count builder.used
