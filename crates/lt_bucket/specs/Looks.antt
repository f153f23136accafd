-- What a look-up in a bucket answers, with the item borrowed.
use Rattle.lt_item.specs.Views.{item_of}
use Rattle.lt_tables.specs.Bucket as table
use Rattle.lt_bucket.specs.declared.view.Look.{Look}
use Rattle.lt_bucket.specs.declared.view.Look.TheVariants.{Here, Moved, Absent}

-- the answer as the format names it
abbrev pub look_of : Look → table.Look
look_of (Here item) = table.here (item_of item)
look_of (Moved column) = table.moved column
look_of Absent = table.absent
