-- What a flush of an image would be, and when one is due.
use Rattle.std.specs.Prelude.{◌≡◌, ℕ, Bool, ◌||◌, length, nat_lt, ◌==◌, Ok, IsTrue}
use Rattle.lt_terms.specs.Bytes.{Image}
use Rattle.lt_terms.specs.Items.{total_cost}
use Rattle.lt_tables.specs.Cut.{table_total}
use Rattle.lt_tables.specs.Table.{newest}
use Rattle.lt_image.specs.Versions.{Opened, free_extents, log_items, open_image}

-- the tables that a flush of the log gives
abbrev pub flush_tables : Opened → ℕ
flush_tables o = table_total (newest (log_items o))

-- a flush is due: no slot is left, or the items of the log cost too much
abbrev pub is_flush_due : Opened → Bool
is_flush_due o = length o.groups == o.named.geometry.slots || nat_lt 200000 (total_cost (log_items o))

-- a flush is due on the image, and gives so many tables, with so many extents free
pub record IsFullImage (image : Image) (needed free : ℕ) : Type 0 where
  pub opened : Opened
  pub opens : open_image image ≡ Ok opened
  pub due : IsTrue (is_flush_due opened)
  pub needs : flush_tables opened ≡ needed
  pub has : free_extents opened.named ≡ free
