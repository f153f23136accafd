-- What a log in memory is, seen from outside, and what its fields keep.
use Rattle.std.specs.Prelude.{◌≡◌, true, false}
use Rattle.lt_format.specs.Layout.{gate_page}
use Rattle.lt_redo.specs.Group.{items_on, IsGathered}
use Rattle.lt_redo.specs.LogState.{IsPlace, LogState}
use Rattle.lt_redo.specs.declared.log.Log.TheInside.{Inside}

-- the log, seen from outside: its open group stands on the page that will be its content
abbrev pub log_of : Inside → LogState
log_of l = record {
  geometry = l.geometry;
  area = l.area;
  writes = l.writes;
  slots = l.slots;
  pending = items_on l.content l.count l.used;
  cleared = l.cleared;
}

-- the pages that are kept: the open group's, and those of an open and of a closed gate
pub record IsKept (l : Inside) : Type 0 where
  pub place : IsPlace l.geometry l.area l.slots
  pub group : IsGathered l.content l.count l.used (items_on l.content l.count l.used)
  pub opens : l.opened ≡ gate_page true
  pub closes : l.closed ≡ gate_page false
