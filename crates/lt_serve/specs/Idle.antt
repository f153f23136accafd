-- A session between two rounds.
use Rattle.std.specs.Prelude.{◌≡◌, true, false, [], None}
use Rattle.lt_line.specs.Held.{HeldLine}
use Rattle.lt_store.specs.declared.store.Store.{Store}
use Rattle.lt_store.specs.View.{view_of}

-- the store is up, all its writes are durable, no job is in flight, and no line waits
pub record IsIdle (store : Store) (lines : HeldLine) : Type 0 where
  pub up : store.is_up ≡ true
  pub durable : (view_of store).log.pending ≡ []
  pub still : (view_of store).work.job ≡ None
  pub open_line : lines.is_ended ≡ false
