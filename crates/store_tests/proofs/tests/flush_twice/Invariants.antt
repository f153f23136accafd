use Rattle.std.proofs.Common.{◌≤◌}
use Rattle.lt_store.specs.Open.{blocks_of}
use Rattle.lt_store.specs.View.{view_of}
use Rattle.store_tests.proofs.tests.flush_twice.Given as goal

-- the device has the store's blocks
abbrev pub invariant-loop-event : goal.invariant-loop-event
invariant-loop-event g l = blocks_of (view_of l.store) ≤ g.D.Device.blocks l.device
