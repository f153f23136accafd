use Rattle.lt_device.proofs.Picks.{Followed}
use Rattle.lt_device.proofs.pick.choose.Given as goal

abbrev pub invariant-loop-block : goal.invariant-loop-block
invariant-loop-block l = Followed l.picks l.store.unsynced.items l.fn.pages l.store.pages.items l.pages l.block l.next
