use Rattle.lt_device.proofs.Histories.{IsHistoryOf-synced}
use Rattle.lt_device.proofs.mem_device.MemDevice.settle.Goals as goal

pub invariant_of-self : goal.invariant_of-self
invariant_of-self c = rw c.sync-2.ensures.shown (IsHistoryOf-synced _ _ _ _ _ _ _ c.self.inside.store.flags c.self.invariant c.sync-2.ensures.synced c.sync.ensures.added)
