use Rattle.std.proofs.Common.{◌≡◌, ◌<◌, [], length, rules}
use Rattle.std.proofs.lemmas.List.{get_or_read}
use Rattle.lt_terms.specs.Bytes.{block_at}
use Rattle.lt_device.specs.History.{made}
use Rattle.lt_device.proofs.Histories.{Adds, adds}
use Rattle.lt_device.proofs.mem_device.MemDevice.record.Goals as goal

recorded : (c : goal.After-write-2) → Adds c.args.block c.self.inside.store.pages.items c.write-2.new.self.pages.items (made c.self.inside.history) (made c.write.new.self)
recorded c =
    let pages = c.self.inside.store.pages.items in
    let below : c.args.block < length pages = search rules in
    let before : c.index.result.now ≡ block_at pages c.args.block = get_or_read pages c.args.block _ below c.index.ensures [] in
    adds _ _ _ _ _ _ _ before c.write-2.ensures.shown c.write.ensures.added

pub returns-clause-recorded : goal.returns-clause-recorded
returns-clause-recorded c = let a = recorded c in search rules

pub returns-clause-wrote : goal.returns-clause-wrote
returns-clause-wrote c = let a = recorded c in
    record { fit = search rules; page = c.args.from.now; whole = c.write-2.ensures.block; is = search rules }
