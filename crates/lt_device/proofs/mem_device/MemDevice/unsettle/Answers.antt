use Rattle.std.proofs.Common.{◌<◌, [], length, rules}
use Rattle.std.proofs.lemmas.List.{set-get_or}
use Rattle.lt_terms.specs.Bytes.{block_at}
use Rattle.lt_device.proofs.mem_device.MemDevice.unsettle.Goals as goal

-- the block reads as it did
pub returns-clause-wrote : goal.returns-clause-wrote
returns-clause-wrote c =
    let pages = c.self.inside.store.pages.items in
    let below : c.args.block < length pages = search rules in
    let same = set-get_or pages c.args.block [] in
    record { fit = search rules; page = block_at pages c.args.block; whole = c.self.inside.store.blocks c.args.block [] below; is = search rules }
