use Rattle.std.proofs.Common.{◌∙◌, false, sym, vec_len}
use Rattle.std.proofs.lemmas.Simd.{splat_is_map}
use Rattle.lt_device.proofs.store.Store.sync.Goals as goal

pub returns-clause-synced : goal.returns-clause-synced
returns-clause-synced c = let flags = c.args.self.now.unsynced in
    c.fill.ensures.items (λ y e. e) ∙ splat_is_map flags.items (vec_len flags) false (sym flags.ok.0)
