use Rattle.std.proofs.Common.{◌≡◌, ℕ, ◌<◌, length, subst, sym, ap, ◌∙◌}
use Rattle.lt_terms.specs.Bytes.{Image, block_at}
use Rattle.lt_device.specs.History.{made, stable_of}
use Rattle.lt_device.specs.Memory.{Memory, IsPicked, left_at}
use Rattle.lt_device.proofs.Histories.{IsStable-history}
use Rattle.lt_device.proofs.Picks.{IsPicked-each, MayLeave-picked}
use Rattle.lt_device.proofs.mem_device.MemDevice.leave.Goals as goal

pub returns-clause-left : goal.returns-clause-left
returns-clause-left c =
    let inside = c.self.inside in
    let shown = inside.store.pages.items in
    let flags = inside.store.unsynced.items in
    let given : c.args.pages.now ≡ shown = c.requires ∙ sym (ap (λ (d : Memory). d.shown) c.self.view_is) in
    let stable : c.undo.new.pages ≡ stable_of (made inside.history) shown = c.undo.ensures.stable ∙ ap (λ (i : Image). stable_of (made inside.history) i) given in
    let is = IsStable-history flags inside.history.room (made inside.history) shown c.self.invariant in
    let size : length c.choose.new.pages ≡ length shown = c.choose.auto.pages ∙ c.undo.auto.pages ∙ ap length given in
    let each : (k : ℕ) → k < length (stable_of (made inside.history) shown) → block_at c.choose.new.pages k ≡ left_at c.args.picks.now flags (stable_of (made inside.history) shown) shown k =
    subst (λ (i : Image). (k : ℕ) → k < length i → block_at c.choose.new.pages k ≡ left_at c.args.picks.now flags i shown k) stable c.choose.ensures.each in
    let picked = subst (λ (d : Memory). IsPicked c.args.picks.now d c.choose.new.pages) c.self.view_is (IsPicked-each c.args.picks.now _ c.choose.new.pages is size inside.store.flags each) in
    record { picked = picked; may = MayLeave-picked _ _ _ picked c.choose.ensures.blocks }
