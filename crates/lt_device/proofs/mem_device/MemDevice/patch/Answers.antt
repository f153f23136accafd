use Rattle.std.proofs.Common.{◌≡◌, false, sym, ◌∙◌, ap, subst, set, rules}
use Rattle.std.specs.List.{All}
use Rattle.std.proofs.lemmas.List.{length-set}
use Rattle.lt_device.specs.History.{made, stable_of, past_of}
use Rattle.lt_device.specs.Memory.{IsSynced}
use Rattle.lt_device.proofs.Histories.{IsHistoryOf-empty, stable_of-clean}
use Rattle.lt_device.proofs.mem_device.MemDevice.patch.Goals as goal

clean : (c : goal.After-clear) → All (λ flag. flag ≡ false) c.self.inside.store.unsynced.items
clean c = subst IsSynced (sym c.self.view_is) c.requires.synced

pub invariant_of-self : goal.invariant_of-self
invariant_of-self c =
    let store = c.self.inside.store in
    IsHistoryOf-empty _ _ _ _ (store.flags ∙ sym (length-set store.pages.items c.args.block c.copy_from.new.self)) (clean c) c.clear.ensures.empty

pub returns : goal.returns
returns c =
    let pages = c.self.inside.store.pages.items in
    let stable = stable_of-clean c.self.inside.store.unsynced.items _ (made c.self.inside.history) pages c.self.invariant (clean c) in
    let after = ap (λ h. stable_of h (set pages c.args.block c.copy_from.new.self)) c.clear.ensures.empty in
    let past = ap (λ h. past_of h (set pages c.args.block c.copy_from.new.self)) c.clear.ensures.empty in
    search rules
