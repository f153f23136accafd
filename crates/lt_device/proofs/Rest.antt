-- Which blocks are not sure, from call to call.
use Rattle.std.proofs.Common.{◌≡◌, ⊎_elim, inl, inr, ℕ, Bool, true, false, List, map, get_or, set, Some, sym, ◌∙◌, ap, subst}
use Rattle.std.proofs.lemmas.Bool.{cases_eq, cases_Bool}
use Rattle.std.proofs.lemmas.List.{get_or-set_other}
use Rattle.lt_terms.specs.Bytes.{Image}
use Rattle.lt_device.specs.State.{SameOutside, State, synced, Wrote, EndedSync}
use Rattle.lt_device.specs.Moments.{MayLeave, UnsyncedIn}
use Rattle.lt_device.proofs.Images.{all_sure}
use Rattle.lt_device.proofs.Steps.{option_map-Some, same_some}

pub unsynced_writes : {S : ℕ → Type 0} {n b : ℕ} {old new : State} → Wrote n b old new → UnsyncedIn S old → S b → UnsyncedIn S new
unsynced_writes {S} {n} {b} {old} {new} wrote so_far inside = record {
  each = λ flags is k on. let before = option_map-Some (λ (f : List Bool). set f b true) old.unsynced flags (sym (ap (λ (s : State). s.unsynced) wrote.is) ∙ is) in
      elim (cases_eq k b) [
        | inl same ↦ subst S (sym same) inside
        | inr other ↦ so_far.each before.0 before.1 k (sym (get_or-set_other before.0 b k true false other) ∙ ap (λ (f : List Bool). get_or f k false) before.2 ∙ on)
      ];
}

-- after a sync that answered Ok there is none
pub unsynced_none : {S : ℕ → Type 0} (old : State) {new : State} → new ≡ synced old → UnsyncedIn S new
unsynced_none {S} old {new} is = record {
  each = λ flags told k on. let before = option_map-Some (map (λ _. false)) old.unsynced flags (sym (ap (λ (s : State). s.unsynced) is) ∙ told) in
      let off : get_or flags k false ≡ false = subst (λ (f : List Bool). get_or f k false ≡ false) before.2 (all_sure before.0 k) in
      absurd (cc (on, off));
}

pub unsynced_syncs : {S : ℕ → Type 0} {n : ℕ} {old new : State} → EndedSync n old new → UnsyncedIn S old → UnsyncedIn S new
unsynced_syncs {S} {n} {old} {new} sync so_far = ⊎_elim
    (λ (same : new ≡ old). subst (UnsyncedIn S) (sym same) so_far)
    (λ (done : new ≡ synced old). unsynced_none old done)
    sync.either

-- outside them a crash leaves what is read
pub unsynced_near : {S : ℕ → Type 0} {s : State} → UnsyncedIn S s → (image left : Image) → s.shown ≡ Some image → MayLeave s left → SameOutside S image left
unsynced_near {S} {s} rest image left is may =
    let same : may.shown ≡ image = same_some s.shown may.shown image may.shown_is is in
    subst (λ (i : Image). SameOutside S i left) same (record {
      size = may.crash.size;
      others = λ k out. elim (cases_Bool (get_or may.unsynced k false)) [
        | inl on ↦ absurd (out (rest.each may.unsynced may.unsynced_is k on))
        | inr off ↦ may.crash.kept k off
      ];
    })
