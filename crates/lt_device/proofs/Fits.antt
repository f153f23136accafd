-- What is told keeps the device's size, and images that are told exist.
use Rattle.std.proofs.Common.{◌≡◌, ⊎_elim, ℕ, Bool, true, false, List, length, set, map, Some, sym, ◌∙◌, ap, subst}
use Rattle.std.specs.Option.{option_map}
use Rattle.std.proofs.lemmas.List.{length-set, length-map}
use Rattle.lt_terms.specs.Bytes.{Image}
use Rattle.lt_device.specs.State.{IsWhole, State, synced, Wrote, EndedSync, IsFit}
use Rattle.lt_device.specs.Moments.{MayLeave}
use Rattle.lt_device.proofs.Images.{IsWhole-set, crash_none}
use Rattle.lt_device.proofs.Steps.{option_map-Some, longer_past-Some, written_is}

pub wrote_fit : (n b : ℕ) (old new : State) → Wrote n b old new → IsFit n new
wrote_fit n b old new wrote = record {
  shown = λ image shown. let before = written_is b old new wrote.page wrote.is image shown in
      subst (λ (i : Image). IsWhole n i) (sym before.2) (IsWhole-set n before.0 b wrote.page (wrote.fit.shown before.0 before.1) wrote.whole);
  unsynced = λ flags told. let before = option_map-Some (λ (f : List Bool). set f b true) old.unsynced flags (sym (ap (λ (s : State). s.unsynced) wrote.is) ∙ told) in
      let image = wrote.fit.unsynced before.0 before.1 in (
        set image.0 b wrote.page,
        ap (λ (s : State). s.shown) wrote.is ∙ ap (option_map (λ (i : Image). set i b wrote.page)) image.1,
        ap length (sym before.2) ∙ length-set before.0 b true ∙ image.2,
      );
  past = λ epochs told. let before = wrote.fit.past epochs (sym (ap (λ (s : State). s.past) wrote.is) ∙ told) in
      (set before.0 b true, ap (λ (s : State). s.unsynced) wrote.is ∙ ap (option_map (λ (f : List Bool). set f b true)) before.1);
}

pub synced_fit : (n : ℕ) (s : State) → IsFit n s → IsFit n (synced s)
synced_fit n s fit = record {
  shown = fit.shown;
  unsynced = λ flags told. let before = option_map-Some (map (λ _. false)) s.unsynced flags told in
      let image = fit.unsynced before.0 before.1 in
      (image.0, image.1, ap length (sym before.2) ∙ length-map before.0 (λ _. false) ∙ image.2);
  past = λ epochs told. let before = longer_past-Some s.shown s.unsynced s.past epochs told in
      let flags = fit.past before.0 before.1 in
      (map (λ _. false) flags.0, ap (option_map (map (λ _. false))) flags.1);
}

pub ended_fit : (n : ℕ) (old new : State) → EndedSync n old new → IsFit n new
ended_fit n old new sync = ⊎_elim
    (λ (same : new ≡ old). subst (λ (s : State). IsFit n s) (sym same) sync.fit)
    (λ (done : new ≡ synced old). subst (λ (s : State). IsFit n s) (sym done) (synced_fit n old sync.fit))
    sync.either

-- where the images are told, there is one
pub some_now : (n : ℕ) (s : State) (flags : List Bool) → IsFit n s → s.unsynced ≡ Some flags → (left : Image) × MayLeave s left
some_now n s flags fit told =
    let image = fit.unsynced flags told in (
      image.0,
      record { shown = image.0; unsynced = flags; shown_is = image.1; unsynced_is = told; crash = crash_none image.0 flags (fit.shown image.0 image.1).pages },
    )
