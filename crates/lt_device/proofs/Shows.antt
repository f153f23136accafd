-- What a device reads as, outside some blocks.
use Rattle.std.proofs.Common.{◌≡◌, ◌⊎◌, ⊎_elim, ℕ, sym, subst, Option}
use Rattle.lt_terms.specs.Bytes.{Image}
use Rattle.lt_device.specs.Moments.{ShowsSameOutside}
use Rattle.lt_device.specs.State.{State, Wrote}
use Rattle.lt_device.proofs.Images.{same_outside_refl, same_outside_joins, same_outside_widens}
use Rattle.lt_device.proofs.Steps.{wrote_others}

pub shows-none : (inside : ℕ → Type 0) (shown : Option Image) → ShowsSameOutside inside shown shown
shows-none inside shown = record { each = λ before told. (before, told, same_outside_refl inside before) }

-- two calls, one after another
pub shows-joins : (inside part other : ℕ → Type 0) (old mid new : Option Image) → ShowsSameOutside part old mid → ShowsSameOutside other mid new → ((k : ℕ) → part k → inside k) → ((k : ℕ) → other k → inside k) → ShowsSameOutside inside old new
shows-joins inside part other old mid new first second first_in second_in = record {
  each = λ before told.
      let one = first.each before told in
      let two = second.each one.0 one.1 in
      (two.0, two.1, same_outside_widens (λ k. part k ⊎ other k) inside before two.0 (λ k either. ⊎_elim (first_in k) (second_in k) either) (same_outside_joins part other before one.0 two.0 one.2 two.2));
}

pub shows-widens : (inside more : ℕ → Type 0) (old new : Option Image) → ((k : ℕ) → inside k → more k) → ShowsSameOutside inside old new → ShowsSameOutside more old new
shows-widens inside more old new wider shows = shows-joins more inside inside old new new shows (shows-none inside new) wider wider

pub shows-writes : (inside : ℕ → Type 0) (n b : ℕ) (old : Option Image) (mid new : State) → Wrote n b mid new → inside b → ShowsSameOutside inside old mid.shown → ShowsSameOutside inside old new.shown
shows-writes inside n b old mid new wrote in_it so_far =
    shows-joins inside inside (λ k. k ≡ b) old mid.shown new.shown so_far (record { each = λ before told. wrote_others n b mid new before wrote told }) (λ k i. i) (λ k at. subst inside (sym at) in_it)
