-- Telling a damaged block behind what was shown.
use Rattle.std.proofs.Common.{◌≡◌, ◌⊎◌, ℕ, ◌≤◌, refl, sym, subst, inl, inr, List, [], ◌++◌, append-nil, Option, Result, Ok, Err, OnOk, OnErr, arith}
use Rattle.lt_terms.specs.Causes.{Rose, HasCause}
use Rattle.lt_page.specs.declared.errors.Failed.{Failed}
use Rattle.lt_device.specs.State as told
use Rattle.lt_io.specs.Streams.{Gains, GainsFront}
use Rattle.lt_io.proofs.Flows.{Gains-none, Gains-more, GainsFront-more}
use Rattle.lt_serve.specs.Promise.{FoundByGet, GainsSome, ServesSeen, Sight}
use Rattle.lt_serve.specs.declared.served.Served.{Served}
use Rattle.lt_serve.specs.declared.served.Served.TheVariants as ends
use Rattle.lt_store.specs.Promise.{StopsOpening}
use Rattle.lt_cli.specs.Promise.{FoundDamage, RunSeen, ShowsLine, damage_line, status_of}

module _ (stands0 stands1 stands : List ℕ → Type 0) (faults0 faults1 faults : ℕ) (line shown : List ℕ) (gained : Gains stands0 stands1 shown) (later : faults0 ≤ faults1) where
  -- a front of the line was told behind what was shown
  told-front : (r : Result (Unit {0}) Failed) → OnOk r (Gains stands1 stands line) → OnErr r (GainsFront stands1 stands line) → GainsFront stands0 stands (shown ++ line)
  told-front (Ok u) all front = record { shown = shown ++ line; hidden = []; whole = sym (append-nil (shown ++ line)); gained = Gains-more stands0 stands1 stands shown line gained all }
  told-front (Err e) all front = GainsFront-more stands0 stands1 stands shown line gained front

  -- and all of it where the sink's count did not rise
  told-whole : (r : Result (Unit {0}) Failed) → OnOk r (Gains stands1 stands line) → HasCause faults1 faults r → (Rose faults0 faults → ⊥) → Gains stands0 stands (shown ++ line)
  told-whole (Ok u) all cause still = Gains-more stands0 stands1 stands shown line gained all
  told-whole (Err e) all cause still = absurd (let rose : Rose faults1 faults = cause.failed in still (omega (arith, rose, later)))

-- where serving stopped at a damaged block, it is found
pub found-damage : (left0 left : Option (List ℕ)) (stands0 stands1 stands : List ℕ → Type 0) (faults0 faults1 faults : ℕ) (old new : told.State) (block : ℕ) (r : Result (Unit {0}) Failed) → GainsSome stands0 stands1 → faults0 ≤ faults1
    → OnOk r (Gains stands1 stands (damage_line block)) → OnErr r (GainsFront stands1 stands (damage_line block)) → HasCause faults1 faults r
    → (StopsOpening old block × (new ≡ old) × (left ≡ left0) × (stands1 ≡ stands0)) ⊎ FoundByGet old block new → FoundDamage left0 left stands0 stands faults0 faults old new
found-damage left0 left stands0 stands1 stands faults0 faults1 faults old new block r some later all front cause (inl opening) =
    let gained : Gains stands0 stands1 [] = subst (λ (s : List ℕ → Type 0). Gains stands0 s []) (sym opening.3) (Gains-none stands0) in
    record {
      block = block;
      shown = [];
      front = told-front stands0 stands1 stands faults0 faults1 faults (damage_line block) [] gained later r all front;
      whole = told-whole stands0 stands1 stands faults0 faults1 faults (damage_line block) [] gained later r all cause;
      damaged = inl (opening.0, opening.1, opening.2, refl);
    }
found-damage left0 left stands0 stands1 stands faults0 faults1 faults old new block r some later all front cause (inr get) = record {
  block = block;
  shown = some.shown;
  front = told-front stands0 stands1 stands faults0 faults1 faults (damage_line block) some.shown some.gained later r all front;
  whole = told-whole stands0 stands1 stands faults0 faults1 faults (damage_line block) some.shown some.gained later r all cause;
  damaged = inr get;
}

-- where nothing was shown, the sink is given the line of the block
pub tells-damage : (stands0 stands1 stands : List ℕ → Type 0) (faults0 faults1 faults : ℕ) (block b : ℕ) (r : Result (Unit {0}) Failed) → block ≡ b → stands1 ≡ stands0 → faults0 ≤ faults1
    → OnOk r (Gains stands1 stands (damage_line block)) → OnErr r (GainsFront stands1 stands (damage_line block)) → HasCause faults1 faults r → ShowsLine stands0 stands faults0 faults (damage_line b)
tells-damage stands0 stands1 stands faults0 faults1 faults block b r same none later all front cause =
    let gained : Gains stands0 stands1 [] = subst (λ (s : List ℕ → Type 0). Gains stands0 s []) (sym none) (Gains-none stands0) in
    subst (λ (n : ℕ). ShowsLine stands0 stands faults0 faults (damage_line n)) same
    (record {
      front = told-front stands0 stands1 stands faults0 faults1 faults (damage_line block) [] gained later r all front;
      whole = told-whole stands0 stands1 stands faults0 faults1 faults (damage_line block) [] gained later r all cause;
    })

-- what was served, where no block is named as damaged
pub run-seen : (sight : Sight) (served : Served) (left0 left : Option (List ℕ)) (stands0 stands : List ℕ → Type 0) → ServesSeen sight served left0 left stands0 stands → ((b : ℕ) → served ≡ ends.Damaged b → ⊥) → RunSeen sight (status_of served) left0 left stands0 stands
run-seen sight served left0 left stands0 stands s sound = record {
  ended = served;
  is = refl;
  taken = s.taken;
  takes = s.takes;
  shown = s.shown;
  seen = s.seen;
  gained = λ other. s.gained;
  told = λ b is. absurd (sound b is);
}

-- and where one is
pub damage-seen : (sight : Sight) (block : ℕ) (left0 left : Option (List ℕ)) (stands0 stands1 stands : List ℕ → Type 0) (faults0 faults1 : ℕ) (r : Result (Unit {0}) Failed) → ServesSeen sight (ends.Damaged block) left0 left stands0 stands1 → faults0 ≤ faults1
    → OnOk r (Gains stands1 stands (damage_line block)) → OnErr r (GainsFront stands1 stands (damage_line block)) → RunSeen sight (status_of (ends.Damaged block)) left0 left stands0 stands
damage-seen sight block left0 left stands0 stands1 stands faults0 faults1 r s later all front = record {
  ended = ends.Damaged block;
  is = refl;
  taken = s.taken;
  takes = s.takes;
  shown = s.shown;
  seen = s.seen;
  gained = λ other. absurd (other refl);
  told = λ b is.
      let one : block ≡ b = cc (is) in
      subst (λ (n : ℕ). GainsFront stands0 stands (s.shown ++ damage_line n)) one (told-front stands0 stands1 stands faults0 faults1 faults1 (damage_line block) s.shown s.gained later r all front);
}
