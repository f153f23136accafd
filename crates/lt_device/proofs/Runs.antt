-- How what is known of the images since a start goes on from call to call.
use Rattle.std.proofs.Common.{◌≡◌, ◌⊎◌, inl, inr, ⊎_elim, ℕ, List, Some, sym, ap, ◌∙◌, set, subst, arith}
use Rattle.std.specs.Option.{option_map}
use Rattle.lt_terms.specs.Bytes.{Image}
use Rattle.lt_device.specs.State.{SameOutside, Epoch, State, synced, Wrote, EndedSync, IsFit}
use Rattle.lt_device.specs.Moments.{MayLeave, ShownNow, clock, LeftSince, Leaves, IsNear, ConfinedTo}
use Rattle.lt_device.proofs.Images.{same_outside_refl, same_outside_joins, same_outside_widens}
use Rattle.lt_device.proofs.Steps.{write_near, write_any, sync_shown, write_clock, write_since, write_since_keeps, since_now, now_since, sync_was, sync_clock, sync_since, sync_since_keeps}
use Rattle.lt_device.proofs.Fits.{some_now}

-- ---- what is shown is still told

write_shows : (n b : ℕ) (old new : State) → Wrote n b old new → ShownNow old → ShownNow new
write_shows n b old new wrote now =
    record {
      image = set now.image b wrote.page;
      shown = ap (λ (s : State). s.shown) wrote.is ∙ ap (option_map (λ (image : Image). set image b wrote.page)) now.shown;
      tells = write_any n b old new wrote now.image wrote.page wrote.whole now.tells;
    }

sync_shows : (n : ℕ) (s : State) → IsFit n s → ShownNow s → ShownNow (synced s)
sync_shows n s fit now = record { image = now.image; shown = now.shown; tells = sync_shown n s fit now.image now.tells.unsynced now.shown now.tells.unsynced_is }

-- ---- each image since a start has P

-- before the first call
pub begins : {P : Image → Type 0} (s : State) → ((left : Image) → MayLeave s left → P left) → Leaves P s s
begins s has = record {
  later = omega arith;
  now = has;
  each = λ left since. has left (since_now s left since);
  before = λ t left le since. inl since;
  keeps = λ t left le since. since;
  shows = λ image shown may. record { image = image; shown = shown; tells = may };
}

-- one write more, of which each image has P
pub goes_on : {P : Image → Type 0} {old mid new : State} {n b : ℕ} → Wrote n b mid new → Leaves P old mid
    → ((image left : Image) → MayLeave mid image → SameOutside (λ k. k ≡ b) image left → P left) → Leaves P old new
goes_on {P} {old} {mid} {new} {n} {b} wrote so_far has = record {
  later = omega (arith, so_far.later, write_clock n b mid new wrote);
  now = now;
  each = λ left since. ⊎_elim (so_far.each left) (now left) (write_since n b mid new wrote (clock old) left since);
  before = λ t left le since. ⊎_elim (so_far.before t left le) (λ may. inr (now left may)) (write_since n b mid new wrote t left since);
  keeps = λ t left le since. write_since_keeps n b mid new wrote t left (so_far.keeps t left le since);
  shows = λ image shown may. write_shows n b mid new wrote (so_far.shows image shown may);
}
  where
    now : (left : Image) → MayLeave new left → P left
    now left may = let near = write_near n b mid new wrote left may in has near.image left near.was near.same

-- one write more, of a block that P does not depend on
pub writes : {P : Image → Type 0} {old mid new : State} {n b : ℕ} → Wrote n b mid new → Leaves P old mid
    → ((image left : Image) → SameOutside (λ k. k ≡ b) image left → P image → P left) → Leaves P old new
writes wrote so_far keeps = goes_on wrote so_far (λ image left may same. keeps image left same (so_far.now image may))

after_sync : {P : Image → Type 0} {old mid : State} (n : ℕ) → Leaves P old mid → IsFit n mid → Leaves P old (synced mid)
after_sync {P} {old} {mid} n so_far fit = record {
  later = omega (arith, so_far.later, sync_clock n mid fit);
  now = λ left may. so_far.now left (sync_was n mid fit left may);
  each = λ left since. so_far.each left (sync_since n mid fit (clock old) left so_far.later since);
  before = λ t left le since. so_far.before t left le (sync_since n mid fit t left (omega (arith, le, so_far.later)) since);
  keeps = λ t left le since. sync_since_keeps n mid fit t left (omega (arith, le, so_far.later)) (so_far.keeps t left le since);
  shows = λ image shown may. sync_shows n mid fit (so_far.shows image shown may);
}

-- one sync more, whatever it answered: it leaves nothing new
pub syncs : {P : Image → Type 0} {old mid new : State} {n : ℕ} → EndedSync n mid new → Leaves P old mid → Leaves P old new
syncs {P} {old} {mid} {new} {n} sync so_far = ⊎_elim
    (λ (same : new ≡ mid). subst (λ (s : State). Leaves P old s) (sym same) so_far)
    (λ (done : new ≡ synced mid). subst (λ (s : State). Leaves P old s) (sym done) (after_sync n so_far sync.fit))
    sync.either

-- two facts of each image are one
pub both : {P Q : Image → Type 0} {old new : State} → Leaves P old new → Leaves Q old new → Leaves (λ left. P left × Q left) old new
both p q = record {
  later = p.later;
  now = λ left may. (p.now left may, q.now left may);
  each = λ left since. (p.each left since, q.each left since);
  before = λ t left le since. ⊎_elim inl (λ has. ⊎_elim inl (λ more. inr (has, more)) (q.before t left le since)) (p.before t left le since);
  keeps = p.keeps;
  shows = p.shows;
}

-- a call that leaves what is told as it is
pub stays : {P : Image → Type 0} {old mid new : State} → new ≡ mid → Leaves P old mid → Leaves P old new
stays {P} {old} {mid} {new} same so_far = subst (λ (s : State). Leaves P old s) (sym same) so_far

-- a whole call more, whose images have P
pub joins : {P Q : Image → Type 0} {old mid new : State} → Leaves Q mid new → Leaves P old mid → ((left : Image) → Q left → P left) → Leaves P old new
joins {P} {Q} {old} {mid} {new} then first has = record {
  later = omega (arith, first.later, then.later);
  now = λ left may. has left (then.now left may);
  each = λ left since. ⊎_elim (first.each left) (has left) (then.before (clock old) left first.later since);
  before = λ t left le since. ⊎_elim (first.before t left le) (λ q. inr (has left q)) (then.before t left (omega (arith, le, first.later)) since);
  keeps = λ t left le since. then.keeps t left (omega (arith, le, first.later)) (first.keeps t left le since);
  shows = λ image shown may. let mid = first.shows image shown may in then.shows mid.image mid.shown mid.tells;
}

pub weakens : {P Q : Image → Type 0} {old new : State} → Leaves P old new → ((left : Image) → P left → Q left) → Leaves Q old new
weakens run has = record {
  later = run.later;
  now = λ left may. has left (run.now left may);
  each = λ left since. has left (run.each left since);
  before = λ t left le since. ⊎_elim (λ was. inl was) (λ p. inr (has left p)) (run.before t left le since);
  keeps = run.keeps;
  shows = run.shows;
}

-- where all images are told and each of now has Q, one of those since a time has it
pub some_since : {Q : Image → Type 0} {s : State} {n : ℕ} (t : ℕ) (epochs : List Epoch) → IsFit n s → s.past ≡ Some epochs → ((left : Image) → MayLeave s left → Q left) → (left : Image) × LeftSince s t left × Q left
some_since {Q} {s} {n} t epochs fit told has =
    let flags = fit.past epochs told in
    let one = some_now n s flags.0 fit flags.1 in
    (one.0, now_since s t one.0 epochs told one.1, has one.0 one.1)

-- ---- confined to some blocks

pub confined_begins : {S : ℕ → Type 0} (s : State) → ConfinedTo S s s
confined_begins {S} s = begins s (λ left may. record { image = left; was = may; same = same_outside_refl S left })

near_on : {S T : ℕ → Type 0} {old : State} {left : Image} (near : IsNear S old left) (more : Image) → SameOutside T left more → IsNear (λ k. S k ⊎ T k) old more
near_on {S} {T} near more same = record { image = near.image; was = near.was; same = same_outside_joins S T _ _ _ near.same same }

near_widens : {S T : ℕ → Type 0} {old : State} {left : Image} → ((k : ℕ) → S k → T k) → IsNear S old left → IsNear T old left
near_widens {S} {T} more near = record { image = near.image; was = near.was; same = same_outside_widens S T _ _ more near.same }

pub confined_widens : {S T : ℕ → Type 0} {old new : State} → ConfinedTo S old new → ((k : ℕ) → S k → T k) → ConfinedTo T old new
confined_widens {S} {T} run more = weakens run (λ left near. near_widens more near)

-- one write more, of one of these blocks
pub confined_writes : {S : ℕ → Type 0} {old mid new : State} {n b : ℕ} → Wrote n b mid new → ConfinedTo S old mid → S b → ConfinedTo S old new
confined_writes {S} {old} {mid} {new} {n} {b} wrote so_far inside = writes wrote so_far (λ image left same near.
    near_widens (λ k either. ⊎_elim (λ s. s) (λ (at : k ≡ b). subst S (sym at) inside) either) (near_on near left same))

-- a confined call more
pub confined_joins : {S T : ℕ → Type 0} {old mid new : State} → ConfinedTo T mid new → ConfinedTo S old mid → ConfinedTo (λ k. S k ⊎ T k) old new
confined_joins {S} {T} {old} {mid} {new} then first = joins then (confined_widens first (λ k s. inl s)) (λ left near. near_on (first.now near.image near.was) left near.same)

-- one that is confined to some of the same blocks
pub confined_within : {S T : ℕ → Type 0} {old mid new : State} → ConfinedTo T mid new → ConfinedTo S old mid → ((k : ℕ) → T k → S k) → ConfinedTo S old new
confined_within then first within = confined_widens (confined_joins then first) (λ k either. ⊎_elim (λ s. s) (within k) either)

-- what does not depend on these blocks is kept by a call that is confined to them
pub confined_keeps : {P : Image → Type 0} {S : ℕ → Type 0} {old mid new : State} → ConfinedTo S mid new → Leaves P old mid
    → ((image left : Image) → SameOutside S image left → P image → P left) → Leaves P old new
confined_keeps run so_far keeps = joins run so_far (λ left near. keeps near.image left near.same (so_far.now near.image near.was))

-- for `search`: a function's device calls, one after another, each of a block that lies inside
pub ruleset confining = (confined_begins, confined_writes, syncs)
