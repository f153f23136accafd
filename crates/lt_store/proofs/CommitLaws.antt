-- What the commit of the open group says of the store.
use Rattle.std.proofs.Common.{◌≡◌, inl, ℕ, ◌<◌, refl, sym, ap, subst, ◌∙◌, List, [], ◌∷◌, ◌++◌, length, drop, arith, append-nil}
use Rattle.std.specs.Prelude.{IsTrue, Bool}
use Rattle.lt_terms.specs.Items.{Item}
use Rattle.lt_device.specs.State as told
use Rattle.lt_device.proofs.Runs.{begins}
use Rattle.lt_device.specs.Moments.{MayLeave, Leaves, ConfinedTo, ShowsSameOutside, UnsyncedIn}
use Rattle.lt_language.specs.Machine.{State}
use Rattle.lt_format.specs.Log.{items_in, log_fits}
use Rattle.lt_format.proofs.RegionLaws.{geometry-deep}
use Rattle.lt_redo.specs.Slots.{HasLog, InSlot}
use Rattle.lt_redo.specs.LogState.{AnyMoment, Committed}
use Rattle.lt_image.specs.Standing.{after_writes}
use Rattle.lt_store.specs.Committing.{StandsForEither, committed}
use Rattle.lt_store.specs.Going.{Goes, Survives}
use Rattle.lt_store.specs.Kept.{IsKept}
use Rattle.lt_store.specs.Open.{IsOpen, StoreView}
use Rattle.lt_store.proofs.FlushLaws.{Fits}
use Rattle.lt_store.proofs.GoLaws.{goes-none}
use Rattle.lt_store.proofs.GroupLaws.{group-open, group-survives, group-whole, idle-open, take-whole}
use Rattle.lt_store.proofs.MomentLaws.{open-same}
use Rattle.lt_store.proofs.SameLaws.{same-log}
use Rattle.lt_redo.proofs.OpeningLaws.{items_in-push}

-- what a kept store says of its view
pub kept-fits : (v : StoreView) (d : State) (s : told.State) (taken : List Bool) (filters writes : ℕ) → IsOpen v d s → IsKept v.named v.log v.memory taken filters writes v.work → Fits v
kept-fits v d s taken filters writes o k = record {
  geometry = k.geometry;
  area = k.area;
  start = k.start;
  area_small = k.manifest.log_area;
  deep = geometry-deep v.named.geometry k.manifest.geometry;
  flags = taken;
  suits = k.suits;
}

-- each image has the groups
pub open-logs : (v : StoreView) (d : State) (s : told.State) (o : IsOpen v d s) → Fits v → (left : _) → MayLeave s left → HasLog v.log.geometry v.log.area v.log.writes o.groups left
open-logs v d s o f left may =
    let at = subst (λ k. HasLog v.named.geometry k v.log.writes o.groups o.rest.image) f.area o.log in
    let there = same-log v.named o.rest.image left v.log.writes o.groups (open-same v d s o left may) at in
    subst (λ g. HasLog g v.log.area v.log.writes o.groups left) (sym f.geometry) (subst (λ k. HasLog v.named.geometry k v.log.writes o.groups left) (sym f.area) there)

-- the log with the open group fits
pub group-fits : (v : StoreView) (d : State) (s : told.State) (filters : ℕ) (o : IsOpen v d s) → IsKept v.named v.log v.memory v.taken filters v.writes v.work → IsTrue (log_fits v.log.writes (items_in (o.groups ++ v.log.pending ∷ [])))
group-fits v d s filters o k =
    subst (λ xs. IsTrue (log_fits v.log.writes xs)) (o.memory ∙ sym (items_in-push o.groups v.log.pending)) (subst (λ w. IsTrue (log_fits w v.memory)) (sym k.start) k.fits)

module _ (v : StoreView) (d : State) (filters : ℕ) (old new : told.State) (k : IsKept v.named v.log v.memory v.taken filters v.writes v.work) (o : IsOpen v d old) (any : AnyMoment v.log old new) (inside : ConfinedTo (InSlot v.log.geometry v.log.area v.log.slots) old new) where
  -- nothing is lost at any moment
  pub commit-survives : 0 < length v.log.pending → Survives v [] d old new
  commit-survives some =
      let f = kept-fits v d old v.taken filters v.writes o k in
      group-survives v d old new o f (k.slot some) (any o.groups (sym o.slots) (group-fits v d old filters o k) (open-logs v d old o f)) inside

  -- the open group is there as a whole, or not at all
  pub commit-all : 0 < length v.log.pending → Leaves (StandsForEither d (after_writes d v.log.pending)) old new
  commit-all some =
      let f = kept-fits v d old v.taken filters v.writes o k in
      group-whole v d old new o f (k.slot some) (any o.groups (sym o.slots) (group-fits v d old filters o k) (open-logs v d old o f)) inside

  pub commit-goes : Committed v.log old new → ShowsSameOutside (InSlot v.log.geometry v.log.area v.log.slots) old.shown new.shown → 0 < length v.log.pending → UnsyncedIn (λ _. ⊥) new → Goes v [] (committed v) d old new
  commit-goes done shows some sure =
      let f = kept-fits v d old v.taken filters v.writes o k in
      let p : List Item = v.log.pending in
      let run = any o.groups (sym o.slots) (group-fits v d old filters o k) (open-logs v d old o f) in
      record {
        sure = length p;
        within = let n : length (p ++ []) ≡ length p = ap length (append-nil p) in omega arith;
        pending = sym (dropped p);
        opened = subst (λ xs. IsOpen (committed v) (after_writes d xs) new) (sym (take-whole p))
            (group-open v d old new o f (k.slot some) run inside shows (done o.groups (sym o.slots) (group-fits v d old filters o k) (open-logs v d old o f)) sure);
        survives = group-survives v d old new o f (k.slot some) run inside;
      }
    where
      dropped : (xs : List Item) → drop (length xs) (xs ++ []) ≡ []
      dropped [] = refl
      dropped (x ∷ xs) = dropped xs

-- with nothing pending the store stays as it is
pub idle-goes : (v : StoreView) (d : State) (s : told.State) → v.log.pending ≡ [] → IsOpen v d s → Goes v [] (committed v) d s s
idle-goes v d s idle o =
    let g = goes-none v d s o in
    record {
      sure = 0;
      within = omega arith;
      pending = sym idle ∙ sym (append-nil v.log.pending);
      opened = subst (λ e. IsOpen (committed v) e s) (ap (after_writes d) idle) (idle-open v d s idle o);
      survives = g.survives;
    }

-- either of both
pub commit-any : (v : StoreView) (d : State) (filters : ℕ) (old new : told.State) → IsKept v.named v.log v.memory v.taken filters v.writes v.work → IsOpen v d old → AnyMoment v.log old new → ConfinedTo (InSlot v.log.geometry v.log.area v.log.slots) old new
    → ShowsSameOutside (InSlot v.log.geometry v.log.area v.log.slots) old.shown new.shown → Committed v.log old new → (0 < length v.log.pending → UnsyncedIn (λ _. ⊥) new) → (v.log.pending ≡ [] → new ≡ old) → Goes v [] (committed v) d old new
commit-any v d filters old new k o any inside shows done sure idle = decide v.log.pending refl
  where
    decide : (p : List Item) → v.log.pending ≡ p → Goes v [] (committed v) d old new
    decide [] is = subst (λ s. Goes v [] (committed v) d old s) (sym (idle is)) (idle-goes v d old is o)
    decide (x ∷ xs) is = let some : 0 < length v.log.pending = omega (arith, ap length is) in commit-goes v d filters old new k o any inside done shows some (sure some)

pub commit-breaks : (v : StoreView) (d : State) (filters : ℕ) (old new : told.State) → IsKept v.named v.log v.memory v.taken filters v.writes v.work → IsOpen v d old → AnyMoment v.log old new → ConfinedTo (InSlot v.log.geometry v.log.area v.log.slots) old new
    → (v.log.pending ≡ [] → new ≡ old) → Survives v [] d old new
commit-breaks v d filters old new k o any inside idle = decide v.log.pending refl
  where
    decide : (p : List Item) → v.log.pending ≡ p → Survives v [] d old new
    decide [] is = subst (λ s. Survives v [] d old s) (sym (idle is)) (goes-none v d old o).survives
    decide (x ∷ xs) is = let some : 0 < length v.log.pending = omega (arith, ap length is) in commit-survives v d filters old new k o any inside some

pub commit-whole : (v : StoreView) (d : State) (filters : ℕ) (old new : told.State) → IsKept v.named v.log v.memory v.taken filters v.writes v.work → IsOpen v d old → AnyMoment v.log old new → ConfinedTo (InSlot v.log.geometry v.log.area v.log.slots) old new
    → (v.log.pending ≡ [] → new ≡ old) → Leaves (StandsForEither d (after_writes d v.log.pending)) old new
commit-whole v d filters old new k o any inside idle = decide v.log.pending refl
  where
    decide : (p : List Item) → v.log.pending ≡ p → Leaves (StandsForEither d (after_writes d v.log.pending)) old new
    decide [] is = subst (λ s. Leaves (StandsForEither d (after_writes d v.log.pending)) old s) (sym (idle is)) (begins old (λ left may. inl (o.rest.each left may)))
    decide (x ∷ xs) is = let some : 0 < length v.log.pending = omega (arith, ap length is) in commit-all v d filters old new k o any inside some
