-- The open group is on each image as a whole, or not at all.
use Rattle.std.proofs.Common.{◌≡◌, ◌⊎◌, inl, inr, ⊎_elim, ℕ, zero, suc, ◌+◌, ◌≤◌, refl, sym, ap, subst, ◌∙◌, List, [], ◌∷◌, ◌++◌, length, take, drop, Bool, true, false, arith, append-nil, length-drop}
use Rattle.std.specs.Prelude.{if◌then◌else◌, nat_le, ◌&&◌}
use Rattle.std.proofs.lemmas.List.{take-append-drop}
use Rattle.lt_terms.specs.Bytes.{Image}
use Rattle.lt_terms.specs.Items.{Item, total_cost}
use Rattle.lt_device.specs.Moments.{Leaves}
use Rattle.lt_device.specs.State as told
use Rattle.lt_device.proofs.Runs.{begins, joins, weakens}
use Rattle.lt_format.specs.Log.{group_room}
use Rattle.lt_language.specs.Machine.{State}
use Rattle.lt_image.specs.Standing.{Stands, after_writes}
use Rattle.lt_image.proofs.KeptLaws.{no_writes}
use Rattle.lt_image.proofs.PrefixLaws.{prefix-none}
use Rattle.lt_store.specs.Committing.{StandsForEither, committed}
use Rattle.lt_store.specs.Flushing.{Stays}
use Rattle.lt_store.specs.Going.{Goes, Survives}
use Rattle.lt_store.specs.Open.{IsOpen, StoreView, state_of}
use Rattle.lt_store.specs.Taking.{readied}
use Rattle.lt_store.proofs.GroupLaws.{prefix-all}

-- no call was made
pub whole-none : (v : StoreView) (d : State) (s : told.State) → IsOpen v d s → Leaves (StandsForEither d (state_of v d)) s s
whole-none v d s o = begins s (λ left may. inl (o.rest.each left may))

-- a call that leaves the device as it is
pub whole-asked : (v : StoreView) (d : State) (s t : told.State) → t ≡ s → IsOpen v d s → Leaves (StandsForEither d (state_of v d)) s t
whole-asked v d s t kept o = subst (λ e. Leaves (StandsForEither d (state_of v d)) s e) (sym kept) (whole-none v d s o)

-- then each image has first writes of the pending ones
pub whole-survives : (v : StoreView) (d : State) (old new : told.State) → Leaves (StandsForEither d (state_of v d)) old new → Survives v [] d old new
whole-survives v d old new run = weakens run (λ left either. ⊎_elim (λ stands. prefix-none left d (v.log.pending ++ []) stands) (λ stands. prefix-all left d v.log.pending stands) either)

take-none : (n : ℕ) (xs : List Item) → n ≤ length xs → drop n xs ≡ xs → take n xs ≡ []
take-none zero xs within same = refl
take-none (suc n) [] within same = refl
take-none (suc n) (x ∷ xs) within same = let short = length-drop (suc n) (x ∷ xs) in let long : length (drop (suc n) (x ∷ xs)) ≡ length (x ∷ xs) = ap length same in absurd (omega (arith, short, long, within))

take-all : (n : ℕ) (xs : List Item) → drop n xs ≡ [] → take n xs ≡ xs
take-all n xs none = sym (append-nil (take n xs)) ∙ ap (λ ys. take n xs ++ ys) (sym none) ∙ take-append-drop n xs

-- a store that is readied has all of its open group pending, or nothing
pub readied-pending : (v : StoreView) (cost : ℕ) → ((readied v cost).log.pending ≡ v.log.pending) ⊎ ((readied v cost).log.pending ≡ [])
readied-pending v cost = by_room (nat_le (total_cost v.log.pending + cost) group_room && nat_le (total_cost v.memory) 200000)
  where
    by_room : (b : Bool) → ((if b then v else committed v).log.pending ≡ v.log.pending) ⊎ ((if b then v else committed v).log.pending ≡ [])
    by_room true = inl refl
    by_room false = inr refl

-- a call that keeps what is durable, behind one that readied the store: it committed the whole open group or nothing
pub whole-behind : (v w : StoreView) (cost : ℕ) (d : State) (old mid new : told.State) (g : Goes v [] w d old mid) → w ≡ readied v cost → Leaves (StandsForEither d (state_of v d)) old mid
    → Stays (after_writes d (take g.sure (v.log.pending ++ []))) mid new → Leaves (StandsForEither d (state_of v d)) old new
whole-behind v w cost d old mid new g ready first run = joins run first (λ left stands. ⊎_elim (λ same. inl (nothing left same stands)) (λ none. inr (everything left none stands)) (readied-pending v cost))
  where
    is : w.log.pending ≡ (readied v cost).log.pending
    is = ap (λ (z : StoreView). z.log.pending) ready

    nothing : (left : Image) → (readied v cost).log.pending ≡ v.log.pending → Stands left (after_writes d (take g.sure (v.log.pending ++ []))) → Stands left d
    nothing left same stands =
        let there : drop g.sure (v.log.pending ++ []) ≡ v.log.pending ++ [] = sym g.pending ∙ is ∙ same ∙ sym (append-nil v.log.pending) in
        subst (Stands left) (ap (after_writes d) (take-none g.sure (v.log.pending ++ []) g.within there) ∙ no_writes d) stands

    everything : (left : Image) → (readied v cost).log.pending ≡ [] → Stands left (after_writes d (take g.sure (v.log.pending ++ []))) → Stands left (state_of v d)
    everything left none stands = subst (λ xs. Stands left (after_writes d xs)) (take-all g.sure (v.log.pending ++ []) (sym g.pending ∙ is ∙ none) ∙ append-nil v.log.pending) stands
