-- An open store from call to call of its device.
use Rattle.std.proofs.Common.{◌≡◌, ℕ, refl, sym, subst, ◌∙◌, Bool, List, ◌++◌, length, Ok, Option, Some}
use Rattle.std.specs.Prelude.{IsTrue}
use Rattle.std.specs.List.{AllByRecursion}
use Rattle.lt_terms.specs.Bytes.{Image}
use Rattle.lt_terms.specs.Items.{Item}
use Rattle.lt_device.specs.State.{SameOutside}
use Rattle.lt_device.specs.State as told
use Rattle.lt_device.specs.Moments.{MayLeave, Leaves, ShownNow, ConfinedTo, UnsyncedIn}
use Rattle.lt_device.proofs.Images.{same_outside_widens}
use Rattle.lt_device.proofs.Runs.{begins, weakens, confined_keeps}
use Rattle.lt_device.proofs.Rest.{unsynced_near}
use Rattle.lt_language.specs.Machine.{State}
use Rattle.lt_format.specs.Log.{items_in}
use Rattle.lt_format.specs.Snapshot.{Names}
use Rattle.lt_redo.specs.Slots.{HasLog}
use Rattle.lt_image.specs.Standing.{Stands, is_free_block}
use Rattle.lt_search.specs.Kept.{KeepsFilter}
use Rattle.lt_work.specs.Work.{IsTrueOn, SuitsTrie, reserved_by}
use Rattle.lt_work.proofs.OutlastLaws.{same-true}
use Rattle.lt_image.specs.After.{SameExtents}
use Rattle.lt_device.specs.Moments.{ShowsSameOutside}
use Rattle.lt_store.specs.Flushing.{Stays}
use Rattle.lt_store.specs.Open.{IsOpen, StoreView, inner_of}
use Rattle.lt_store.proofs.SameLaws.{Same, same-trans, same-names, same-stands, same-log, same-filters, same-free}
use Rattle.lt_image.proofs.OpenLaws.{is-opens}
use Rattle.lt_image.specs.Versions.{open_image}

-- what an open store has of one image
pub record IsReady (v : StoreView) (d : State) (groups : List (List Item)) (image : Image) : Type 0 where
  pub names : Names v.named image
  pub stands : Stands image d
  pub log : HasLog v.named.geometry v.log.area v.log.writes groups image
  pub filters : AllByRecursion (KeepsFilter v.named.geometry v.kept image) (inner_of v.named)
  pub work : IsTrueOn v.named image v.work

-- what it has whatever the device holds
pub record IsSteady (v : StoreView) (groups : List (List Item)) : Type 0 where
  pub slots : v.log.slots ≡ length groups
  pub memory : v.memory ≡ items_in groups ++ v.log.pending

pub open-steady : (v : StoreView) (d : State) (s : told.State) (o : IsOpen v d s) → IsSteady v o.groups
open-steady v d s o = record { slots = o.slots; memory = o.memory }

pub open-names : (v : StoreView) (d : State) (s : told.State) (o : IsOpen v d s) → Names v.named o.rest.image
open-names v d s o = subst (λ n. Names n o.rest.image) o.named o.rest.names

pub open-ready : (v : StoreView) (d : State) (s : told.State) (o : IsOpen v d s) → IsReady v d o.groups o.rest.image
open-ready v d s o = record { names = open-names v d s o; stands = o.rest.each o.rest.image o.rest.tells; log = o.log; filters = o.filters; work = o.work }

-- each image that a crash may leave is the same but for free blocks
pub open-agrees : (v : StoreView) (d : State) (s : told.State) (o : IsOpen v d s) → (left : Image) → MayLeave s left → SameOutside (λ n. IsTrue (is_free_block v.named n)) o.rest.image left
open-agrees v d s o left may = subst (λ n. SameOutside (λ k. IsTrue (is_free_block n k)) o.rest.image left) o.named (o.rest.agree left may)

pub open-same : (v : StoreView) (d : State) (s : told.State) (o : IsOpen v d s) → (left : Image) → MayLeave s left → Same v.named o.rest.image left
open-same v d s o left may = same-free v.named o.rest.image left (open-names v d s o) (open-agrees v d s o left may)

-- a store that is ready on the image that is shown, where all others agree with it
pub open-from : (v : StoreView) (d : State) (s : told.State) (groups : List (List Item)) (now : ShownNow s) → IsSteady v groups → IsReady v d groups now.image
    → ((left : Image) → MayLeave s left → SameOutside (λ n. IsTrue (is_free_block v.named n)) now.image left) → IsOpen v d s
open-from v d s groups now steady ready agree = record {
  rest = record {
    image = now.image;
    shown = now.shown;
    tells = now.tells;
    each = λ left may. same-stands v.named now.image left d (same-free v.named now.image left ready.names (agree left may)) ready.names ready.stands;
    named = v.named;
    names = ready.names;
    agree = agree;
  };
  named = refl;
  groups = groups;
  log = ready.log;
  slots = steady.slots;
  memory = steady.memory;
  filters = ready.filters;
  work = ready.work;
}

-- ---- calls that change nothing that the manifest names

-- each image since agrees with the one that was shown, in all that the manifest names
pub keeps-same : (v : StoreView) (d : State) (inside : ℕ → Type 0) (old new : told.State) (o : IsOpen v d old) → ConfinedTo inside old new
    → ((a b : Image) → Names v.named a → SameOutside inside a b → Same v.named a b) → Leaves (λ left. Same v.named o.rest.image left) old new
keeps-same v d inside old new o run apart =
    let base : Image = o.rest.image in
    let names = open-names v d old o in
    confined_keeps run (begins old (open-same v d old o))
    (λ image left same so_far. same-trans v.named base image left so_far (apart image left (same-names v.named base image so_far names) same))

pub same-stays : (v : StoreView) (d : State) (old new : told.State) (o : IsOpen v d old) → Leaves (λ left. Same v.named o.rest.image left) old new → Stays d old new
same-stays v d old new o run =
    let base : Image = o.rest.image in
    weakens run (λ left same. same-stands v.named base left d same (open-names v d old o) (o.rest.each base o.rest.tells))

-- what a device shows now agrees with what it showed before
pub shown-same : (inside : ℕ → Type 0) (old new : told.State) (image : Image) → ShowsSameOutside inside old.shown new.shown → old.shown ≡ Some image → (now : ShownNow new) → SameOutside inside image now.image
shown-same inside old new image shows was now =
    let there = shows.each image was in
    let both : ◌≡◌ {A = Option Image} (Some there.0) (Some now.image) = sym there.1 ∙ now.shown in
    let is : there.0 ≡ now.image = cc in
    subst (SameOutside inside image) is there.2

-- what is ready on an image is ready on one that is the same in all that the manifest names and the job reserved
pub same-ready : (v : StoreView) (d : State) (groups : List (List Item)) (flags : List Bool) (a b : Image) → v.log.area ≡ v.named.manifest.header.log_area → SuitsTrie v.named.geometry.levels v.named.manifest.trie flags v.work → Same v.named a b → SameExtents v.named.geometry a b (reserved_by v.work)
    → IsReady v d groups a → IsReady v d groups b
same-ready v d groups flags a b area suits same fresh ready = record {
  names = same-names v.named a b same ready.names;
  stands = same-stands v.named a b d same ready.names ready.stands;
  log = subst (λ k. HasLog v.named.geometry k v.log.writes groups b) (sym area) (same-log v.named a b v.log.writes groups same (subst (λ k. HasLog v.named.geometry k v.log.writes groups a) area ready.log));
  filters = same-filters v.named v.kept a b same ready.filters;
  work = same-true v.named a b flags v.work suits same.named.kept fresh ready.work;
}

-- once all is sure there is one image alone
pub sure-agrees : (inside : ℕ → Type 0) (s : told.State) (now : ShownNow s) → UnsyncedIn (λ _. ⊥) s → (left : Image) → MayLeave s left → SameOutside inside now.image left
sure-agrees inside s now sure left may = same_outside_widens (λ _. ⊥) inside now.image left (λ k none. absurd none) (unsynced_near sure now.image left now.shown may)

-- an open store does not rest on the flags of its extents, nor on whether it is up
pub open-alike : (v : StoreView) (d : State) (s : told.State) (up : Bool) (taken : List Bool) → IsOpen v d s → IsOpen (record v { is_up = up; taken = taken }) d s
open-alike v d s up taken o = record {
  rest = o.rest;
  named = o.named;
  groups = o.groups;
  log = o.log;
  slots = o.slots;
  memory = o.memory;
  filters = o.filters;
  work = o.work;
}

-- what the image of an open store opens as
pub open-image : (v : StoreView) (d : State) (s : told.State) (o : IsOpen v d s) → v.log.area ≡ v.named.manifest.header.log_area → v.log.writes ≡ v.named.manifest.header.writes → open_image o.rest.image ≡ Ok (record { named = v.named; groups = o.groups })
open-image v d s o area start =
    let log = subst (λ k. HasLog v.named.geometry k v.log.writes o.groups o.rest.image) area o.log in
    let from_start = subst (λ w. HasLog v.named.geometry v.named.manifest.header.log_area w o.groups o.rest.image) start log in
    is-opens o.rest.image (record { named = v.named; groups = o.groups }) (open-names v d s o).read from_start.read
