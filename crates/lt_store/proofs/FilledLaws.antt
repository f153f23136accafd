-- A flush up to its commit: the other log area was cleared, and tables were built into free extents.
use Rattle.std.proofs.Common.{◌≡◌, ℕ, true, sym, subst, List, [], Option, Some}
use Rattle.std.specs.List.{AllZip}
use Rattle.lt_terms.specs.Bytes.{Image}
use Rattle.lt_terms.specs.Items.{Item}
use Rattle.lt_device.specs.Moments.{ConfinedTo, MayLeave, ShowsSameOutside, UnsyncedIn}
use Rattle.lt_device.specs.State as told
use Rattle.lt_format.specs.declared.geometry.Geometry.{Geometry}
use Rattle.lt_language.specs.Machine.{State}
use Rattle.lt_redo.specs.LogState.{LogState, other_area}
use Rattle.lt_redo.specs.Slots.{HasLog, InLogArea}
use Rattle.lt_tables.specs.Cut.{cut}
use Rattle.lt_tables.specs.Table.{newest}
use Rattle.lt_store.specs.Building.{HasTable, InExtents}
use Rattle.lt_store.specs.Flushing.{AreFree, IsPrepared, SomeKept, Stays}
use Rattle.lt_store.specs.Open.{IsOpen, StoreView}
use Rattle.lt_store.proofs.CommitLaws.{kept-fits}
use Rattle.lt_store.proofs.FlushLaws.{Fits, KeepsOthers, cleared-fits, clearing-stays, cleared-open, with_kept, building-stays, built-open}
use Rattle.lt_store.proofs.MomentLaws.{same-stays}
use Rattle.lt_store.proofs.PrepareLaws.{empty-there, prepared, stays-joins}

-- the store after both, and each image since
pub record IsFilled (v : StoreView) (d : State) (s0 s1 s2 : told.State) (log : LogState) (numbers : List ℕ) (g : Geometry) (filters : List (Option (List ℕ))) : Type 0 where
  pub stays : Stays d s0 s2
  pub opened : IsOpen (with_kept (record v { log = log }) filters) d s2
  -- what the commit of the manifest begins with
  pub ready : (parts : List (List Item)) → ((writes : ℕ) (left : Image) → MayLeave s1 left → HasLog v.log.geometry (other_area v.log.area) writes [] left)
      → ((before image : Image) → s1.shown ≡ Some before → s2.shown ≡ Some image → AllZip (HasTable g filters image) numbers parts) → parts ≡ cut (newest v.memory)
      → IsPrepared (with_kept (record v { log = log }) filters) numbers opened.rest.image

-- clearing alone
pub cleared-stays : (v : StoreView) (d : State) (s0 s1 : told.State) → SomeKept v → (o : IsOpen v d s0) → ConfinedTo (InLogArea v.log.geometry (other_area v.log.area)) s0 s1 → Stays d s0 s1
cleared-stays v d s0 s1 k o clearing = same-stays v d s0 s1 o (clearing-stays v d s0 s1 o (kept-fits v d s0 k.taken _ _ o k.kept) clearing)

pub filled : (v : StoreView) (d : State) (s0 s1 s2 : told.State) (log : LogState) (numbers : List ℕ) (g : Geometry) (filters : List (Option (List ℕ)))
    → SomeKept v → AreFree v.named v.work numbers → log ≡ record v.log { cleared = true } → ConfinedTo (InLogArea v.log.geometry (other_area v.log.area)) s0 s1 → ShowsSameOutside (InLogArea v.log.geometry (other_area v.log.area)) s0.shown s1.shown → UnsyncedIn (λ _. ⊥) s1
    → g ≡ v.named.geometry → ConfinedTo (InExtents g numbers) s1 s2 → ShowsSameOutside (InExtents g numbers) s1.shown s2.shown → KeepsOthers numbers v.kept filters → IsOpen v d s0 → IsFilled v d s0 s1 s2 log numbers g filters
filled v d s0 s1 s2 log numbers g filters k free log_is clearing clearing_shows sure g_is building building_shows others o =
    let fits : Fits v = kept-fits v d s0 k.taken _ _ o k.kept in
    let x : StoreView = record v { log = log } in
    let o1 : IsOpen x d s1 = subst (λ (l : LogState). IsOpen (record v { log = l }) d s1) (sym log_is) (cleared-open v d s0 s1 o fits clearing clearing_shows sure) in
    let fits1 : Fits x = subst (λ (l : LogState). Fits (record v { log = l })) (sym log_is) (cleared-fits v fits) in
    let inside : ConfinedTo (InExtents v.named.geometry numbers) s1 s2 = subst (λ h. ConfinedTo (InExtents h numbers) s1 s2) g_is building in
    let shows : ShowsSameOutside (InExtents v.named.geometry numbers) s1.shown s2.shown = subst (λ h. ShowsSameOutside (InExtents h numbers) s1.shown s2.shown) g_is building_shows in
    let same = building-stays x d numbers s1 s2 o1 fits1 free inside in
    let o2 : IsOpen (with_kept x filters) d s2 = built-open x d numbers filters s1 s2 o1 fits1 free others inside shows in
    record {
      stays = stays-joins d s0 s1 s2 (same-stays x d s1 s2 o1 same) (cleared-stays v d s0 s1 k o clearing);
      opened = o2;
      ready = λ parts empty tables are.
          prepared x d numbers parts filters s1 s2 o1 o2 fits.area_small inside (empty-there v s1 fits empty)
          (subst (λ h. (a b : Image) → s1.shown ≡ Some a → s2.shown ≡ Some b → AllZip (HasTable h filters b) numbers parts) g_is tables) are;
    }
