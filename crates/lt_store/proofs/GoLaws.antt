-- How calls of an open store follow one another.
use Rattle.std.proofs.Common.{◌≡◌, ℕ, ◌+◌, ◌≤◌, sym, ap, subst, ◌∙◌, List, [], ◌∷◌, ◌++◌, length, take, drop, Some, arith, append-nil, append_assoc, length-append}
use Rattle.std.proofs.Math.Seq.{take-append-add, drop-append-add}
use Rattle.std.proofs.lemmas.List.{take-append-le, drop-append-le, take-append-drop}
use Rattle.std.specs.Prelude.{IsTrue}
use Rattle.lt_terms.specs.Bytes.{Image}
use Rattle.lt_terms.specs.Items.{Item}
use Rattle.lt_device.specs.Moments.{MayLeave, ShownNow, UnsyncedIn}
use Rattle.lt_device.specs.State as told
use Rattle.lt_device.proofs.Runs.{begins, joins, weakens}
use Rattle.lt_format.specs.declared.geometry.Geometry.{Geometry}
use Rattle.lt_format.specs.Snapshot.{Named}
use Rattle.lt_language.specs.Machine.{State, nothing_yet}
use Rattle.lt_format.specs.Snapshot.{Names}
use Rattle.lt_image.specs.Standing.{IsPrefix, Stands, after_writes, is_free_block}
use Rattle.lt_image.proofs.OpenLaws.{opens-is}
use Rattle.lt_image.proofs.KeptLaws.{writes-joined, no_writes}
use Rattle.lt_image.proofs.PrefixLaws.{prefix-fewer, prefix-later, prefix-longer, prefix-none}
use Rattle.lt_store.specs.Open.{IsOpen, StoreView, state_of}
use Rattle.lt_store.specs.Promise.{AtRest, IsFresh}
use Rattle.lt_store.specs.Going.{Survives, Goes, appended}
use Rattle.lt_store.specs.Flushing.{Stays}
use Rattle.lt_store.proofs.MomentLaws.{sure-agrees}
use Rattle.lt_store.proofs.SameLaws.{same-free, same-stands}

-- nothing happened
pub goes-none : (v : StoreView) (d : State) (s : told.State) → IsOpen v d s → Goes v [] v d s s
goes-none v d s o = record {
  sure = 0;
  within = omega arith;
  pending = sym (append-nil v.log.pending);
  opened = subst (λ e. IsOpen v e s) (sym (no_writes d)) o;
  survives = begins s (λ left may. prefix-none left d (v.log.pending ++ []) (o.rest.each left may));
}

-- a call that keeps what is durable, behind one that made some writes durable
pub goes-stays : (v : StoreView) (accepted : List Item) (w x : StoreView) (d : State) (old mid new : told.State) (g : Goes v accepted w d old mid) → x.log.pending ≡ w.log.pending
    → IsOpen x (after_writes d (take g.sure (v.log.pending ++ accepted))) new → Stays (after_writes d (take g.sure (v.log.pending ++ accepted))) mid new → Goes v accepted x d old new
goes-stays v accepted w x d old mid new g same opened run = record {
  sure = g.sure;
  within = g.within;
  pending = same ∙ g.pending;
  opened = opened;
  survives = joins run g.survives (λ left stands. record { count = g.sure; at_least = omega arith; at_most = g.within; stands = stands });
}

pub goes-append : (v : StoreView) (w : StoreView) (item : Item) (d : State) (old new : told.State) → Goes v [] w d old new → Goes v (item ∷ []) (appended w item) d old new
goes-append v w item d old new g =
    let p : List Item = v.log.pending in
    let none : p ++ [] ≡ p = append-nil p in
    let within : g.sure ≤ length p = let n : length (p ++ []) ≡ length p = ap length none in omega (arith, n, g.within) in
    let taken : take g.sure (p ++ item ∷ []) ≡ take g.sure (p ++ []) = take-append-le g.sure p (item ∷ []) within ∙ sym (take-append-le g.sure p [] within) in
    let o = g.opened in
    record {
      sure = g.sure;
      within = let n : length (p ++ item ∷ []) ≡ length p + 1 = length-append p (item ∷ []) in omega (arith, n, within);
      pending = ap (λ xs. xs ++ item ∷ []) (g.pending ∙ ap (drop g.sure) none) ∙ sym (drop-append-le g.sure p (item ∷ []) within);
      opened = subst (λ xs. IsOpen (appended w item) (after_writes d xs) new) (sym taken) (record {
        rest = o.rest;
        named = o.named;
        groups = o.groups;
        log = o.log;
        slots = o.slots;
        memory = ap (λ xs. xs ++ item ∷ []) o.memory ∙ append_assoc _ w.log.pending (item ∷ []);
        filters = o.filters;
        work = o.work;
      });
      survives = weakens g.survives (λ left p'. subst (λ xs. IsPrefix left d (xs ++ item ∷ []) 0) none (prefix-longer left d (p ++ []) (item ∷ []) 0 p'));
    }

-- ---- one call behind another

module _ (v w : StoreView) (a : List Item) (d : State) (old mid : told.State) (g : Goes v a w d old mid) where
  -- what the first call made durable
  sure : List Item
  sure = take g.sure (v.log.pending ++ a)

  -- the writes of both calls: what is durable between them, what is pending there, and what the second accepted
  joined : (b : List Item) → v.log.pending ++ (a ++ b) ≡ sure ++ (w.log.pending ++ b)
  unfolding sure
  joined b =
      let all : List Item = v.log.pending ++ a in
      sym (append_assoc v.log.pending a b)
      ∙ ap (λ xs. xs ++ b) (sym (take-append-drop g.sure all))
      ∙ append_assoc (take g.sure all) (drop g.sure all) b
      ∙ ap (λ xs. take g.sure all ++ (xs ++ b)) (sym g.pending)

  -- each image since the start of the first call
  both-survive : (b : List Item) (new : told.State) → Survives w b (after_writes d sure) mid new → Survives v (a ++ b) d old new
  unfolding sure
  both-survive b new run =
      joins run
      (weakens g.survives (λ left p. subst (λ xs. IsPrefix left d xs 0) (append_assoc v.log.pending a b) (prefix-longer left d (v.log.pending ++ a) b 0 p)))
      (λ left p. subst (λ xs. IsPrefix left d xs 0) (sym (joined b))
      (prefix-fewer left d (sure ++ (w.log.pending ++ b)) 0 (length sure + 0) (omega arith) (prefix-later left d sure (w.log.pending ++ b) 0 p)))

  -- a call that failed behind one that went on
  pub breaks-behind : (new : told.State) → Survives w [] (after_writes d (take g.sure (v.log.pending ++ a))) mid new → Survives v a d old new
  unfolding sure
  breaks-behind new run = subst (λ xs. Survives v xs d old new) (append-nil a) (both-survive [] new run)

  -- the state that the store answers for has the accepted writes more
  pub goes-state : state_of w (after_writes d (take g.sure (v.log.pending ++ a))) ≡ after_writes (state_of v d) a
  goes-state =
      let all : List Item = v.log.pending ++ a in
      ap (after_writes (after_writes d (take g.sure all))) g.pending
      ∙ writes-joined d (take g.sure all) (drop g.sure all)
      ∙ ap (after_writes d) (take-append-drop g.sure all)
      ∙ sym (writes-joined d v.log.pending a)

  -- a call that went on behind one that did
  pub goes-behind : (x : StoreView) (b : List Item) (new : told.State) → Goes w b x (after_writes d (take g.sure (v.log.pending ++ a))) mid new → Goes v (a ++ b) x d old new
  unfolding sure
  goes-behind x b new h =
      let rest : List Item = w.log.pending ++ b in
      let n : ℕ = length sure + h.sure in
      let whole : v.log.pending ++ (a ++ b) ≡ sure ++ rest = joined b in
      record {
        sure = n;
        within = let long : length (sure ++ rest) ≡ length sure + length rest = length-append sure rest in let same : length (v.log.pending ++ (a ++ b)) ≡ length (sure ++ rest) = ap length whole in omega (arith, long, same, h.within);
        pending = h.pending ∙ sym (drop-append-add sure rest h.sure) ∙ ap (drop n) (sym whole);
        opened = subst (λ xs. IsOpen x (after_writes d xs) new) (sym (ap (take n) whole ∙ take-append-add sure rest h.sure)) (subst (λ e. IsOpen x e new) (writes-joined d sure (take h.sure rest)) h.opened);
        survives = both-survive b new h.survives;
      }

-- ---- devices at rest

pub open-rests : (v : StoreView) (d : State) (s : told.State) → IsOpen v d s → AtRest d s
open-rests v d s o = o.rest

pub fresh-rests : (g : Geometry) (extents : ℕ) (s : told.State) → IsFresh g extents s → AtRest nothing_yet s
fresh-rests g extents s fresh = fresh.rest

-- a device that a crash left, with nothing unsynced, is at rest
pub crashed-rests : (d : State) (s : told.State) (image : Image) → s.shown ≡ Some image → MayLeave s image → UnsyncedIn (λ _. ⊥) s → Stands image d → AtRest d s
crashed-rests d s image shown tells sure stands =
    let now : ShownNow s = record { image = image; shown = shown; tells = tells } in
    let named : Named = stands.opened.named in
    let names : Names named image = record { read = (opens-is image stands.opened stands.opens).named } in
    let agree = sure-agrees (λ n. IsTrue (is_free_block named n)) s now sure in
    record {
      image = image;
      shown = shown;
      tells = tells;
      each = λ left may. same-stands named image left d (same-free named image left names (agree left may)) names stands;
      named = named;
      names = names;
      agree = agree;
    }
