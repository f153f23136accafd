use Rattle.std.proofs.Common.{rules, ◌≡◌, refl, ap, sym, subst, ◌∙◌, true, false, [], ◌∷◌, Ok, arith}
use Rattle.lt_item.specs.Views.{item_of}
use Rattle.lt_terms.specs.Items.{item_cost}
use Rattle.lt_store.specs.Going.{Goes, appended}
use Rattle.lt_store.specs.Flushing.{IsFlushed}
use Rattle.lt_store.specs.Open.{StoreView}
use Rattle.lt_image.specs.Pressure.{IsFullImage}
use Rattle.lt_store.specs.Taking.{is_due, readied}
use Rattle.lt_store.specs.View.{view_of}
use Rattle.lt_store.proofs.GoLaws.{goes-none, goes-stays, goes-append}
use Rattle.lt_store.proofs.TakeLaws.{full-alike, no-memory-up}
use Rattle.lt_store.proofs.WholeLaws.{whole-behind, whole-none}
use Rattle.std.proofs.lemmas.Bool.{true_from_ne_false}
use Rattle.lt_store.proofs.store.Store.write.Goals as goal

pub returns-then-self : goal.returns-then-self
returns-then-self g c =
    let v : StoreView = view_of c.args.self.now in
    record {
      taken = λ d o. goes-none v d (g.D.Device.state c.args.device.now) o;
      limit = search rules;
      full = search rules;
      whole = λ d o. whole-none v d (g.D.Device.state c.args.device.now) o;
      writes = search rules;
      in_place = record {
        flushed = search rules;
        full_same = search rules;
        full_quiet = search rules;
        count = refl;
        undamaged = search rules;
      };
      up = search rules;
      job = search rules;
    }

pub returns-in_err-commit_full : goal.returns-in_err-commit_full
returns-in_err-commit_full g c = record {
  taken = search rules;
  limit = search rules;
  full = search rules;
  whole = c.commit_full.ensures.commits.whole;
  writes = search rules;
  in_place = record {
    flushed = search rules;
    full_same = search rules;
    full_quiet = search rules;
    count = c.commit_full.ensures.commits.calls.count;
    undamaged = search rules;
  };
  up = search rules;
  job = search rules;
}

pub returns-in_err-flush_due : goal.returns-in_err-flush_due
returns-in_err-flush_due g c =
    let v : StoreView = view_of c.args.self.now in
    let s0 = g.D.Device.state c.args.device.now in
    let s1 = g.D.Device.state c.commit_full.new.device in
    let s2 = g.D.Device.state c.flush_due.new.device in
    let committed = c.in_ok-commit_full.ensures.commits in
    let lives = c.flush_due.ensures.lives in
    let ready : view_of c.commit_full.new.self ≡ readied v (item_cost (item_of c.args.item.now)) = c.in_ok-commit_full.ensures.ready ∙ ap (readied v) c.cost.ensures in
    let w : StoreView = view_of c.commit_full.new.self in
    let up = no-memory-up c.flush_due.new.self.is_up c.flush_due.result c.in_err-flush_due.field-0.0 c.in_err-flush_due.was lives.up in
    record {
      taken = search rules;
      limit = search rules;
      full = search rules;
      whole = λ d o.
          let went = committed.goes d o in
          whole-behind v w c.cost.result d s0 s1 s2 went c.in_ok-commit_full.ensures.ready (committed.whole d o) (lives.stays _ went.opened);
      writes = record {
        unchanged = search rules;
        not_due = search rules;
        memory = λ none. true_from_ne_false _ (λ due. absurd (let ok = (c.flush_due.ensures.not_due (subst (λ (z : StoreView). is_due z ≡ false) (sym ready) due)).0 in let err = c.in_err-flush_due.was in cc));
        at_once = search rules;
        number = search rules;
        same_number = search rules;
        regions = search rules;
        size = lives.calls.size ∙ committed.calls.size;
        later = omega (arith, lives.calls.later, committed.calls.later);
        cause = search rules;
        refused = λ none d o.
            let went = committed.goes d o in
            goes-stays v [] w (view_of c.flush_due.new.self) d s0 s1 s2 went (c.flush_due.ensures.pending (up (search rules))) (lives.opened (up (search rules)) _ went.opened) (lives.stays _ went.opened);
        full_images = search rules;
      };
      in_place = record {
        flushed = search rules;
        full_same = search rules;
        full_quiet = search rules;
        count = lives.calls.count ∙ committed.calls.count;
        undamaged = search rules;
      };
      up = search rules;
      job = search rules;
    }

pub returns-in-None : goal.returns-in-None
returns-in-None g c =
    let v : StoreView = view_of c.args.self.now in
    let s0 = g.D.Device.state c.args.device.now in
    let s1 = g.D.Device.state c.commit_full.new.device in
    let s2 = g.D.Device.state c.flush_due.new.device in
    let committed = c.in_ok-commit_full.ensures.commits in
    let lives = c.flush_due.ensures.lives in
    let ready : view_of c.commit_full.new.self ≡ readied v (item_cost (item_of c.args.item.now)) = c.in_ok-commit_full.ensures.ready ∙ ap (readied v) c.cost.ensures in
    let w : StoreView = view_of c.commit_full.new.self in
    let x : StoreView = view_of c.flush_due.new.self in
    record {
      taken = λ d o.
          let went = committed.goes d o in
          let goes = goes-stays v [] w x d s0 s1 s2 went (c.in_ok-flush_due.ensures.pending (search rules)) (c.in_ok-flush_due.ensures.lives.opened (search rules) _ went.opened) (lives.stays _ went.opened) in
          subst (λ (z : StoreView). Goes v (item_of c.args.item.now ∷ []) z d s0 s2) (sym c.append.ensures) (goes-append v x (item_of c.args.item.now) d s0 s2 goes);
      limit = search rules;
      full = search rules;
      whole = λ d o.
          let went = committed.goes d o in
          whole-behind v w c.cost.result d s0 s1 s2 went c.in_ok-commit_full.ensures.ready (committed.whole d o) (lives.stays _ went.opened);
      writes = record {
        unchanged = search rules;
        not_due = λ due is.
            let stays = c.flush_due.ensures.not_due (subst (λ (z : StoreView). is_due z ≡ false) (sym ready) due) in
            c.append.ensures ∙ ap (λ (z : StoreView). appended z (item_of c.args.item.now)) (stays.1 ∙ ready);
        memory = search rules;
        at_once = search rules;
        number = search rules;
        same_number = search rules;
        regions = search rules;
        size = lives.calls.size ∙ committed.calls.size;
        later = omega (arith, lives.calls.later, committed.calls.later);
        cause = search rules;
        refused = search rules;
        full_images = search rules;
      };
      in_place = record {
        flushed = λ due is d o.
            let went = committed.goes d o in
            let flushed = c.flush_due.ensures.flushed (subst (λ (z : StoreView). is_due z ≡ true) (sym ready) due) (search rules) _ went.opened in
            (x, subst (λ (z : StoreView). IsFlushed z x s2) ready flushed, c.append.ensures);
        full_same = search rules;
        full_quiet = search rules;
        count = lives.calls.count ∙ committed.calls.count;
        undamaged = search rules;
      };
      up = search rules;
      job = search rules;
    }

pub returns-in-Some : goal.returns-in-Some
returns-in-Some g c =
    let v : StoreView = view_of c.args.self.now in
    let s0 = g.D.Device.state c.args.device.now in
    let s1 = g.D.Device.state c.commit_full.new.device in
    let s2 = g.D.Device.state c.flush_due.new.device in
    let committed = c.in_ok-commit_full.ensures.commits in
    let lives = c.flush_due.ensures.lives in
    let ready : view_of c.commit_full.new.self ≡ readied v (item_cost (item_of c.args.item.now)) = c.in_ok-commit_full.ensures.ready ∙ ap (readied v) c.cost.ensures in
    let w : StoreView = view_of c.commit_full.new.self in
    let x : StoreView = view_of c.flush_due.new.self in
    record {
      taken = λ d o.
          let went = committed.goes d o in
          goes-stays v [] w x d s0 s1 s2 went (c.in_ok-flush_due.ensures.pending (search rules)) (c.in_ok-flush_due.ensures.lives.opened (search rules) _ went.opened) (lives.stays _ went.opened);
      limit = search rules;
      full = search rules;
      whole = λ d o.
          let went = committed.goes d o in
          whole-behind v w c.cost.result d s0 s1 s2 went c.in_ok-commit_full.ensures.ready (committed.whole d o) (lives.stays _ went.opened);
      writes = record {
        unchanged = search rules;
        not_due = search rules;
        memory = search rules;
        at_once = search rules;
        number = search rules;
        same_number = search rules;
        regions = search rules;
        size = lives.calls.size ∙ committed.calls.size;
        later = omega (arith, lives.calls.later, committed.calls.later);
        cause = search rules;
        refused = search rules;
        full_images = λ needed free same still d o.
            let went = committed.goes d o in
            let rest : w ≡ record v { log = w.log } = c.in_ok-commit_full.ensures.rest in
            let extents : w.named.manifest.header.extents ≡ v.named.manifest.header.extents = ap (λ (z : StoreView). z.named.manifest.header.extents) rest in
            let writes : w.writes ≡ v.writes = ap (λ (z : StoreView). z.writes) rest in
            let (images, few) = c.in_ok-flush_due.ensures.full_images c.in-Some.field-0 (ap Ok c.in-Some.is) (ap (λ (z : StoreView). z.work.job) rest ∙ still) _ went.opened in
            ((λ left may. full-alike (IsFullImage left) c.in-Some.field-0.needed c.in-Some.field-0.free needed free same (images left may)), omega (arith, few, extents, writes));
      };
      in_place = record {
        flushed = search rules;
        full_same = λ needed free is. (c.in_ok-flush_due.ensures.short c.in-Some.field-0 (ap Ok c.in-Some.is)).0 ∙ ready;
        full_quiet = λ needed free is idle. (c.in_ok-flush_due.ensures.short c.in-Some.field-0 (ap Ok c.in-Some.is)).1 ∙ c.commit_full.ensures.idle idle;
        count = lives.calls.count ∙ committed.calls.count;
        undamaged = search rules;
      };
      up = search rules;
      job = search rules;
    }
