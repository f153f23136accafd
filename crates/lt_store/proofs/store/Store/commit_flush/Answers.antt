use Rattle.std.proofs.Common.{rules, ◌≡◌, ℕ, ◌-◌, ◌<◌, ◌≤◌, ap, sym, subst, ◌∙◌, length, true, false, arith}
use Rattle.std.proofs.lemmas.Grind.{common_steps}
use Rattle.lt_terms.specs.Bytes.{Image}
use Rattle.lt_device.specs.Moments.{MayLeave}
use Rattle.lt_format.specs.declared.header.Header.{Header}
use Rattle.lt_format.specs.Snapshot.{Manifest}
use Rattle.lt_format.specs.Trie.{all_distinct}
use Rattle.lt_language.specs.Machine.{State}
use Rattle.lt_format.specs.Snapshot.{Names}
use Rattle.lt_redo.specs.LogState.{other_area}
use Rattle.lt_tables.specs.Cut.{cut}
use Rattle.lt_tables.specs.Table.{newest}
use Rattle.lt_store.specs.Flushing.{AreFree, IsPrepared}
use Rattle.lt_store.specs.Open.{IsOpen, StoreView}
use Rattle.lt_store.specs.View.{view_of}
use Rattle.lt_store.proofs.CommitLaws.{kept-fits}
use Rattle.lt_store.proofs.FlushLaws.{Fits, commit-stays, flushed-open, flushed-view, placed-behind}
use Rattle.lt_store.proofs.MomentLaws.{open-names, open-same}
use Rattle.lt_store.proofs.PrepareLaws.{may-flush}
use Rattle.lt_store.proofs.SameLaws.{same-names}
use Rattle.lt_store.proofs.store.Store.commit_flush.Goals as goal

-- each image that a crash may leave names the manifest
each_names : (v : StoreView) (d : State) (s : _) (o : IsOpen v d s) → (left : Image) → MayLeave s left → Names v.named left
each_names v d s o left may = same-names v.named o.rest.image left (open-same v d s o left may) (open-names v d s o)

pub commit-requires-clause-may : goal.commit-requires-clause-may
commit-requires-clause-may g c =
    let v : StoreView = view_of c.args.self.now in
    let kept = c.requires.reserved.kept.kept in
    let numbers : c.of.result ≡ c.args.numbers.now = c.of.ensures ∙ c.in_ok-from_slice.ensures.items in
    let header : c.header-header.result ≡ v.named.manifest.header = c.header-header.ensures.header in
    let area : c.header-header.result.log_area ≡ v.named.manifest.header.log_area = ap (λ (h : Header). h.log_area) header in
    let small : v.named.manifest.header.log_area < 2 = kept.manifest.log_area in
    let number = kept.number in
    may-flush v.named v.work c.of.result (record { log_area = 1 - c.header-header.result.log_area; extents = c.header-header.result.extents; writes = c.args.self.now.writes })
    (subst (AreFree v.named v.work) (sym numbers) c.requires.reserved.free) (subst (λ xs. all_distinct xs ≡ true) (sym numbers) c.requires.reserved.distinct) (subst (λ xs. 1 ≤ length xs) (sym numbers) c.requires.reserved.some) kept.manifest.most (ap (λ (h : Header). h.extents) header)
    (omega (arith, area, small)) (omega (arith, number))

pub returns-in_err-commit-clause-stays : goal.returns-in_err-commit-clause-stays
returns-in_err-commit-clause-stays g c = λ d o p.
    let v : StoreView = view_of c.args.self.now in
    let kept = c.requires.reserved.kept.kept in
    let fits : Fits v = kept-fits v d (g.D.Device.state c.args.device.now) c.requires.reserved.kept.taken _ _ o kept in
    let numbers : c.of.result ≡ c.args.numbers.now = c.of.ensures ∙ c.in_ok-from_slice.ensures.items in
    let is : c.header-header.result ≡ v.named.manifest.header = c.header-header.ensures.header in
    let header : Header = record { log_area = 1 - c.header-header.result.log_area; extents = c.header-header.result.extents; writes = c.args.self.now.writes } in
    let other : header.log_area ≡ other_area v.named.manifest.header.log_area = ap (λ (h : Header). 1 - h.log_area) is in
    let ready : IsPrepared v c.of.result o.rest.image = subst (λ xs. IsPrepared v xs o.rest.image) (sym numbers) p in
    let run = c.commit.ensures.any_moment o.rest.image o.rest.shown (each_names v d (g.D.Device.state c.args.device.now) o) in
    commit-stays v d (g.D.Device.state c.args.device.now) (g.D.Device.state c.commit.new.device) o fits c.of.result header c.requires.reserved.idle other kept.number ready.clear ready.placed run c.commit.ensures.confined

pub returns-clause-stays : goal.returns-clause-stays
returns-clause-stays g c = λ d o p.
    let v : StoreView = view_of c.args.self.now in
    let kept = c.requires.reserved.kept.kept in
    let fits : Fits v = kept-fits v d (g.D.Device.state c.args.device.now) c.requires.reserved.kept.taken _ _ o kept in
    let numbers : c.of.result ≡ c.args.numbers.now = c.of.ensures ∙ c.in_ok-from_slice.ensures.items in
    let is : c.header-header.result ≡ v.named.manifest.header = c.header-header.ensures.header in
    let header : Header = record { log_area = 1 - c.header-header.result.log_area; extents = c.header-header.result.extents; writes = c.args.self.now.writes } in
    let other : header.log_area ≡ other_area v.named.manifest.header.log_area = ap (λ (h : Header). 1 - h.log_area) is in
    let ready : IsPrepared v c.of.result o.rest.image = subst (λ xs. IsPrepared v xs o.rest.image) (sym numbers) p in
    let run = c.commit.ensures.any_moment o.rest.image o.rest.shown (each_names v d (g.D.Device.state c.args.device.now) o) in
    commit-stays v d (g.D.Device.state c.args.device.now) (g.D.Device.state c.commit.new.device) o fits c.of.result header c.requires.reserved.idle other kept.number ready.clear ready.placed run c.commit.ensures.confined

pub returns-clause-opened : goal.returns-clause-opened
returns-clause-opened g c = λ d o p.
    let v : StoreView = view_of c.args.self.now in
    let kept = c.requires.reserved.kept.kept in
    let fits : Fits v = kept-fits v d (g.D.Device.state c.args.device.now) c.requires.reserved.kept.taken _ _ o kept in
    let numbers : c.of.result ≡ c.args.numbers.now = c.of.ensures ∙ c.in_ok-from_slice.ensures.items in
    let is : c.header-header.result ≡ v.named.manifest.header = c.header-header.ensures.header in
    let header : Header = record { log_area = 1 - c.header-header.result.log_area; extents = c.header-header.result.extents; writes = c.args.self.now.writes } in
    let other : header.log_area ≡ other_area v.named.manifest.header.log_area = ap (λ (h : Header). 1 - h.log_area) is in
    let ready : IsPrepared v c.of.result o.rest.image = subst (λ xs. IsPrepared v xs o.rest.image) (sym numbers) p in
    let run = c.commit.ensures.any_moment o.rest.image o.rest.shown (each_names v d (g.D.Device.state c.args.device.now) o) in
    let number : c.header.result.writes ≡ c.args.self.now.writes = ap (λ (h : Header). h.writes) (c.header.ensures.header ∙ ap (λ (m : Manifest). m.header) c.in_ok-commit.ensures.changed) in
    let turned = c.turn.ensures ∙ ap (λ (w : ℕ). record v.log { area = other_area v.log.area; writes = w; slots = 0; cleared = false }) number in
    subst (λ (w : StoreView). IsOpen w d (g.D.Device.state c.commit.new.device))
    (sym (flushed-view v c.commit.new.self header c.turn.new.self c.clear.new.self c.note_flush.new.self c.requires.reserved.idle turned c.clear.ensures c.note_flush.ensures))
    (flushed-open v d (g.D.Device.state c.args.device.now) (g.D.Device.state c.commit.new.device) o fits c.of.result header c.requires.reserved.idle other kept.number ready.clear ready.placed
    c.commit.new.self c.commit.ensures.geometry c.in_ok-commit.ensures.changed run (c.in_ok-commit.ensures.committed o.rest.image o.rest.shown (each_names v d (g.D.Device.state c.args.device.now) o)) c.in_ok-commit.ensures.sure ready.filters)

pub returns-in_err-from_slice-clause-installs : goal.returns-in_err-from_slice-clause-installs
returns-in_err-from_slice-clause-installs g c = record {
  committed = first_of (search rules, grind (arith, common_steps));
  stays_down = first_of (search rules, grind (arith, common_steps));
  refused = first_of (search rules, grind (arith, common_steps));
  calls = first_of (search rules, grind (arith, common_steps));
}

pub returns-in_err-commit-clause-installs : goal.returns-in_err-commit-clause-installs
returns-in_err-commit-clause-installs g c = record {
  committed = first_of (search rules, grind (arith, common_steps));
  stays_down = first_of (search rules, grind (arith, common_steps));
  refused = first_of (search rules, grind (arith, common_steps));
  calls = first_of (search rules, grind (arith, common_steps));
}

pub returns-clause-installs : goal.returns-clause-installs
returns-clause-installs g c = record {
  committed = first_of (search rules, grind (arith, common_steps));
  stays_down = first_of (search rules, grind (arith, common_steps));
  refused = first_of (search rules, grind (arith, common_steps));
  calls = first_of (search rules, grind (arith, common_steps));
}

pub returns-clause-tables : goal.returns-clause-tables
returns-clause-tables g c = λ d o p left may.
    let v : StoreView = view_of c.args.self.now in
    let has = c.in_ok-commit.ensures.committed o.rest.image o.rest.shown (each_names v d (g.D.Device.state c.args.device.now) o) left may in
    placed-behind v.named.geometry o.rest.image left c.args.numbers.now (cut (newest v.memory)) has.same p.placed
