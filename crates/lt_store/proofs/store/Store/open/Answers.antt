use Rattle.std.proofs.Common.{rules, refl, ◌+◌, ◌*◌, ◌∙◌, sym, ap, subst, arith}
use Rattle.std.proofs.lemmas.Result.{err_from_is_err_and}
use Rattle.lt_device.proofs.CallLaws.{reads_more}
use Rattle.lt_device.specs.State as told
use Rattle.lt_format.specs.Snapshot.{Named}
use Rattle.lt_redo.proofs.OpeningLaws.{handed_on}
use Rattle.lt_store.specs.Open.{IsOpen}
use Rattle.lt_store.specs.View.{view_of}
use Rattle.lt_store.proofs.OpenLaws.{no_manifest, log-damaged, rest-whole, rest-named, rest-open, low-below, assembled-reads, few-reads, assembled-room}
use Rattle.lt_store.proofs.store.Store.open.Goals as goal

pub returns-in_err-manifest-clause-damaged : goal.returns-in_err-manifest-clause-damaged
returns-in_err-manifest-clause-damaged g c = λ b is image shown.
    let fault = err_from_is_err_and c.from_residual.result c.from_residual.ensures.1 in
    no_manifest image b (c.read_manifest.ensures.damaged b (handed_on _ _ _ _ _ c.in_err-manifest.was fault.1 fault.2 is) image shown)

pub returns-in_err-manifest-clause-damaged_block : goal.returns-in_err-manifest-clause-damaged_block
returns-in_err-manifest-clause-damaged_block g c = λ b is.
    let fault = err_from_is_err_and c.from_residual.result c.from_residual.ensures.1 in
    low-below b (c.read_manifest.ensures.damaged_block b (handed_on _ _ _ _ _ c.in_err-manifest.was fault.1 fault.2 is))

pub returns-in_err-log-clause-damaged : goal.returns-in_err-log-clause-damaged
returns-in_err-log-clause-damaged g c = λ b is image shown.
    let fault = err_from_is_err_and c.from_residual-in_err-log.result c.from_residual-in_err-log.ensures.1 in
    let here = ap (λ (s : told.State). s.shown) c.read_manifest.ensures.calls.state ∙ shown in
    log-damaged image c.in_ok-manifest.manifest.geometry c.in_ok-manifest.manifest b refl (c.in_ok-manifest.ensures.read image shown)
    (c.read_log.ensures.damaged b (handed_on _ _ _ _ _ c.in_err-log.was fault.1 fault.2 is) image here)

pub returns-in_err-log-clause-at_rest : goal.returns-in_err-log-clause-at_rest
returns-in_err-log-clause-at_rest g c = λ s rest b is. rest-whole s (g.D.Device.state c.args.device.now) b rest (returns-in_err-log-clause-damaged g c b is)

pub returns-in_err-filters-clause-calls : goal.returns-in_err-filters-clause-calls
returns-in_err-filters-clause-calls g c =
    let all = reads_more (few-reads c.in_ok-manifest.manifest.geometry _ c.in_ok-manifest.manifest.manifest c.in_ok-manifest.ensures.valid c.in_ok-manifest.ensures.stands)
    (reads_more {k = 307 + 2 * c.in_ok-manifest.manifest.geometry.slots} (omega arith) c.read_manifest.ensures.calls c.read_log.ensures.calls) c.inner_filters.ensures.calls in
    record {
      state = all.state;
      size = all.size;
      count = all.count;
      later = all.later;
      cause = λ failed. let rose = c.inner_filters.ensures.calls.cause (search rules) in omega (arith, c.read_manifest.ensures.calls.later, c.read_log.ensures.calls.later, rose);
    }

pub returns-in_err-of-clause-calls : goal.returns-in_err-of-clause-calls
returns-in_err-of-clause-calls g c =
    let all = reads_more (few-reads c.in_ok-manifest.manifest.geometry _ c.in_ok-manifest.manifest.manifest c.in_ok-manifest.ensures.valid c.in_ok-manifest.ensures.stands)
    (reads_more {k = 307 + 2 * c.in_ok-manifest.manifest.geometry.slots} (omega arith) c.read_manifest.ensures.calls c.read_log.ensures.calls) c.inner_filters.ensures.calls in
    record {
      state = all.state;
      size = all.size;
      count = all.count;
      later = all.later;
      cause = λ failed. search rules;
    }

pub returns-clause-calls : goal.returns-clause-calls
returns-clause-calls g c =
    let all = reads_more (few-reads c.in_ok-manifest.manifest.geometry _ c.in_ok-manifest.manifest.manifest c.in_ok-manifest.ensures.valid c.in_ok-manifest.ensures.stands)
    (reads_more {k = 307 + 2 * c.in_ok-manifest.manifest.geometry.slots} (omega arith) c.read_manifest.ensures.calls c.read_log.ensures.calls) c.inner_filters.ensures.calls in
    record {
      state = all.state;
      size = all.size;
      count = all.count;
      later = all.later;
      cause = λ failed. absurd (let at = failed in cc);
    }

pub returns-clause-room : goal.returns-clause-room
returns-clause-room g c =
    let room = assembled-room c.in_ok-manifest.manifest.geometry _ c.in_ok-manifest.manifest _ _ _ _ refl c.in_ok-manifest.ensures.stands c.in_ok-of.ensures in
    omega (arith, room, c.inner_filters.ensures.calls.size, c.read_log.ensures.calls.size, c.read_manifest.ensures.calls.size)

pub returns-clause-reads : goal.returns-clause-reads
returns-clause-reads g c = λ image shown.
    let after_manifest = ap (λ (s : told.State). s.shown) c.read_manifest.ensures.calls.state ∙ shown in
    let after_log = ap (λ (s : told.State). s.shown) c.read_log.ensures.calls.state ∙ after_manifest in
    assembled-reads image c.in_ok-manifest.manifest.geometry c.in_ok-manifest.manifest c.in_ok-log.log c.in_ok-log.items.items c.deref.result.now c.in_ok-filters.filters _
    refl (c.in_ok-manifest.ensures.read image shown) c.in_ok-log.ensures.log.is (c.in_ok-log.ensures.read image after_manifest) c.deref.ensures.value (c.in_ok-filters.ensures.filters image after_log) c.in_ok-of.ensures

pub returns-clause-opened : goal.returns-clause-opened
returns-clause-opened g c = λ s r.
    let v = view_of c.in_ok-of.field-0 in
    let before = g.D.Device.state c.args.device.now in
    let same = c.inner_filters.ensures.calls.state ∙ c.read_log.ensures.calls.state ∙ c.read_manifest.ensures.calls.state in
    let reads = returns-clause-reads g c in (
      subst (λ d. IsOpen v s d) (sym same) (rest-open v s before r reads),
      ap (λ (n : Named). n.manifest.header.extents) (sym (rest-named v s before r reads)),
    )
