use Rattle.std.proofs.Common.{◌≡◌, ◌<◌, ◌∙◌, sym, ap, subst, arith, length, true, Err}
use Rattle.std.proofs.lemmas.Result.{err_from_is_err_and}
use Rattle.lt_terms.specs.Bytes.{is_in}
use Rattle.lt_terms.proofs.AmongLaws.{in_at}
use Rattle.lt_compact.specs.Inside.{stage_in}
use Rattle.lt_compact.specs.Jobs.{FoundView, JobView}
use Rattle.lt_compact.specs.Scanning.{IsDamagedBucket}
use Rattle.lt_compact.specs.Steps.{turn_from, turn_of}
use Rattle.lt_compact.proofs.JobLaws.{scans-left}
use Rattle.lt_compact.proofs.job.Job.scan_table.Goals as goal

pub scan-requires-clause-within : goal.scan-requires-clause-within
scan-requires-clause-within g c =
    let less : c.in-Scanning.found.scanned < length c.self.inside.sources.items =
    scans-left (length c.self.inside.sources.items) c.in-Scanning.found.scanned c.in-Scanning.found.kept c.in-Scanning.found.loose
    (ap (λ s. turn_from (length c.self.inside.sources.items) (stage_in s)) (sym c.in-Scanning.is) ∙ ap turn_of c.self.view_is ∙ c.requires.turn) in
    let place : c.found.inside.scanned ≡ c.in-Scanning.found.scanned = ap (λ (f : FoundView). f.scanned) c.found.view_is in
    let there : is_in c.index-number.result.now c.args.self.now.sources ≡ true =
    ap (λ (j : JobView). is_in c.index-number.result.now j.sources) (sym c.self.view_is)
    ∙ ap (λ n. is_in n c.self.inside.sources.items) c.index-number.ensures
    ∙ in_at c.self.inside.sources.items c.found.inside.scanned c.index-number.result.now (omega arith) in
    omega (arith, c.extent.ensures, c.requires.within c.index-number.result.now there)

pub returns-in_err-scan-clause-damaged : goal.returns-in_err-scan-clause-damaged
returns-in_err-scan-clause-damaged g c =
    let less : c.in-Scanning.found.scanned < length c.self.inside.sources.items =
    scans-left (length c.self.inside.sources.items) c.in-Scanning.found.scanned c.in-Scanning.found.kept c.in-Scanning.found.loose
    (ap (λ s. turn_from (length c.self.inside.sources.items) (stage_in s)) (sym c.in-Scanning.is) ∙ ap turn_of c.self.view_is ∙ c.requires.turn) in
    let place : c.found.inside.scanned ≡ c.in-Scanning.found.scanned = ap (λ (f : FoundView). f.scanned) c.found.view_is in
    let there : is_in c.index-number.result.now c.args.self.now.sources ≡ true =
    ap (λ (j : JobView). is_in c.index-number.result.now j.sources) (sym c.self.view_is)
    ∙ ap (λ n. is_in n c.self.inside.sources.items) c.index-number.ensures
    ∙ in_at c.self.inside.sources.items c.found.inside.scanned c.index-number.result.now (omega arith) in
    let fault = err_from_is_err_and c.from_residual.result c.from_residual.ensures.1 in
    rw (fault.1, fault.2) (λ b is. record {
      number = c.index-number.result.now;
      among = there;
      bucket = subst (λ n. IsDamagedBucket (g.D.Device.state c.args.device.now).shown n b) c.extent.ensures (c.in_err-scan.ensures.damaged b (ap (λ f. Err f) (cc)));
    })
