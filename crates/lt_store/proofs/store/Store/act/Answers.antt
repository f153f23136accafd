use Rattle.std.proofs.Common.{rules, ◌≡◌, ℕ, sym, ap, subst, ◌∙◌, List, [], Some, None, Ok, Err, length}
use Rattle.std.specs.Prelude.{IsErrOf}
use Rattle.std.proofs.lemmas.Result.{err_from_is_err_and}
use Rattle.lt_htable.specs.declared.faults.LookFault.TheVariants.{Damaged}
use Rattle.lt_store.specs.declared.counts.Stat.{Stat}
use Rattle.lt_store.specs.declared.acting.Outcome.TheVariants as outcomes
use Rattle.lt_terms.specs.Items.{put_of, delete_of}
use Rattle.lt_store.specs.Acting.{command_of}
use Rattle.lt_store.specs.Counts.{Tells}
use Rattle.lt_language.specs.Commands as commands
use Rattle.lt_device.specs.State as told
use Rattle.lt_store.specs.Promise.{StopsGet}
use Rattle.lt_store.specs.Getting.{AnswersSeen, seen_of}
use Rattle.lt_store.specs.Open.{StoreView, state_of}
use Rattle.lt_store.specs.View.{view_of}
use Rattle.lt_store.proofs.ActLaws.{asks-goes, event-in-place, event-writes, none-in-place, stat-step, put-step, delete-step, get-bound, refused-goes, same-err, same-key, same-ok, same-stat, tells-fault, tells-none, tells-value, limits, write-kind}
use Rattle.lt_store.proofs.AnswerLaws.{all-writes}
use Rattle.lt_store.proofs.GoLaws.{goes-none}
use Rattle.lt_store.proofs.WholeLaws.{whole-asked, whole-none, whole-survives}
use Rattle.lt_store.proofs.store.Store.act.Goals as goal
use Rattle.lt_terms.proofs.CauseLaws.{OnErr-always}

-- ---- a put

pub returns-in_err-put-in-Put-clause-goes_on : goal.returns-in_err-put-in-Put-clause-goes_on
returns-in_err-put-in-Put-clause-goes_on g c = OnErr-always c.from_residual.result (λ is durable opened.
    refused-goes c.put.new.self.is_up c.put.result c.in_err-put-in-Put.field-0.0 c.in_err-put-in-Put.was c.put.ensures.all.up c.put.ensures.all.in_place.undamaged _ (λ fault. c.put.ensures.all.writes.refused fault durable opened) is)

pub returns-in_err-put-in-Put-clause-broken : goal.returns-in_err-put-in-Put-clause-broken
returns-in_err-put-in-Put-clause-broken g c = OnErr-always c.from_residual.result (λ durable opened.
    whole-survives (view_of c.args.self.now) durable (g.D.Device.state c.args.device.now) (g.D.Device.state c.put.new.device) (c.put.ensures.all.whole durable opened))

pub returns-in_ok-put-in-Put-clause-step : goal.returns-in_ok-put-in-Put-clause-step
returns-in_ok-put-in-Put-clause-step g c = λ durable opened own.
    let s = c.args.self.now in
    let answer = c.in_ok-put-in-Put in
    let number = all-writes (view_of s) durable (g.D.Device.state c.args.device.now) opened (length s.filters) (s.kept c.requires.up) c.in-Put.key.now in
    rw c.in-Put.is
    (put-step s.manifest.manifest.header.extents s.writes (state_of (view_of s) durable) answer.field-0 number (limits answer.field-0 _ answer.ensures.limit)
    (λ needed free is. ((answer.ensures.full needed free (ap Ok is)).short, (answer.ensures.all.writes.full_images needed free (ap Ok is) (own needed free (ap outcomes.Taken is)) durable opened).1)) c.in-Put.key.now c.in-Put.value.now c.args.out.now)

pub returns-in_ok-put-in-Put-clause-kind : goal.returns-in_ok-put-in-Put-clause-kind
returns-in_ok-put-in-Put-clause-kind g c = rw c.in-Put.is (write-kind (commands.put c.in-Put.key.now c.in-Put.value.now) c.in_ok-put-in-Put.field-0 c.args.out.now (λ reply is. is))

-- ---- a delete

pub returns-in_err-delete-in-Delete-clause-goes_on : goal.returns-in_err-delete-in-Delete-clause-goes_on
returns-in_err-delete-in-Delete-clause-goes_on g c = OnErr-always c.from_residual-in_err-delete-in-Delete.result (λ is durable opened.
    refused-goes c.delete.new.self.is_up c.delete.result c.in_err-delete-in-Delete.field-0.0 c.in_err-delete-in-Delete.was c.delete.ensures.all.up c.delete.ensures.all.in_place.undamaged _ (λ fault. c.delete.ensures.all.writes.refused fault durable opened) is)

pub returns-in_err-delete-in-Delete-clause-broken : goal.returns-in_err-delete-in-Delete-clause-broken
returns-in_err-delete-in-Delete-clause-broken g c = OnErr-always c.from_residual-in_err-delete-in-Delete.result (λ durable opened.
    whole-survives (view_of c.args.self.now) durable (g.D.Device.state c.args.device.now) (g.D.Device.state c.delete.new.device) (c.delete.ensures.all.whole durable opened))

pub returns-in_ok-delete-in-Delete-clause-step : goal.returns-in_ok-delete-in-Delete-clause-step
returns-in_ok-delete-in-Delete-clause-step g c = λ durable opened own.
    let s = c.args.self.now in
    let answer = c.in_ok-delete-in-Delete in
    let number = all-writes (view_of s) durable (g.D.Device.state c.args.device.now) opened (length s.filters) (s.kept c.requires.up) c.in-Delete.key.now in
    rw c.in-Delete.is
    (delete-step s.manifest.manifest.header.extents s.writes (state_of (view_of s) durable) answer.field-0 number (limits answer.field-0 _ answer.ensures.limit)
    (λ needed free is. ((answer.ensures.full needed free (ap Ok is)).short, (answer.ensures.all.writes.full_images needed free (ap Ok is) (own needed free (ap outcomes.Taken is)) durable opened).1)) c.in-Delete.key.now c.args.out.now)

pub returns-in_ok-delete-in-Delete-clause-kind : goal.returns-in_ok-delete-in-Delete-clause-kind
returns-in_ok-delete-in-Delete-clause-kind g c = rw c.in-Delete.is (write-kind (commands.delete c.in-Delete.key.now) c.in_ok-delete-in-Delete.field-0 c.args.out.now (λ reply is. is))

-- ---- a get

pub returns-in_err-len-in-Get-clause-goes_on : goal.returns-in_err-len-in-Get-clause-goes_on
returns-in_err-len-in-Get-clause-goes_on g c = OnErr-always c.from_residual-in_err-len-in-Get.result (λ is durable opened.
    asks-goes (view_of c.args.self.now) (view_of c.get.new.self) durable _ _ c.get.ensures.unchanged c.get.ensures.calls.state opened)

pub returns-in_err-len-in-Get-clause-broken : goal.returns-in_err-len-in-Get-clause-broken
returns-in_err-len-in-Get-clause-broken g c = OnErr-always c.from_residual-in_err-len-in-Get.result (λ durable opened.
    (asks-goes (view_of c.args.self.now) (view_of c.get.new.self) durable _ _ c.get.ensures.unchanged c.get.ensures.calls.state opened).survives)

pub returns-in-Some-clause-goes : goal.returns-in-Some-clause-goes
returns-in-Some-clause-goes g c = λ durable opened. asks-goes (view_of c.args.self.now) (view_of c.get.new.self) durable _ _ c.get.ensures.unchanged c.get.ensures.calls.state opened

pub returns-in-None-clause-goes : goal.returns-in-None-clause-goes
returns-in-None-clause-goes g c = λ durable opened. asks-goes (view_of c.args.self.now) (view_of c.get.new.self) durable _ _ c.get.ensures.unchanged c.get.ensures.calls.state opened

pub returns-in_err-len-in-Get-clause-sound : goal.returns-in_err-len-in-Get-clause-sound
returns-in_err-len-in-Get-clause-sound g c = λ b durable opened is.
    let was : IsErrOf c.get.result (Damaged b) = search rules in
    rw was at (c.get.ensures.answer durable opened)

pub returns-in_err-len-in-Get-clause-seen : goal.returns-in_err-len-in-Get-clause-seen
returns-in_err-len-in-Get-clause-seen g c = λ key image is told.
    let v : StoreView = view_of c.args.self.now in
    let same : c.in-Get.key.now ≡ key = same-key _ _ (sym (ap command_of c.in-Get.is) ∙ is) in
    let fault = err_from_is_err_and c.from_residual-in_err-len-in-Get.result c.from_residual-in_err-len-in-Get.ensures.1 in
    let answer = subst (λ (k : List ℕ). AnswersSeen c.get.new.out (seen_of v image k) (Err c.in_err-len-in-Get.field-0.0)) same (c.in_err-len-in-Get.ensures.seen image told) in
    rw fault.1 (tells-fault c.get.new.out (seen_of v image key) c.in_err-len-in-Get.field-0.0 fault.0 fault.2 answer)

pub returns-in-Some-clause-seen : goal.returns-in-Some-clause-seen
returns-in-Some-clause-seen g c = λ key image is told.
    let v : StoreView = view_of c.args.self.now in
    let same : c.in-Get.key.now ≡ key = same-key _ _ (sym (ap command_of c.in-Get.is) ∙ is) in
    let was : c.get.result ≡ Ok (Some c.in-Some.len) = search rules in
    tells-value c.get.new.out (seen_of v image key) c.in-Some.len (subst (λ (k : List ℕ). AnswersSeen c.get.new.out (seen_of v image k) (Ok (Some c.in-Some.len))) same (rw was at (c.get.ensures.seen image told)))

pub returns-in-None-clause-seen : goal.returns-in-None-clause-seen
returns-in-None-clause-seen g c = λ key image is told.
    let v : StoreView = view_of c.args.self.now in
    let same : c.in-Get.key.now ≡ key = same-key _ _ (sym (ap command_of c.in-Get.is) ∙ is) in
    let was : c.get.result ≡ Ok None = search rules in
    tells-none c.get.new.out (seen_of v image key) (subst (λ (k : List ℕ). AnswersSeen c.get.new.out (seen_of v image k) (Ok None)) same (rw was at (c.get.ensures.seen image told)))

pub returns-in_err-len-in-Get-clause-bound : goal.returns-in_err-len-in-Get-clause-bound
returns-in_err-len-in-Get-clause-bound g c = λ key is durable opened. get-bound g.D.Device c.args.self.now.log.pending c.in-Get.key.now key _ c.args.device.now c.get.new.device (ap command_of c.in-Get.is) is (c.get.ensures.bound durable opened)

pub returns-in-Some-clause-bound : goal.returns-in-Some-clause-bound
returns-in-Some-clause-bound g c = λ key is durable opened. get-bound g.D.Device c.args.self.now.log.pending c.in-Get.key.now key _ c.args.device.now c.get.new.device (ap command_of c.in-Get.is) is (c.get.ensures.bound durable opened)

pub returns-in-None-clause-bound : goal.returns-in-None-clause-bound
returns-in-None-clause-bound g c = λ key is durable opened. get-bound g.D.Device c.args.self.now.log.pending c.in-Get.key.now key _ c.args.device.now c.get.new.device (ap command_of c.in-Get.is) is (c.get.ensures.bound durable opened)

-- ---- a stat

pub returns-in-Stat-clause-step : goal.returns-in-Stat-clause-step
returns-in-Stat-clause-step g c = λ durable opened own.
    let s = c.args.self.now in
    let number = all-writes (view_of s) durable (g.D.Device.state c.args.device.now) opened (length s.filters) (s.kept c.requires.up) [] in
    rw c.in-Stat.is (stat-step s.manifest.manifest.header.extents (state_of (view_of s) durable) c.stat.result c.args.out.now (ap (λ (t : Stat). t.writes) c.stat.ensures.told.is ∙ sym number) c.stat.ensures.within)

pub returns-in-Stat-clause-goes : goal.returns-in-Stat-clause-goes
returns-in-Stat-clause-goes g c = λ durable opened. goes-none (view_of c.args.self.now) durable _ opened

pub returns-in_err-len-in-Get-clause-whole : goal.returns-in_err-len-in-Get-clause-whole
returns-in_err-len-in-Get-clause-whole g c = λ durable opened. whole-asked (view_of c.args.self.now) durable (g.D.Device.state c.args.device.now) (g.D.Device.state c.get.new.device) c.get.ensures.calls.state opened

pub returns-in-Some-clause-whole : goal.returns-in-Some-clause-whole
returns-in-Some-clause-whole g c = λ durable opened. whole-asked (view_of c.args.self.now) durable (g.D.Device.state c.args.device.now) (g.D.Device.state c.get.new.device) c.get.ensures.calls.state opened

pub returns-in-None-clause-whole : goal.returns-in-None-clause-whole
returns-in-None-clause-whole g c = λ durable opened. whole-asked (view_of c.args.self.now) durable (g.D.Device.state c.args.device.now) (g.D.Device.state c.get.new.device) c.get.ensures.calls.state opened

pub returns-in-Stat-clause-whole : goal.returns-in-Stat-clause-whole
returns-in-Stat-clause-whole g c = λ durable opened. whole-none (view_of c.args.self.now) durable (g.D.Device.state c.args.device.now) opened

pub returns-in-Stat-clause-stat : goal.returns-in-Stat-clause-stat
returns-in-Stat-clause-stat g c = λ s is. subst (λ (t : Stat). Tells g.D.Device (view_of c.args.self.now) t c.args.device.now) (same-stat c.stat.result s is) c.stat.ensures.told

pub returns-in_err-len-in-Get-clause-damaged : goal.returns-in_err-len-in-Get-clause-damaged
returns-in_err-len-in-Get-clause-damaged g c = λ b is.
    let was : IsErrOf c.get.result (Damaged b) = search rules in
    record {
      key = c.in-Get.key.now;
      get = ap command_of c.in-Get.is;
      stops = subst (λ (d : told.State). StopsGet c.args.self.now.manifest d.shown c.in-Get.key.now b) (sym c.get.ensures.calls.state) (c.get.ensures.damaged b was);
    }

pub returns-in_ok-put-in-Put-clause-writes : goal.returns-in_ok-put-in-Put-clause-writes
returns-in_ok-put-in-Put-clause-writes g c =
    let answer = c.in_ok-put-in-Put in
    rw c.in-Put.is (event-writes g.D.Device (put_of c.in-Put.key.now c.in-Put.value.now) (view_of c.args.self.now) (view_of c.put.new.self) c.put.result (Ok (outcomes.Taken answer.field-0)) (same-ok c.put.result answer.field-0 answer.was) c.args.device.now c.put.new.device c.put.ensures.all.writes)

pub returns-in_err-put-in-Put-clause-writes : goal.returns-in_err-put-in-Put-clause-writes
returns-in_err-put-in-Put-clause-writes g c =
    let fault = err_from_is_err_and c.from_residual.result c.from_residual.ensures.1 in
    rw c.in-Put.is (event-writes g.D.Device (put_of c.in-Put.key.now c.in-Put.value.now) (view_of c.args.self.now) (view_of c.put.new.self) c.put.result c.from_residual.result (same-err c.put.result c.from_residual.result fault.0 (c.in_err-put-in-Put.was ∙ ap Err (sym fault.2)) fault.1) c.args.device.now c.put.new.device c.put.ensures.all.writes)

pub returns-in_ok-put-in-Put-clause-in_place : goal.returns-in_ok-put-in-Put-clause-in_place
returns-in_ok-put-in-Put-clause-in_place g c =
    let answer = c.in_ok-put-in-Put in
    rw c.in-Put.is (event-in-place g.D.Device (put_of c.in-Put.key.now c.in-Put.value.now) (view_of c.args.self.now) (view_of c.put.new.self) c.put.result (Ok (outcomes.Taken answer.field-0)) (same-ok c.put.result answer.field-0 answer.was) c.args.device.now c.put.new.device c.put.ensures.all.in_place)

pub returns-in_err-put-in-Put-clause-in_place : goal.returns-in_err-put-in-Put-clause-in_place
returns-in_err-put-in-Put-clause-in_place g c =
    let fault = err_from_is_err_and c.from_residual.result c.from_residual.ensures.1 in
    rw c.in-Put.is (event-in-place g.D.Device (put_of c.in-Put.key.now c.in-Put.value.now) (view_of c.args.self.now) (view_of c.put.new.self) c.put.result c.from_residual.result (same-err c.put.result c.from_residual.result fault.0 (c.in_err-put-in-Put.was ∙ ap Err (sym fault.2)) fault.1) c.args.device.now c.put.new.device c.put.ensures.all.in_place)

pub returns-in_ok-delete-in-Delete-clause-writes : goal.returns-in_ok-delete-in-Delete-clause-writes
returns-in_ok-delete-in-Delete-clause-writes g c =
    let answer = c.in_ok-delete-in-Delete in
    rw c.in-Delete.is (event-writes g.D.Device (delete_of c.in-Delete.key.now) (view_of c.args.self.now) (view_of c.delete.new.self) c.delete.result (Ok (outcomes.Taken answer.field-0)) (same-ok c.delete.result answer.field-0 answer.was) c.args.device.now c.delete.new.device c.delete.ensures.all.writes)

pub returns-in_err-delete-in-Delete-clause-writes : goal.returns-in_err-delete-in-Delete-clause-writes
returns-in_err-delete-in-Delete-clause-writes g c =
    let fault = err_from_is_err_and c.from_residual-in_err-delete-in-Delete.result c.from_residual-in_err-delete-in-Delete.ensures.1 in
    rw c.in-Delete.is (event-writes g.D.Device (delete_of c.in-Delete.key.now) (view_of c.args.self.now) (view_of c.delete.new.self) c.delete.result c.from_residual-in_err-delete-in-Delete.result (same-err c.delete.result c.from_residual-in_err-delete-in-Delete.result fault.0 (c.in_err-delete-in-Delete.was ∙ ap Err (sym fault.2)) fault.1) c.args.device.now c.delete.new.device c.delete.ensures.all.writes)

pub returns-in_ok-delete-in-Delete-clause-in_place : goal.returns-in_ok-delete-in-Delete-clause-in_place
returns-in_ok-delete-in-Delete-clause-in_place g c =
    let answer = c.in_ok-delete-in-Delete in
    rw c.in-Delete.is (event-in-place g.D.Device (delete_of c.in-Delete.key.now) (view_of c.args.self.now) (view_of c.delete.new.self) c.delete.result (Ok (outcomes.Taken answer.field-0)) (same-ok c.delete.result answer.field-0 answer.was) c.args.device.now c.delete.new.device c.delete.ensures.all.in_place)

pub returns-in_err-delete-in-Delete-clause-in_place : goal.returns-in_err-delete-in-Delete-clause-in_place
returns-in_err-delete-in-Delete-clause-in_place g c =
    let fault = err_from_is_err_and c.from_residual-in_err-delete-in-Delete.result c.from_residual-in_err-delete-in-Delete.ensures.1 in
    rw c.in-Delete.is (event-in-place g.D.Device (delete_of c.in-Delete.key.now) (view_of c.args.self.now) (view_of c.delete.new.self) c.delete.result c.from_residual-in_err-delete-in-Delete.result (same-err c.delete.result c.from_residual-in_err-delete-in-Delete.result fault.0 (c.in_err-delete-in-Delete.was ∙ ap Err (sym fault.2)) fault.1) c.args.device.now c.delete.new.device c.delete.ensures.all.in_place)

pub returns-in_err-len-in-Get-clause-in_place : goal.returns-in_err-len-in-Get-clause-in_place
returns-in_err-len-in-Get-clause-in_place g c =
    rw c.in-Get.is (none-in-place g.D.Device (view_of c.args.self.now) (view_of c.get.new.self) c.from_residual-in_err-len-in-Get.result c.args.device.now c.get.new.device (search rules))

pub returns-in-Some-clause-in_place : goal.returns-in-Some-clause-in_place
returns-in-Some-clause-in_place g c =
    rw c.in-Get.is (none-in-place g.D.Device (view_of c.args.self.now) (view_of c.get.new.self) (Ok (outcomes.Value c.in-Some.len)) c.args.device.now c.get.new.device (search rules))

pub returns-in-None-clause-in_place : goal.returns-in-None-clause-in_place
returns-in-None-clause-in_place g c =
    rw c.in-Get.is (none-in-place g.D.Device (view_of c.args.self.now) (view_of c.get.new.self) (Ok outcomes.Missing) c.args.device.now c.get.new.device (search rules))

pub returns-in-Stat-clause-in_place : goal.returns-in-Stat-clause-in_place
returns-in-Stat-clause-in_place g c =
    rw c.in-Stat.is (none-in-place g.D.Device (view_of c.args.self.now) (view_of c.args.self.now) (Ok (outcomes.Stat c.stat.result)) c.args.device.now c.args.device.now (search rules))

pub returns-in_err-commit-in-Commit-clause-in_place : goal.returns-in_err-commit-in-Commit-clause-in_place
returns-in_err-commit-in-Commit-clause-in_place g c =
    rw c.in-Commit.is (none-in-place g.D.Device (view_of c.args.self.now) (view_of c.commit.new.self) c.from_residual-in_err-commit-in-Commit.result c.args.device.now c.commit.new.device (search rules))

pub returns-in_ok-commit-in-Commit-clause-in_place : goal.returns-in_ok-commit-in-Commit-clause-in_place
returns-in_ok-commit-in-Commit-clause-in_place g c =
    rw c.in-Commit.is (none-in-place g.D.Device (view_of c.args.self.now) (view_of c.commit.new.self) (Ok outcomes.Committed) c.args.device.now c.commit.new.device (search rules))
