use Rattle.std.proofs.Common.{◌≡◌, ◌<◌, Some, false, is_some, ap, subst, ◌∙◌}
use Rattle.lt_tables.specs.Bucket.{sends_on, sent_to}
use Rattle.lt_htable.specs.Reading.{target_of}
use Rattle.lt_htable.proofs.SoughtLaws.{target-small, suffix-is, unsent}
use Rattle.lt_htable.proofs.lookup.target.Goals as goal

pub returns-in-Moved-clause-column : goal.returns-in-Moved-clause-column
returns-in-Moved-clause-column c = λ x same.
    let is : c.in-Moved.target ≡ x = cc in
    subst (λ n. n < 64) is (target-small c.in_ok-bucket.bucket c.args.key.now c.in-Moved.target c.in-Moved.ensures)

pub returns-then-not-is_sent-clause-target : goal.returns-then-not-is_sent-clause-target
returns-then-not-is_sent-clause-target c =
    let told = c.if-not-is_sent.ensures in
    let off : is_some (target_of (Some (sent_to c.sends.result c.args.parts.now.suffix))) ≡ false = cc in
    unsent c.args.page.now c.args.key.now c.sends.result c.args.parts.now.suffix
    (c.sends.ensures ∙ ap sends_on c.in_ok-bucket.ensures.page)
    (suffix-is c.args.parts.now c.args.key.now c.requires)
    off
