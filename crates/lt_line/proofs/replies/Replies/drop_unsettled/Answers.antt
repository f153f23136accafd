use Rattle.std.proofs.Common.{◌∙◌, ap}
use Rattle.lt_line.specs.Waiting.{waiting_at, settled_alone}
use Rattle.lt_line.proofs.ReplyLaws.{waiting-unsettled}
use Rattle.lt_line.proofs.replies.Replies.drop_unsettled.Goals as goal

pub returns : goal.returns
returns c =
    let bytes = c.self.inside.bytes.items in
    let start = c.self.inside.start in
    let settled = c.self.inside.settled in
    ap (λ xs. waiting_at xs start settled) c.truncate.ensures.items
    ∙ waiting-unsettled bytes start settled c.self.invariant.start c.self.invariant.settled c.self.invariant.bytes
    ∙ ap settled_alone c.self.view_is
