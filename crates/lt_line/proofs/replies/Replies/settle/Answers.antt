use Rattle.std.proofs.Common.{◌≡◌, ◌∙◌, ap, length}
use Rattle.lt_line.specs.Waiting.{waiting_at, all_settled}
use Rattle.lt_line.proofs.ReplyLaws.{waiting-settled}
use Rattle.lt_line.proofs.replies.Replies.settle.Goals as goal

pub returns : goal.returns
returns c =
    let bytes = c.self.inside.bytes.items in
    let start = c.self.inside.start in
    let all : c.len-self-inside.result ≡ length bytes = c.len-self-inside.ensures ∙ c.self.inside.bytes.ok.0 in
    ap (waiting_at bytes start) all
    ∙ waiting-settled bytes start c.self.inside.settled c.self.invariant.start c.self.invariant.settled
    ∙ ap all_settled c.self.view_is
