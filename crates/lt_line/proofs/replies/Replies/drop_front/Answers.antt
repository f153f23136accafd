use Rattle.std.proofs.Common.{◌-◌, ◌≤◌, ◌∙◌, sym, ap, subst, length, drop, arith, length-drop}
use Rattle.std.proofs.lemmas.List.{length-take-le}
use Rattle.lt_line.specs.Waiting.{Waiting, waiting_at, without_front}
use Rattle.lt_line.proofs.ReplyLaws.{waiting-front}
use Rattle.lt_line.proofs.replies.Replies.drop_front.Goals as goal

pub returns : goal.returns
returns c =
    let bytes = c.self.inside.bytes.items in
    let start = c.self.inside.start in
    let settled = c.self.inside.settled in
    let first : start ≤ settled = c.self.invariant.start in
    let within : settled ≤ length bytes = c.self.invariant.settled in
    let rest = length-drop start bytes in
    let front = length-take-le (settled - start) (drop start bytes) (omega arith) in
    let few : c.args.count ≤ length (waiting_at bytes start settled).settled_text =
    subst (λ (w : Waiting). c.args.count ≤ length w.settled_text) (sym c.self.view_is) c.requires in
    waiting-front bytes start settled c.args.count (omega arith) within c.self.invariant.bytes
    ∙ ap (without_front c.args.count) c.self.view_is
