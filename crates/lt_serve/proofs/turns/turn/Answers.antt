use Rattle.std.proofs.Common.{◌≡◌, ap, subst, sym, take}
use Rattle.std.proofs.lemmas.Result.{on_ok_weaker, IfErr-weaker}
use Rattle.lt_serve.specs.declared.served.Served.TheVariants as served
use Rattle.lt_serve.specs.Faults.{IsEnd}
use Rattle.lt_serve.proofs.CallLaws.{acts-none, gives-as, gives-none, not-source, takes-still}
use Rattle.lt_serve.proofs.TurnLaws.{turned-fault, turned-end, turned-on, turned-over, one-piece}
use Rattle.lt_serve.proofs.turns.turn.Goals as goal
use Rattle.std.proofs.Common.{ℕ, List, [], Option, append-nil}
use Rattle.lt_io.specs.Streams.{Takes}
use Rattle.lt_io.proofs.Flows.{Takes-none}
use Rattle.lt_store.specs.Getting.{seen_of}
use Rattle.lt_serve.specs.Seeing.{EndsSeen}
use Rattle.lt_serve.proofs.SightLaws.{ends-still}

pub returns-in-Err-clause-over : goal.returns-in-Err-clause-over
returns-in-Err-clause-over g c = (
  (λ before input output start r.
      turned-fault _ before input output _ _ start _ r _ _ _ _ c.in-Err.ensures.err),
  (λ v image input output start shown s.
      let stands = g.K.Sink.stands c.args.sink.now in (
        [],
        subst (λ (l : Option (List ℕ)). Takes (g.S.Source.left c.args.source.now) l []) (sym c.in-Err.ensures.err) (Takes-none (g.S.Source.left c.args.source.now)),
        subst (λ (bytes : List ℕ). EndsSeen (seen_of v image) served.Source bytes output stands stands) (sym (append-nil input))
            (ends-still (seen_of v image) served.Source input output stands _ s (λ is. absurd (cc (is))) (λ b is. absurd (cc (is)))),
      )),
)

pub returns-then-n-eq0-clause-over : goal.returns-then-n-eq0-clause-over
returns-then-n-eq0-clause-over g c = (
  (λ before input output start r.
      turned-end _ before c.finish.result input output start _ _ _ _ _ _ _ c.read.new.into c.in-Ok.n c.if-n-eq0.true c.finish.ensures.end c.in-Ok.ensures.bytes (c.in-Ok.ensures.end c.if-n-eq0.true) (c.finish.ensures.over _ before input output start _ r)),
  (λ v image input output start shown s. (
    [],
    subst (λ (k : ℕ). Takes (g.S.Source.left c.args.source.now) (g.S.Source.left c.read.new.self) (take k c.read.new.into)) c.if-n-eq0.true c.in-Ok.ensures.bytes,
    subst (λ (bytes : List ℕ). EndsSeen (seen_of v image) c.finish.result bytes output (g.K.Sink.stands c.args.sink.now) (g.K.Sink.stands c.finish.new.sink)) (sym (append-nil input)) (c.finish.ensures.ends v image input output start _ s),
  )),
)

pub returns-clause-on : goal.returns-clause-on
returns-clause-on g c = on_ok_weaker c.serve_piece.result (λ on. (
  (λ before input output start r.
      turned-on _ before input output _ _ start _ _ _ _ _ (take c.in-Ok.n c.bytes.result.now) _ c.in-Ok.ensures.bytes (ap (take c.in-Ok.n) (sym c.bytes.ensures.bytes)) (on.0 before input output start r)),
  (λ v image input output start shown s.
      let piece = take c.in-Ok.n c.bytes.result.now in (
        piece,
        subst (λ (bytes : List ℕ). Takes (g.S.Source.left c.args.source.now) (g.S.Source.left c.read.new.self) bytes) (ap (take c.in-Ok.n) (sym c.bytes.ensures.bytes)) c.in-Ok.ensures.bytes,
        on.1 v image input output start shown s,
      )),
)) c.serve_piece.ensures.on

pub returns-clause-over : goal.returns-clause-over
returns-clause-over g c = IfErr-weaker c.serve_piece.result _ _ (λ status over. (
  (λ before input output start r.
      turned-over _ before status input output start _ _ _ _ _ _ _ (take c.in-Ok.n c.bytes.result.now) _ c.in-Ok.ensures.bytes (ap (take c.in-Ok.n) (sym c.bytes.ensures.bytes)) (over.0 before input output start r)),
  (λ v image input output start shown s.
      let piece = take c.in-Ok.n c.bytes.result.now in (
        piece,
        subst (λ (bytes : List ℕ). Takes (g.S.Source.left c.args.source.now) (g.S.Source.left c.read.new.self) bytes) (ap (take c.in-Ok.n) (sym c.bytes.ensures.bytes)) c.in-Ok.ensures.bytes,
        over.1 v image input output start shown s,
      )),
)) c.serve_piece.ensures.over

pub returns-then-n-eq0-clause-one_piece : goal.returns-then-n-eq0-clause-one_piece
returns-then-n-eq0-clause-one_piece g c = one-piece c.in-Ok.n _ _ c.in-Ok.ensures.pieces

pub returns-clause-one_piece : goal.returns-clause-one_piece
returns-clause-one_piece g c = one-piece c.in-Ok.n _ _ c.in-Ok.ensures.pieces

pub returns-in-Err-clause-device : goal.returns-in-Err-clause-device
returns-in-Err-clause-device g c = acts-none _ _ served.Source _ _ _ (λ is. absurd (cc (is))) (λ b is. absurd (cc (is)))

pub returns-in-Err-clause-sink : goal.returns-in-Err-clause-sink
returns-in-Err-clause-sink g c = gives-none _ (λ is. absurd (cc (is)))

pub returns-then-n-eq0-clause-device : goal.returns-then-n-eq0-clause-device
returns-then-n-eq0-clause-device g c = acts-none _ _ c.finish.result _ _ _ (λ is. subst IsEnd is c.finish.ensures.end) (λ b is. subst IsEnd is c.finish.ensures.end)

pub returns-then-n-eq0-clause-sink : goal.returns-then-n-eq0-clause-sink
returns-then-n-eq0-clause-sink g c = gives-as _ _ (λ is. cc (is)) c.finish.ensures.sink

pub returns-then-n-eq0-clause-source : goal.returns-then-n-eq0-clause-source
returns-then-n-eq0-clause-source g c = takes-still _ _ c.in-Ok.ensures.cause.later (λ is. let one : c.finish.result ≡ served.Source = cc (is) in subst IsEnd one c.finish.ensures.end)

pub returns-clause-source : goal.returns-clause-source
returns-clause-source g c = takes-still _ _ c.in-Ok.ensures.cause.later (λ is. not-source c.serve_piece.result c.serve_piece.ensures.halt is)

pub returns-clause-sink : goal.returns-clause-sink
returns-clause-sink g c = c.serve_piece.ensures.sink

pub returns-clause-device : goal.returns-clause-device
returns-clause-device g c = c.serve_piece.ensures.device
