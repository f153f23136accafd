use Rattle.std.proofs.Common.{◌≡◌, ap, sym, ◌∙◌, decimal}
use Rattle.lt_cli.proofs.WordLaws.{reads-decimal, some-same, none-some, read-some, decides, differs}
use Rattle.lt_cli.proofs.words.number.Goals as goal

pub returns-in_err-number : goal.returns-in_err-number
returns-in_err-number c = λ n small. (
  λ some. absurd (none-some n (sym c.from_residual.ensures ∙ some)),
  λ is. absurd (none-some n (sym c.in_err-number.was ∙ read-some n c.parse.result c.ok.result c.ok.ensures.value (reads-decimal n c.args.word.now c.parse.result small is c.parse.ensures.value.0))),
)

pub returns-then-eq : goal.returns-then-eq
returns-then-eq c = λ n small.
    let same = decides c.as_bytes.result.now c.as_bytes-2.result.now c.eq.result c.eq.ensures c.if-eq.true in
    let word = sym c.as_bytes-2.ensures.value ∙ sym same ∙ c.as_bytes.ensures.value ∙ c.format.ensures.text in (
      λ some. word ∙ ap decimal (some-same c.in_ok-number.number n some),
      λ is. sym c.in_ok-number.was ∙ read-some n c.parse.result c.ok.result c.ok.ensures.value (reads-decimal n c.args.word.now c.parse.result small is c.parse.ensures.value.0),
    )

pub returns-else-eq : goal.returns-else-eq
returns-else-eq c = λ n small. (
  λ some. absurd (none-some n some),
  λ is.
      let read = sym c.in_ok-number.was ∙ read-some n c.parse.result c.ok.result c.ok.ensures.value (reads-decimal n c.args.word.now c.parse.result small is c.parse.ensures.value.0) in
      let same : c.as_bytes.result.now ≡ c.as_bytes-2.result.now = c.as_bytes.ensures.value ∙ c.format.ensures.text ∙ ap decimal (some-same c.in_ok-number.number n read) ∙ sym is ∙ sym c.as_bytes-2.ensures.value in
      absurd (differs c.as_bytes.result.now c.as_bytes-2.result.now c.eq.result c.eq.ensures c.if-eq.false same),
)
