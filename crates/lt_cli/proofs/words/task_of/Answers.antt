use Rattle.std.proofs.Common.{◌∙◌, sym, ap, List, ℕ, [], ◌∷◌, codes, arith}
use Rattle.lt_cli.proofs.WordLaws.{decides, one-word, four-words, reads, means-init}
use Rattle.lt_cli.proofs.words.task_of.Goals as goal

pub returns-in-len1 : goal.returns-in-len1
returns-in-len1 c =
    one-word c.args.words.now c.word-item.result c.in-len1.len_at_least c.in-len1.len_below c.word-item.is
    ∙ ap (λ (w : List ℕ). w ∷ []) (sym c.as_str.ensures.value ∙ decides c.as_str.result.now (codes "run") c.eq.result c.eq.ensures c.if-eq.true)

pub returns-in_ok-number-in-len4-3 : goal.returns-in_ok-number-in-len4-3
returns-in_ok-number-in-len4-3 c =
    means-init c.args.words.now _ _ _ _ c.in_ok-number-in-len4.field-0 c.in_ok-number-in-len4-2.field-0 c.in_ok-number-in-len4-3.field-0 c.init_of.result
    (four-words c.args.words.now c.word-item-then-words-lt5.result c.extents-item.result c.levels-item.result c.slots-item.result c.in-len4.len_at_least c.in-len4.len_below c.word-item-then-words-lt5.is c.extents-item.is c.levels-item.is c.slots-item.is)
    (sym c.as_str-then-words-lt5.ensures.value ∙ decides c.as_str-then-words-lt5.result.now (codes "init") c.eq-then-words-lt5.result c.eq-then-words-lt5.ensures c.if-eq-2.true)
    (reads _ _ c.number.result c.in_ok-number-in-len4.was (omega arith) (rw (sym c.as_str-in-len4.ensures.value) c.number.ensures))
    (reads _ _ c.number-in-len4.result c.in_ok-number-in-len4-2.was (omega arith) (rw (sym c.as_str-in-len4-2.ensures.value) c.number-in-len4.ensures))
    (reads _ _ c.number-in-len4-2.result c.in_ok-number-in-len4-3.was (omega arith) (rw (sym c.as_str-in-len4-3.ensures.value) c.number-in-len4-2.ensures))
    c.init_of.ensures.some c.init_of.ensures.none
