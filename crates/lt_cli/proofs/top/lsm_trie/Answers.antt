use Rattle.std.proofs.Common.{refl, subst, ⊎_elim}
use Rattle.lt_cli.specs.Promise.{InitEnded, Means}
use Rattle.lt_cli.specs.declared.words.Task.TheVariants.{Run, Init}
use Rattle.lt_cli.proofs.WordLaws.{same-sizes}
use Rattle.lt_cli.proofs.top.lsm_trie.Goals as goal

-- ---- the words are none of those that there are

pub returns-in-None-clause-words : goal.returns-in-None-clause-words
returns-in-None-clause-words g c = (
  λ _. λ asks. ⊎_elim (λ runs. c.in-None.ensures Run runs) (λ makes. c.in-None.ensures (Init makes.0 makes.1 makes.2) makes.3) asks,
  λ _. refl,
)

pub returns-in-None-clause-run : goal.returns-in-None-clause-run
returns-in-None-clause-run g c = λ runs. absurd (c.in-None.ensures Run runs)

pub returns-in-None-clause-run_end : goal.returns-in-None-clause-run_end
returns-in-None-clause-run_end g c = λ runs. c.in-None.ensures Run runs

pub returns-in-None-clause-init : goal.returns-in-None-clause-init
returns-in-None-clause-init g c = λ e l s makes. absurd (c.in-None.ensures (Init e l s) makes)

pub returns-in-None-clause-seen : goal.returns-in-None-clause-seen
returns-in-None-clause-seen g c = λ runs image opened shown opens. absurd (c.in-None.ensures Run runs)

pub returns-in-None-clause-unopened : goal.returns-in-None-clause-unopened
returns-in-None-clause-unopened g c = λ runs b fails. absurd (c.in-None.ensures Run runs)

-- ---- a store is made of the sizes that the words tell

pub returns-in-Some-Init-clause-init : goal.returns-in-Some-Init-clause-init
returns-in-Some-Init-clause-init g c = λ e l s makes. (
  same-sizes (λ e l s. InitEnded g.K.Sink g.D.Device (record { levels = l; slots = s }) e c.make.result c.args.sink.now c.make.new.sink c.args.device.now c.make.new.device)
      c.args.words.now e l s c.in-Some-Init.extents c.in-Some-Init.levels c.in-Some-Init.slots makes (subst (Means c.args.words.now) c.in-Some-Init.field-0-is c.in-Some-Init.ensures) c.make.ensures.init,
  refl,
)
