use Rattle.lt_node.specs.Changing.{change_of, with_entry}
use Rattle.std.proofs.Common.{◌∙◌, ap, sym, ◌≤◌, subst}
use Rattle.std.specs.List.{fold}
use Rattle.lt_format.specs.Trie.{table_total}
use Rattle.lt_node.proofs.ApplyLaws.{applied}
use Rattle.lt_node.proofs.trie.Trie.apply.Goals as goal

pub count_tables-self-inside-requires : goal.count_tables-self-inside-requires
count_tables-self-inside-requires c =
    let made = c.set_all.ensures ∙ ap (λ t. fold with_entry t c.in_ok-entries.entries.items) c.in_ok-reserve.ensures.items in
    let done = applied c.args.self.now (change_of c.args.change.now) c.self.inside.levels c.self.inside.nodes.items c.set_all.new.nodes.items c.in_ok-entries.entries.items c.self.view_is c.self.invariant.shape c.requires c.in_ok-entries.ensures made in
    subst (λ t. table_total t ≤ 65536) (sym c.deref.ensures.value) done.few

pub invariant_of-self-2 : goal.invariant_of-self-2
invariant_of-self-2 c =
    let made = c.set_all.ensures ∙ ap (λ t. fold with_entry t c.in_ok-entries.entries.items) c.in_ok-reserve.ensures.items in
    let done = applied c.args.self.now (change_of c.args.change.now) c.self.inside.levels c.self.inside.nodes.items c.set_all.new.nodes.items c.in_ok-entries.entries.items c.self.view_is c.self.invariant.shape c.requires c.in_ok-entries.ensures made in
    record { shape = done.shape; tables = c.count_tables-self-inside.ensures ∙ ap table_total c.deref.ensures.value }

pub returns-clause-ok : goal.returns-clause-ok
returns-clause-ok c =
    let made = c.set_all.ensures ∙ ap (λ t. fold with_entry t c.in_ok-entries.entries.items) c.in_ok-reserve.ensures.items in
    let done = applied c.args.self.now (change_of c.args.change.now) c.self.inside.levels c.self.inside.nodes.items c.set_all.new.nodes.items c.in_ok-entries.entries.items c.self.view_is c.self.invariant.shape c.requires c.in_ok-entries.ensures made in
    done.is
