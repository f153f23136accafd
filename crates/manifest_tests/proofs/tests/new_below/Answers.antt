use Rattle.std.proofs.Common.{sym, ap, ◌∙◌, ◌&&◌, List}
use Rattle.std.specs.List.{list_all}
use Rattle.lt_format.specs.Trie.{all_below}
use Rattle.lt_format.specs.Changes.{new_extents}
use Rattle.lt_node.specs.declared.change.Change.{Change}
use Rattle.lt_node.specs.declared.change.ChildChange.{ChildChange}
use Rattle.lt_node.specs.Changing.{change_of}
use Rattle.manifest_tests.proofs.ChangeLaws.{children_below}
use Rattle.manifest_tests.proofs.tests.new_below.Goals as goal

pub returns-in-Deal : goal.returns-in-Deal
returns-in-Deal c =
    c.children_below.ensures ∙ ap (λ (cs : List ChildChange). list_all (λ (d : ChildChange). all_below c.args.limit d.tables && all_below c.args.limit d.groups) cs) c.list-in-Deal.ensures
    ∙ children_below c.args.limit c.in-Deal.children ∙ ap (λ (change : Change). all_below c.args.limit (new_extents (change_of change))) (sym c.in-Deal.is)
