use Rattle.std.proofs.Common.{sym, ap, ◌∙◌}
use Rattle.lt_item.specs.Views.{item_of}
use Rattle.lt_terms.proofs.ItemLaws.{value_short}
use Rattle.lt_search.specs.declared.version.Version.TheVariants.{Value}
use Rattle.lt_search.proofs.FoundLaws.{page_with-put, version_of-put}
use Rattle.lt_search.proofs.version.show.Goals as goal

pub returns-in-Put-clause-version : goal.returns-in-Put-clause-version
returns-in-Put-clause-version c = ap Value c.put_front.ensures.len ∙ sym (version_of-put (item_of c.args.item.now) c.in-Put.is)

pub returns-in-Put-clause-page : goal.returns-in-Put-clause-page
returns-in-Put-clause-page c = c.put_front.ensures.page ∙ sym (page_with-put (item_of c.args.item.now) c.args.out.now c.in-Put.is)

pub put_front-requires : goal.put_front-requires
put_front-requires c = value_short (item_of c.args.item.now) c.requires
