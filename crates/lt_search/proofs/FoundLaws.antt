-- What is told of an item that was found.
use Rattle.std.proofs.Common.{◌≡◌, ℕ, ap, List, length, Bool, true, false, cond}
use Rattle.lt_terms.specs.declared.Kind.{Kind}
use Rattle.lt_terms.specs.declared.Kind.TheVariants.{Put, Delete}
use Rattle.lt_terms.specs.Items.{Item}
use Rattle.lt_tables.specs.Table.{is_put}
use Rattle.lt_search.specs.declared.version.Version.TheVariants.{Value, Deleted}
use Rattle.lt_search.specs.Found.{page_with, version_of, with_value}

put_is : (item : Item) → item.kind ≡ Put → is_put item ≡ true
put_is item h = ap (λ (k : Kind). elim k [ Put ↦ true | Delete ↦ false ]) h

pub version_of-put : (item : Item) → item.kind ≡ Put → version_of item ≡ Value (length item.value)
version_of-put item h = ap (λ (b : Bool). cond b (Value (length item.value)) Deleted) (put_is item h)

pub page_with-put : (item : Item) (page : List ℕ) → item.kind ≡ Put → page_with item page ≡ with_value page item.value
page_with-put item page h = ap (λ (b : Bool). cond b (with_value page item.value) page) (put_is item h)
