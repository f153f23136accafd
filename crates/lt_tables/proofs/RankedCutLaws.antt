-- The tables of a cut of items in rank order are in rank order.
use Rattle.std.proofs.Common.{◌≡◌, subst, List}
use Rattle.std.specs.Prelude.{T, All, IsTrue, map}
use Rattle.std.specs.List.{AllByRecursion}
use Rattle.std.proofs.lemmas.List.Elements.{All-from_recursion, recursion_from_All}
use Rattle.lt_terms.specs.Items.{Item, is_valid}
use Rattle.lt_tables.specs.Cut.{cut, cut_counts}
use Rattle.lt_tables.specs.Table.{newest}
use Rattle.lt_tables.specs.Placement.{entry_of}
use Rattle.lt_tables.proofs.RankedLaws.{is_ranked, ranked-newest, newest-ranked, ranked-take, ranked-drop, pieces_all}
use Rattle.lt_tables.proofs.ListLaws.{all_take, all_drop, all_weaker}

pub cut-ranked : (items : List Item) → newest items ≡ items → All (λ table. newest table ≡ table) (cut items)
cut-ranked items own =
    All-from_recursion (λ table. newest table ≡ table) (cut items)
    (all_weaker (λ table. T (is_ranked table)) (λ table. newest table ≡ table) ranked-newest (cut items)
    (pieces_all (λ table. T (is_ranked table)) ranked-take ranked-drop (cut_counts (map entry_of items)) items (subst (λ xs. T (is_ranked xs)) own (newest-ranked items))))

pub cut-valid : (items : List Item) → All (λ item. IsTrue (is_valid item)) items → All (λ table. All (λ item. IsTrue (is_valid item)) table) (cut items)
cut-valid items valid =
    All-from_recursion (λ table. All (λ item. IsTrue (is_valid item)) table) (cut items)
    (all_weaker (AllByRecursion (λ item. IsTrue (is_valid item))) (λ table. All (λ item. IsTrue (is_valid item)) table) (λ table all. All-from_recursion (λ item. IsTrue (is_valid item)) table all) (cut items)
    (pieces_all (AllByRecursion (λ item. IsTrue (is_valid item))) (λ n xs. all_take _ n xs) (λ n xs. all_drop _ n xs) (cut_counts (map entry_of items)) items (recursion_from_All (λ item. IsTrue (is_valid item)) items valid)))
