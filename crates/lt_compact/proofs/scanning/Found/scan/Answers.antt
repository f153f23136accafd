use Rattle.std.proofs.Common.{ap, ◌∙◌, ◌+◌, ◌++◌, ◌∷◌, []}
use Rattle.std.specs.List.{flat_map}
use Rattle.lt_compact.specs.Jobs.{found_in}
use Rattle.lt_compact.specs.Scanning.{found_with}
use Rattle.lt_compact.proofs.FoundLaws.{flat_behind, found-more}
use Rattle.lt_compact.proofs.scanning.Found.scan.Goals as goal

pub returns-clause-found : goal.returns-clause-found
returns-clause-found g c = record {
  items = c.in_ok-items.items.items;
  told = c.in_ok-items.ensures.shown;
  is = ap (λ xs. found_in (c.self.inside.scanned + 1) (flat_map (λ list. list.items) xs) c.self.inside.loose) (c.push_reserved.ensures.items ∙ ap (λ xs. xs ++ c.in_ok-items.items ∷ []) c.reserve.ensures.items)
      ∙ ap (λ xs. found_in (c.self.inside.scanned + 1) xs c.self.inside.loose) (flat_behind (λ list. list.items) c.self.inside.lists.items c.in_ok-items.items)
      ∙ found-more c.self.inside.scanned (flat_map (λ list. list.items) c.self.inside.lists.items) c.in_ok-items.items.items c.self.inside.loose
      ∙ ap (λ f. found_with f c.in_ok-items.items.items) c.self.view_is;
}
