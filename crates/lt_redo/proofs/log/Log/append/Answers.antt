use Rattle.std.proofs.Common.{List, [], ◌∷◌, ◌++◌, ap, ◌∙◌}
use Rattle.lt_terms.specs.Items.{Item}
use Rattle.lt_item.specs.Views.{item_of}
use Rattle.lt_redo.specs.LogState.{LogState}
use Rattle.lt_redo.proofs.GroupLaws.{IsGathered-read, items_on-gathered}
use Rattle.lt_redo.proofs.log.Log.append.Goals as goal

pub invariant_of-self : goal.invariant_of-self
invariant_of-self c =
    let kept = c.self.invariant in
    record {
      place = kept.place;
      group = IsGathered-read _ _ _ _ (c.gather-self-inside.ensures.gathered _ _ kept.group);
      opens = kept.opens;
      closes = kept.closes;
    }

pub returns-clause-ok : goal.returns-clause-ok
returns-clause-ok c =
    let i = c.self.inside in
    ap (λ (items : List Item). record { geometry = i.geometry; area = i.area; writes = i.writes; slots = i.slots; pending = items; cleared = i.cleared }) (items_on-gathered _ _ _ _ (c.gather-self-inside.ensures.gathered _ _ c.self.invariant.group))
    ∙ ap (λ (s : LogState). record s { pending = s.pending ++ item_of c.args.item.now ∷ [] }) c.self.view_is
