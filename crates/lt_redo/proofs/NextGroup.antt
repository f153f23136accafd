-- The open group as the next one of a log.
use Rattle.std.proofs.Common.{◌≡◌, ℕ, ◌+◌, ◌<◌, List, [], ◌∷◌, ◌++◌, ap, ◌∙◌, refl, length, IsTrue, arith}
use Rattle.lt_terms.specs.Items.{Item}
use Rattle.lt_format.specs.declared.geometry.Geometry.{Geometry}
use Rattle.lt_format.specs.Log.{group_page, group_on, log_fits, items_in}
use Rattle.lt_redo.specs.Group.{IsGathered}
use Rattle.lt_redo.specs.LogState.{slots_with, groups_with}
use Rattle.lt_redo.specs.Slots.{MayFollow}
use Rattle.lt_redo.proofs.GroupLaws.{group_on-group_page}

-- a group that is gathered and not empty
pub some_items : (page : List ℕ) (count used : ℕ) (items : List Item) → IsGathered page count used items → (count ≡ 0 → ⊥) → 0 < length items
some_items page count used items g some = let e = g.count_is in omega arith

pub next_group : (geometry : Geometry) (writes : ℕ) (page content : List ℕ) (count used : ℕ) (groups : List (List Item)) (items : List Item) → IsGathered page count used items → (count ≡ 0 → ⊥) → content ≡ group_page items
    → length groups < geometry.slots → IsTrue (log_fits writes (items_in (groups ++ items ∷ []))) → MayFollow geometry writes groups items content
next_group geometry writes page content count used groups items g some is room fits =
    let count_is = g.count_is in
    let used_is = g.used_is in
    let few = g.few in
    let within = g.room in
    record {
      room = room;
      spelled = ap group_on is ∙ group_on-group_page items g.valid (some_items page count used items g some) (omega arith) (omega arith);
      fits = fits;
    }

-- a group that is not empty takes a slot
pub slots_with-some : (slots : ℕ) (items : List Item) → 0 < length items → slots_with slots items ≡ slots + 1
slots_with-some slots [] some = absurd (omega arith)
slots_with-some slots (item ∷ items) some = refl

pub groups_with-some : (groups : List (List Item)) (items : List Item) → 0 < length items → groups_with groups items ≡ groups ++ items ∷ []
groups_with-some groups [] some = absurd (omega arith)
groups_with-some groups (item ∷ items) some = refl
