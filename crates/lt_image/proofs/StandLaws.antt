-- An image that stands for a state goes on standing for it after a flush.
use Rattle.std.proofs.Common.{◌≡◌, ℕ, suc, ◌-◌, ◌≤◌, List, [], ◌∙◌, Ok, subst, arith}
use Rattle.lt_terms.specs.Bytes.{Image}
use Rattle.lt_language.specs.Machine.{State}
use Rattle.lt_image.specs.Versions.{Opened, open_image, number_of, map_of}
use Rattle.lt_image.specs.Standing.{bad_blocks, Stands}
use Rattle.lt_image.specs.After.{Flushes}
use Rattle.lt_image.proofs.OpenLaws.{opened-same, opens-well, log_items-valid}
use Rattle.lt_image.proofs.WholeLaws.{flush-sound, flush-keeps}

-- what an image stands for, by what it opens as
pub record StandsAs (image : Image) (o : Opened) (s : State) : Type 0 where
  pub sound : bad_blocks o image ≡ []
  pub map : map_of o image ≡ s.map
  pub writes : number_of o ≡ s.writes

pub stands-as : (image : Image) (o : Opened) (s : State) → open_image image ≡ Ok o → Stands image s → StandsAs image o s
stands-as image o s opens st = subst (λ q. StandsAs image q s) (opened-same image st.opened o st.opens opens) (record { sound = st.sound; map = st.map; writes = st.writes })

pub as-stands : (image : Image) (o : Opened) (s : State) → open_image image ≡ Ok o → StandsAs image o s → Stands image s
as-stands image o s opens st = record { opened = o; opens = opens; sound = st.sound; map = st.map; writes = st.writes }

pub opened-flush-sound : (old new : Image) (o p : Opened) (tables : List ℕ) → open_image old ≡ Ok o → bad_blocks o old ≡ [] → Flushes o p old new tables → bad_blocks p new ≡ []
opened-flush-sound old new o p tables opens sound f = flush-sound o p old new tables f (opens-well old o opens).bare (log_items-valid old o opens) sound

pub opened-flush-keeps : (old new : Image) (o p : Opened) (tables : List ℕ) → open_image old ≡ Ok o → bad_blocks o old ≡ [] → Flushes o p old new tables → map_of p new ≡ map_of o old
opened-flush-keeps old new o p tables opens sound f =
    let well = opens-well old o opens in
    let deep : 2 ≤ o.named.geometry.levels = well.levels in
    let levels : o.named.geometry.levels ≡ suc (o.named.geometry.levels - 1) = omega arith in
    flush-keeps o p old new tables (o.named.geometry.levels - 1) f levels well.rising well.bare (log_items-valid old o opens) sound

pub flush-stands : (old new : Image) (o p : Opened) (tables : List ℕ) (s : State) → open_image old ≡ Ok o → open_image new ≡ Ok p → Stands old s → Flushes o p old new tables → number_of p ≡ number_of o → Stands new s
flush-stands old new o p tables s opens_old opens_new st f number =
    let before = stands-as old o s opens_old st in
    as-stands new p s opens_new (record {
      sound = opened-flush-sound old new o p tables opens_old before.sound f;
      map = opened-flush-keeps old new o p tables opens_old before.sound f ∙ before.map;
      writes = number ∙ before.writes;
    })
