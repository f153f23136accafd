use Rattle.std.proofs.Common.{rules, ◌≡◌, ℕ, refl, ap, subst, List, Ok, Err, Some, None, Option}
use Rattle.std.specs.Option.{option_map}
use Rattle.lt_terms.specs.Bytes.{Image}
use Rattle.lt_terms.specs.Items.{Item}
use Rattle.lt_item.specs.Views.{item_of}
use Rattle.lt_htable.specs.declared.faults.LookFault.{LookFault}
use Rattle.lt_htable.specs.declared.faults.LookFault.TheVariants.{Device, Damaged}
use Rattle.lt_htable.specs.Reading.{AnswersLook, IsLookedUp}
use Rattle.lt_search.specs.Seen.{IsSeen, seen_in}
use Rattle.lt_search.proofs.LookLaws.{counts-look, damaged-seen, found-seen, looked_up-damaged, looked_up-valid}
use Rattle.lt_search.proofs.SearchLaws.{device-seen}
use Rattle.lt_search.proofs.tables.look_into.Goals as goal

pub show-requires : goal.show-requires
show-requires g c =
    looked_up-valid _ c.args.first c.args.key.now (item_of c.in-Ok-Some.item)
    (subst (λ (o : Option Item). IsLookedUp (g.D.Device.state c.args.device.now).shown c.args.first c.args.key.now (Ok o)) (ap (option_map item_of) c.in-Ok-Some.field-0-is) c.in-Ok-Some.ensures.answer)

pub returns-in-Ok-Some-clause-seen : goal.returns-in-Ok-Some-clause-seen
returns-in-Ok-Some-clause-seen g c = λ image told.
    found-seen _ image c.args.first c.args.key.now (Some (item_of c.in-Ok-Some.item)) (Some c.show.result) c.args.out.now c.show.new.out told
    (subst (λ (o : Option Item). IsLookedUp (g.D.Device.state c.args.device.now).shown c.args.first c.args.key.now (Ok o)) (ap (option_map item_of) c.in-Ok-Some.field-0-is) c.in-Ok-Some.ensures.answer) (c.show.ensures.version, c.show.ensures.page)

pub returns-in-Ok-None-clause-seen : goal.returns-in-Ok-None-clause-seen
returns-in-Ok-None-clause-seen g c = λ image told.
    found-seen _ image c.args.first c.args.key.now None None c.args.out.now c.args.out.now told
    (subst (λ (o : Option Item). IsLookedUp (g.D.Device.state c.args.device.now).shown c.args.first c.args.key.now (Ok o)) (ap (option_map item_of) c.in-Ok-None.field-0-is) c.in-Ok-None.ensures.answer) refl

fault-seen : (fault : LookFault) (shown : Option Image) (image : Image) (first : ℕ) (key old new : List ℕ) → shown ≡ Some image → AnswersLook shown first key (Err fault) → IsSeen (seen_in image first key) (Err fault) old new
fault-seen Device shown image first key old new told looked = device-seen (seen_in image first key) old new
fault-seen (Damaged block) shown image first key old new told looked = damaged-seen shown image first key block old new told looked

pub returns-in-Err-clause-seen : goal.returns-in-Err-clause-seen
returns-in-Err-clause-seen g c = λ image told. fault-seen c.in-Err.fault _ image c.args.first c.args.key.now c.args.out.now c.args.out.now told c.in-Err.ensures.answer

pub returns-in-Ok-Some-clause-reads : goal.returns-in-Ok-Some-clause-reads
returns-in-Ok-Some-clause-reads g c = λ image told. counts-look image c.args.first c.args.key.now _ _ c.look.ensures.calls.count (c.look.ensures.once image told)

pub returns-in-Ok-None-clause-reads : goal.returns-in-Ok-None-clause-reads
returns-in-Ok-None-clause-reads g c = λ image told. counts-look image c.args.first c.args.key.now _ _ c.look.ensures.calls.count (c.look.ensures.once image told)

pub returns-in-Err-clause-reads : goal.returns-in-Err-clause-reads
returns-in-Err-clause-reads g c = λ image told. counts-look image c.args.first c.args.key.now _ _ c.look.ensures.calls.count (c.look.ensures.once image told)

pub returns-in-Err-clause-ends : goal.returns-in-Err-clause-ends
returns-in-Err-clause-ends g c = record {
  short = search rules;
  page = search rules;
  damaged = search rules;
  damaged_block = λ b is.
      let damaged : c.look.result ≡ Err (Damaged b) = cc (c.in-Err.is, is) in
      let found = looked_up-damaged _ c.args.first c.args.key.now b (rw damaged at c.look.ensures.answer) in
      (found.column, found.within, found.is);
}
