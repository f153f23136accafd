use Rattle.std.proofs.Common.{◌≤◌, subst, arith}
use Rattle.lt_device.specs.State.{State}
use Rattle.lt_device.specs.Moments.{ConfinedTo}
use Rattle.lt_device.proofs.Runs.{confined_within}
use Rattle.lt_format.specs.declared.geometry.Geometry.{Geometry}
use Rattle.lt_format.specs.Layout.{blocks_needed}
use Rattle.lt_store.specs.Making.{InFresh}
use Rattle.lt_store.proofs.MakingLaws.{super-inside, IsFresh-of}
use Rattle.lt_store.proofs.making.init.Goals as goal

pub returns-clause-fresh : goal.returns-clause-fresh
returns-clause-fresh g c = λ flags told.
    let geometry : Geometry = record { levels = c.args.levels; slots = c.args.slots } in
    let room : blocks_needed geometry c.args.extents ≤ g.D.Device.blocks c.write_regions.new.device =
    omega (arith, c.needed-needed.ensures, c.blocks-has.ensures.value, c.if-has-needed.false, c.is_vacant.ensures.calls.size, c.write_regions.ensures.calls.size) in
    IsFresh-of geometry c.args.extents (g.D.Device.blocks c.write_regions.new.device) (g.D.Device.state c.write_regions.new.device) (g.D.Device.state c.write_superblock.new.device) c.requires.geometry (omega (arith, room)) room
    c.in_ok-write_regions.ensures.regions c.in_ok-write_superblock.ensures.fit c.in_ok-write_superblock.ensures.written flags told

pub returns-in_err-write_superblock-clause-confined : goal.returns-in_err-write_superblock-clause-confined
returns-in_err-write_superblock-clause-confined g c =
    let geometry : Geometry = record { levels = c.args.levels; slots = c.args.slots } in
    confined_within c.write_superblock.ensures.confined (subst (λ (s : State). ConfinedTo (InFresh geometry) s (g.D.Device.state c.write_regions.new.device)) c.is_vacant.ensures.calls.state c.write_regions.ensures.confined) (super-inside geometry)

pub returns-clause-confined : goal.returns-clause-confined
returns-clause-confined g c =
    let geometry : Geometry = record { levels = c.args.levels; slots = c.args.slots } in
    confined_within c.write_superblock.ensures.confined (subst (λ (s : State). ConfinedTo (InFresh geometry) s (g.D.Device.state c.write_regions.new.device)) c.is_vacant.ensures.calls.state c.write_regions.ensures.confined) (super-inside geometry)
