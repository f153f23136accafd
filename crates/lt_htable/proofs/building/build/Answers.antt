use Rattle.std.proofs.Common.{◌≡◌, ℕ, ◌<◌, subst, ◌∙◌, List, arith}
use Rattle.lt_device.specs.State.{State, written}
use Rattle.lt_terms.specs.Items.{Item}
use Rattle.lt_device.proofs.Runs.{confined_writes}
use Rattle.lt_tables.specs.Filter.{filter_block}
use Rattle.lt_htable.specs.Building.{InExtent}
use Rattle.lt_htable.proofs.WriteLaws.{placed-whole}
use Rattle.lt_htable.proofs.building.build.Goals as goal

pub returns-in_err-write-clause-confined : goal.returns-in_err-write-clause-confined
returns-in_err-write-clause-confined g c =
    let inside : InExtent c.args.first c.block_in.result = (omega (arith, c.block_in.ensures), omega (arith, c.block_in.ensures)) in
    confined_writes c.write.ensures.wrote c.write_buckets.ensures.confined inside

pub returns-clause-confined : goal.returns-clause-confined
returns-clause-confined g c =
    let inside : InExtent c.args.first c.block_in.result = (omega (arith, c.block_in.ensures), omega (arith, c.block_in.ensures)) in
    confined_writes c.write.ensures.wrote c.write_buckets.ensures.confined inside

pub returns-clause-placed : goal.returns-clause-placed
returns-clause-placed g c = λ image shown.
    let items : List Item = c.args.items.now in
    let old : State = g.D.Device.state c.write_buckets.new.device in
    let new : State = g.D.Device.state c.write.new.self in
    let page : c.page-2.result.now ≡ filter_block items = c.page-2.ensures ∙ c.in_ok-filters.ensures in
    let is : new ≡ written old c.block_in.result (filter_block items) = subst (λ (p : List ℕ). new ≡ written old c.block_in.result p) page c.in_ok-write.ensures.ok in
    let below : c.block_in.result < g.D.Device.blocks c.write_buckets.new.device = omega (arith, c.block_in.ensures, c.write_buckets.ensures.calls.size, c.requires.within) in
    placed-whole c.in_ok-placement.placement items c.args.first (g.D.Device.blocks c.write_buckets.new.device) c.block_in.result old new c.block_in.ensures below c.write.ensures.wrote.fit is c.in_ok-placement.ensures.placement c.in_ok-write_buckets.ensures.buckets image shown
