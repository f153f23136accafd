use Rattle.std.proofs.Common.{refl, ap, Bool, List, Option}
use Rattle.lt_device.specs.State.{State}
use Rattle.lt_terms.specs.Bytes.{Image}
use Rattle.lt_format.specs.declared.geometry.Geometry.{Geometry}
use Rattle.lt_format.specs.Trie.{Trie}
use Rattle.lt_compact.specs.declared.step.Stepped.{Stepped}
use Rattle.lt_compact.specs.Steps.{Advances, InExtents, next_extents}
use Rattle.lt_compact.proofs.AdvanceLaws.{step-keeps, step-shaped}
use Rattle.lt_compact.proofs.TurnLaws.{at-all, at-three, may-fill, on-err, one-left, only-read, same-confined, same-shows, sources-within}
use Rattle.lt_compact.proofs.CountLaws.{step-counts}
use Rattle.lt_compact.proofs.ReservedLaws.{step-length, step-reserved}
use Rattle.lt_compact.proofs.job.Job.step.Goals as goal

pub returns-in-Scan-clause-next : goal.returns-in-Scan-clause-next
returns-in-Scan-clause-next g c = at-all (λ (nodes : Trie) (taken : List Bool) (stepped : Stepped). Advances c.args.geometry.now (g.D.Device.state c.args.device.now).shown (g.D.Device.state c.scan_table.new.device).shown nodes taken taken c.args.self.now c.scan_table.new.self stepped) c.args.trie.now.nodes c.args.extents.now c.scan_table.result c.scan_table.ensures.next

pub returns-in-Scan-clause-goes : goal.returns-in-Scan-clause-goes
returns-in-Scan-clause-goes g c =
    let r = step-reserved c.args.geometry.now (g.D.Device.state c.args.device.now).shown (g.D.Device.state c.scan_table.new.device).shown c.args.trie.now.nodes c.args.extents.now c.args.extents.now c.args.self.now c.scan_table.new.self c.scan_table.result (returns-in-Scan-clause-next g c) c.scan_table.ensures.unchanged (on-err c.scan_table.result refl) (record { taken_all = c.requires.goes.reserved; apart = c.requires.goes.apart }) in
    record {
      shaped = step-shaped c.args.geometry.now (g.D.Device.state c.args.device.now).shown (g.D.Device.state c.scan_table.new.device).shown c.args.trie.now.nodes c.args.extents.now c.args.extents.now c.args.self.now c.scan_table.new.self c.scan_table.result (record { next = returns-in-Scan-clause-next g c; unchanged = c.scan_table.ensures.unchanged }) c.requires.goes.shaped;
      reserved = r.taken_all;
      apart = r.apart;
    }

pub returns-in-Scan-clause-keeps : goal.returns-in-Scan-clause-keeps
returns-in-Scan-clause-keeps g c = λ m before image geometry trie was shown keeps.
    step-keeps m before image (g.D.Device.state c.args.device.now).shown (g.D.Device.state c.scan_table.new.device).shown c.args.extents.now c.args.extents.now c.args.self.now c.scan_table.new.self c.scan_table.result c.args.geometry.now c.args.trie.now.nodes geometry trie was shown (same-shows (InExtents c.args.geometry.now (next_extents c.args.self.now.stage)) (g.D.Device.state c.args.device.now) (g.D.Device.state c.scan_table.new.device) c.scan_table.ensures.calls.state) (record { next = returns-in-Scan-clause-next g c; unchanged = c.scan_table.ensures.unchanged }) c.requires.goes.shaped c.requires.goes.apart keeps

pub returns-in-Scan-clause-touches : goal.returns-in-Scan-clause-touches
returns-in-Scan-clause-touches g c = record {
  confined = same-confined _ _ c.scan_table.ensures.calls.state;
  others = same-shows (InExtents c.args.geometry.now (next_extents c.args.self.now.stage)) (g.D.Device.state c.args.device.now) (g.D.Device.state c.scan_table.new.device) c.scan_table.ensures.calls.state;
  no_sync = ap (λ (s : State). s.past) c.scan_table.ensures.calls.state;
}

pub returns-in-Scan-clause-calls : goal.returns-in-Scan-clause-calls
returns-in-Scan-clause-calls g c = only-read c.scan_table.ensures.calls

pub returns-in-Plan-clause-next : goal.returns-in-Plan-clause-next
returns-in-Plan-clause-next g c = at-three (λ (gg : Geometry) (shown : Option Image) (taken : List Bool) (stepped : Stepped). Advances gg shown shown c.args.trie.now.nodes taken taken c.args.self.now c.plan_shares.new.self stepped) c.args.geometry.now (g.D.Device.state c.args.device.now).shown c.args.extents.now c.plan_shares.result c.plan_shares.ensures.next

pub returns-in-Plan-clause-goes : goal.returns-in-Plan-clause-goes
returns-in-Plan-clause-goes g c =
    let r = step-reserved c.args.geometry.now (g.D.Device.state c.args.device.now).shown (g.D.Device.state c.args.device.now).shown c.args.trie.now.nodes c.args.extents.now c.args.extents.now c.args.self.now c.plan_shares.new.self c.plan_shares.result (returns-in-Plan-clause-next g c) c.plan_shares.ensures.unchanged (on-err c.plan_shares.result refl) (record { taken_all = c.requires.goes.reserved; apart = c.requires.goes.apart }) in
    record {
      shaped = step-shaped c.args.geometry.now (g.D.Device.state c.args.device.now).shown (g.D.Device.state c.args.device.now).shown c.args.trie.now.nodes c.args.extents.now c.args.extents.now c.args.self.now c.plan_shares.new.self c.plan_shares.result (record { next = returns-in-Plan-clause-next g c; unchanged = c.plan_shares.ensures.unchanged }) c.requires.goes.shaped;
      reserved = r.taken_all;
      apart = r.apart;
    }

pub returns-in-Plan-clause-keeps : goal.returns-in-Plan-clause-keeps
returns-in-Plan-clause-keeps g c = λ m before image geometry trie was shown keeps.
    step-keeps m before image (g.D.Device.state c.args.device.now).shown (g.D.Device.state c.args.device.now).shown c.args.extents.now c.args.extents.now c.args.self.now c.plan_shares.new.self c.plan_shares.result c.args.geometry.now c.args.trie.now.nodes geometry trie was shown (same-shows (InExtents c.args.geometry.now (next_extents c.args.self.now.stage)) (g.D.Device.state c.args.device.now) (g.D.Device.state c.args.device.now) refl) (record { next = returns-in-Plan-clause-next g c; unchanged = c.plan_shares.ensures.unchanged }) c.requires.goes.shaped c.requires.goes.apart keeps

pub returns-in-Plan-clause-touches : goal.returns-in-Plan-clause-touches
returns-in-Plan-clause-touches g c = record {
  confined = same-confined _ _ refl;
  others = same-shows (InExtents c.args.geometry.now (next_extents c.args.self.now.stage)) (g.D.Device.state c.args.device.now) (g.D.Device.state c.args.device.now) refl;
  no_sync = refl;
}

pub returns-in-Take-clause-next : goal.returns-in-Take-clause-next
returns-in-Take-clause-next g c = at-three (λ (gg : Geometry) (shown : Option Image) (nodes : Trie) (stepped : Stepped). Advances gg shown shown nodes c.args.extents.now c.take_extents.new.extents c.args.self.now c.take_extents.new.self stepped) c.args.geometry.now (g.D.Device.state c.args.device.now).shown c.args.trie.now.nodes c.take_extents.result c.take_extents.ensures.next

pub returns-in-Take-clause-goes : goal.returns-in-Take-clause-goes
returns-in-Take-clause-goes g c =
    let r = step-reserved c.args.geometry.now (g.D.Device.state c.args.device.now).shown (g.D.Device.state c.args.device.now).shown c.args.trie.now.nodes c.args.extents.now c.take_extents.new.extents c.args.self.now c.take_extents.new.self c.take_extents.result (returns-in-Take-clause-next g c) c.take_extents.ensures.unchanged (c.take_extents.ensures.extents) (record { taken_all = c.requires.goes.reserved; apart = c.requires.goes.apart }) in
    record {
      shaped = step-shaped c.args.geometry.now (g.D.Device.state c.args.device.now).shown (g.D.Device.state c.args.device.now).shown c.args.trie.now.nodes c.args.extents.now c.take_extents.new.extents c.args.self.now c.take_extents.new.self c.take_extents.result (record { next = returns-in-Take-clause-next g c; unchanged = c.take_extents.ensures.unchanged }) c.requires.goes.shaped;
      reserved = r.taken_all;
      apart = r.apart;
    }

pub returns-in-Take-clause-keeps : goal.returns-in-Take-clause-keeps
returns-in-Take-clause-keeps g c = λ m before image geometry trie was shown keeps.
    step-keeps m before image (g.D.Device.state c.args.device.now).shown (g.D.Device.state c.args.device.now).shown c.args.extents.now c.take_extents.new.extents c.args.self.now c.take_extents.new.self c.take_extents.result c.args.geometry.now c.args.trie.now.nodes geometry trie was shown (same-shows (InExtents c.args.geometry.now (next_extents c.args.self.now.stage)) (g.D.Device.state c.args.device.now) (g.D.Device.state c.args.device.now) refl) (record { next = returns-in-Take-clause-next g c; unchanged = c.take_extents.ensures.unchanged }) c.requires.goes.shaped c.requires.goes.apart keeps

pub returns-in-Take-clause-count : goal.returns-in-Take-clause-count
returns-in-Take-clause-count g c = step-length c.args.geometry.now (g.D.Device.state c.args.device.now).shown (g.D.Device.state c.args.device.now).shown c.args.trie.now.nodes c.args.extents.now c.take_extents.new.extents c.args.self.now c.take_extents.new.self c.take_extents.result (returns-in-Take-clause-next g c) c.take_extents.ensures.extents

pub returns-in-Take-clause-touches : goal.returns-in-Take-clause-touches
returns-in-Take-clause-touches g c = record {
  confined = same-confined _ _ refl;
  others = same-shows (InExtents c.args.geometry.now (next_extents c.args.self.now.stage)) (g.D.Device.state c.args.device.now) (g.D.Device.state c.args.device.now) refl;
  no_sync = refl;
}

pub returns-in-Fill-clause-next : goal.returns-in-Fill-clause-next
returns-in-Fill-clause-next g c = at-all (λ (nodes : Trie) (taken : List Bool) (stepped : Stepped). Advances c.args.geometry.now (g.D.Device.state c.args.device.now).shown (g.D.Device.state c.fill_extent.new.device).shown nodes taken taken c.args.self.now c.fill_extent.new.self stepped) c.args.trie.now.nodes c.args.extents.now c.fill_extent.result c.fill_extent.ensures.next

pub returns-in-Fill-clause-goes : goal.returns-in-Fill-clause-goes
returns-in-Fill-clause-goes g c =
    let r = step-reserved c.args.geometry.now (g.D.Device.state c.args.device.now).shown (g.D.Device.state c.fill_extent.new.device).shown c.args.trie.now.nodes c.args.extents.now c.args.extents.now c.args.self.now c.fill_extent.new.self c.fill_extent.result (returns-in-Fill-clause-next g c) c.fill_extent.ensures.unchanged (on-err c.fill_extent.result refl) (record { taken_all = c.requires.goes.reserved; apart = c.requires.goes.apart }) in
    record {
      shaped = step-shaped c.args.geometry.now (g.D.Device.state c.args.device.now).shown (g.D.Device.state c.fill_extent.new.device).shown c.args.trie.now.nodes c.args.extents.now c.args.extents.now c.args.self.now c.fill_extent.new.self c.fill_extent.result (record { next = returns-in-Fill-clause-next g c; unchanged = c.fill_extent.ensures.unchanged }) c.requires.goes.shaped;
      reserved = r.taken_all;
      apart = r.apart;
    }

pub returns-in-Fill-clause-keeps : goal.returns-in-Fill-clause-keeps
returns-in-Fill-clause-keeps g c = λ m before image geometry trie was shown keeps.
    step-keeps m before image (g.D.Device.state c.args.device.now).shown (g.D.Device.state c.fill_extent.new.device).shown c.args.extents.now c.args.extents.now c.args.self.now c.fill_extent.new.self c.fill_extent.result c.args.geometry.now c.args.trie.now.nodes geometry trie was shown (c.fill_extent.ensures.touches.others) (record { next = returns-in-Fill-clause-next g c; unchanged = c.fill_extent.ensures.unchanged }) c.requires.goes.shaped c.requires.goes.apart keeps

pub scan_table-requires-clause-within : goal.scan_table-requires-clause-within
scan_table-requires-clause-within g c = sources-within c.args.geometry.now c.args.trie.now.nodes c.args.extents.now _ c.args.self.now c.requires.goes.shaped c.requires.goes.reserved c.requires.within

pub fill_extent-requires-clause-next : goal.fill_extent-requires-clause-next
fill_extent-requires-clause-next g c = record {
  left = one-left c.args.geometry.now.levels c.args.trie.now.nodes c.args.self.now c.requires.goes.shaped c.requires.not_ready;
  may = may-fill c.args.geometry.now c.args.trie.now.nodes c.args.extents.now _ c.args.self.now c.requires.goes.shaped c.requires.goes.reserved c.requires.goes.apart c.requires.within;
}

pub returns-in-Scan-clause-made : goal.returns-in-Scan-clause-made
returns-in-Scan-clause-made g c = step-counts c.args.geometry.now (g.D.Device.state c.args.device.now).shown (g.D.Device.state c.scan_table.new.device).shown c.args.trie.now.nodes c.args.extents.now c.args.extents.now c.args.self.now c.scan_table.new.self c.scan_table.result (returns-in-Scan-clause-next g c) c.requires.goes.shaped

pub returns-in-Plan-clause-made : goal.returns-in-Plan-clause-made
returns-in-Plan-clause-made g c = step-counts c.args.geometry.now (g.D.Device.state c.args.device.now).shown (g.D.Device.state c.args.device.now).shown c.args.trie.now.nodes c.args.extents.now c.args.extents.now c.args.self.now c.plan_shares.new.self c.plan_shares.result (returns-in-Plan-clause-next g c) c.requires.goes.shaped

pub returns-in-Take-clause-made : goal.returns-in-Take-clause-made
returns-in-Take-clause-made g c = step-counts c.args.geometry.now (g.D.Device.state c.args.device.now).shown (g.D.Device.state c.args.device.now).shown c.args.trie.now.nodes c.args.extents.now c.take_extents.new.extents c.args.self.now c.take_extents.new.self c.take_extents.result (returns-in-Take-clause-next g c) c.requires.goes.shaped

pub returns-in-Fill-clause-made : goal.returns-in-Fill-clause-made
returns-in-Fill-clause-made g c = step-counts c.args.geometry.now (g.D.Device.state c.args.device.now).shown (g.D.Device.state c.fill_extent.new.device).shown c.args.trie.now.nodes c.args.extents.now c.args.extents.now c.args.self.now c.fill_extent.new.self c.fill_extent.result (returns-in-Fill-clause-next g c) c.requires.goes.shaped
