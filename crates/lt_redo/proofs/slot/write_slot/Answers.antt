use Rattle.std.proofs.Common.{◌≡◌, ℕ, ◌+◌, ◌<◌, sym, ap, subst, ◌∙◌, inl, inr, length, arith}
use Rattle.std.proofs.Common.{List, true}
use Rattle.std.proofs.lemmas.Result.{on_ok_weaker}
use Rattle.lt_device.proofs.Runs.{syncs}
use Rattle.lt_device.proofs.TouchLaws.{touches-none, touches-syncs, touches-writes}
use Rattle.lt_device.proofs.Rest.{unsynced_none}
use Rattle.lt_device.specs.State.{written}
use Rattle.lt_format.specs.Layout.{log_gate, log_content, gate_page}
use Rattle.lt_redo.proofs.CommitLaws.{wrote_at, written_at, content_written, not_longer, gate_written, committed, pages_written}
use Rattle.lt_redo.proofs.slot.write_slot.Goals as goal

pub returns-in_err-write-clause-any_moment : goal.returns-in_err-write-clause-any_moment
returns-in_err-write-clause-any_moment g c = λ from groups group same follows rests.
    let gate : c.log_gate-gate.result ≡ log_gate c.args.geometry.now c.args.area (length groups) = c.log_gate-gate.ensures ∙ ap (log_gate c.args.geometry.now c.args.area) (sym same) in
    let wrote = wrote_at (ap (λ k. k + 1) gate) c.write.ensures.wrote in
    not_longer c.args.geometry.now c.args.area from groups group c.args.content.now follows (content_written c.args.geometry.now c.args.area from groups group c.args.content.now follows wrote rests)

pub returns-in_err-sync-clause-any_moment : goal.returns-in_err-sync-clause-any_moment
returns-in_err-sync-clause-any_moment g c = λ from groups group same follows rests.
    let gate : c.log_gate-gate.result ≡ log_gate c.args.geometry.now c.args.area (length groups) = c.log_gate-gate.ensures ∙ ap (log_gate c.args.geometry.now c.args.area) (sym same) in
    let wrote = wrote_at (ap (λ k. k + 1) gate) c.write.ensures.wrote in
    not_longer c.args.geometry.now c.args.area from groups group c.args.content.now follows (syncs c.sync.ensures.ended (content_written c.args.geometry.now c.args.area from groups group c.args.content.now follows wrote rests))

pub returns-in_err-write-2-clause-any_moment : goal.returns-in_err-write-2-clause-any_moment
returns-in_err-write-2-clause-any_moment g c = λ from groups group same follows rests.
    let gate : c.log_gate-gate.result ≡ log_gate c.args.geometry.now c.args.area (length groups) = c.log_gate-gate.ensures ∙ ap (log_gate c.args.geometry.now c.args.area) (sym same) in
    let wrote = wrote_at (ap (λ k. k + 1) gate) c.write.ensures.wrote in
    let is = written_at (g.D.Device.state c.args.device.now) (g.D.Device.state c.write.new.self) c.args.content.now (ap (λ k. k + 1) gate) c.in_ok-write.ensures.ok in
    let run = syncs c.sync.ensures.ended (content_written c.args.geometry.now c.args.area from groups group c.args.content.now follows wrote rests) in
    gate_written c.args.geometry.now c.args.area from groups group c.args.content.now follows (rw same c.requires.within) wrote is c.in_ok-sync.ensures.ok (wrote_at gate c.write-2.ensures.wrote) run

pub returns-clause-any_moment : goal.returns-clause-any_moment
returns-clause-any_moment g c = λ from groups group same follows rests.
    let gate : c.log_gate-gate.result ≡ log_gate c.args.geometry.now c.args.area (length groups) = c.log_gate-gate.ensures ∙ ap (log_gate c.args.geometry.now c.args.area) (sym same) in
    let wrote = wrote_at (ap (λ k. k + 1) gate) c.write.ensures.wrote in
    let is = written_at (g.D.Device.state c.args.device.now) (g.D.Device.state c.write.new.self) c.args.content.now (ap (λ k. k + 1) gate) c.in_ok-write.ensures.ok in
    let run = syncs c.sync.ensures.ended (content_written c.args.geometry.now c.args.area from groups group c.args.content.now follows wrote rests) in
    syncs c.sync-2.ensures.ended (gate_written c.args.geometry.now c.args.area from groups group c.args.content.now follows (rw same c.requires.within) wrote is c.in_ok-sync.ensures.ok (wrote_at gate c.write-2.ensures.wrote) run)

pub returns-clause-written : goal.returns-clause-written
returns-clause-written g c = on_ok_weaker c.sync-2.result (λ sure.
    let gate = c.log_gate-gate.ensures in
    let is = written_at (g.D.Device.state c.args.device.now) (g.D.Device.state c.write.new.self) c.args.content.now (ap (λ k. k + 1) gate) c.in_ok-write.ensures.ok in
    let opened = subst (λ (page : List ℕ). g.D.Device.state c.write-2.new.self ≡ written (g.D.Device.state c.sync.new.self) c.log_gate-gate.result page) c.requires.opens c.in_ok-write-2.ensures.ok in
    let gate_is = written_at (g.D.Device.state c.sync.new.self) (g.D.Device.state c.write-2.new.self) (gate_page true) gate opened in
    let in_range : log_gate c.args.geometry.now c.args.area c.args.slot < g.D.Device.blocks c.sync.new.self = omega (arith, c.requires.within, c.write.ensures.size, c.sync.ensures.size) in
    record {
      committed = λ from groups group same follows rests.
          let gate : c.log_gate-gate.result ≡ log_gate c.args.geometry.now c.args.area (length groups) = c.log_gate-gate.ensures ∙ ap (log_gate c.args.geometry.now c.args.area) (sym same) in
          let wrote = wrote_at (ap (λ k. k + 1) gate) c.write.ensures.wrote in
          let is = written_at (g.D.Device.state c.args.device.now) (g.D.Device.state c.write.new.self) c.args.content.now (ap (λ k. k + 1) gate) c.in_ok-write.ensures.ok in
          let run = syncs c.sync.ensures.ended (content_written c.args.geometry.now c.args.area from groups group c.args.content.now follows wrote rests) in
          let gate_is = written_at (g.D.Device.state c.sync.new.self) (g.D.Device.state c.write-2.new.self) (gate_page true) gate opened in
          let below : log_content c.args.geometry.now c.args.area (length groups) < g.D.Device.blocks c.args.device.now = rw same c.requires.within in
          let in_range : log_gate c.args.geometry.now c.args.area (length groups) < g.D.Device.blocks c.sync.new.self = omega (arith, below, c.write.ensures.size, c.sync.ensures.size) in
          committed c.args.geometry.now c.args.area from groups group c.args.content.now follows below in_range wrote is c.in_ok-sync.ensures.ok (wrote_at gate c.write-2.ensures.wrote) gate_is sure run;
      pages = pages_written c.args.geometry.now c.args.area c.args.slot c.args.content.now c.requires.within in_range (wrote_at (ap (λ k. k + 1) gate) c.write.ensures.wrote) is c.in_ok-sync.ensures.ok
          (wrote_at gate c.write-2.ensures.wrote) gate_is sure;
      sure = unsynced_none _ sure;
    }) c.sync-2.ensures.ok

pub returns-in_err-write-clause-touches : goal.returns-in_err-write-clause-touches
returns-in_err-write-clause-touches g c = touches-writes (touches-none _) c.write.ensures.wrote (inr (ap (λ k. k + 1) c.log_gate-gate.ensures))

pub returns-in_err-sync-clause-touches : goal.returns-in_err-sync-clause-touches
returns-in_err-sync-clause-touches g c = touches-syncs (touches-writes (touches-none _) c.write.ensures.wrote (inr (ap (λ k. k + 1) c.log_gate-gate.ensures))) c.sync.ensures.ended

pub returns-in_err-write-2-clause-touches : goal.returns-in_err-write-2-clause-touches
returns-in_err-write-2-clause-touches g c =
    touches-writes (touches-syncs (touches-writes (touches-none _) c.write.ensures.wrote (inr (ap (λ k. k + 1) c.log_gate-gate.ensures))) c.sync.ensures.ended) c.write-2.ensures.wrote (inl c.log_gate-gate.ensures)

pub returns-clause-touches : goal.returns-clause-touches
returns-clause-touches g c =
    let content = touches-syncs (touches-writes (touches-none _) c.write.ensures.wrote (inr (ap (λ k. k + 1) c.log_gate-gate.ensures))) c.sync.ensures.ended in
    touches-syncs (touches-writes content c.write-2.ensures.wrote (inl c.log_gate-gate.ensures)) c.sync-2.ensures.ended
