use Rattle.std.proofs.Common.{◌≡◌, ℕ, ◌+◌, ◌++◌, List, refl, sym, ap, subst, ◌∙◌, arith, length, length-append}
use Rattle.lt_terms.specs.Items.{Item}
use Rattle.lt_device.proofs.CallLaws.{reads_more}
use Rattle.lt_device.specs.State.{State}
use Rattle.lt_htable.specs.Reading.{IsRead}
use Rattle.lt_tables.specs.Alike.{SameNewest, HasOnce}
use Rattle.lt_htable.proofs.PlacedLaws.{scanned-told, scanned-placed}
use Rattle.lt_htable.proofs.ScanLaws.{IsScannedTo, scanned-none, scanned-more, scanned-all}
use Rattle.lt_htable.proofs.scanning.scan.Goals as goal

pub loop-column-init : goal.loop-column-init
loop-column-init g c =
    let shown = (g.D.Device.state c.args.device.now).shown in
    record {
      scanned = subst (λ (items : List Item). IsScannedTo 0 shown c.args.first items) (sym c.new-items.ensures.items) (scanned-none shown c.args.first);
      few = let none = ap length c.new-items.ensures.items in omega (arith, none);
      calls = record { state = refl; size = refl; count = record { later = omega arith; at_most = omega arith }; later = omega arith; cause = λ never. absurd never };
    }

pub loop-column-preserved : goal.loop-column-preserved
loop-column-preserved g c =
    let shown = (g.D.Device.state c.args.device.now).shown in
    let before = c.loop-column.invariant in
    let n : ℕ = c.loop-column.column in
    let page : List ℕ = c.in_ok-bucket.bucket in
    let read : IsRead shown (c.args.first + n) page = subst (λ (s : State). IsRead s.shown (c.args.first + n) page) before.calls.state c.in_ok-bucket.ensures.read in
    let items = c.in_ok-push_all.ensures ∙ ap (λ (more : List Item). c.loop-column.items.items ++ more) c.items.ensures.items in
    record {
      scanned = subst (λ (items : List Item). IsScannedTo (n + 1) shown c.args.first items) (sym items) (scanned-more n shown c.args.first c.loop-column.items.items page before.scanned read c.in_ok-bucket.ensures.spelled);
      few = let size = ap length c.in_ok-push_all.ensures ∙ length-append c.loop-column.items.items c.items.result in omega (arith, size, before.few, c.items.ensures.few);
      calls = reads_more (omega arith) before.calls c.read_bucket.ensures.calls;
    }

pub returns-clause-items : goal.returns-clause-items
returns-clause-items g c =
    let all : 64 ≡ c.loop-column.column = omega (arith, c.loop-column-test.false, c.loop-column.auto.column-end) in
    scanned-all _ c.args.first c.loop-column.items.items (subst (λ n. IsScannedTo n (g.D.Device.state c.args.device.now).shown c.args.first c.loop-column.items.items) (sym all) c.loop-column.invariant.scanned)

pub returns-clause-shown : goal.returns-clause-shown
returns-clause-shown g c = λ image told. scanned-told image (g.D.Device.state c.args.device.now).shown c.args.first c.loop-column.items.items told (returns-clause-items g c)

pub returns-clause-placed : goal.returns-clause-placed
returns-clause-placed g c = λ image items told placed.
    subst (λ (found : List Item). SameNewest found items × HasOnce found) (sym (scanned-told image (g.D.Device.state c.args.device.now).shown c.args.first c.loop-column.items.items told (returns-clause-items g c)))
    (scanned-placed image c.args.first items placed)

pub returns-clause-few : goal.returns-clause-few
returns-clause-few g c = omega (arith, c.loop-column.invariant.few, c.loop-column.auto.column-end)
