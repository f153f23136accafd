use Rattle.std.proofs.Common.{◌≡◌, ◌<◌, false, [], length, get_or, sym, ◌∙◌, ap, arith}
use Rattle.std.proofs.lemmas.List.{get_or_default, get_or_read}
use Rattle.lt_terms.specs.Bytes.{block_at}
use Rattle.lt_device.specs.declared.pick.Pick.TheVariants.{Stable}
use Rattle.lt_device.specs.Memory.{picked}
use Rattle.lt_device.proofs.Picks.{Followed-sure, Followed-unsure}
use Rattle.lt_device.proofs.pick.choose.Goals as goal
use Rattle.lt_device.proofs.pick.choose.Goals.{then-index, else-index}

pub loop-block-preserved : goal.loop-block-preserved
loop-block-preserved c =
    let store = c.args.store.now in
    let flags = store.unsynced.items in
    let i = c.loop-block.block in
    let long : length flags ≡ length store.pages.items = store.flags in
    let below : i < length flags = omega arith in
    let flag : c.index.result.now ≡ get_or flags i false = get_or_read flags i _ below c.index.ensures false in
    elim c.if-index.branch [
      | then-index w ↦
          let pages = c.loop-block.pages in
          let inside : i < length pages = omega arith in
          let held : i < length store.pages.items = omega arith in
          let shown : w.index-then-index.result.now ≡ block_at store.pages.items i = get_or_read store.pages.items i _ held w.index-then-index.ensures [] in
          let before : get_or pages i w.index-pages-block.result ≡ block_at pages i = get_or_default pages i _ [] inside in
          let is = w.apply.ensures.picked ∙ ap (λ p. picked p (get_or pages i w.index-pages-block.result) w.index-then-index.result.now) w.pick_at.ensures
          ∙ ap (λ p. picked (get_or c.args.picks.now c.loop-block.next Stable) p w.index-then-index.result.now) before
          ∙ ap (λ p. picked (get_or c.args.picks.now c.loop-block.next Stable) (block_at pages i) p) shown in
          rw (w.pages-is, w.next-is) (Followed-unsure c.args.picks.now flags c.args.pages.now store.pages.items pages i c.loop-block.next w.apply.new.page below inside (sym flag ∙ w.if-index.true) is w.apply.ensures.block c.loop-block.invariant)
      | else-index w ↦
          rw (w.pages-is, w.next-is) (Followed-sure c.args.picks.now flags c.args.pages.now store.pages.items c.loop-block.pages i c.loop-block.next below (sym flag ∙ w.if-index.false) c.loop-block.invariant)
    ]
