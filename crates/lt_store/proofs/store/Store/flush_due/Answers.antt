use Rattle.std.proofs.Common.{rules, ◌≡◌, ap, sym, subst, arith, IsTrue, refl}
use Rattle.lt_device.specs.Moments.{MayLeave}
use Rattle.lt_tables.specs.Cut.{table_total}
use Rattle.lt_tables.specs.Table.{newest}
use Rattle.lt_store.specs.Open.{StoreView}
use Rattle.lt_image.specs.Pressure.{IsFullImage}
use Rattle.lt_store.specs.Taking.{is_due}
use Rattle.lt_store.specs.View.{view_of}
use Rattle.lt_store.proofs.FullLaws.{full-image, few-extents}
use Rattle.lt_store.proofs.LiveLaws.{unflushed}
use Rattle.lt_store.proofs.store.Store.flush_due.Goals as goal

pub returns-clause-full_images : goal.returns-clause-full_images
returns-clause-full_images g c = λ short is still d o.
    let v : StoreView = view_of c.args.self.now in
    let kept = c.args.self.now.kept c.requires.up in
    let due : IsTrue (is_due v) = search rules in
    let (lacks, stays, same) = c.flush.ensures.short short is in
    let state : g.D.Device.state c.flush.new.device ≡ g.D.Device.state c.args.device.now = ap g.D.Device.state same in
    let needed = lacks.needed in
    let free = lacks.free in
    let few = lacks.few in (
      (λ left may. subst (λ n. IsFullImage left n short.free) (sym needed) (subst (λ f. IsFullImage left (table_total (newest v.memory)) f) (sym free)
          (full-image v d (g.D.Device.state c.args.device.now) _ o kept still due left (subst (λ s. MayLeave s left) state may)))),
      few-extents v d (g.D.Device.state c.args.device.now) _ o kept still due (omega (arith, needed, free, few)),
    )

pub returns-then-pending-gt0-clause-lives : goal.returns-then-pending-gt0-clause-lives
returns-then-pending-gt0-clause-lives g c = unflushed g.D.Device c.args.self.now _ _ c.args.device.now refl c.requires.up (search rules)
