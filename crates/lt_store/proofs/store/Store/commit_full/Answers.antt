use Rattle.std.proofs.Common.{rules, sym, arith}
use Rattle.lt_store.specs.View.{view_of}
use Rattle.lt_store.proofs.GoLaws.{goes-none}
use Rattle.lt_store.proofs.TakeLaws.{readied-same}
use Rattle.lt_store.proofs.WholeLaws.{whole-none}
use Rattle.lt_store.specs.Open.{StoreView}
use Rattle.lt_store.proofs.store.Store.commit_full.Goals as goal

pub returns-then-bytes-le-FLUSH_BYTES-clause-commits :
    goal.returns-then-bytes-le-FLUSH_BYTES-clause-commits
returns-then-bytes-le-FLUSH_BYTES-clause-commits g c =
    let v : StoreView = view_of c.args.self.now in
    record {
      goes = λ d o. goes-none v d (g.D.Device.state c.args.device.now) o;
      whole = λ d o. whole-none v d (g.D.Device.state c.args.device.now) o;
      up = c.requires.up;
      err = search rules;
      calls = search rules;
    }

pub returns-then-bytes-le-FLUSH_BYTES-clause-ready :
    goal.returns-then-bytes-le-FLUSH_BYTES-clause-ready
returns-then-bytes-le-FLUSH_BYTES-clause-ready g c = sym (readied-same (view_of c.args.self.now) c.args.cost (omega (arith, c.room.ensures)) (search rules))

pub returns-clause-commits : goal.returns-clause-commits
returns-clause-commits g c = record {
  goes = c.commit.ensures.opened;
  whole = c.commit.ensures.whole;
  up = c.commit.ensures.up;
  err = c.commit.ensures.err;
  calls = c.commit.ensures.calls;
}
