use Rattle.std.proofs.Common.{arith, rules}
use Rattle.std.proofs.lemmas.Result.{on_ok_weaker}
use Rattle.lt_manifest.proofs.AreaLaws.{area-whole}
use Rattle.lt_device.proofs.TouchLaws.{touches-joins}
use Rattle.lt_manifest.proofs.area.fill_area.Goals as goal

pub returns-clause-written : goal.returns-clause-written
returns-clause-written g c = on_ok_weaker c.close_edits.result (λ gates. λ image told. area-whole c.args.area c.args.bytes.now _ _ c.requires.room c.in_ok-write_pages.ensures.written c.close_edits.ensures.kept gates image told) c.close_edits.ensures.written

pub returns-clause-fills : goal.returns-clause-fills
returns-clause-fills g c = record {
  touches = touches-joins c.write_pages.ensures.fills.touches c.close_edits.ensures.fills.touches (λ k inside. inside) (λ k inside. (omega (arith, inside.0), omega (arith, inside.1)));
  no_sync = search rules;
  calls = search rules;
}
