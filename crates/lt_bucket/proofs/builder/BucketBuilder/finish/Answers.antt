use Rattle.std.proofs.Common.{◌≡◌, ◌∙◌, ◌-◌, ◌+◌, length, ap, arith}
use Rattle.lt_bucket.proofs.Finished.{finished, spelled_alike}
use Rattle.lt_bucket.proofs.builder.BucketBuilder.finish.Goals as goal
use Rattle.lt_terms.proofs.SpellingLaws.{length-zeros}

pub fill_from-requires-2 : goal.fill_from-requires-2
fill_from-requires-2 c =
    let long : length c.zeros.result.now ≡ 4096 - (16 + c.args.self.used) = ap length c.zeros.ensures ∙ length-zeros (4096 - (16 + c.args.self.used)) in
    let room = c.args.self.spelled.fits in
    omega arith

pub invariant_of-self : goal.invariant_of-self
invariant_of-self c = record {
  spelled = spelled_alike _ _ _ _
      (finished _ _ _ _ _ _ _ _ c.args.self.spelled c.header.ensures.bytes c.fill_from.ensures.block.len c.fill_from.ensures.filled c.zeros.ensures c.fill_from-2.ensures.filled c.requires c.header.ensures.mark).same
      c.args.self.spelled;
}

pub returns-clause-page : goal.returns-clause-page
returns-clause-page c =
    (finished _ _ _ _ _ _ _ _ c.args.self.spelled c.header.ensures.bytes c.fill_from.ensures.block.len c.fill_from.ensures.filled c.zeros.ensures c.fill_from-2.ensures.filled c.requires c.header.ensures.mark).page

pub returns-clause-bucket : goal.returns-clause-bucket
returns-clause-bucket c =
    (finished _ _ _ _ _ _ _ _ c.args.self.spelled c.header.ensures.bytes c.fill_from.ensures.block.len c.fill_from.ensures.filled c.zeros.ensures c.fill_from-2.ensures.filled c.requires c.header.ensures.mark).bucket
