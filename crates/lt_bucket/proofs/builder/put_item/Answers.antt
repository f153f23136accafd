use Rattle.std.proofs.Common.{◌≡◌, ◌≤◌, ◌+◌, length, arith, ap, sym, refl}
use Rattle.lt_item.proofs.Splices.{put_in_parts}
use Rattle.lt_bucket.proofs.builder.put_item.Goals as goal

pub returns-clause-written : goal.returns-clause-written
returns-clause-written c =
    let whole : length c.args.page.now ≡ 4096 = c.bytes.ensures.block.len in
    let within : c.args.at ≤ length c.args.page.now = omega arith in
    put_in_parts _ _ _ _ _ _ _ _ _ within c.item_header.ensures
    c.fill_from.ensures.filled (ap (λ header. c.args.at + length header) (sym c.item_header.ensures))
    c.fill_from-2.ensures.filled refl c.fill_from-3.ensures.filled
