use Rattle.std.proofs.Common.{◌≤◌, length, arith}
use Rattle.lt_item.proofs.Splices.{put_in_parts, written-read}
use Rattle.lt_item.proofs.spelling.write_item.Goals as goal

pub returns-clause-written : goal.returns-clause-written
returns-clause-written c =
    put_in_parts _ _ _ _ _ _ _ _ _ (omega arith) c.item_header.ensures
    c.put_bytes-key_at.ensures.written c.put_bytes-key_at.ensures.after
    c.put_bytes-value_at.ensures.written c.put_bytes-value_at.ensures.after c.put_bytes.ensures.written

pub returns-clause-read_again : goal.returns-clause-read_again
returns-clause-read_again c =
    let within : c.args.at ≤ length c.args.into.now = omega arith in
    written-read _ _ _ _ within c.requires.valid (returns-clause-written c)
