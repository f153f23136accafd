use Rattle.std.proofs.Common.{rules, ◌≡◌, ℕ, ◌+◌, ◌-◌, ◌*◌, ◌≤◌, sym, ap, subst, ◌∙◌, true, None, Ok, Err, List, length, drop, arith}
use Rattle.std.specs.Prelude.{IsErrOf, slice_index}
use Rattle.std.specs.List.{AllByRecursion}
use Rattle.std.proofs.lemmas.List.{length-drop}
use Rattle.std.proofs.lemmas.Result.{err_from_is_err_and}
use Rattle.lt_terms.specs.Bytes.{block_at}
use Rattle.lt_device.specs.State.{State}
use Rattle.lt_device.proofs.CallLaws.{reads_block, reads_more}
use Rattle.lt_tables.proofs.ListLaws.{all_drop, all_take}
use Rattle.lt_format.specs.Layout.{extent_block}
use Rattle.lt_htable.specs.declared.faults.LookFault.TheVariants.{Damaged}
use Rattle.lt_htable.proofs.SoughtLaws.{column-is}
use Rattle.lt_search.specs.Seen.{asks_group}
use Rattle.lt_search.specs.Reads.{path_reads}
use Rattle.lt_search.specs.Searched.{Searched}
use Rattle.lt_search.specs.Seen.{pile_stops}
use Rattle.lt_search.proofs.GroupLaws.{exit-at, failed-at, group-all, group-count, later_stops, next-at, part-bucket}
use Rattle.lt_search.proofs.PileLaws.{same_page}
use Rattle.lt_search.proofs.SearchLaws.{SoFar, last-some}
use Rattle.lt_search.proofs.groups.search_groups.Goals as goal

pub search_tables-requires-clause-within : goal.search_tables-requires-clause-within
search_tables-requires-clause-within g c =
    let j : ℕ = c.loop-group.group - 1 in
    let tables : List ℕ = c.args.tables.now in
    let P = λ (x : ℕ). extent_block c.args.geometry.now x + 65 ≤ g.D.Device.blocks c.args.device.now in
    let size = c.read_column.ensures.size ∙ c.loop-group.invariant.calls.size in
    let part_all = subst (AllByRecursion P) (sym c.part_of-part.ensures) (all_take P 64 (drop (64 * j) tables) (all_drop P (64 * j) tables c.requires.within)) in
    subst (λ n. AllByRecursion (λ x. extent_block c.args.geometry.now x + 65 ≤ n) c.part_of-part.result.now) (sym size) part_all

pub returns-in_err-read_column-clause-searched : goal.returns-in_err-read_column-clause-searched
returns-in_err-read_column-clause-searched g c = λ image id told last.
    let so_far = c.loop-group.invariant in
    let fault = err_from_is_err_and c.from_residual.result c.from_residual.ensures.1 in
    let j : ℕ = c.loop-group.group - 1 in
    rw (fault.1, fault.2) (failed-at c.args.geometry.now image c.args.key.now c.args.groups.now c.args.tables.now id last c.loop-group.group j (omega arith) (omega (arith, c.requires.groups)) c.loop-group.out c.args.out.now c.loop-group.out _ _ _ (so_far.so_far image id told last) c.read_column.ensures.count so_far.out)

pub returns-in_err-version-clause-searched : goal.returns-in_err-version-clause-searched
returns-in_err-version-clause-searched g c = λ image id told last.
    let so_far = c.loop-group.invariant in
    let fault = err_from_is_err_and c.from_residual-in_err-version.result c.from_residual-in_err-version.ensures.1 in
    let j : ℕ = c.loop-group.group - 1 in
    let before = ap (λ (s : State). s.shown) so_far.calls.state ∙ told in
    let here = ap (λ (s : State). s.shown) c.read_column.ensures.state ∙ before in
    let block = c.in_ok-read_column.ensures.content image before ∙ ap (λ n. block_at image (n + c.args.parts.now.column)) c.extent-first.ensures ∙ ap (λ n. block_at image (extent_block c.args.geometry.now (slice_index c.args.groups.now j) + n)) (column-is c.args.parts.now c.args.key.now c.requires.parts) in
    rw (fault.1, fault.2) (exit-at c.args.geometry.now image c.args.key.now c.args.groups.now c.args.tables.now id last c.loop-group.group j (omega arith) (omega (arith, c.requires.groups)) c.read_column.new.page c.part_of-part.result.now (Err c.in_err-version.field-0.0) c.loop-group.out c.args.out.now c.search_tables.new.out _ _ _ _ (so_far.so_far image id told last) c.read_column.ensures.count block c.part_of-part.ensures (c.in_err-version.ensures.searched image id j here) tt so_far.out)

pub returns-then-is_some-clause-searched : goal.returns-then-is_some-clause-searched
returns-then-is_some-clause-searched g c = λ image id told last.
    let so_far = c.loop-group.invariant in
    let j : ℕ = c.loop-group.group - 1 in
    let before = ap (λ (s : State). s.shown) so_far.calls.state ∙ told in
    let here = ap (λ (s : State). s.shown) c.read_column.ensures.state ∙ before in
    let block = c.in_ok-read_column.ensures.content image before ∙ ap (λ n. block_at image (n + c.args.parts.now.column)) c.extent-first.ensures ∙ ap (λ n. block_at image (extent_block c.args.geometry.now (slice_index c.args.groups.now j) + n)) (column-is c.args.parts.now c.args.key.now c.requires.parts) in
    exit-at c.args.geometry.now image c.args.key.now c.args.groups.now c.args.tables.now id last c.loop-group.group j (omega arith) (omega (arith, c.requires.groups)) c.read_column.new.page c.part_of-part.result.now (Ok c.in_ok-version.version) c.loop-group.out c.args.out.now c.search_tables.new.out _ _ _ _ (so_far.so_far image id told last) c.read_column.ensures.count block c.part_of-part.ensures (c.in_ok-version.ensures.searched image id j here) (last-some c.in_ok-version.version (sym c.is_some.ensures ∙ c.if-is_some.true)) so_far.out

pub loop-group-preserved : goal.loop-group-preserved
loop-group-preserved g c =
    let so_far = c.loop-group.invariant in
    let j : ℕ = c.loop-group.group - 1 in
    let step : j + 1 ≡ c.loop-group.group = omega arith in
    let none = sym c.is_some.ensures ∙ c.if-is_some.false in
    let read = reads_block {k = 2 * length (drop (64 * c.loop-group.group) c.args.tables.now) + (length c.args.groups.now - c.loop-group.group) + 1} (omega arith) so_far.calls c.read_column.ensures.state c.read_column.ensures.size c.read_column.ensures.count c.read_column.ensures.cause in
    record {
      so_far = λ image id told last.
          let before = ap (λ (s : State). s.shown) so_far.calls.state ∙ told in
          let here = ap (λ (s : State). s.shown) c.read_column.ensures.state ∙ before in
          let block = c.in_ok-read_column.ensures.content image before ∙ ap (λ n. block_at image (n + c.args.parts.now.column)) c.extent-first.ensures ∙ ap (λ n. block_at image (extent_block c.args.geometry.now (slice_index c.args.groups.now j) + n)) (column-is c.args.parts.now c.args.key.now c.requires.parts) in
          next-at c.args.geometry.now image c.args.key.now c.args.groups.now c.args.tables.now id last c.loop-group.group j step (omega (arith, c.requires.groups)) c.read_column.new.page c.part_of-part.result.now c.in_ok-version.version c.loop-group.out c.search_tables.new.out _ _ _ _ (so_far.so_far image id told last) c.read_column.ensures.count block c.part_of-part.ensures (c.in_ok-version.ensures.searched image id j here) none;
      out = same_page c.in_ok-version.version c.loop-group.out c.search_tables.new.out none c.in_ok-version.ensures.ends.page ∙ so_far.out;
      calls = reads_more (group-count (λ (x : ℕ). true) c.args.tables.now c.part_of-part.result.now (length c.args.groups.now) c.loop-group.group j step (omega arith) c.part_of-part.ensures) read c.search_tables.ensures.calls;
    }

pub returns-clause-searched : goal.returns-clause-searched
returns-clause-searched g c = λ image id told last.
    let so_far = c.loop-group.invariant in
    let end : c.loop-group.group ≡ 0 = omega (arith, c.loop-group-test.false) in
    let asks = asks_group c.args.geometry.now c.args.groups.now image c.args.key.now in
    let at_end = subst (λ n. SoFar asks path_reads c.args.geometry.now image c.args.key.now (later_stops id c.args.tables.now n) (g.D.Device.reads c.args.device.now) (g.D.Device.reads c.loop-group.device)) end (so_far.so_far image id told last) in
    subst (λ (page : List ℕ). Searched asks path_reads c.args.geometry.now image c.args.key.now (pile_stops id 0 c.args.tables.now) (Ok None) c.args.out.now page (g.D.Device.reads c.args.device.now) (g.D.Device.reads c.loop-group.device)) (sym so_far.out)
    (group-all asks c.args.geometry.now image c.args.key.now (pile_stops id 0 c.args.tables.now) c.args.out.now _ _ at_end)

pub returns-in_err-version-clause-ends : goal.returns-in_err-version-clause-ends
returns-in_err-version-clause-ends g c = record {
  short = search rules;
  page = search rules;
  damaged = search rules;
  damaged_block = λ b is.
      let was : IsErrOf c.search_tables.result (Damaged b) = search rules in
      part-bucket c.args.geometry.now c.args.tables.now c.part_of-part.result.now (c.loop-group.group - 1) b c.part_of-part.ensures (c.search_tables.ensures.ends.damaged_block b was);
}

pub returns-in_err-version-clause-calls : goal.returns-in_err-version-clause-calls
returns-in_err-version-clause-calls g c =
    let j : ℕ = c.loop-group.group - 1 in
    let done = c.search_tables.ensures.calls in
    let read = reads_block {k = 2 * length (drop (64 * c.loop-group.group) c.args.tables.now) + (length c.args.groups.now - c.loop-group.group) + 1} (omega arith) c.loop-group.invariant.calls c.read_column.ensures.state c.read_column.ensures.size c.read_column.ensures.count c.read_column.ensures.cause in
    let count = group-count (λ (x : ℕ). true) c.args.tables.now c.part_of-part.result.now (length c.args.groups.now) c.loop-group.group j (omega arith) (omega arith) c.part_of-part.ensures in
    let len = length-drop (64 * j) c.args.tables.now in
    let both = reads_more {k = 2 * length c.args.tables.now + length c.args.groups.now} (omega (arith, count, len)) read done in
    record {
      state = both.state;
      size = both.size;
      count = both.count;
      later = both.later;
      cause = λ failed. let rose = done.cause (search rules) in omega (arith, read.later, rose);
    }

pub returns-then-is_some-clause-calls : goal.returns-then-is_some-clause-calls
returns-then-is_some-clause-calls g c =
    let j : ℕ = c.loop-group.group - 1 in
    let done = c.search_tables.ensures.calls in
    let read = reads_block {k = 2 * length (drop (64 * c.loop-group.group) c.args.tables.now) + (length c.args.groups.now - c.loop-group.group) + 1} (omega arith) c.loop-group.invariant.calls c.read_column.ensures.state c.read_column.ensures.size c.read_column.ensures.count c.read_column.ensures.cause in
    let count = group-count (λ (x : ℕ). true) c.args.tables.now c.part_of-part.result.now (length c.args.groups.now) c.loop-group.group j (omega arith) (omega arith) c.part_of-part.ensures in
    let len = length-drop (64 * j) c.args.tables.now in
    let both = reads_more {k = 2 * length c.args.tables.now + length c.args.groups.now} (omega (arith, count, len)) read done in
    record {
      state = both.state;
      size = both.size;
      count = both.count;
      later = both.later;
      cause = λ failed. absurd (let at = failed in cc);
    }
