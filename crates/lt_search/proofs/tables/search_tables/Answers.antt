use Rattle.std.proofs.Common.{rules, ◌≡◌, ℕ, ◌+◌, ◌-◌, ◌*◌, ◌<◌, refl, sym, ap, subst, ◌∙◌, false, None, Ok, Err, List, length, get_or, drop, arith}
use Rattle.std.proofs.lemmas.Result.{err_from_is_err_and}
use Rattle.lt_device.specs.State.{State}
use Rattle.lt_search.specs.Asking.{asks_of, may_ask}
use Rattle.lt_search.specs.Reads.{bucket_reads}
use Rattle.lt_search.specs.Searched.{Searched}
use Rattle.lt_search.specs.Seen.{pile_stops}
use Rattle.lt_search.proofs.PileLaws.{answered-asks, count-asked, count-part, count-passed, pile-exit, pile-next, pile-skip, pile-start, placed-answer, same_page}
use Rattle.lt_search.proofs.SearchLaws.{SoFar, all, counts-fewer, counts-more, counts-none, last-some}
use Rattle.lt_search.proofs.tables.search_tables.Goals as goal

pub loop-i-init : goal.loop-i-init
loop-i-init g c = record {
  so_far = λ image id group told. pile-start (asks_of c.args.filters.now c.args.key.now) c.args.geometry.now image c.args.key.now id (64 * group) c.args.tables.now _ _ (omega arith);
  out = refl;
  calls = record { state = refl; size = refl; count = counts-none _ _; later = omega arith; cause = λ none. absurd none };
}

pub returns-in_err-version-clause-searched : goal.returns-in_err-version-clause-searched
returns-in_err-version-clause-searched g c = λ image id group told.
    let so_far = c.loop-i.invariant in
    let key : List ℕ = c.args.key.now in
    let tables : List ℕ = c.args.tables.now in
    let j : ℕ = c.loop-i.i - 1 in
    let fault = err_from_is_err_and c.from_residual.result c.from_residual.ensures.1 in
    let here = ap (λ (s : State). s.shown) so_far.calls.state ∙ told in
    let asked = placed-answer c.args.filters.now key group j (get_or tables j 0) ∙ sym (c.cover.ensures key c.requires.parts) ∙ c.if-cover.true in
    rw (fault.1, fault.2) (pile-exit (asks_of c.args.filters.now key) c.args.geometry.now image key id (64 * group) tables c.loop-i.i j (omega arith) (omega arith) c.extent-first.result c.extent-first.ensures asked
    (Err c.in_err-version.field-0.0) c.loop-i.out c.args.out.now c.look_into.new.out _ _ _ (so_far.so_far image id group told) tt so_far.out (c.in_err-version.ensures.seen image here) (c.look_into.ensures.reads image here))

pub returns-then-is_some-clause-searched : goal.returns-then-is_some-clause-searched
returns-then-is_some-clause-searched g c = λ image id group told.
    let so_far = c.loop-i.invariant in
    let key : List ℕ = c.args.key.now in
    let tables : List ℕ = c.args.tables.now in
    let j : ℕ = c.loop-i.i - 1 in
    let here = ap (λ (s : State). s.shown) so_far.calls.state ∙ told in
    let asked = placed-answer c.args.filters.now key group j (get_or tables j 0) ∙ sym (c.cover.ensures key c.requires.parts) ∙ c.if-cover.true in
    pile-exit (asks_of c.args.filters.now key) c.args.geometry.now image key id (64 * group) tables c.loop-i.i j (omega arith) (omega arith) c.extent-first.result c.extent-first.ensures asked
    (Ok c.in_ok-version.version) c.loop-i.out c.args.out.now c.look_into.new.out _ _ _ (so_far.so_far image id group told) (last-some c.in_ok-version.version (sym c.is_some.ensures ∙ c.if-is_some.true)) so_far.out (c.in_ok-version.ensures.seen image here) (c.look_into.ensures.reads image here)

pub loop-i-preserved-else-is_some : goal.loop-i-preserved-else-is_some
loop-i-preserved-else-is_some g c =
    let so_far = c.loop-i.invariant in
    let done = c.look_into.ensures.calls in
    let key : List ℕ = c.args.key.now in
    let tables : List ℕ = c.args.tables.now in
    let j : ℕ = c.loop-i.i - 1 in
    let below : j < length tables = omega arith in
    let step : j + 1 ≡ c.loop-i.i = omega arith in
    let none : _ ≡ false = sym c.is_some.ensures ∙ c.if-is_some.false in
    let answered = sym (c.cover.ensures key c.requires.parts) ∙ c.if-cover.true in
    record {
      so_far = λ image id group told.
          let here = ap (λ (s : State). s.shown) so_far.calls.state ∙ told in
          pile-next (asks_of c.args.filters.now key) c.args.geometry.now image key id (64 * group) tables c.loop-i.i j step below c.extent-first.result c.extent-first.ensures (placed-answer c.args.filters.now key group j (get_or tables j 0) ∙ answered)
          c.in_ok-version.version c.loop-i.out c.look_into.new.out _ _ _ (so_far.so_far image id group told) none (c.in_ok-version.ensures.seen image here) (c.look_into.ensures.reads image here);
      out = same_page c.in_ok-version.version c.loop-i.out c.look_into.new.out none c.in_ok-version.ensures.ends.page ∙ so_far.out;
      calls = record {
        state = done.state ∙ so_far.calls.state;
        size = done.size ∙ so_far.calls.size;
        count = counts-more _ 2 _ _ _ _ so_far.calls.count done.count (let asked = count-asked (may_ask c.args.filters.now key) tables c.loop-i.i j step below (answered-asks c.args.filters.now key j (get_or tables j 0) answered) in omega (arith, asked));
        later = omega (arith, so_far.calls.later, done.later);
        cause = λ none. absurd none;
      };
    }

pub loop-i-preserved : goal.loop-i-preserved
loop-i-preserved g c =
    let so_far = c.loop-i.invariant in
    let key : List ℕ = c.args.key.now in
    let tables : List ℕ = c.args.tables.now in
    let j : ℕ = c.loop-i.i - 1 in
    let below : j < length tables = omega arith in
    let step : j + 1 ≡ c.loop-i.i = omega arith in
    record {
      so_far = λ image id group told.
          pile-skip (asks_of c.args.filters.now key) c.args.geometry.now image key id (64 * group) tables c.loop-i.i j step below _ _ (so_far.so_far image id group told) (placed-answer c.args.filters.now key group j (get_or tables j 0) ∙ sym (c.cover.ensures key c.requires.parts) ∙ c.if-cover.false);
      out = so_far.out;
      calls = record {
        state = so_far.calls.state;
        size = so_far.calls.size;
        count = counts-fewer _ _ _ _ so_far.calls.count (let passed = count-passed (may_ask c.args.filters.now key) tables c.loop-i.i j step below in omega (arith, passed));
        later = so_far.calls.later;
        cause = λ none. absurd none;
      };
    }

pub returns-clause-searched : goal.returns-clause-searched
returns-clause-searched g c = λ image id group told.
    let so_far = c.loop-i.invariant in
    let end : c.loop-i.i ≡ 0 = omega (arith, c.loop-i-test.false) in
    let none : 64 * group + 0 ≡ 64 * group = omega arith in
    let asks = asks_of c.args.filters.now c.args.key.now in
    let at_end = subst (λ n. SoFar asks bucket_reads c.args.geometry.now image c.args.key.now (pile_stops id (64 * group + n) (drop n c.args.tables.now)) (g.D.Device.reads c.args.device.now) (g.D.Device.reads c.loop-i.device)) end (so_far.so_far image id group told) in
    let at_first = subst (λ n. SoFar asks bucket_reads c.args.geometry.now image c.args.key.now (pile_stops id n c.args.tables.now) (g.D.Device.reads c.args.device.now) (g.D.Device.reads c.loop-i.device)) none at_end in
    subst (λ (page : List ℕ). Searched asks bucket_reads c.args.geometry.now image c.args.key.now (pile_stops id (64 * group) c.args.tables.now) (Ok None) c.args.out.now page (g.D.Device.reads c.args.device.now) (g.D.Device.reads c.loop-i.device)) (sym so_far.out)
    (all asks c.args.geometry.now image c.args.key.now (pile_stops id (64 * group) c.args.tables.now) c.args.out.now _ _ at_first)

pub returns-in_err-version-clause-calls : goal.returns-in_err-version-clause-calls
returns-in_err-version-clause-calls g c =
    let so_far = c.loop-i.invariant.calls in
    let done = c.look_into.ensures.calls in
    let key : List ℕ = c.args.key.now in
    let tables : List ℕ = c.args.tables.now in
    let j : ℕ = c.loop-i.i - 1 in
    let p = may_ask c.args.filters.now key in
    record {
      state = done.state ∙ so_far.state;
      size = done.size ∙ so_far.size;
      count = counts-more _ 2 _ _ _ _ so_far.count done.count
          (let asked = count-asked p tables c.loop-i.i j (omega arith) (omega arith) (answered-asks c.args.filters.now key j (get_or tables j 0) (sym (c.cover.ensures key c.requires.parts) ∙ c.if-cover.true)) in let part = count-part p tables j in omega (arith, asked, part));
      later = omega (arith, so_far.later, done.later);
      cause = λ failed. let rose = done.cause (search rules) in omega (arith, so_far.later, rose);
    }

pub returns-then-is_some-clause-calls : goal.returns-then-is_some-clause-calls
returns-then-is_some-clause-calls g c =
    let so_far = c.loop-i.invariant.calls in
    let done = c.look_into.ensures.calls in
    let key : List ℕ = c.args.key.now in
    let tables : List ℕ = c.args.tables.now in
    let j : ℕ = c.loop-i.i - 1 in
    let p = may_ask c.args.filters.now key in
    record {
      state = done.state ∙ so_far.state;
      size = done.size ∙ so_far.size;
      count = counts-more _ 2 _ _ _ _ so_far.count done.count
          (let asked = count-asked p tables c.loop-i.i j (omega arith) (omega arith) (answered-asks c.args.filters.now key j (get_or tables j 0) (sym (c.cover.ensures key c.requires.parts) ∙ c.if-cover.true)) in let part = count-part p tables j in omega (arith, asked, part));
      later = omega (arith, so_far.later, done.later);
      cause = λ failed. absurd (let at = failed in cc);
    }
