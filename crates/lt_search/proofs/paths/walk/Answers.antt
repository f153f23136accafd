use Rattle.std.proofs.Common.{rules, ◌≡◌, ℕ, ◌+◌, ◌-◌, ◌≤◌, sym, ap, subst, ◌∙◌, Option, Ok, Err, List, length, arith}
use Rattle.std.specs.List.{AllByRecursion}
use Rattle.std.proofs.lemmas.Result.{err_from_is_err_and}
use Rattle.lt_device.specs.State.{State}
use Rattle.lt_device.proofs.CallLaws.{reads_more}
use Rattle.lt_format.specs.declared.node_id.NodeId.{NodeId}
use Rattle.lt_format.specs.Layout.{extent_block}
use Rattle.lt_format.specs.Trie.{groups_for, node_at, path}
use Rattle.lt_image.specs.Versions.{stops}
use Rattle.lt_image.proofs.MapLaws.{named-tables}
use Rattle.lt_search.specs.declared.version.Version.{Version}
use Rattle.lt_htable.specs.Reading.{IsNoBucket}
use Rattle.lt_search.specs.Found.{KeepsUnless}
use Rattle.lt_search.specs.Asking.{asks_kept, is_asked, most_reads}
use Rattle.lt_search.specs.Seen.{asks_group}
use Rattle.lt_search.specs.Reads.{bucket_reads, path_reads}
use Rattle.lt_search.specs.Searched.{Searched}
use Rattle.lt_search.specs.Seen.{IsBucketOf, pile_stops}
use Rattle.lt_search.proofs.PathLaws.{ended-inside, ended-last, last-count, last-level, named-groups}
use Rattle.lt_search.proofs.PileLaws.{same_page}
use Rattle.lt_search.proofs.SearchLaws.{last-some, none-is}
use Rattle.lt_search.proofs.paths.walk.Goals as goal

pub returns-in_err-found-clause-searched : goal.returns-in_err-found-clause-searched
returns-in_err-found-clause-searched g c = λ image told.
    let fault = err_from_is_err_and c.from_residual.result c.from_residual.ensures.1 in
    rw (fault.1, fault.2) (ended-inside c.args.geometry.now c.args.filters.now image c.args.trie.now.nodes c.args.key.now (c.args.geometry.now.levels - 1) (omega (arith, c.levels.ensures.trie.least, c.requires.levels))
    (Err c.in_err-found.field-0.0) c.args.out.now c.search_inner.new.out _ _ tt (c.in_err-found.ensures.searched image told))

pub returns-then-is_some-clause-searched : goal.returns-then-is_some-clause-searched
returns-then-is_some-clause-searched g c = λ image told.
    ended-inside c.args.geometry.now c.args.filters.now image c.args.trie.now.nodes c.args.key.now (c.args.geometry.now.levels - 1) (omega (arith, c.levels.ensures.trie.least, c.requires.levels))
    (Ok c.in_ok-found.found) c.args.out.now c.search_inner.new.out _ _ (last-some c.in_ok-found.found (sym c.is_some.ensures ∙ c.if-is_some.true)) (c.in_ok-found.ensures.searched image told)

pub search_groups-requires-clause-within : goal.search_groups-requires-clause-within
search_groups-requires-clause-within g c =
    let P = λ (x : ℕ). extent_block c.args.geometry.now x + 65 ≤ g.D.Device.blocks c.args.device.now in
    subst (λ n. AllByRecursion (λ x. extent_block c.args.geometry.now x + 65 ≤ n) c.pile-tables.result.now) (sym c.search_inner.ensures.calls.size)
    (subst (AllByRecursion P) (sym c.pile-tables.ensures) (named-tables P c.args.trie.now.nodes _ c.requires.within))

pub search_groups-requires-clause-groups_within : goal.search_groups-requires-clause-groups_within
search_groups-requires-clause-groups_within g c =
    let P = λ (x : ℕ). extent_block c.args.geometry.now x + 65 ≤ g.D.Device.blocks c.args.device.now in
    subst (λ n. AllByRecursion (λ x. extent_block c.args.geometry.now x + 65 ≤ n) c.groups-groups.result.now) (sym c.search_inner.ensures.calls.size)
    (subst (AllByRecursion P) (sym c.groups-groups.ensures) (named-groups P c.args.trie.now.nodes _ c.requires.within))

pub search_groups-requires-clause-groups : goal.search_groups-requires-clause-groups
search_groups-requires-clause-groups g c =
    let top : c.levels.result - 1 ≡ c.args.trie.now.levels - 1 = ap (λ n. n - 1) c.levels.ensures.count in
    last-count c.args.trie.now.levels 65536 c.args.trie.now.nodes (c.args.trie.now.levels - 1) _ c.pile-tables.result.now c.groups-groups.result.now c.levels.ensures.trie.trie (omega (arith, c.levels.ensures.trie.least))
    (ap (λ (id : NodeId). id.level) (c.path-last.ensures c.args.key.now c.requires.parts) ∙ top) c.pile-tables.ensures c.groups-groups.ensures

pub returns-clause-searched : goal.returns-clause-searched
returns-clause-searched g c = λ image told.
    let key : List ℕ = c.args.key.now in
    let nodes = c.args.trie.now.nodes in
    let n : ℕ = c.args.geometry.now.levels - 1 in
    let levels : n + 1 ≡ c.args.geometry.now.levels = omega (arith, c.levels.ensures.trie.least, c.requires.levels) in
    let top : c.levels.result - 1 ≡ n = ap (λ m. m - 1) (c.levels.ensures.count ∙ c.requires.levels) in
    let node = c.path-last.ensures key c.requires.parts ∙ ap (path key) top in
    let tables_are = c.pile-tables.ensures ∙ ap (λ (id : NodeId). (node_at nodes id).tables) node in
    let groups_are = c.groups-groups.ensures ∙ ap (λ (id : NodeId). (node_at nodes id).groups) node in
    let none = sym c.is_some.ensures ∙ c.if-is_some.false in
    let same = same_page c.in_ok-found.found c.args.out.now c.search_inner.new.out none c.in_ok-found.ensures.ends.page in
    let here = ap (λ (s : State). s.shown) c.search_inner.ensures.calls.state ∙ told in
    let first = subst (λ (v : Option Version). Searched (asks_kept c.args.filters.now key) bucket_reads c.args.geometry.now image key (stops n nodes key) (Ok v) c.args.out.now c.search_inner.new.out (g.D.Device.reads c.args.device.now) (g.D.Device.reads c.search_inner.new.device)) (none-is c.in_ok-found.found none) (c.in_ok-found.ensures.searched image told) in
    let second = c.search_groups.ensures.searched image (path key n) here (last-level c.args.geometry.now c.args.filters.now image nodes key n levels) in
    let in_tables = subst (λ (xs : List ℕ). Searched (asks_group c.args.geometry.now c.groups-groups.result.now image key) path_reads c.args.geometry.now image key (pile_stops (path key n) 0 xs) c.search_groups.result c.search_inner.new.out c.search_groups.new.out (g.D.Device.reads c.search_inner.new.device) (g.D.Device.reads c.search_groups.new.device)) tables_are second in
    let in_groups = subst (λ (xs : List ℕ). Searched (asks_group c.args.geometry.now xs image key) path_reads c.args.geometry.now image key (pile_stops (path key n) 0 (node_at nodes (path key n)).tables) c.search_groups.result c.search_inner.new.out c.search_groups.new.out (g.D.Device.reads c.search_inner.new.device) (g.D.Device.reads c.search_groups.new.device)) groups_are in_tables in
    subst (λ (page : List ℕ). Searched (is_asked c.args.geometry.now c.args.filters.now image nodes key) path_reads c.args.geometry.now image key (stops c.args.geometry.now.levels nodes key) c.search_groups.result page c.search_groups.new.out (g.D.Device.reads c.args.device.now) (g.D.Device.reads c.search_groups.new.device)) same
    (ended-last c.args.geometry.now c.args.filters.now image nodes key n levels c.search_groups.result c.args.out.now c.search_inner.new.out c.search_groups.new.out _ _ _ first in_groups)

pub returns-clause-ends : goal.returns-clause-ends
returns-clause-ends g c =
    let key : List ℕ = c.args.key.now in
    let n : ℕ = c.args.geometry.now.levels - 1 in
    let top : c.levels.result - 1 ≡ n = ap (λ m. m - 1) (c.levels.ensures.count ∙ c.requires.levels) in
    let node = c.path-last.ensures key c.requires.parts ∙ ap (path key) top in
    let none = sym c.is_some.ensures ∙ c.if-is_some.false in
    let same = same_page c.in_ok-found.found c.args.out.now c.search_inner.new.out none c.in_ok-found.ensures.ends.page in
    let done = c.search_groups.ensures.ends in
    record {
      short = done.short;
      page = subst (λ (page : List ℕ). KeepsUnless c.search_groups.result page c.search_groups.new.out) same done.page;
      damaged = λ b is. subst (λ (s : State). IsNoBucket s.shown b) c.search_inner.ensures.calls.state (done.damaged b is);
      damaged_block = λ b is. record {
        level = n;
        deep = omega (arith, c.levels.ensures.trie.least, c.requires.levels);
        bucket = subst (λ xs. IsBucketOf c.args.geometry.now xs b) (c.pile-tables.ensures ∙ ap (λ (id : NodeId). (node_at c.args.trie.now.nodes id).tables) node) (done.damaged_block b is);
      };
    }

pub returns-clause-calls : goal.returns-clause-calls
returns-clause-calls g c =
    let key : List ℕ = c.args.key.now in
    let n : ℕ = c.args.geometry.now.levels - 1 in
    let top : c.levels.result - 1 ≡ n = ap (λ m. m - 1) (c.levels.ensures.count ∙ c.requires.levels) in
    let node = c.path-last.ensures key c.requires.parts ∙ ap (path key) top in
    let tables = ap length (c.pile-tables.ensures ∙ ap (λ (id : NodeId). (node_at c.args.trie.now.nodes id).tables) node) in
    let top_trie : c.levels.result - 1 ≡ c.args.trie.now.levels - 1 = ap (λ m. m - 1) c.levels.ensures.count in
    let groups = last-count c.args.trie.now.levels 65536 c.args.trie.now.nodes (c.args.trie.now.levels - 1) _ c.pile-tables.result.now c.groups-groups.result.now c.levels.ensures.trie.trie (omega (arith, c.levels.ensures.trie.least))
    (ap (λ (id : NodeId). id.level) (c.path-last.ensures key c.requires.parts) ∙ top_trie) c.pile-tables.ensures c.groups-groups.ensures in
    let for_tables = ap groups_for tables in
    let done = c.search_groups.ensures.calls in
    let first = c.search_inner.ensures.calls in
    let both = reads_more {k = most_reads c.args.geometry.now.levels c.args.filters.now c.args.trie.now.nodes key} (omega (arith, tables, groups, for_tables)) first done in
    record { state = both.state; size = both.size; count = both.count; later = both.later; cause = λ failed. let rose = done.cause failed in omega (arith, first.later, rose) }

pub returns-in_err-found-clause-calls : goal.returns-in_err-found-clause-calls
returns-in_err-found-clause-calls g c =
    let done = c.search_inner.ensures.calls in
    record {
      state = done.state;
      size = done.size;
      count = record { later = done.count.later; at_most = omega (arith, done.count.later, done.count.at_most) };
      later = done.later;
      cause = λ failed. done.cause (search rules);
    }

pub returns-then-is_some-clause-calls : goal.returns-then-is_some-clause-calls
returns-then-is_some-clause-calls g c =
    let done = c.search_inner.ensures.calls in
    record {
      state = done.state;
      size = done.size;
      count = record { later = done.count.later; at_most = omega (arith, done.count.later, done.count.at_most) };
      later = done.later;
      cause = λ failed. absurd (let at = failed in cc);
    }
