use Rattle.std.proofs.Common.{rules, sym, subst, Ok, Some, Option, Result, length}
use Rattle.std.specs.Prelude.{IsErrOf}
use Rattle.std.proofs.lemmas.Result.{err_from_is_err_and}
use Rattle.lt_format.specs.declared.geometry.Geometry.{Geometry}
use Rattle.lt_format.specs.Trie.{Trie}
use Rattle.lt_item.specs.Views.{item_of}
use Rattle.lt_htable.specs.declared.faults.LookFault.{LookFault}
use Rattle.lt_htable.specs.declared.faults.LookFault.TheVariants.{Damaged}
use Rattle.lt_search.specs.Found.{value_len}
use Rattle.lt_search.specs.Seen.{IsBucketOnPath}
use Rattle.lt_terms.specs.Items.{Item}
use Rattle.lt_store.specs.Getting.{AnswersSeen, seen_of}
use Rattle.lt_store.specs.Open.{StoreView}
use Rattle.lt_store.specs.View.{view_of}
use Rattle.lt_store.proofs.AnswerLaws.{answer-memory, answer-found, answer-fault, bounded, counts-none, named-within}
use Rattle.lt_store.proofs.SeenLaws.{answers-seen, given-seen, memory-seen}
use Rattle.lt_store.proofs.StopLaws.{path-stops}
use Rattle.lt_store.proofs.store.Store.get.Goals as goal
use Rattle.lt_store.proofs.store.Store.get.Goals.{in-Some, in-None+in_ok-version-in-None}

pub search-requires-clause-within : goal.search-requires-clause-within
search-requires-clause-within g c = rw (c.trie.ensures.nodes, c.geometry.ensures.geometry) (named-within c.args.self.now.manifest _ c.trie.ensures.kept c.requires.within)

-- ---- the tables fail

pub returns-in_err-version-in-None-clause-answer :
    goal.returns-in_err-version-in-None-clause-answer
returns-in_err-version-in-None-clause-answer g c = λ durable opened.
    let s = c.args.self.now in
    let fault = err_from_is_err_and c.from_residual.result c.from_residual.ensures.1 in
    rw (fault.1, fault.2)
    (answer-fault (view_of s) durable (g.D.Device.state c.args.device.now) opened (length s.filters) (s.kept c.requires.up) c.args.key.now (sym c.in-None.ensures.item) _ _ c.geometry.ensures.geometry c.trie.ensures.nodes
    c.in_err-version-in-None.field-0.0 c.args.out.now c.search.new.out c.in_err-version-in-None.ensures.answer)

pub returns-in_err-version-in-None-clause-damaged : goal.returns-in_err-version-in-None-clause-damaged
returns-in_err-version-in-None-clause-damaged g c = λ b is.
    let s = c.args.self.now in
    let was : IsErrOf c.search.result (Damaged b) = search rules in
    path-stops s.manifest c.trie.ensures.kept _ c.args.key.now b (c.search.ensures.ends.damaged b was)
    (subst (λ (t : Trie). IsBucketOnPath s.manifest.geometry t c.args.key.now b) c.trie.ensures.nodes
    (subst (λ (h : Geometry). IsBucketOnPath h c.trie.result.now.nodes c.args.key.now b) c.geometry.ensures.geometry (c.search.ensures.ends.damaged_block b was)))

pub returns-in_err-version-in-None-clause-bound : goal.returns-in_err-version-in-None-clause-bound
returns-in_err-version-in-None-clause-bound g c = λ durable opened image told p opens.
    let s = c.args.self.now in
    bounded (view_of s) durable (g.D.Device.state c.args.device.now) opened (length s.filters) (s.kept c.requires.up) c.args.key.now (sym c.in-None.ensures.item) _ _ c.geometry.ensures.geometry c.trie.ensures.nodes _ _ c.search.ensures.bound image p told opens

-- ---- the memory table answers, or the tables do

pub returns-clause-answer : goal.returns-clause-answer
returns-clause-answer g c = λ durable opened.
    let s = c.args.self.now in
    let k = s.kept c.requires.up in
    elim c.match-find.branch [
      | in-Some w ↦
          let at = answer-memory (view_of s) durable (g.D.Device.state c.args.device.now) opened (length s.filters) k c.args.key.now (item_of w.in-Some.item) w.show.result c.args.out.now w.show.new.out (sym w.in-Some.ensures.item) (w.show.ensures.version, w.show.ensures.page) in
          rw (w.out-is, c.value_len.ensures, w.version-is) at
      | in-None+in_ok-version-in-None w ↦
          let at = answer-found (view_of s) durable (g.D.Device.state c.args.device.now) opened (length s.filters) k c.args.key.now (sym w.in-None.ensures.item) _ _ w.geometry.ensures.geometry w.trie.ensures.nodes
          w.in_ok-version-in-None.version c.args.out.now w.search.new.out w.in_ok-version-in-None.ensures.answer in
          rw (w.out-is, c.value_len.ensures, w.version-is) at
    ]

pub returns-clause-seen : goal.returns-clause-seen
returns-clause-seen g c = λ image told.
    let s = c.args.self.now in
    let v : StoreView = view_of s in
    elim c.match-find.branch [
      | in-Some w ↦
          let seen = memory-seen v image c.args.key.now (item_of w.in-Some.item) (sym w.in-Some.ensures.item) in
          let at = subst (λ (answer : Result (Option Item) LookFault). AnswersSeen w.show.new.out answer (Ok (value_len (Some w.show.result)))) (sym seen)
          (answers-seen (Ok (Some (item_of w.in-Some.item))) (Some w.show.result) c.args.out.now w.show.new.out (w.show.ensures.version, w.show.ensures.page)) in
          rw (w.out-is, c.value_len.ensures, w.version-is) at
      | in-None+in_ok-version-in-None w ↦
          let answer = given-seen v image c.args.key.now _ _ (Ok w.in_ok-version-in-None.version) c.args.out.now w.search.new.out (sym w.in-None.ensures.item) w.geometry.ensures.geometry w.trie.ensures.nodes (w.in_ok-version-in-None.ensures.seen image told) in
          let at = answers-seen (seen_of v image c.args.key.now) w.in_ok-version-in-None.version c.args.out.now w.search.new.out answer in
          rw (w.out-is, c.value_len.ensures, w.version-is) at
    ]

pub returns-clause-bound : goal.returns-clause-bound
returns-clause-bound g c = λ durable opened image told p opens.
    let s = c.args.self.now in
    elim c.match-find.branch [
      | in-Some w ↦ rw w.device-is (counts-none _ _)
      | in-None+in_ok-version-in-None w ↦
          rw w.device-is
          (bounded (view_of s) durable (g.D.Device.state c.args.device.now) opened (length s.filters) (s.kept c.requires.up) c.args.key.now (sym w.in-None.ensures.item) _ _ w.geometry.ensures.geometry w.trie.ensures.nodes _ _ w.search.ensures.bound image p told opens)
    ]
