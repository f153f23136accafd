-- What a get sees of a key, and what it answers then.
use Rattle.std.proofs.Common.{◌≡◌, ℕ, ap, subst, sym, ◌∙◌, List, Option, Some, None, Result, Ok, Err}
use Rattle.lt_terms.specs.Bytes.{Image}
use Rattle.lt_terms.specs.Items.{Item}
use Rattle.lt_tables.specs.Table.{newest_of}
use Rattle.lt_format.specs.declared.geometry.Geometry.{Geometry}
use Rattle.lt_format.specs.Snapshot.{Named}
use Rattle.lt_format.specs.Trie.{Trie}
use Rattle.lt_htable.specs.declared.faults.LookFault.{LookFault}
use Rattle.lt_htable.specs.declared.faults.LookFault.TheVariants.{Device, Damaged}
use Rattle.lt_image.specs.Versions.{log_items, stops}
use Rattle.lt_search.specs.declared.version.Version.{Version}
use Rattle.lt_search.specs.Asking.{is_asked}
use Rattle.lt_search.specs.Found.{value_len}
use Rattle.lt_search.specs.Seen.{IsSeen, before_older, seen_along}
use Rattle.lt_search.proofs.SoundLaws.{kept-seen}
use Rattle.lt_store.specs.Getting.{AnswersSeen, seen_below, seen_of}
use Rattle.lt_store.specs.Open.{StoreView}
use Rattle.lt_store.specs.Promise.{seen_on}
use Rattle.lt_store.specs.Reading.{Reads}
use Rattle.lt_store.proofs.AnswerLaws.{finds}

pub answers-seen : (answer : Result (Option Item) LookFault) (version : Option Version) (old new : List ℕ) → IsSeen answer (Ok version) old new → AnswersSeen new answer (Ok (value_len version))
answers-seen (Ok item) version old new h = finds item version old new h
answers-seen (Err fault) version old new h = h

pub answers-fault : (answer : Result (Option Item) LookFault) (fault : LookFault) (old new : List ℕ) → IsSeen answer (Err fault) old new → AnswersSeen new answer (Err fault)
answers-fault (Ok item) Device old new h = tt
answers-fault (Ok item) (Damaged b) old new h = h
answers-fault (Err seen) fault old new h = h

module _ (v : StoreView) (image : Image) (key : List ℕ) where
  pub memory-seen : (item : Item) → newest_of key v.memory ≡ Some item → seen_of v image key ≡ Ok (Some item)
  memory-seen item is = ap (λ (o : Option Item). before_older (Ok o) (seen_below v image key)) is

  -- a search that was given the store's parts
  pub given-seen : (g : Geometry) (trie : Trie) (result : Result (Option Version) LookFault) (old new : List ℕ) → newest_of key v.memory ≡ None → g ≡ v.named.geometry → trie ≡ v.named.manifest.trie
      → IsSeen (seen_along (is_asked g v.kept image trie key) g image key (stops g.levels trie key)) result old new → IsSeen (seen_of v image key) result old new
  given-seen g trie result old new none geometry nodes h =
      let below : seen_along (is_asked g v.kept image trie key) g image key (stops g.levels trie key) ≡ seen_below v image key =
      λ i. seen_along (is_asked (geometry i) v.kept image (nodes i) key) (geometry i) image key (stops (geometry i).levels (nodes i) key) in
      subst (λ (answer : Result (Option Item) LookFault). IsSeen answer result old new) (below ∙ sym (ap (λ (o : Option Item). before_older (Ok o) (seen_below v image key)) none)) h

-- a store that was opened sees what the image shows
pub opened-seen : (v : StoreView) (image : Image) (r : Reads v image) (key : List ℕ) → seen_of v image key ≡ seen_on r.opened image key
opened-seen v image r key =
    let n : Named = r.opened.named in
    ap (λ (xs : List Item). before_older (Ok (newest_of key xs)) (seen_below v image key)) r.memory
    ∙ ap (λ (m : Named). before_older (Ok (newest_of key (log_items r.opened))) (seen_along (is_asked m.geometry v.kept image m.manifest.trie key) m.geometry image key (stops m.geometry.levels m.manifest.trie key))) r.named_is
    ∙ ap (before_older (Ok (newest_of key (log_items r.opened)))) (kept-seen n.geometry v.kept image n.manifest.trie key r.filters.each)
