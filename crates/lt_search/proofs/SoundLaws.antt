-- A search of a sound image finds the newest version of the key, within the bound of reads.
use Rattle.std.proofs.Common.{◌≡◌, ℕ, zero, suc, ◌+◌, ◌<◌, refl, sym, ap, subst, ◌∙◌, List, [], ◌∷◌, length, get_or, Bool, true, false, cond, ◌||◌, Option, Some, None, Result, Ok, arith}
use Rattle.std.specs.Prelude.{IsFalse}
use Rattle.std.specs.List.{AllByRecursion, filter, last_or}
use Rattle.std.specs.Option.{is_some, option_map_or, option_or}
use Rattle.lt_terms.specs.Bytes.{Image, same_bytes}
use Rattle.lt_terms.specs.Hashes.{home_column}
use Rattle.lt_terms.specs.Items.{Item}
use Rattle.lt_device.specs.Reads.{CountsAtMost}
use Rattle.lt_tables.specs.Filter.{covers}
use Rattle.lt_tables.specs.Table.{IsPlaced, blocks_from, newest, newest_of}
use Rattle.lt_tables.proofs.HashLaws.{home_column-small}
use Rattle.lt_tables.proofs.ListLaws.{all_join}
use Rattle.lt_tables.proofs.NewestLaws.{newest_of-newest}
use Rattle.lt_format.specs.declared.geometry.Geometry.{Geometry}
use Rattle.lt_format.specs.declared.node_id.NodeId.{NodeId}
use Rattle.lt_format.specs.Layout.{extent_block}
use Rattle.lt_format.specs.Trie.{Trie, is_last_level, node_at, path}
use Rattle.lt_htable.specs.declared.faults.LookFault.{LookFault}
use Rattle.lt_htable.proofs.PlacedLaws.{looked_up-placed}
use Rattle.lt_image.specs.Bound.{groups_met, holds_key, met, reads_of, up_to_first}
use Rattle.lt_image.specs.Versions.{is_covered}
use Rattle.lt_image.specs.Versions.{Opened, open_image, Stop, at_stops, extent_in, first_some, items_at, stops}
use Rattle.lt_image.specs.Standing.{bad_blocks}
use Rattle.lt_image.proofs.AfterLaws.{node_at-holds}
use Rattle.lt_image.proofs.GroupAnswerLaws.{groups-answer}
use Rattle.lt_image.proofs.PlacedLaws.{named-placed, named-skips}
use Rattle.lt_search.specs.declared.version.Version.{Version}
use Rattle.lt_search.specs.Asking.{asks_kept, is_asked}
use Rattle.lt_search.specs.Seen.{asks_group, is_asked_on}
use Rattle.lt_search.specs.Found.{IsAnswer}
use Rattle.lt_search.specs.Kept.{IsSoundWith, KeepsFilter, inner_pile, inner_tables, may_hold}
use Rattle.lt_search.specs.Reads.{path_reads}
use Rattle.lt_search.specs.Seen.{IsSeen, before_older, is_told, met_along, pile_stops, seen_along, seen_at, seen_in}
use Rattle.lt_search.proofs.KeepLaws.{all_at, flat_all, none_kept}
use Rattle.lt_search.proofs.LookLaws.{seen-looked}
use Rattle.lt_search.proofs.SearchLaws.{same-buckets, same-seen}
use Rattle.lt_search.proofs.StopLaws.{all_up_to, path-more, stops-all}

-- ---- one table

last_some : (v : Item) (xs : List Item) → is_some (last_or (Some v) xs) ≡ true
last_some v [] = refl
last_some v (x ∷ xs) = last_some x xs

-- some version of a key stands among the items exactly where there is a newest one
pub held-newest : (key : List ℕ) (items : List Item) → is_some (newest_of key items) ≡ holds_key key items
held-newest key [] = refl
held-newest key (v ∷ vs) = by_same (same_bytes v.key key) (held-newest key vs)
  where
    by_same : (b : Bool) → is_some (newest_of key vs) ≡ holds_key key vs → is_some (last_or None (cond b (v ∷ filter (λ (w : Item). same_bytes w.key key) vs) (filter (λ (w : Item). same_bytes w.key key) vs))) ≡ (b || holds_key key vs)
    by_same true rest = last_some v (filter (λ (w : Item). same_bytes w.key key) vs)
    by_same false rest = rest

seen-placed : (image : Image) (first : ℕ) (key : List ℕ) (items : List Item) → IsPlaced (newest items) (blocks_from image first) → seen_in image first key ≡ Ok (newest_of key items)
seen-placed image first key items placed =
    looked_up-placed image (Some image) first key (newest items) (seen_in image first key) refl placed (seen-looked image first key)
    ∙ ap (λ (o : Option Item). Ok o) (newest_of-newest key items)

-- the filter that is asked is the table's own, and what is seen there is the newest version
pub record IsTold (asks : Stop → Bool) (g : Geometry) (image : Image) (key : List ℕ) (s : Stop) : Type 0 where
  pub asked : asks s ≡ is_covered g image key s
  pub seen : seen_at asks g image key s ≡ Ok (newest_of key (items_at g image s.extent))

told-by : (asks : Stop → Bool) (g : Geometry) (image : Image) (key : List ℕ) (s : Stop) → asks s ≡ is_covered g image key s → IsPlaced (newest (items_at g image s.extent)) (extent_in g image s.extent)
    → (IsFalse (covers (extent_in g image s.extent 64) (home_column key) key) → newest_of key (items_at g image s.extent) ≡ None) → IsTold asks g image key s
told-by asks g image key s same placed skips = record {
  asked = same;
  seen = ap (λ (b : Bool). cond b (seen_in image (extent_block g s.extent) key) (Ok None)) same ∙ by_covered (is_covered g image key s) refl;
}
  where
    by_covered : (b : Bool) → is_covered g image key s ≡ b → cond b (seen_in image (extent_block g s.extent) key) (Ok None) ≡ Ok (newest_of key (items_at g image s.extent))
    by_covered true is = seen-placed image (extent_block g s.extent) key (items_at g image s.extent) placed
    by_covered false is = ap (λ (o : Option Item). Ok o) (sym (skips is))

-- ---- tables that tell

module _ (asks : Stop → Bool) (g : Geometry) (image : Image) (key : List ℕ) where
  joined : (a b : Option Item) → before_older (Ok a) (Ok b) ≡ Ok (option_or a b)
  joined None b = refl
  joined (Some item) b = refl

  told-some : (o : Option Item) → is_told (Ok o) ≡ is_some o
  told-some None = refl
  told-some (Some item) = refl

  told-along : (ss : List Stop) → AllByRecursion (IsTold asks g image key) ss → seen_along asks g image key ss ≡ Ok (first_some (λ (s : Stop). newest_of key (items_at g image s.extent)) ss)
  told-along [] all = refl
  told-along (s ∷ ss) all =
      ap (λ (a : Result (Option Item) LookFault). before_older a (seen_along asks g image key ss)) all.0.seen
      ∙ ap (before_older (Ok (newest_of key (items_at g image s.extent)))) (told-along ss all.1)
      ∙ joined (newest_of key (items_at g image s.extent)) (first_some (λ (s : Stop). newest_of key (items_at g image s.extent)) ss)

  told-met : (ss : List Stop) → AllByRecursion (IsTold asks g image key) ss → met_along asks g image key ss ≡ up_to_first (λ (s : Stop). holds_key key (items_at g image s.extent)) ss
  told-met [] all = refl
  told-met (s ∷ ss) all =
      let here : is_told (seen_at asks g image key s) ≡ holds_key key (items_at g image s.extent) = ap is_told all.0.seen ∙ told-some (newest_of key (items_at g image s.extent)) ∙ held-newest key (items_at g image s.extent) in
      ap (λ (b : Bool). s ∷ cond b [] (met_along asks g image key ss)) here
      ∙ ap (λ (zs : List Stop). s ∷ cond (holds_key key (items_at g image s.extent)) [] zs) (told-met ss all.1)

  asked_all : (ss : List Stop) → AllByRecursion (IsTold asks g image key) ss → AllByRecursion (λ s. asks s ≡ is_covered g image key s) ss
  asked_all [] all = tt
  asked_all (s ∷ ss) all = (all.0.asked, asked_all ss all.1)

  told-reads : (ss : List Stop) → AllByRecursion (IsTold asks g image key) ss → path_reads asks g image key ss ≡ reads_of g image key ss
  unfolding reads_of
  told-reads ss all = ap (λ n. n + groups_met g.levels ss) (same-buckets asks (is_covered g image key) g image key ss (asked_all ss all))

-- ---- the tables on a path

-- the filters of an inner node's tables are kept
node-keeps : (P : ℕ → Type 0) (levels : ℕ) (trie : Trie) (id : NodeId) → is_last_level levels id ≡ false → AllByRecursion P (inner_tables levels trie) → AllByRecursion P (node_at trie id).tables
node-keeps P levels trie id inner all =
    subst (λ (b : Bool). AllByRecursion P (cond b [] (node_at trie id).tables)) inner
    (node_at-holds (λ e. AllByRecursion P (inner_pile levels e)) id trie (none_kept P (is_last_level levels id)) (flat_all P (inner_pile levels) trie all))

-- ---- the filters that are kept, on any image

module _ (g : Geometry) (kept : List (Option (List ℕ))) (image : Image) (trie : Trie) (key : List ℕ) (keeps : AllByRecursion (KeepsFilter g kept image) (inner_tables g.levels trie)) where
  same-inner : (b x y z : Bool) → (b ≡ false → y ≡ z) → cond b x y ≡ cond b x z
  same-inner true x y z same = refl
  same-inner false x y z same = same refl

  kept-right : (id : NodeId) (i j : ℕ) → j < length (node_at trie id).tables → is_asked g kept image trie key (record { node = id; index = i; extent = get_or (node_at trie id).tables j 0 }) ≡ is_asked_on g image trie key (record { node = id; index = i; extent = get_or (node_at trie id).tables j 0 })
  kept-right id i j small =
      same-inner (is_last_level g.levels id) (asks_group g (node_at trie id).groups image key (record { node = id; index = i; extent = get_or (node_at trie id).tables j 0 }))
      (may_hold kept key (get_or (node_at trie id).tables j 0)) (covers (extent_in g image (get_or (node_at trie id).tables j 0) 64) (home_column key) key) (λ inner.
      ap (λ (f : Option (List ℕ)). option_map_or (λ page. covers page (home_column key) key) f true)
      (all_at (KeepsFilter g kept image) (node_at trie id).tables j (node-keeps (KeepsFilter g kept image) g.levels trie id inner keeps) small))

  kept-path : (n : ℕ) → AllByRecursion (λ s. is_asked g kept image trie key s ≡ is_asked_on g image trie key s) (stops n trie key)
  kept-path zero = tt
  kept-path (suc n) =
      let P = λ (s : Stop). is_asked g kept image trie key s ≡ is_asked_on g image trie key s in
      let id : NodeId = path key n in
      subst (AllByRecursion P) (sym (path-more n trie key))
      (all_join P (stops n trie key) (pile_stops id 0 (node_at trie id).tables) (kept-path n) (stops-all P id 0 (node_at trie id).tables (λ j small. kept-right id (0 + j) j small)))

  pub kept-seen : seen_along (is_asked g kept image trie key) g image key (stops g.levels trie key) ≡ seen_along (is_asked_on g image trie key) g image key (stops g.levels trie key)
  kept-seen = same-seen (is_asked g kept image trie key) (is_asked_on g image trie key) g image key (stops g.levels trie key) (kept-path g.levels)

-- ---- the tables of a sound image

module _ (kept : List (Option (List ℕ))) (image : Image) (o : Opened) (key : List ℕ) (opens : open_image image ≡ Ok o) (sound : bad_blocks o image ≡ []) (keeps : AllByRecursion (KeepsFilter o.named.geometry kept image) (inner_tables o.named.geometry.levels o.named.manifest.trie)) where
  own_geometry : Geometry
  own_geometry = o.named.geometry

  own_trie : Trie
  own_trie = o.named.manifest.trie

  asked-right : (id : NodeId) (j : ℕ) → j < length (node_at own_trie id).tables → is_asked own_geometry kept image own_trie key (record { node = id; index = j; extent = get_or (node_at own_trie id).tables j 0 }) ≡ is_covered own_geometry image key (record { node = id; index = j; extent = get_or (node_at own_trie id).tables j 0 })
  unfolding own_geometry own_trie
  asked-right id j small = by_last (is_last_level own_geometry.levels id) refl
    where
      s : Stop
      s = record { node = id; index = j; extent = get_or (node_at own_trie id).tables j 0 }

      by_last : (b : Bool) → is_last_level own_geometry.levels id ≡ b → cond b (asks_group own_geometry (node_at own_trie id).groups image key s) (asks_kept kept key s) ≡ is_covered own_geometry image key s
      by_last true last = groups-answer image o id j (home_column key) key opens sound last small (home_column-small key)
      by_last false inner =
          let kept_here = all_at (KeepsFilter own_geometry kept image) (node_at own_trie id).tables j (node-keeps (KeepsFilter own_geometry kept image) own_geometry.levels own_trie id inner keeps) small in
          ap (λ (f : Option (List ℕ)). option_map_or (λ page. covers page (home_column key) key) f true) kept_here

  told-pile : (id : NodeId) → AllByRecursion (IsTold (is_asked own_geometry kept image own_trie key) own_geometry image key) (pile_stops id 0 (node_at own_trie id).tables)
  unfolding own_geometry own_trie
  told-pile id = stops-all (IsTold (is_asked own_geometry kept image own_trie key) own_geometry image key) id 0 (node_at own_trie id).tables (λ j small.
      let x : ℕ = get_or (node_at own_trie id).tables j 0 in
      let from_zero : j ≡ 0 + j = omega arith in
      subst (λ m. IsTold (is_asked own_geometry kept image own_trie key) own_geometry image key (record { node = id; index = m; extent = x })) from_zero
      (told-by (is_asked own_geometry kept image own_trie key) own_geometry image key (record { node = id; index = j; extent = x }) (asked-right id j small)
      (all_at (λ x. IsPlaced (newest (items_at own_geometry image x)) (extent_in own_geometry image x)) (node_at own_trie id).tables j (named-placed image o id sound) small)
      (all_at (λ x. IsFalse (covers (extent_in own_geometry image x 64) (home_column key) key) → newest_of key (items_at own_geometry image x) ≡ None) (node_at own_trie id).tables j (named-skips image o id key sound) small)))

  told-path : (n : ℕ) → AllByRecursion (IsTold (is_asked own_geometry kept image own_trie key) own_geometry image key) (stops n own_trie key)
  told-path zero = tt
  told-path (suc n) =
      subst (AllByRecursion (IsTold (is_asked own_geometry kept image own_trie key) own_geometry image key)) (sym (path-more n own_trie key))
      (all_join (IsTold (is_asked own_geometry kept image own_trie key) own_geometry image key) (stops n own_trie key) (pile_stops (path key n) 0 (node_at own_trie (path key n)).tables) (told-path n) (told-pile (path key n)))

  pub told-here : AllByRecursion (IsTold (is_asked o.named.geometry kept image o.named.manifest.trie key) o.named.geometry image key) (stops o.named.geometry.levels o.named.manifest.trie key)
  unfolding own_geometry own_trie
  told-here = told-path own_geometry.levels

-- ---- a sound image

sound-told : (g : Geometry) (kept : List (Option (List ℕ))) (image : Image) (trie : Trie) (key : List ℕ) → IsSoundWith g kept image trie → AllByRecursion (IsTold (is_asked g kept image trie key) g image key) (stops g.levels trie key)
sound-told g kept image trie key s =
    let keeps = subst (λ (f : Geometry). AllByRecursion (KeepsFilter f kept image) (inner_tables f.levels s.opened.named.manifest.trie)) (sym s.geometry) (subst (λ (t : Trie). AllByRecursion (KeepsFilter g kept image) (inner_tables g.levels t)) (sym s.trie_is) s.filters) in
    let told = told-here kept image s.opened key s.opens s.sound keeps in
    subst (λ (t : Trie). AllByRecursion (IsTold (is_asked g kept image t key) g image key) (stops g.levels t key)) s.trie_is
    (subst (λ (f : Geometry). AllByRecursion (IsTold (is_asked f kept image s.opened.named.manifest.trie key) f image key) (stops f.levels s.opened.named.manifest.trie key)) s.geometry told)

pub sound-answer : (g : Geometry) (kept : List (Option (List ℕ))) (image : Image) (trie : Trie) (key : List ℕ) (result : Result (Option Version) LookFault) (old new : List ℕ) → IsSoundWith g kept image trie
    → IsSeen (seen_along (is_asked g kept image trie key) g image key (stops g.levels trie key)) result old new → IsAnswer (at_stops (items_at g image) g.levels trie key) result old new
sound-answer g kept image trie key result old new s seen =
    let is = told-along (is_asked g kept image trie key) g image key (stops g.levels trie key) (sound-told g kept image trie key s) in
    subst (λ (a : Result (Option Item) LookFault). IsSeen a result old new) is seen

pub sound-bound : (g : Geometry) (kept : List (Option (List ℕ))) (image : Image) (trie : Trie) (key : List ℕ) (before now : ℕ) → IsSoundWith g kept image trie
    → CountsAtMost (path_reads (is_asked g kept image trie key) g image key (met_along (is_asked g kept image trie key) g image key (stops g.levels trie key))) before now → CountsAtMost (reads_of g image key (met g image trie key)) before now
sound-bound g kept image trie key before now s reads =
    let asks = is_asked g kept image trie key in
    let told = sound-told g kept image trie key s in
    let met_is = told-met asks g image key (stops g.levels trie key) told in
    let is = ap (path_reads asks g image key) met_is ∙ told-reads asks g image key (met g image trie key) (all_up_to (IsTold asks g image key) (λ (t : Stop). holds_key key (items_at g image t.extent)) (stops g.levels trie key) told) in
    subst (λ n. CountsAtMost n before now) is reads
