-- What an open store's image holds, and what a get answers from it.
use Rattle.std.proofs.Common.{◌≡◌, ℕ, ◌+◌, ◌<◌, ◌≤◌, refl, sym, ap, subst, ◌∙◌, List, ◌++◌, length, Bool, true, false, cond, Option, Some, None, Result, Ok, Err, length-append, arith}
use Rattle.std.specs.List.{AllByRecursion}
use Rattle.std.specs.Option.{is_some, option_or}
use Rattle.std.proofs.lemmas.List.{take_at}
use Rattle.std.proofs.lemmas.List.Sums.{fold-append}
use Rattle.lt_terms.specs.Bytes.{Image}
use Rattle.lt_terms.specs.Items.{Item, value_at, applied, after_items, empty_map}
use Rattle.lt_language.specs.Machine.{State}
use Rattle.lt_device.specs.State as told
use Rattle.lt_device.specs.Reads.{CountsAtMost}
use Rattle.lt_tables.specs.Table.{newest_of, value_of, is_put}
use Rattle.lt_tables.proofs.RankLaws.{newest_or}
use Rattle.lt_tables.proofs.NewestLaws.{newest_of-append}
use Rattle.lt_tables.proofs.VersionLaws.{get_versions}
use Rattle.lt_tables.proofs.ListLaws.{all_weaker}
use Rattle.lt_format.specs.declared.geometry.Geometry.{Geometry}
use Rattle.lt_format.specs.Log.{items_in}
use Rattle.lt_format.specs.Layout.{extent_block}
use Rattle.lt_format.specs.Snapshot.{Named}
use Rattle.lt_format.specs.Trie.{Trie, named}
use Rattle.lt_htable.specs.declared.faults.LookFault.{LookFault}
use Rattle.lt_htable.specs.declared.faults.LookFault.TheVariants.{Device, Damaged}
use Rattle.lt_image.specs.Bound.{holds_key, met, read_bound, reads_of}
use Rattle.lt_image.specs.Versions.{Opened, at_stops, items_at, open_image, versions}
use Rattle.lt_image.proofs.OpenLaws.{opens-well}
use Rattle.lt_image.proofs.PathLaws.{newest_or-is}
use Rattle.lt_image.proofs.SoundLaws.{sound-found}
use Rattle.lt_image.proofs.StandLaws.{StandsAs, stands-as}
use Rattle.lt_manifest.specs.Promise as manifests
use Rattle.lt_search.specs.declared.version.Version.{Version}
use Rattle.lt_search.specs.declared.version.Version.TheVariants.{Value, Deleted}
use Rattle.lt_search.specs.Found.{IsAnswer, IsVersion, page_with, value_len, version_of, with_value}
use Rattle.lt_search.specs.Kept.{IsSoundWith}
use Rattle.lt_search.proofs.SoundLaws.{held-newest}
use Rattle.lt_store.specs.Getting.{Finds, Answers}
use Rattle.lt_store.specs.Kept.{IsKept}
use Rattle.lt_store.specs.Open.{StoreView, IsOpen, state_of}
use Rattle.lt_store.proofs.MomentLaws.{open-image}
use Rattle.lt_store.proofs.StopLaws.{named-below}

-- ---- a value at the front of a page

finds_put : (value old : List ℕ) (b : Bool) → Finds (cond b (with_value old value) old) (cond b (Some value) None) (value_len (Some (cond b (Value (length value)) Deleted)))
finds_put value old true = (refl, take_at value _ (length value) refl)
finds_put value old false = tt

pub finds : (item : Option Item) (version : Option Version) (old new : List ℕ) → IsVersion item version old new → Finds new (value_of item) (value_len version)
finds None None old new is = tt
finds None (Some w) old new is = absurd is
finds (Some v) None old new is = absurd is
finds (Some v) (Some w) old new is =
    subst (λ (page : List ℕ). Finds page (value_of (Some v)) (value_len (Some w))) (sym is.1)
    (subst (λ (x : Version). Finds (page_with v old) (value_of (Some v)) (value_len (Some x))) (sym is.0) (finds_put v.value old (is_put v)))

answers : (item : Option Item) (found : Option Item) (version : Option Version) (old new : List ℕ) → found ≡ item → IsVersion item version old new → Answers new (value_of found) (Ok (value_len version))
answers item found version old new is h = finds found version old new (subst (λ (o : Option Item). IsVersion o version old new) (sym is) h)

-- ---- the image of an open store

same_image : (a b : Image) → Some a ≡ Some b → a ≡ b
same_image a b h = cc

same_opened : (a b : Opened) → ◌≡◌ {A = Result Opened ℕ} (Ok a) (Ok b) → a ≡ b
same_opened a b h = cc

or_joins : (a b c : Option Item) → option_or a (option_or b c) ≡ option_or (option_or a b) c
or_joins None b c = refl
or_joins (Some v) b c = refl

module _ (v : StoreView) (d : State) (device : told.State) (o : IsOpen v d device) (filters : ℕ) (k : IsKept v.named v.log v.memory v.taken filters v.writes v.work) (key : List ℕ) where
  -- what the tables on the key's path have of it
  below : Option Item
  below = at_stops (items_at v.named.geometry o.rest.image) v.named.geometry.levels v.named.manifest.trie key

  opened : Opened
  opened = record { named = v.named; groups = o.groups }

  sound_as : StandsAs o.rest.image opened d
  unfolding opened
  sound_as = stands-as o.rest.image opened d (open-image v d device o k.area k.start) (o.rest.each o.rest.image o.rest.tells)

  newest_stored : newest_of key (versions opened o.rest.image) ≡ option_or (newest_of key (items_in o.groups)) below
  unfolding opened below
  newest_stored = sound-found opened o.rest.image key (opens-well o.rest.image opened (open-image v d device o k.area k.start)).rising sound_as.sound

  newest_all : newest_of key (versions opened o.rest.image ++ v.log.pending) ≡ option_or (newest_of key v.memory) below
  newest_all =
      let log = newest_of key (items_in o.groups) in
      let pending = newest_of key v.log.pending in
      newest_of-append key (versions opened o.rest.image) v.log.pending
      ∙ ap (λ (w : Option Item). newest_or w pending) newest_stored
      ∙ newest_or-is (option_or log below) pending
      ∙ or_joins pending log below
      ∙ ap (λ (w : Option Item). option_or w below) (sym (newest_or-is log pending) ∙ sym (newest_of-append key (items_in o.groups) v.log.pending) ∙ ap (newest_of key) (sym o.memory))

  -- the value of a key is that of its newest version in the memory table, and else in the tables
  value-newest : value_at (state_of v d).map key ≡ value_of (option_or (newest_of key v.memory) below)
  value-newest =
      ap (λ m. value_at (after_items m v.log.pending) key) (sym sound_as.map)
      ∙ ap (λ m. value_at m key) (sym (fold-append applied empty_map (versions opened o.rest.image) v.log.pending))
      ∙ get_versions (versions opened o.rest.image ++ v.log.pending) key
      ∙ ap value_of newest_all

  answered : (item : Option Item) (version : Option Version) (old new : List ℕ) → option_or (newest_of key v.memory) below ≡ item → IsVersion item version old new → Answers new (value_at (state_of v d).map key) (Ok (value_len version))
  answered item version old new is h =
      subst (λ value. Answers new value (Ok (value_len version))) (sym value-newest)
      (answers item (option_or (newest_of key v.memory) below) version old new is h)

  -- the number of writes
  pub all-writes : (state_of v d).writes ≡ v.writes
  unfolding opened
  all-writes =
      let memory : length v.memory ≡ length (items_in o.groups) + length v.log.pending = ap length o.memory ∙ length-append (items_in o.groups) v.log.pending in
      let durable : v.named.manifest.header.writes + length (items_in o.groups) ≡ d.writes = sound_as.writes in
      let number = k.number in
      omega (arith, memory, durable, number)

  -- the memory table's answer
  pub answer-memory : (item : Item) (version : Version) (old new : List ℕ) → newest_of key v.memory ≡ Some item → (version ≡ version_of item) × (new ≡ page_with item old) → Answers new (value_at (state_of v d).map key) (Ok (value_len (Some version)))
  answer-memory item version old new is h = answered (Some item) (Some version) old new (ap (λ (w : Option Item). option_or w below) is) h

  -- ---- a search that was given the store's parts, where the memory table has none

  sound-with : IsSoundWith v.named.geometry v.kept o.rest.image v.named.manifest.trie
  unfolding opened
  sound-with = record { opened = opened; opens = open-image v d device o k.area k.start; sound = sound_as.sound; geometry = refl; trie_is = refl; filters = o.filters }

  module _ (none : newest_of key v.memory ≡ None) (g : Geometry) (trie : Trie) (geometry : g ≡ v.named.geometry) (nodes : trie ≡ v.named.manifest.trie) where
    -- what it answers
    searched : (result : Result (Option Version) LookFault) (old new : List ℕ)
        → ((image : Image) → device.shown ≡ Some image → IsSoundWith g v.kept image trie → IsAnswer (at_stops (items_at g image) g.levels trie key) result old new) → IsAnswer below result old new
    unfolding below
    searched result old new h =
        let P : Geometry → Trie → Type 0 = λ f t. (image : Image) → device.shown ≡ Some image → IsSoundWith f v.kept image t → IsAnswer (at_stops (items_at f image) f.levels t key) result old new in
        subst (λ t. P v.named.geometry t) nodes (subst (λ f. P f trie) geometry h) o.rest.image o.rest.shown sound-with

    pub answer-found : (version : Option Version) (old new : List ℕ)
        → ((image : Image) → device.shown ≡ Some image → IsSoundWith g v.kept image trie → IsAnswer (at_stops (items_at g image) g.levels trie key) (Ok version) old new)
        → Answers new (value_at (state_of v d).map key) (Ok (value_len version))
    answer-found version old new h = answered below version old new (ap (λ (w : Option Item). option_or w below) none) (searched (Ok version) old new h)

    pub answer-fault : (fault : LookFault) (old new : List ℕ)
        → ((image : Image) → device.shown ≡ Some image → IsSoundWith g v.kept image trie → IsAnswer (at_stops (items_at g image) g.levels trie key) (Err fault) old new)
        → Answers new (value_at (state_of v d).map key) (Err fault)
    answer-fault Device old new h = tt
    answer-fault (Damaged b) old new h = searched (Err (Damaged b)) old new h

    bound_is : read_bound opened o.rest.image v.log.pending key ≡ reads_of v.named.geometry o.rest.image key (met v.named.geometry o.rest.image v.named.manifest.trie key)
    unfolding opened read_bound
    bound_is = ap (λ (b : Bool). cond b 0 (reads_of v.named.geometry o.rest.image key (met v.named.geometry o.rest.image v.named.manifest.trie key)))
        (ap (holds_key key) (sym o.memory) ∙ sym (held-newest key v.memory) ∙ ap is_some none)

    -- how many blocks it reads
    pub bounded : (before now : ℕ)
        → ((image : Image) → device.shown ≡ Some image → IsSoundWith g v.kept image trie → CountsAtMost (reads_of g image key (met g image trie key)) before now)
        → (image : Image) (p : Opened) → device.shown ≡ Some image → open_image image ≡ Ok p → CountsAtMost (read_bound p image v.log.pending key) before now
    unfolding opened
    bounded before now h image p told opens =
        let P : Geometry → Trie → Type 0 = λ f t. (image : Image) → device.shown ≡ Some image → IsSoundWith f v.kept image t → CountsAtMost (reads_of f image key (met f image t key)) before now in
        let reads = subst (λ t. P v.named.geometry t) nodes (subst (λ f. P f trie) geometry h) o.rest.image o.rest.shown sound-with in
        let here = subst (λ n. CountsAtMost n before now) (sym bound_is) reads in
        let same : o.rest.image ≡ image = same_image o.rest.image image (sym o.rest.shown ∙ told) in
        let names : opened ≡ p = same_opened opened p (sym (open-image v d device o k.area k.start) ∙ ap open_image same ∙ opens) in
        subst (λ (q : Opened). CountsAtMost (read_bound q image v.log.pending key) before now) names
        (subst (λ (i : Image). CountsAtMost (read_bound opened i v.log.pending key) before now) same here)

-- no read is no more than any number of them
pub counts-none : (n a : ℕ) → CountsAtMost n a a
counts-none n a = record { later = omega arith; at_most = omega arith }

-- ---- the extents that a manifest names lie on the device

extent_within : (g : Geometry) (x extents blocks : ℕ) → extent_block g extents ≤ blocks → x < extents → extent_block g x + 65 ≤ blocks
extent_within g x extents blocks within below = omega arith

pub named-within : (n : Named) (blocks : ℕ) → manifests.IsKept n → extent_block n.geometry n.manifest.header.extents ≤ blocks → AllByRecursion (λ x. extent_block n.geometry x + 65 ≤ blocks) (named n.manifest.trie)
named-within n blocks k within =
    all_weaker (λ x. x < n.manifest.header.extents) (λ x. extent_block n.geometry x + 65 ≤ blocks)
    (λ x below. extent_within n.geometry x n.manifest.header.extents blocks within below) (named n.manifest.trie) (named-below n k)
