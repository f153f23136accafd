-- Tables that are built one after another.
use Rattle.std.proofs.Common.{◌≡◌, ◌≢◌, ℕ, zero, suc, ◌+◌, ◌<◌, ◌≤◌, refl, sym, ap, subst, ◌∙◌, List, [], ◌∷◌, length, map, get_or, set, true, false, Option, Some, None, arith, ⊎_elim}
use Rattle.std.specs.List.{AllZip}
use Rattle.std.proofs.lemmas.List.{get_or-set_same, get_or-set_other}
use Rattle.std.proofs.lemmas.Bool.{cases_eq, true≢false}
use Rattle.lt_terms.specs.Bytes.{Image, is_in}
use Rattle.lt_terms.specs.Items.{Item}
use Rattle.lt_terms.proofs.AmongLaws.{in_at}
use Rattle.lt_device.specs.State.{State, SameOutside}
use Rattle.lt_device.specs.Moments.{ConfinedTo, ShowsSameOutside}
use Rattle.lt_device.proofs.Runs.{confined_within}
use Rattle.lt_device.proofs.Steps.{same_some}
use Rattle.lt_tables.specs.Bucket.{bucket_of}
use Rattle.lt_tables.specs.Filter.{filter_block}
use Rattle.lt_tables.specs.Table.{IsPlaced, blocks_from}
use Rattle.lt_format.specs.declared.geometry.Geometry.{Geometry}
use Rattle.lt_format.specs.Layout.{extent_block}
use Rattle.lt_format.specs.Trie.{all_distinct}
use Rattle.lt_htable.specs.Building.{InExtent}
use Rattle.lt_image.specs.Versions.{extent_in}
use Rattle.lt_store.specs.Building.{InExtents, HasTable}
use Rattle.lt_store.proofs.NumberLaws.{apart-at, extents-apart}
use Rattle.lt_device.proofs.Shows.{shows-joins}

-- ---- what a table rests on

same_placed : (items : List Item) (old new : ℕ → List ℕ) → ((c : ℕ) → c < 65 → new c ≡ old c) → IsPlaced items old → IsPlaced items new
same_placed items old new same placed = record {
  plans = placed.plans;
  placement = placed.placement;
  buckets = λ c small. ap bucket_of (same c (omega arith)) ∙ placed.buckets c small;
  filters = same 64 (omega arith) ∙ placed.filters;
}

-- the table of another extent stays
table-stays : (g : Geometry) (kept new : List (Option (List ℕ))) (old image : Image) (x y : ℕ) (items : List Item) → x ≢ y → get_or new x None ≡ get_or kept x None → SameOutside (InExtent (extent_block g y)) old image → HasTable g kept old x items → HasTable g new image x items
table-stays g kept new old image x y items differ same others has =
    let blocks : (c : ℕ) → c < 65 → extent_in g image x c ≡ extent_in g old x c = λ c small. others.others (extent_block g x + c) (extents-apart g x y c differ small) in
    record {
      placed = same_placed items (extent_in g old x) (extent_in g image x) blocks has.placed;
      filter = same ∙ has.filter ∙ ap (λ page. Some page) (sym (blocks 64 (omega arith)));
    }

-- ---- one table more

-- the first so many tables are built, and nothing else has changed
pub record AreBuilt (g : Geometry) (start kept : List (Option (List ℕ))) (old new : State) (numbers : List ℕ) (tables : List (List Item)) (count : ℕ) : Type 0 where
  pub each : (before image : Image) → old.shown ≡ Some before → new.shown ≡ Some image → (k : ℕ) → k < count → HasTable g kept image (get_or numbers k 0) (get_or tables k [])
  pub others : (x : ℕ) → is_in x numbers ≡ false → get_or kept x None ≡ get_or start x None
  pub confined : ConfinedTo (InExtents g numbers) old new
  pub shows : ShowsSameOutside (InExtents g numbers) old.shown new.shown

-- a table was written to an extent, or a part of it
pub record IsWriting (first : ℕ) (old new : State) : Type 0 where
  pub confined : ConfinedTo (InExtent first) old new
  pub shows : ShowsSameOutside (InExtent first) old.shown new.shown

inside_all : (g : Geometry) (numbers : List ℕ) (i first : ℕ) → i < length numbers → first ≡ extent_block g (get_or numbers i 0) → (n : ℕ) → InExtent first n → InExtents g numbers n
inside_all g numbers i first below is n inside = record {
  number = get_or numbers i 0;
  among = in_at numbers i 0 below;
  from = omega (arith, inside.0, is);
  to = omega (arith, inside.1, is);
}

-- what stays of it where the next table fails
pub AreBuilt-writing : {g : Geometry} {start kept : List (Option (List ℕ))} {old mid new : State} {numbers : List ℕ} {tables : List (List Item)} {i : ℕ} (first : ℕ) → AreBuilt g start kept old mid numbers tables i → i < length numbers → first ≡ extent_block g (get_or numbers i 0) → IsWriting first mid new → ConfinedTo (InExtents g numbers) old new × ShowsSameOutside (InExtents g numbers) old.shown new.shown
AreBuilt-writing {g} {start} {kept} {old} {mid} {new} {numbers} {tables} {i} first built below is writing =
    let within = inside_all g numbers i first below is in
    (confined_within writing.confined built.confined within, shows-joins _ _ _ _ _ _ built.shows writing.shows (λ k inside. inside) within)

-- the table is whole
pub record IsWritten (first : ℕ) (items : List Item) (page : List ℕ) (new : State) : Type 0 where
  pub placed : (image : Image) → new.shown ≡ Some image → IsPlaced items (blocks_from image first)
  pub filters : page ≡ filter_block items

new_table : (g : Geometry) (kept : List (Option (List ℕ))) (new : State) (image : Image) (x first : ℕ) (items : List Item) (page : List ℕ) → x < length kept → first ≡ extent_block g x → new.shown ≡ Some image → IsWritten first items page new → HasTable g (set kept x (Some page)) image x items
new_table g kept new image x first items page below is shown written =
    let placed : IsPlaced items (extent_in g image x) = subst (λ n. IsPlaced items (blocks_from image n)) is (written.placed image shown) in
    record {
      placed = placed;
      filter = get_or-set_same kept x (Some page) None below ∙ ap (λ p. Some p) (written.filters ∙ sym placed.filters);
    }

pub AreBuilt-more : (g : Geometry) (start kept after : List (Option (List ℕ))) (old mid new : State) (numbers : List ℕ) (tables : List (List Item)) (i x first : ℕ) (items : List Item) (page : List ℕ)
    → AreBuilt g start kept old mid numbers tables i → i < length numbers → all_distinct numbers ≡ true → x ≡ get_or numbers i 0 → x < length kept → first ≡ extent_block g x → items ≡ get_or tables i []
    → IsWriting first mid new → IsWritten first items page new → after ≡ set kept x (Some page)
    → AreBuilt g start after old new numbers tables (i + 1)
AreBuilt-more g start kept after old mid new numbers tables i x first items page built below distinct x_is small is items_is writing written after_is =
    let at_i : first ≡ extent_block g (get_or numbers i 0) = is ∙ ap (extent_block g) x_is in
    let within = AreBuilt-writing first built below at_i writing in
    record {
      each = λ before image was shown k less. subst (λ f. HasTable g f image (get_or numbers k 0) (get_or tables k [])) (sym after_is)
          (⊎_elim
          (λ (same : k ≡ i). subst (λ j. HasTable g (set kept x (Some page)) image (get_or numbers j 0) (get_or tables j [])) (sym same)
          (subst (λ n. HasTable g (set kept x (Some page)) image n (get_or tables i [])) x_is
          (subst (λ ts. HasTable g (set kept x (Some page)) image x ts) items_is (new_table g kept new image x first items page small is shown written))))
          (λ (other : k ≡ i → ⊥).
          let lower : k < i = omega arith in
          let differ : get_or numbers k 0 ≢ x = λ same. apart-at numbers k i distinct lower below (same ∙ x_is) in
          let middle = built.shows.each before was in
          let now = writing.shows.each middle.0 middle.1 in
          let last : now.0 ≡ image = same_some new.shown now.0 image now.1 shown in
          table-stays g kept (set kept x (Some page)) middle.0 image (get_or numbers k 0) x (get_or tables k []) differ
          (get_or-set_other kept x (get_or numbers k 0) (Some page) None differ)
          (subst (λ to. SameOutside (InExtent (extent_block g x)) middle.0 to) last (subst (λ n. SameOutside (InExtent n) middle.0 now.0) is now.2))
          (built.each before middle.0 was middle.1 k lower))
          (cases_eq k i));
      others = λ y none.
          let differ : y ≢ x = λ same. true≢false (sym (ap (λ n. is_in n numbers) (same ∙ x_is) ∙ in_at numbers i 0 below) ∙ none) in
          ap (λ f. get_or f y None) after_is ∙ get_or-set_other kept x y (Some page) None differ ∙ built.others y none;
      confined = within.0;
      shows = within.1;
    }

pub AreBuilt-none : (g : Geometry) (start : List (Option (List ℕ))) (old : State) (numbers : List ℕ) (tables : List (List Item)) → ConfinedTo (InExtents g numbers) old old → AreBuilt g start start old old numbers tables 0
AreBuilt-none g start old numbers tables confined = record {
  each = λ before image was shown k less. absurd (omega arith);
  others = λ x none. refl;
  confined = confined;
  shows = record { each = λ before is. (before, is, record { size = refl; others = λ k out. refl }) };
}

each-AllZip : {A B : Type 0} (R : A → B → Type 0) (a : A) (b : B) (xs : List A) (ys : List B) → length xs ≡ length ys → ((k : ℕ) → k < length xs → R (get_or xs k a) (get_or ys k b)) → AllZip R xs ys
each-AllZip R a b [] [] same each = tt
each-AllZip R a b [] (y ∷ ys) same each = absurd (omega arith)
each-AllZip R a b (x ∷ xs) [] same each = absurd (omega arith)
each-AllZip R a b (x ∷ xs) (y ∷ ys) same each = (each 0 (omega arith), each-AllZip R a b xs ys (omega arith) (λ k below. each (suc k) (omega arith)))

-- all tables are built
pub AreBuilt-all : {g : Geometry} {start kept : List (Option (List ℕ))} {old new : State} {numbers : List ℕ} {tables : List (List Item)} {i : ℕ} → AreBuilt g start kept old new numbers tables i → length numbers ≤ i → length numbers ≡ length tables → (before image : Image) → old.shown ≡ Some before → new.shown ≡ Some image → AllZip (HasTable g kept image) numbers tables
AreBuilt-all {g} {start} {kept} {old} {new} {numbers} {tables} {i} built all same before image was shown =
    each-AllZip (HasTable g kept image) 0 [] numbers tables same (λ k below. built.each before image was shown k (omega arith))

-- a list through a function, at a place
pub map-at : {A B : Type 0} (f : A → B) (xs : List A) (i : ℕ) (x : A) (d : B) → i < length xs → x ≡ get_or xs i x → f x ≡ get_or (map f xs) i d
map-at f [] i x d below is = absurd (omega arith)
map-at f (y ∷ ys) zero x d below is = ap f is
map-at f (y ∷ ys) (suc i) x d below is = map-at f ys i x d (omega arith) is
