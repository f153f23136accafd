-- Asking the tables of a pile one after another, the newest first.
use Rattle.std.proofs.Common.{◌≡◌, ℕ, ◌+◌, ◌*◌, ◌%◌, ◌<◌, ◌≤◌, refl, sym, ap, subst, ◌∙◌, List, [], ◌∷◌, ◌++◌, length, get_or, take, drop, Bool, true, false, cond, Option, Some, None, Result, Ok, arith}
use Rattle.std.specs.Prelude.{count_by}
use Rattle.std.specs.Option.{is_some}
use Rattle.std.proofs.lemmas.List.{drop_all, drop_more}
use Rattle.std.proofs.lemmas.List.Sums.{sum_by-cons, sum_by-take-drop}
use Rattle.lt_terms.specs.Bytes.{Image}
use Rattle.lt_device.specs.Reads.{CountsAtMost}
use Rattle.lt_tables.specs.Filter.{covers}
use Rattle.lt_format.specs.declared.geometry.Geometry.{Geometry}
use Rattle.lt_format.specs.declared.node_id.NodeId.{NodeId}
use Rattle.lt_format.specs.Layout.{extent_block}
use Rattle.lt_htable.specs.declared.faults.LookFault.{LookFault}
use Rattle.lt_image.specs.Versions.{Stop}
use Rattle.lt_search.specs.declared.tables.Filters.{Filters}
use Rattle.lt_search.specs.declared.tables.Filters.TheVariants.{Kept, Column}
use Rattle.lt_search.specs.declared.version.Version.{Version}
use Rattle.lt_search.specs.Asking.{is_answered, may_ask}
use Rattle.lt_search.specs.Found.{KeepsUnless}
use Rattle.lt_search.specs.Reads.{bucket_reads, look_reads}
use Rattle.lt_search.specs.Searched.{Searched}
use Rattle.lt_search.specs.Seen.{IsSeen, pile_stops, seen_in}
use Rattle.lt_search.proofs.SearchLaws.{IsLast, SoFar, exit, next, one, skip, start}
use Rattle.lt_search.proofs.StopLaws.{stops-more, stops-split}

-- ---- what the filters answer

pub placed-answer : (filters : Filters) (key : List ℕ) (group j x : ℕ) → is_answered filters key (64 * group + j) x ≡ is_answered filters key j x
placed-answer (Kept kept) key group j x = refl
placed-answer (Column page) key group j x = let same : (64 * group + j) % 64 ≡ j % 64 = omega arith in ap (λ n. covers page.now n key) same

pub answered-asks : (filters : Filters) (key : List ℕ) (j x : ℕ) → is_answered filters key j x ≡ true → may_ask filters key x ≡ true
answered-asks (Kept kept) key j x h = h
answered-asks (Column page) key j x h = refl

-- ---- the table at a place

-- a table of a pile as a stop
abbrev pub stop_at : NodeId → ℕ → List ℕ → ℕ → Stop
stop_at id k tables j = record { node = id; index = k + j; extent = get_or tables j 0 }

module _ (asks : Stop → Bool) (g : Geometry) (image : Image) (key : List ℕ) (id : NodeId) (k : ℕ) (tables : List ℕ) where
  pub pile-start : (i before : ℕ) → length tables ≤ i → SoFar asks bucket_reads g image key (pile_stops id (k + i) (drop i tables)) before before
  pile-start i before past = subst (λ xs. SoFar asks bucket_reads g image key (pile_stops id (k + i) xs) before before) (sym (drop_all i tables past)) (start asks g image key before)

  module _ (i j : ℕ) (step : j + 1 ≡ i) (below : j < length tables) where
    here : pile_stops id (k + j) (drop j tables) ≡ pile_stops id (k + i) (drop i tables) ++ stop_at id k tables j ∷ []
    here = stops-more id k j tables below ∙ ap (λ n. pile_stops id (k + n) (drop n tables) ++ stop_at id k tables j ∷ []) step

    pub pile-skip : (before now : ℕ) → SoFar asks bucket_reads g image key (pile_stops id (k + i) (drop i tables)) before now → asks (stop_at id k tables j) ≡ false → SoFar asks bucket_reads g image key (pile_stops id (k + j) (drop j tables)) before now
    pile-skip before now so_far off =
        subst (λ (ss : List Stop). SoFar asks bucket_reads g image key ss before now) (sym here)
        (skip asks g image key (pile_stops id (k + i) (drop i tables)) (stop_at id k tables j) before now so_far off)

    module _ (first : ℕ) (first_is : first ≡ extent_block g (get_or tables j 0)) (asked : asks (stop_at id k tables j) ≡ true) where
      looked : (result : Result (Option Version) LookFault) (old new : List ℕ) (before now : ℕ) → IsSeen (seen_in image first key) result old new → CountsAtMost (look_reads image first key) before now → Searched asks bucket_reads g image key (stop_at id k tables j ∷ []) result old new before now
      looked result old new before now seen reads =
          one asks g image key (stop_at id k tables j) result old new before now asked
          (subst (λ n. IsSeen (seen_in image n key) result old new) first_is seen)
          (subst (λ n. CountsAtMost (look_reads image n key) before now) first_is reads)

      pub pile-next : (version : Option Version) (out new : List ℕ) (before mid now : ℕ) → SoFar asks bucket_reads g image key (pile_stops id (k + i) (drop i tables)) before mid → is_some version ≡ false → IsSeen (seen_in image first key) (Ok version) out new → CountsAtMost (look_reads image first key) mid now
          → SoFar asks bucket_reads g image key (pile_stops id (k + j) (drop j tables)) before now
      pile-next version out new before mid now so_far none seen reads =
          subst (λ (ss : List Stop). SoFar asks bucket_reads g image key ss before now) (sym here)
          (next asks g image key (pile_stops id (k + i) (drop i tables)) (stop_at id k tables j ∷ []) version out new before mid now so_far (looked (Ok version) out new mid now seen reads) none)

      pub pile-exit : (result : Result (Option Version) LookFault) (out old new : List ℕ) (before mid now : ℕ) → SoFar asks bucket_reads g image key (pile_stops id (k + i) (drop i tables)) before mid → IsLast result → out ≡ old → IsSeen (seen_in image first key) result out new → CountsAtMost (look_reads image first key) mid now
          → Searched asks bucket_reads g image key (pile_stops id k tables) result old new before now
      pile-exit result out old new before mid now so_far last same seen reads =
          exit asks g image key (pile_stops id (k + i) (drop i tables)) (stop_at id k tables j ∷ []) (pile_stops id k (take j tables)) (pile_stops id k tables) result out old new before mid now so_far (looked result out new mid now seen reads) last
          (stops-split id k j tables ∙ ap (λ ss. ss ++ pile_stops id k (take j tables)) here) same

-- ---- how many tables are asked

pub count-more : (p : ℕ → Bool) (xs : List ℕ) (j : ℕ) → j < length xs → count_by p (drop j xs) ≡ cond (p (get_or xs j 0)) 1 0 + count_by p (drop (j + 1) xs)
count-more p xs j below = ap (count_by p) (drop_more xs j 0 below) ∙ sum_by-cons (λ x. cond (p x) 1 0) (get_or xs j 0) (drop (j + 1) xs)

pub count-asked : (p : ℕ → Bool) (xs : List ℕ) (i j : ℕ) → j + 1 ≡ i → j < length xs → p (get_or xs j 0) ≡ true → count_by p (drop j xs) ≡ 1 + count_by p (drop i xs)
count-asked p xs i j step below asked = count-more p xs j below ∙ ap (λ b. cond b 1 0 + count_by p (drop (j + 1) xs)) asked ∙ ap (λ n. 1 + count_by p (drop n xs)) step

pub count-passed : (p : ℕ → Bool) (xs : List ℕ) (i j : ℕ) → j + 1 ≡ i → j < length xs → count_by p (drop i xs) ≤ count_by p (drop j xs)
count-passed p xs i j step below = let more = count-more p xs j below in let same = ap (λ n. count_by p (drop n xs)) step in omega (arith, more, same)

pub count-part : (p : ℕ → Bool) (xs : List ℕ) (j : ℕ) → count_by p (drop j xs) ≤ count_by p xs
count-part p xs j = let whole = sum_by-take-drop (λ x. cond (p x) 1 0) xs j in omega (arith, whole)

-- ---- the page

pub same_page : (version : Option Version) (old new : List ℕ) → is_some version ≡ false → KeepsUnless (Ok version) old new → new ≡ old
same_page None old new none is = is
same_page (Some w) old new none is = cc
