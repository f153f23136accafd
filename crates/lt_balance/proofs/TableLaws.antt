-- The count of a table, found front by front.
use Rattle.std.proofs.Common.{◌≡◌, ℕ, suc, ◌+◌, ◌-◌, ◌<◌, ◌≤◌, refl, sym, ap, subst, ◌∙◌, List, [], ◌∷◌, ◌++◌, map, length, take, drop, set, get_or, replicate, Bool, ◌||◌, true, false, cond, Option, Some, None, arith, ⊎_elim}
use Rattle.std.specs.Prelude.{◌==◌, nat_lt}
use Rattle.std.proofs.lemmas.List.{append-nil, append_assoc, get_or-set_same}
use Rattle.std.proofs.lemmas.List.Elements.{All-replicate, All-set, recursion_from_All}
use Rattle.std.proofs.lemmas.Bool.{cases_lt, le-ltb, ltb-false, ne_eqb, true≢false}
use Rattle.std.specs.Option.{is_some, option_map, MatchOption}
use Rattle.lt_tables.specs.declared.Entry.{Entry}
use Rattle.lt_tables.specs.declared.Sending.{Sending}
use Rattle.lt_tables.specs.Bucket.{capacity}
use Rattle.lt_tables.specs.Placement.{columns, column_load, entries_cost, is_sender, plan_of, senders, sendings, placement, has_placement}
use Rattle.lt_tables.specs.Cut.{first_fit, table_count, cut_counts}
use Rattle.lt_tables.proofs.CutLaws.{has_placement-single, placement-no_senders, cut_counts-nil, cut_counts-some}
use Rattle.lt_balance.proofs.ColumnLaws.{none_kept}
use Rattle.lt_balance.proofs.SendingLaws.{load_is}
use Rattle.lt_balance.proofs.EntryLaws.{AreEntries-drop}
use Rattle.lt_balance.specs.declared.columns.Column.{Column}
use Rattle.lt_balance.specs.Entries.{AreEntries}
use Rattle.lt_balance.specs.Columns.{no_column, AreColumns, NoneSends}

-- the first so many entries have a placement, and these are their columns
pub record IsFitted (es : List Entry) (count : ℕ) (cols : List Column) : Type 0 where
  pub are : AreColumns (take count es) cols
  pub rest : first_fit (length es - count) count es ≡ table_count es

fit_more : (es : List Entry) (count : ℕ) (b : Bool) → count < length es → has_placement (take (count + 1) es) ≡ b → first_fit (length es - count) count es ≡ cond b (first_fit (length es - (count + 1)) (count + 1) es) count
unfolding first_fit
fit_more es count b below is =
    let many : length es - count ≡ suc (length es - (count + 1)) = omega arith in
    ap (λ n. first_fit n count es) many ∙ ap (λ b. cond b (first_fit (length es - (count + 1)) (count + 1) es) count) is

placed_by : (es : List Entry) (o : Option (List Sending)) → sendings es (senders es) [] ≡ o → has_placement es ≡ is_some o
unfolding placement
placed_by es None is = ap (λ o. is_some (option_map (λ made. map (plan_of es made) columns) o)) is
placed_by es (Some made) is = ap (λ o. is_some (option_map (λ made. map (plan_of es made) columns) o)) is

-- whether a list has a placement is whether its senders find receivers
pub has_placement-is : {A : Type 0} (items : A → List Sending) (es : List Entry) (found : Option A) → MatchOption found (sendings es (senders es) [] ≡ None) (λ made. sendings es (senders es) [] ≡ Some (items made)) → has_placement es ≡ is_some found
has_placement-is items es None is = placed_by es None is
has_placement-is items es (Some made) is = placed_by es (Some (items made)) is

-- entries of the 64 columns whose columns each fit in a bucket have no sender, and so a placement
pub has_placement-kept : (es : List Entry) (cols : List Column) → AreEntries es → AreColumns es cols → NoneSends cols → has_placement es ≡ true
unfolding column_load
has_placement-kept es cols entries are none = ap is_some (placement-no_senders es (λ c. ⊎_elim (λ small. kept c small) (λ great. strange c great) (cases_lt c 64)))
  where
    kept : (c : ℕ) → c < 64 → is_sender es c ≡ false
    kept c small =
        let load = load_is es cols c are small in
        let len = are.len in
        let fits = none c no_column (omega arith) in
        le-ltb capacity (column_load es c) (omega arith)

    strange : (c : ℕ) → 64 ≤ c → is_sender es c ≡ false
    strange c great = ap (λ hs. nat_lt capacity (entries_cost hs)) (none_kept (λ (e : Entry). e.column == c) es (recursion_from_All (λ (e : Entry). e.column == c ≡ false) es (λ k d below. let small = entries.columns k d below in ne_eqb (get_or es k d).column c (λ same. omega arith))))

pub IsFitted-start : (es : List Entry) (cols : List Column) → AreEntries es → 0 < length es → AreColumns [] cols → IsFitted es 0 cols
IsFitted-start [] cols entries some are = absurd (omega arith)
IsFitted-start (e ∷ es) cols entries some are = record {
  are = are;
  rest = let one : length (e ∷ es) - (0 + 1) ≡ length (e ∷ es) - 1 = refl in fit_more (e ∷ es) 0 true some (has_placement-single e (entries.costs 0 e some));
}

pub IsFitted-more : (es : List Entry) (count : ℕ) (was cols : List Column) → IsFitted es count was → count < length es → AreColumns (take (count + 1) es) cols → has_placement (take (count + 1) es) ≡ true → IsFitted es (count + 1) cols
IsFitted-more es count was cols fitted below are fits = record { are = are; rest = sym (fit_more es count true below fits) ∙ fitted.rest }

-- one entry more has no placement
pub IsFitted-full : (es : List Entry) (count : ℕ) (was : List Column) → IsFitted es count was → count < length es → has_placement (take (count + 1) es) ≡ false → count ≡ table_count es
IsFitted-full es count was fitted below full = sym (fit_more es count false below full) ∙ fitted.rest

-- all entries have one
pub IsFitted-whole : (es : List Entry) (count : ℕ) (was : List Column) → IsFitted es count was → count ≤ length es → length es ≤ count → length es ≡ table_count es
unfolding first_fit
IsFitted-whole es count was fitted within all =
    let none : length es - count ≡ 0 = omega arith in
    let same : length es ≡ count = omega arith in
    same ∙ sym (ap (λ n. first_fit n count es) none) ∙ fitted.rest

-- ---- whether a column sends

pub NoneSends-start : NoneSends (replicate 64 no_column)
NoneSends-start = All-replicate (λ (column : Column). column.load ≤ capacity) 64 no_column (omega arith)

NoneSends-set : (cols : List Column) (c : ℕ) (column : Column) → c < length cols → NoneSends cols → nat_lt capacity (get_or (set cols c column) c no_column).load ≡ false → NoneSends (set cols c column)
NoneSends-set cols c column within none small =
    let is = ap (λ (column : Column). column.load) (get_or-set_same cols c column no_column within) in
    let fits = ltb-false capacity (get_or (set cols c column) c no_column).load small in
    All-set (λ (column : Column). column.load ≤ capacity) cols c column (omega arith) none

-- the column that changed is looked at alone
pub NoneSends-next : (es : List Entry) (i : ℕ) (d : Entry) (cols : List Column) (column : Column) (sends : Bool) → AreEntries es → i < length es → AreColumns (take i es) cols → (sends ≡ false → NoneSends cols)
    → (sends || nat_lt capacity (get_or (set cols (get_or es i d).column column) (get_or es i d).column no_column).load) ≡ false → NoneSends (set cols (get_or es i d).column column)
NoneSends-next es i d cols column true entries below are none small = absurd (true≢false small)
NoneSends-next es i d cols column false entries below are none small =
    let len = are.len in
    let within = entries.columns i d below in
    NoneSends-set cols (get_or es i d).column column (omega arith) (none refl) small

-- ---- the cut

-- the counts so far, and those of the rest
pub record IsCut (es : List Entry) (counts : List ℕ) (rest : List Entry) : Type 0 where
  pub entries : AreEntries rest
  pub whole : counts ++ cut_counts rest ≡ cut_counts es

pub IsCut-more : (es : List Entry) (counts new : List ℕ) (rest left : List Entry) (count : ℕ) → IsCut es counts rest → 0 < length rest → count ≡ table_count rest → new ≡ counts ++ count ∷ [] → left ≡ drop count rest → IsCut es new left
IsCut-more es counts new rest left count cut some is new_is left_is =
    subst (λ xs. IsCut es new xs) (sym left_is) (subst (λ ns. IsCut es ns (drop count rest)) (sym new_is) (record {
      entries = AreEntries-drop count rest cut.entries;
      whole = append_assoc counts (count ∷ []) (cut_counts (drop count rest))
          ∙ ap (λ n. counts ++ n ∷ cut_counts (drop n rest)) is
          ∙ ap (λ ns. counts ++ ns) (sym (cut_counts-some rest some))
          ∙ cut.whole;
    }))

pub IsCut-whole : (es : List Entry) (counts : List ℕ) (rest : List Entry) → IsCut es counts rest → length rest ≤ 0 → counts ≡ cut_counts es
IsCut-whole es counts [] cut none = sym (append-nil counts) ∙ ap (λ ns. counts ++ ns) (sym cut_counts-nil) ∙ cut.whole
IsCut-whole es counts (e ∷ rest) cut none = absurd (omega arith)
