-- The parts of a list that is cut, one after another.
use Rattle.std.proofs.Common.{◌≡◌, ℕ, zero, suc, ◌+◌, ◌-◌, ◌<◌, ◌≤◌, sym, ap, subst, ◌∙◌, ◌/◌, List, [], ◌∷◌, map, length, take, drop, get_or, true, cond, arith, add-one, drop-cons}
use Rattle.std.specs.Prelude.{IsTrue}
use Rattle.std.specs.List.{AllByRecursion, flat_map, list_all}
use Rattle.std.proofs.lemmas.Bool.{and_parts}
use Rattle.std.proofs.lemmas.List.{drop-map, length-append, length-map}
use Rattle.std.proofs.lemmas.List.Elements.{recursion_from_All}
use Rattle.lt_terms.specs.Items.{Item, is_valid}
use Rattle.lt_tables.specs.declared.Entry.{Entry}
use Rattle.lt_tables.specs.Cut as tables
use Rattle.lt_tables.specs.Cut.{cut, cut_counts, pieces, table_count}
use Rattle.lt_tables.specs.Placement.{entry_of}
use Rattle.lt_tables.specs.Table.{newest}
use Rattle.lt_tables.proofs.CutLaws.{cut-joined, cut-tables, cut_counts-nil, cut_counts-some, table_count-within}
use Rattle.lt_tables.proofs.RankedCutLaws.{cut-ranked}
use Rattle.lt_tables.proofs.RankedLaws.{pieces-count}
use Rattle.lt_htable.specs.Cutting.{IsPart}
use Rattle.lt_format.specs.declared.node_id.NodeId.{NodeId}
use Rattle.lt_format.specs.Trie.{groups_for, is_last_level}
use Rattle.lt_image.specs.Shares.{Share, new_groups}
use Rattle.lt_compact.specs.Sharing.{IsCut}

-- ---- the parts of a cut, by its counts

each-valid : (items : List Item) → IsTrue (list_all is_valid items) → AllByRecursion (λ (v : Item). IsTrue (is_valid v)) items
each-valid [] all = tt
each-valid (v ∷ items) all = let both = and_parts (is_valid v) (list_all is_valid items) all in (both.0, each-valid items both.1)

fewer-parts : (parts : List (List Item)) → AllByRecursion tables.IsTable parts → length parts ≤ length (flat_map (λ (part : List Item). part) parts)
fewer-parts [] all = omega arith
fewer-parts (p ∷ ps) all = omega (arith, fewer-parts ps all.1, all.0.any, length-append p (flat_map (λ (part : List Item). part) ps))

pub parts-few : (items : List Item) → IsTrue (list_all is_valid items) → length (cut items) ≤ length items
parts-few items valid = omega (arith, fewer-parts (cut items) (cut-tables items (each-valid items valid)), ap length (cut-joined items))

pub tables-few : (items : List Item) (counts : List ℕ) → counts ≡ cut_counts (map entry_of items) → IsTrue (list_all is_valid items) → length counts ≤ length items
tables-few items counts are valid =
    let same : length (cut items) ≡ length counts = ap (λ ns. length (pieces ns items)) (sym are) ∙ pieces-count counts items in
    omega (arith, parts-few items valid, same)

-- the first count is that of the first table
record IsFirst (count : ℕ) (counts : List ℕ) (rest : List Item) : Type 0 where
  within : count ≤ length rest
  others : counts ≡ cut_counts (map entry_of (drop count rest))

first-of : (count : ℕ) (counts : List ℕ) (rest : List Item) → count ∷ counts ≡ cut_counts (map entry_of rest) → IsFirst count counts rest
first-of count counts [] is = let none : count ∷ counts ≡ [] = is ∙ cut_counts-nil in cc
first-of count counts (v ∷ rest) is =
    let es : List Entry = map entry_of (v ∷ rest) in
    let some : 0 < length es = omega (arith, length-map (v ∷ rest) entry_of) in
    let split : count ∷ counts ≡ table_count es ∷ cut_counts (drop (table_count es) es) = is ∙ cut_counts-some es some in
    let same : count ≡ table_count es = cc in
    let tail : counts ≡ cut_counts (drop (table_count es) es) = cc in
    record {
      within = omega (arith, length-map (v ∷ rest) entry_of, same, (table_count-within es some).1);
      others = tail ∙ ap (λ n. cut_counts (drop n es)) (sym same) ∙ ap cut_counts (drop-map entry_of count (v ∷ rest));
    }

-- the rest of the items behind the first i tables
pub record IsAfter (items : List Item) (counts : List ℕ) (i : ℕ) (rest : List Item) : Type 0 where
  pub counts_are : drop i counts ≡ cut_counts (map entry_of rest)
  pub parts : drop i (pieces counts items) ≡ cut rest

pub after-start : (items : List Item) (counts : List ℕ) → counts ≡ cut_counts (map entry_of items) → IsAfter items counts 0 items
after-start items counts are = record { counts_are = are; parts = ap (λ ns. pieces ns items) are }

-- the next table
pub record IsTable (items : List Item) (counts : List ℕ) (i count : ℕ) (rest : List Item) : Type 0 where
  pub within : count ≤ length rest
  pub part : get_or (pieces counts items) i [] ≡ take count rest
  pub after : IsAfter items counts (i + 1) (drop count rest)

pub after-next : (items : List Item) (counts : List ℕ) (i count : ℕ) (rest : List Item) → counts ≡ cut_counts (map entry_of items) → IsAfter items counts i rest → i < length counts → count ≡ get_or counts i 0 → IsTable items counts i count rest
after-next items counts i count rest are at below is =
    let split : drop i counts ≡ get_or counts i 0 ∷ drop (suc i) counts = drop-cons counts i 0 below in
    let first : count ∷ drop (i + 1) counts ≡ cut_counts (map entry_of rest) = ap (λ n. n ∷ drop (i + 1) counts) is ∙ ap (λ k. get_or counts i 0 ∷ drop k counts) (add-one i) ∙ sym split ∙ at.counts_are in
    let next = first-of count (drop (i + 1) counts) rest first in
    let within : i < length (pieces counts items) = subst (λ n. i < n) (sym (pieces-count counts items)) below in
    let cut_is : cut rest ≡ take count rest ∷ cut (drop count rest) = ap (λ ns. pieces ns rest) (sym first) ∙ ap (λ ns. take count rest ∷ pieces ns (drop count rest)) next.others in
    let pieces_are : get_or (pieces counts items) i [] ∷ drop (suc i) (pieces counts items) ≡ take count rest ∷ cut (drop count rest) = sym (drop-cons (pieces counts items) i [] within) ∙ at.parts ∙ cut_is in
    let part : get_or (pieces counts items) i [] ≡ take count rest = cc in
    let later : drop (suc i) (pieces counts items) ≡ cut (drop count rest) = cc in
    record {
      within = next.within;
      part = part;
      after = record { counts_are = next.others; parts = ap (λ k. drop k (pieces counts items)) (add-one i) ∙ later };
    }

at-of-all : {A : Type 0} (P : A → Type 0) (xs : List A) (i : ℕ) (d : A) → AllByRecursion P xs → i < length xs → P (get_or xs i d)
at-of-all P [] i d all below = absurd (omega arith)
at-of-all P (x ∷ xs) zero d all below = all.0
at-of-all P (x ∷ xs) (suc i) d all below = at-of-all P xs i d all.1 (omega arith)

-- each of them is a table's
pub part-at : (items : List Item) (counts : List ℕ) (i : ℕ) → counts ≡ cut_counts (map entry_of items) → newest items ≡ items → IsTrue (list_all is_valid items) → i < length counts → IsPart (get_or (pieces counts items) i [])
part-at items counts i are ranked valid below =
    let within : i < length (pieces counts items) = subst (λ n. i < n) (sym (pieces-count counts items)) below in
    let places : AllByRecursion tables.IsTable (pieces counts items) = subst (λ ns. AllByRecursion tables.IsTable (pieces ns items)) (sym are) (cut-tables items (each-valid items valid)) in
    let ranks : AllByRecursion (λ (t : List Item). newest t ≡ t) (pieces counts items) = subst (λ ns. AllByRecursion (λ (t : List Item). newest t ≡ t) (pieces ns items)) (sym are) (recursion_from_All (λ (t : List Item). newest t ≡ t) (cut items) (cut-ranked items ranked)) in
    record { table = at-of-all tables.IsTable (pieces counts items) i [] places within; ranked = at-of-all (λ (t : List Item). newest t ≡ t) (pieces counts items) i [] ranks within }

-- ---- what a share shows of its fields

-- the share of these fields
pub record Shows (node : NodeId) (behind : List ℕ) (items : List Item) (counts : List ℕ) (s : Share) : Type 0 where
  pub node_is : s.node ≡ node
  pub behind_is : length s.behind ≡ length behind
  pub parts_are : s.parts ≡ pieces counts items
  pub tables : length s.parts ≡ length counts
  pub few_tables : length counts < 4294967296
  pub few_behind : length behind ≤ 65536

pub shows : (node : NodeId) (behind : List ℕ) (items : List Item) (counts : List ℕ) (s : Share) → record { node = node; behind = behind; parts = pieces counts items } ≡ s → IsCut behind items counts → Shows node behind items counts s
shows node behind items counts s is kept =
    let few : length counts ≤ length items = tables-few items counts kept.counts_are kept.valid in
    let small : length items < 4294967296 = kept.few in
    record {
      node_is = ap (λ (s : Share). s.node) (sym is);
      behind_is = ap (λ (s : Share). length s.behind) (sym is);
      parts_are = ap (λ (s : Share). s.parts) (sym is);
      tables = ap (λ (s : Share). length s.parts) (sym is) ∙ pieces-count counts items;
      few_tables = omega arith;
      few_behind = kept.pile;
    }

pub new_groups-last : (levels : ℕ) (s : Share) (node : NodeId) (b p : ℕ) → s.node ≡ node → length s.behind ≡ b → length s.parts ≡ p → is_last_level levels node ≡ true → groups_for (b + p) - b / 64 ≡ new_groups levels s
new_groups-last levels s node b p node_is b_is p_is last =
    sym (ap (λ t. cond t (groups_for (length s.behind + length s.parts) - length s.behind / 64) 0) (ap (is_last_level levels) node_is ∙ last)
    ∙ ap (λ b. groups_for (b + length s.parts) - b / 64) b_is ∙ ap (λ p. groups_for (b + p) - b / 64) p_is)
