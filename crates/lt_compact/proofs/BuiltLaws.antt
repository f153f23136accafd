-- The filters that a job keeps of what it built, and the blocks of the extent that it fills.
use Rattle.std.proofs.Common.{◌≡◌, ℕ, zero, suc, ◌+◌, ◌*◌, ◌<◌, refl, sym, ap, ◌∙◌, List, [], ◌∷◌, ◌++◌, map, length, take, drop, get_or, append-nil}
use Rattle.std.specs.Prelude.{◌==◌, slice_range}
use Rattle.std.specs.List.{flat_map, range_with_len}
use Rattle.std.specs.Option.{option_to_list}
use Rattle.std.proofs.Math.Seq.{drop-cons, take-length}
use Rattle.std.proofs.lemmas.Bool.{eq-eqb, or_left}
use Rattle.std.proofs.lemmas.List.{take_more}
use Rattle.std.proofs.lemmas.List.Concat.{flat_map-append}
use Rattle.lt_terms.specs.Bytes.{is_in}
use Rattle.lt_terms.specs.Items.{Item}
use Rattle.lt_tables.specs.Filter.{filter_block}
use Rattle.lt_format.specs.declared.geometry.Geometry.{Geometry}
use Rattle.lt_format.specs.Layout.{extent_block}
use Rattle.lt_htable.specs.Building.{InExtent}
use Rattle.lt_image.specs.Shares.{Share, kept_groups, new_groups, share_extents}
use Rattle.lt_compact.specs.Inside.{filters_among}
use Rattle.lt_compact.specs.Plans.{Content, table, group, all_contents, contents, extents_for, filters_of}
use Rattle.lt_compact.specs.Steps.{InExtents}
use Rattle.lt_compact.proofs.FoundLaws.{flat_behind}
use Rattle.lt_compact.proofs.PlanLaws.{length-all_contents}

-- one content more
pub next-built : (contents : List Content) (k : ℕ) (c : Content) → k < length contents → filters_among (take (k + 1) contents) ≡ filters_among (take k contents) ++ option_to_list (filters_of (get_or contents k c))
next-built contents k c small = ap filters_among (take_more contents k c small) ∙ flat_behind (λ c. option_to_list (filters_of c)) (take k contents) (get_or contents k c)

tables_built : (parts : List (List Item)) → filters_among (map table parts) ≡ map filter_block parts
tables_built [] = refl
tables_built (p ∷ parts) = ap (λ xs. filter_block p ∷ xs) (tables_built parts)

groups_built : (pile : List ℕ) (j n : ℕ) → filters_among (map (λ j. group (slice_range pile (64 * j) (64 * j + 64))) (range_with_len j n)) ≡ []
groups_built pile j zero = refl
groups_built pile j (suc n) = groups_built pile (j + 1) n

-- all contents: the filters of all tables, and none of a group
pub all-built : (levels : ℕ) (shares : List Share) (numbers : List ℕ) → filters_among (all_contents levels shares numbers) ≡ flat_map (λ (s : Share). map filter_block s.parts) shares
all-built levels [] numbers = refl
all-built levels (s ∷ shares) numbers =
    flat_map-append kept (contents levels s own) (all_contents levels shares rest)
    ∙ (λ i. first i ++ all-built levels shares rest i)
  where
    kept : Content → List (List ℕ)
    kept c = option_to_list (filters_of c)

    own : List ℕ
    own = take (share_extents levels s) numbers

    rest : List ℕ
    rest = drop (share_extents levels s) numbers

    pile : List ℕ
    pile = s.behind ++ take (length s.parts) own

    groups : List Content
    groups = map (λ j. group (slice_range pile (64 * j) (64 * j + 64))) (range_with_len (kept_groups levels s) (new_groups levels s))

    first : filters_among (contents levels s own) ≡ map filter_block s.parts
    first = flat_map-append kept (map table s.parts) groups ∙ (λ i. tables_built s.parts i ++ groups_built pile (kept_groups levels s) (new_groups levels s) i) ∙ append-nil (map filter_block s.parts)

-- once all extents are filled
pub whole-built : (levels : ℕ) (shares : List Share) (numbers : List ℕ) (filled : ℕ) → filled ≡ length numbers → length numbers ≡ extents_for levels shares → filters_among (take filled (all_contents levels shares numbers)) ≡ flat_map (λ (s : Share). map filter_block s.parts) shares
whole-built levels shares numbers filled all count =
    ap (λ k. filters_among (take k (all_contents levels shares numbers))) (all ∙ count ∙ sym (length-all_contents levels shares numbers))
    ∙ ap filters_among (take-length (all_contents levels shares numbers))
    ∙ all-built levels shares numbers

-- ---- the extent that is filled next

pub next-inside : (g : Geometry) (numbers : List ℕ) (filled : ℕ) → filled < length numbers → (n : ℕ) → InExtent (extent_block g (get_or numbers filled 0)) n → InExtents g (take 1 (drop filled numbers)) n
next-inside g numbers filled small n inside = record {
  number = get_or numbers filled 0;
  among = ap (λ xs. is_in (get_or numbers filled 0) (take 1 xs)) (drop-cons numbers filled 0 small) ∙ or_left (get_or numbers filled 0 == get_or numbers filled 0) (is_in (get_or numbers filled 0) []) (eq-eqb (get_or numbers filled 0) (get_or numbers filled 0) refl);
  from = inside.0;
  to = inside.1;
}
