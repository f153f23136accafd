-- The tables of a cut: how many there are, and what each of them is.
use Rattle.std.proofs.Common.{◌≡◌, ◌+◌, ◌<◌, ◌≤◌, refl, sym, ap, subst, ◌∙◌, List, [], ◌∷◌, ◌++◌, length, map, true, arith, length-append}
use Rattle.std.specs.Prelude.{IsTrue, All}
use Rattle.std.specs.List.{AllByRecursion, flat_map, list_all}
use Rattle.std.proofs.lemmas.List.{length-map}
use Rattle.std.proofs.lemmas.List.Elements.{All-from_recursion, recursion_from_All}
use Rattle.std.proofs.lemmas.Bool.{and_parts}
use Rattle.lt_terms.specs.Items.{Item, is_valid}
use Rattle.lt_tables.specs.Cut.{IsTable, cut, cut_counts, table_total}
use Rattle.lt_tables.specs.Table.{newest}
use Rattle.lt_tables.specs.Placement.{entry_of}
use Rattle.lt_tables.proofs.CutLaws.{cut-joined, cut-tables}
use Rattle.lt_tables.proofs.RankedCutLaws.{cut-ranked}
use Rattle.lt_tables.proofs.RankedLaws.{pieces-count}
use Rattle.lt_htable.specs.Cutting.{IsPart}

valid-each : (items : List Item) → list_all is_valid items ≡ true → AllByRecursion (λ (item : Item). IsTrue (is_valid item)) items
valid-each [] all = tt
valid-each (item ∷ items) all = let both = and_parts (is_valid item) (list_all is_valid items) all in (both.0, valid-each items both.1)

both-each : (parts : List (List Item)) → AllByRecursion IsTable parts → AllByRecursion (λ table. newest table ≡ table) parts → AllByRecursion IsPart parts
both-each [] one two = tt
both-each (p ∷ ps) one two = (record { table = one.0; ranked = two.0 }, both-each ps one.1 two.1)

each-mapped : {A : Type 0} (P : List Item → Type 0) (f : A → List Item) (xs : List A) → AllByRecursion P (map f xs) → AllByRecursion (λ x. P (f x)) xs
each-mapped P f [] all = tt
each-mapped P f (x ∷ xs) all = (all.0, each-mapped P f xs all.1)

pub parts-of : {A : Type 0} (f : A → List Item) (tables : List A) (items : List Item) → map f tables ≡ cut items → newest items ≡ items → IsTrue (list_all is_valid items) → All (λ t. IsPart (f t)) tables
parts-of f tables items is ranked valid =
    let tables_are : AllByRecursion IsTable (cut items) = cut-tables items (valid-each items valid) in
    let ranks : AllByRecursion (λ table. newest table ≡ table) (cut items) = recursion_from_All (λ (table : List Item). newest table ≡ table) (cut items) (cut-ranked items ranked) in
    All-from_recursion (λ t. IsPart (f t)) tables (each-mapped IsPart f tables (subst (AllByRecursion IsPart) (sym is) (both-each (cut items) tables_are ranks)))

pub parts-count : {A : Type 0} (f : A → List Item) (tables : List A) (items : List Item) → map f tables ≡ cut items → length tables ≡ table_total items
parts-count f tables items is = sym (length-map tables f) ∙ ap length is ∙ pieces-count (cut_counts (map entry_of items)) items

joined-long : (parts : List (List Item)) → AllByRecursion IsTable parts → length parts ≤ length (flat_map (λ part. part) parts)
joined-long [] all = omega arith
joined-long (p ∷ ps) all =
    let rest = joined-long ps all.1 in
    let any = all.0.any in
    let size : length (p ++ flat_map (λ part. part) ps) ≡ length p + length (flat_map (λ (part : List Item). part) ps) = length-append p (flat_map (λ part. part) ps) in
    omega (arith, rest, any, size)

pub parts-fewer : {A : Type 0} (f : A → List Item) (tables : List A) (items : List Item) → map f tables ≡ cut items → IsTrue (list_all is_valid items) → length tables ≤ length items
parts-fewer f tables items is valid =
    let long = joined-long (cut items) (cut-tables items (valid-each items valid)) in
    let joined : length (flat_map (λ (part : List Item). part) (cut items)) ≡ length items = ap length (cut-joined items) in
    let size : length tables ≡ length (cut items) = sym (length-map tables f) ∙ ap length is in
    omega (arith, long, joined, size)

pub parts-some : {A : Type 0} (f : A → List Item) (tables : List A) (items : List Item) → map f tables ≡ cut items → 0 < length items → 0 < length tables
parts-some f tables items is some =
    let size : length tables ≡ length (cut items) = sym (length-map tables f) ∙ ap length is in
    subst (λ n. 0 < n) (sym size) (not_empty (cut items) refl)
  where
    not_empty : (parts : List (List Item)) → cut items ≡ parts → 0 < length parts
    not_empty [] none = let empty : length items ≡ 0 = ap length (sym (cut-joined items) ∙ ap (flat_map (λ (part : List Item). part)) none) in absurd (omega (arith, empty, some))
    not_empty (p ∷ ps) one = omega arith
