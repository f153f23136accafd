-- One table more among what a job found.
use Rattle.std.proofs.Common.{◌≡◌, ℕ, ◌+◌, refl, sym, ap, ◌∙◌, List, [], ◌∷◌, ◌++◌, Bool, true, false, ◌||◌, append-nil}
use Rattle.std.specs.List.{flat_map}
use Rattle.std.proofs.lemmas.List.Concat.{flat_map-append}
use Rattle.lt_terms.specs.Items.{Item}
use Rattle.lt_tables.specs.Table.{newest}
use Rattle.lt_tables.proofs.NewestLaws.{newest-alike, SameNewest-append, SameNewest-newest, SameNewest-refl}
use Rattle.lt_compact.specs.Jobs.{found_in, is_loose}
use Rattle.lt_compact.specs.Scanning.{found_with}
use Rattle.lt_compact.proofs.StepLaws.{is_loose-more}

-- a list behind the others
pub flat_behind : {A B : Type 0} (f : A → List B) (xs : List A) (y : A) → flat_map f (xs ++ y ∷ []) ≡ flat_map f xs ++ f y
flat_behind f xs y = flat_map-append f xs (y ∷ []) ∙ ap (λ ys. flat_map f xs ++ ys) (append-nil (f y))

or_joined : (a b c d : Bool) → (b || c) ≡ d → ((a || b) || c) ≡ (a || d)
or_joined true b c d same = refl
or_joined false b c d same = same

-- the items of one table more, behind those that were found
pub found-more : (n : ℕ) (all items : List Item) (loose : Bool) → found_in (n + 1) (all ++ items) loose ≡ found_with (found_in n all loose) items
found-more n all items loose = λ i. record { scanned = n + 1; kept = kept i; loose = flag i }
  where
    kept : newest (all ++ items) ≡ newest (newest all ++ items)
    kept = sym (newest-alike (newest all ++ items) (all ++ items) (SameNewest-append (newest all) items all items (SameNewest-newest all) (SameNewest-refl items)))

    flag : (loose || is_loose (all ++ items)) ≡ ((loose || is_loose all) || is_loose (newest all ++ items))
    flag = sym (or_joined loose (is_loose all) (is_loose (newest all ++ items)) (is_loose (all ++ items)) (is_loose-more all items))
