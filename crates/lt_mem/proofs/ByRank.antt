-- A map by rank is the ranked list.
use Rattle.std.proofs.Common.{◌≡◌, ℕ, refl, sym, ap, subst, ◌∙◌, List, [], ◌∷◌, map, true}
use Rattle.std.proofs.lemmas.Bool.{and_parts}
use Rattle.std.specs.Prelude.{IsTrue}
use Rattle.std.specs.List.{list_all, fold}
use Rattle.std.specs.declared.cmp.Ordering.{Ordering}
use Rattle.std.specs.declared.cmp.Ordering.TheVariants.{Less, Equal, Greater}
use Rattle.std.specs.Ordering.{match_ordering}
use Rattle.std.specs.FinMap.{put}
use Rattle.std.specs.FinMap.Entries.{by_order}
use Rattle.std.specs.BTreeMap.{insert_entry}
use Rattle.lt_terms.specs.Hashes.{rank_cmp}
use Rattle.lt_terms.specs.Items.{Item, is_valid}
use Rattle.lt_item.specs.declared.view.ItemView.{ItemView}
use Rattle.lt_item.specs.Views.{item_of}
use Rattle.lt_tables.specs.Table.{newest, ranked}
use Rattle.lt_tables.proofs.RankLaws.{rank_exact}
use Rattle.lt_mem.specs.Ranking.{AreRanked, shown, ranked_entries}

by_one : (o : Ordering) (a b : List (List ℕ × ItemView)) (e : List ℕ × ItemView) (rest : List (List ℕ × ItemView)) (c d : List (List ℕ × Item)) (more : List (List ℕ × Item)) → ranked_entries a ≡ c → ranked_entries b ≡ d → ranked_entries rest ≡ more
    → ranked_entries (match_ordering o a b (e ∷ rest)) ≡ by_order o c d (shown e ∷ more)
by_one Less a b e rest c d more a_is b_is rest_is = a_is
by_one Equal a b e rest c d more a_is b_is rest_is = b_is
by_one Greater a b e rest c d more a_is b_is rest_is = ap (λ more. shown e ∷ more) rest_is

-- an insertion puts the item under its key
ranked_entries-insert : (key : List ℕ) (item : ItemView) (entries : List (List ℕ × ItemView)) → ranked_entries (insert_entry rank_cmp entries key item) ≡ put rank_cmp key (item_of item) (ranked_entries entries)
ranked_entries-insert key item [] = refl
ranked_entries-insert key item (e ∷ entries) =
    by_one (rank_cmp key e.0) ((key, item) ∷ e ∷ entries) ((e.0, item) ∷ entries) e (insert_entry rank_cmp entries key item) _ _ _ refl refl (ranked_entries-insert key item entries)

-- keys whose ranks tie are one
tied : (a b : List ℕ) → rank_cmp a b ≡ Equal → b ≡ a
tied a b e = sym (rank_exact a b e)

AreRanked-insert : (item : ItemView) (entries : List (List ℕ × ItemView)) → IsTrue (is_valid (item_of item)) → AreRanked entries → AreRanked (insert_entry rank_cmp entries item.key.now item)
AreRanked-insert item [] valid all = (record { own = refl; valid = valid }, tt)
AreRanked-insert item (e ∷ entries) valid all = by (rank_cmp item.key.now e.0) refl (AreRanked-insert item entries valid all.1)
  where
    by : (o : Ordering) → rank_cmp item.key.now e.0 ≡ o → AreRanked (insert_entry rank_cmp entries item.key.now item)
        → AreRanked (match_ordering o ((item.key.now, item) ∷ e ∷ entries) ((e.0, item) ∷ entries) (e ∷ insert_entry rank_cmp entries item.key.now item))
    by Less is more = (record { own = refl; valid = valid }, all)
    by Equal is more = (record { own = tied item.key.now e.0 is; valid = valid }, all.1)
    by Greater is more = (all.0, more)

-- the items that are still to come, put one after another
abbrev pub ranked_onto : List (List ℕ × Item) → List Item → List (List ℕ × Item)
ranked_onto entries items = fold (λ entries (v : Item). put rank_cmp v.key v entries) entries items

-- one insertion takes the first of them
pub ranked_onto-insert : (old new : List (List ℕ × ItemView)) (left rest : List Item) (item : ItemView) (key : List ℕ) (all : List (List ℕ × Item)) → new ≡ insert_entry rank_cmp old key item → key ≡ item.key.now
    → left ≡ item_of item ∷ rest → ranked_onto (ranked_entries old) left ≡ all → ranked_onto (ranked_entries new) rest ≡ all
ranked_onto-insert old new left rest item key all new_is is left_is so_far =
    ap (λ entries. ranked_onto entries rest)
    (ap ranked_entries new_is ∙ ranked_entries-insert key item old ∙ ap (λ key. put rank_cmp key (item_of item) (ranked_entries old)) is)
    ∙ ap (ranked_onto (ranked_entries old)) (sym left_is)
    ∙ so_far

-- each entry is still ranked
pub AreRanked-inserted : (old new : List (List ℕ × ItemView)) (left rest : List Item) (item : ItemView) (key : List ℕ) → new ≡ insert_entry rank_cmp old key item → key ≡ item.key.now → AreRanked old
    → left ≡ item_of item ∷ rest → list_all is_valid left ≡ true → AreRanked new × (list_all is_valid rest ≡ true)
AreRanked-inserted old new left rest item key new_is is ranked left_is valid =
    let both = and_parts (is_valid (item_of item)) (list_all is_valid rest) (ap (list_all is_valid) (sym left_is) ∙ valid) in
    let there : new ≡ insert_entry rank_cmp old item.key.now item = new_is ∙ ap (λ key. insert_entry rank_cmp old key item) is in
    (subst AreRanked (sym there) (AreRanked-insert item old both.0 ranked), both.1)

-- the items of the entries, in their order
abbrev pub items_ranked : List (List ℕ × ItemView) → List Item
items_ranked entries = map (λ (entry : List ℕ × ItemView). item_of entry.1) entries

-- they are the newest
pub items_ranked-newest : (entries : List (List ℕ × ItemView)) (items : List Item) → ranked_entries entries ≡ ranked items → items_ranked entries ≡ newest items
items_ranked-newest entries items e = values entries ∙ ap (map (λ (e : List ℕ × Item). e.1)) e
  where
    values : (entries : List (List ℕ × ItemView)) → items_ranked entries ≡ map (λ (e : List ℕ × Item). e.1) (ranked_entries entries)
    values [] = refl
    values (e ∷ entries) = ap (λ items. item_of e.1 ∷ items) (values entries)
