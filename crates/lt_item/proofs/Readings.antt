-- What stands behind an item that was read.
use Rattle.std.proofs.Common.{◌≡◌, ℕ, ◌+◌, refl, sym, ap, ◌∙◌, List, length, drop, take, [], ◌∷◌, Option, Some, None, true, le-leb, arith}
use Rattle.std.specs.Prelude.{IfSome, nat_le, slice_index}
use Rattle.std.specs.Option.{option_map}
use Rattle.std.proofs.lemmas.List.{drop-drop}
use Rattle.std.specs.Int.{w16, from_be_bytes}
use Rattle.lt_terms.specs.declared.Kind.{Kind}
use Rattle.lt_terms.specs.Items.{Item, item_cost, front_item, cut_item, kind_of_byte}
use Rattle.lt_item.specs.declared.view.ItemView.{ItemView}
use Rattle.lt_item.specs.Views.{item_of}

-- the bytes behind the first four and the key and the value are those behind the item
pub behind_item : (r : Option ItemView) (bytes rest : List ℕ) (k v : ℕ) → rest ≡ drop 4 bytes → IfSome r (λ item. length item.key.now ≡ k) → IfSome r (λ item. length item.value.now ≡ v)
    → option_map {U = Item × List ℕ} (λ item. (item_of item, drop (item_cost (item_of item)) bytes)) r ≡ option_map {U = Item × List ℕ} (λ item. (item_of item, drop (k + v) rest)) r
behind_item None bytes rest k v rest_is key_len value_len = refl
behind_item (Some item) bytes rest k v rest_is key_len value_len =
    let cost_is : item_cost (item_of item) ≡ 4 + (k + v) = omega arith in
    ap (λ rest. Some (item_of item, rest)) (ap (λ n. drop n bytes) cost_is ∙ sym (drop-drop (k + v) 4 bytes) ∙ ap (drop (k + v)) (sym rest_is))

-- the first four bytes say what is cut off the others
pub cut-front : (header rest bytes : List ℕ) (kind : Option Kind) (v : ℕ) → (header ≡ take 4 bytes) × (rest ≡ drop 4 bytes) × (length rest + 4 ≡ length bytes) → kind ≡ kind_of_byte (slice_index header 0) → v ≡ from_be_bytes w16 (slice_index header 2 ∷ slice_index header 3 ∷ [])
    → cut_item kind (slice_index header 1) v rest ≡ front_item bytes
unfolding front_item
cut-front header rest [] kind v split kind_is v_is = let l = split.2 in absurd (omega arith)
cut-front header rest (a ∷ []) kind v split kind_is v_is = let l = split.2 in absurd (omega arith)
cut-front header rest (a ∷ b ∷ []) kind v split kind_is v_is = let l = split.2 in absurd (omega arith)
cut-front header rest (a ∷ b ∷ c ∷ []) kind v split kind_is v_is = let l = split.2 in absurd (omega arith)
cut-front header rest (a ∷ b ∷ c ∷ d ∷ bytes) kind v split kind_is v_is =
    let long : nat_le 4 (length (a ∷ b ∷ c ∷ d ∷ bytes)) ≡ true = le-leb _ _ (omega arith) in
    rw (kind_is, v_is, split.0, split.1, long) refl
