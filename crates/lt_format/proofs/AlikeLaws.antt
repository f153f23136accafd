-- Reading asks only of the bytes below the limit, and of the extents before only which they are.
use Rattle.std.proofs.Common.{◌≡◌, ℕ, zero, suc, ◌+◌, ◌*◌, ◌^◌, ◌<◌, ◌≤◌, refl, ap, ◌∙◌, Bool, true, false, not, cond, ◌&&◌, ◌||◌, List, [], ◌∷◌, ◌++◌, map, Option, Some, Result, Ok, Err, arith}
use Rattle.std.specs.Prelude.{nat_le, nat_lt, ◌==◌, if◌then◌else◌}
use Rattle.std.specs.Int.{Width, w8, w16, w32, w64, byte_len, from_be_bytes}
use Rattle.std.specs.List.{range_with_len}
use Rattle.std.proofs.lemmas.Bool.{leb-true}
use Rattle.lt_terms.specs.Bytes.{is_in}
use Rattle.lt_format.specs.declared.node_id.NodeId.{NodeId}
use Rattle.lt_format.specs.declared.geometry.Geometry.{Geometry}
use Rattle.lt_format.specs.Trie.{Node, Trie, groups_for}
use Rattle.lt_format.specs.Snapshot.{field, number_in, follows, extents_at, node_read, nodes_read, front_read, extents_stand, is_zero, always, id_of, extents_of, ◌>>=◌}

-- two lists of the same numbers
abbrev pub SameNumbers : List ℕ → List ℕ → Type 0
SameNumbers xs ys = (z : ℕ) → is_in z xs ≡ is_in z ys

pub same-more : (x : ℕ) (xs ys : List ℕ) → SameNumbers xs ys → SameNumbers (x ∷ xs) (x ∷ ys)
same-more x xs ys same z = ap (λ b. (x == z) || b) (same z)

range-alike : (f g : ℕ → ℕ) (a n : ℕ) → ((i : ℕ) → i < a + n → f i ≡ g i) → map f (range_with_len a n) ≡ map g (range_with_len a n)
range-alike f g a zero same = refl
range-alike f g a (suc n) same = λ i. (same a (omega arith) i) ∷ (range-alike f g (a + 1) n (λ k within. same k (omega arith)) i)

pub same-under : (zs xs ys : List ℕ) → SameNumbers xs ys → SameNumbers (zs ++ xs) (zs ++ ys)
same-under [] xs ys same = same
same-under (z ∷ zs) xs ys same = same-more z (zs ++ xs) (zs ++ ys) (same-under zs xs ys same)

-- what a field answers, by whether it stands
abbrev answer_at : Width → ℕ → Bool → ℕ → Result (ℕ × ℕ) ℕ
answer_at w at stand n = cond {A = Result (ℕ × ℕ) ℕ} stand (Ok (n, at + byte_len w)) (Err at)

module _ (bytes others : ℕ → ℕ) (limit : ℕ) (same : (i : ℕ) → i < limit → bytes i ≡ others i) where
  number-alike : (w : Width) (at : ℕ) → at + byte_len w ≤ limit → number_in w bytes at ≡ number_in w others at
  number-alike w at fits = ap (from_be_bytes w) (range-alike (λ i. bytes (at + i)) (λ i. others (at + i)) 0 (byte_len w) (λ i within. same (at + i) (omega arith)))

  pub field-alike : (w : Width) (stands tests : ℕ → Bool) (at : ℕ) → ((n : ℕ) → stands n ≡ tests n) → field bytes limit w stands at ≡ field others limit w tests at
  field-alike w stands tests at alike = by_end (nat_le (at + byte_len w) limit) refl
    where
      by_end : (fits : Bool) → nat_le (at + byte_len w) limit ≡ fits → answer_at w at (fits && stands (number_in w bytes at)) (number_in w bytes at) ≡ answer_at w at (fits && tests (number_in w others at)) (number_in w others at)
      by_end true e =
          let number : number_in w bytes at ≡ number_in w others at = number-alike w at (leb-true (at + byte_len w) limit e) in
          ap (λ n. answer_at w at (stands n) n) number ∙ ap (λ b. answer_at w at b (number_in w others at)) (alike (number_in w others at))
      by_end false e = refl

  pub extents_at-same : (extents n : ℕ) (before those : List ℕ) (at : ℕ) → SameNumbers before those → extents_at bytes limit extents n before at ≡ extents_at others limit extents n those at
  unfolding extents_at
  extents_at-same extents zero before those at alike = refl
  extents_at-same extents (suc n) before those at alike = λ i.
      (field-alike w32 (λ x. nat_lt x extents && not (is_in x before)) (λ x. nat_lt x extents && not (is_in x those)) at (λ x. ap (λ b. nat_lt x extents && not b) (alike x)) i)
      >>= (λ (x : ℕ × ℕ). (extents_at-same extents n (x.0 ∷ before) (x.0 ∷ those) x.1 (same-more x.0 before those alike) i)
      >>= (λ (rest : List ℕ × ℕ). Ok (x.0 ∷ rest.0, rest.1)))

  pub node_read-same : (levels extents : ℕ) (last_id : Option NodeId) (before those : List ℕ) (at : ℕ) → SameNumbers before those → node_read bytes limit levels extents last_id before at ≡ node_read others limit levels extents last_id those at
  unfolding node_read
  node_read-same levels extents last_id before those at alike = λ i.
      (field-alike w8 (λ l. nat_lt l levels) (λ l. nat_lt l levels) at (λ n. refl) i)
      >>= (λ (level : ℕ × ℕ). (field-alike w16 (λ n. nat_lt n (8 ^ level.0) && follows last_id (record { level = level.0; number = n })) (λ n. nat_lt n (8 ^ level.0) && follows last_id (record { level = level.0; number = n })) level.1 (λ n. refl) i)
      >>= (λ (number : ℕ × ℕ). (field-alike w32 (λ m. nat_le m (if level.0 + 1 == levels then extents else 0)) (λ m. nat_le m (if level.0 + 1 == levels then extents else 0)) number.1 (λ n. refl) i)
      >>= (λ (base : ℕ × ℕ). (field-alike w32 (λ t. nat_le 1 t && nat_le t extents) (λ t. nat_le 1 t && nat_le t extents) base.1 (λ n. refl) i)
      >>= (λ (tables_len : ℕ × ℕ). (field-alike w32 (λ g. g == (if level.0 + 1 == levels then groups_for tables_len.0 else 0)) (λ g. g == (if level.0 + 1 == levels then groups_for tables_len.0 else 0)) tables_len.1 (λ n. refl) i)
      >>= (λ (groups_len : ℕ × ℕ). (extents_at-same extents tables_len.0 before those groups_len.1 alike i)
      >>= (λ (tables : List ℕ × ℕ). (extents_at-same extents groups_len.0 (tables.0 ++ before) (tables.0 ++ those) tables.1 (same-under tables.0 before those alike) i)
      >>= (λ (groups : List ℕ × ℕ). Ok ((record { level = level.0; number = number.0 }, record { base = base.0; tables = tables.0; groups = groups.0 }), groups.1))))))))

  pub nodes_read-same : (levels extents n : ℕ) (last_id : Option NodeId) (before those : List ℕ) (at : ℕ) → SameNumbers before those → nodes_read bytes limit levels extents n last_id before at ≡ nodes_read others limit levels extents n last_id those at
  unfolding nodes_read
  nodes_read-same levels extents zero last_id before those at alike = refl
  nodes_read-same levels extents (suc n) last_id before those at alike = λ i.
      (node_read-same levels extents last_id before those at alike i)
      >>= (λ (node : (NodeId × Node) × ℕ). (nodes_read-same levels extents n (Some (id_of node.0)) (extents_of node.0 ++ before) (extents_of node.0 ++ those) node.1 (same-under (extents_of node.0) before those alike) i)
      >>= (λ (rest : Trie × ℕ). Ok (node.0 ∷ rest.0, rest.1)))

-- the header asks of its 40 bytes alone
pub front_read-same : (g : Geometry) (blocks : ℕ) (bytes others : ℕ → ℕ) → ((i : ℕ) → i < 40 → bytes i ≡ others i) → front_read g blocks bytes ≡ front_read g blocks others
unfolding front_read
front_read-same g blocks bytes others same = λ i.
    (field-alike bytes others 40 same w8 (λ n. n == 1) (λ n. n == 1) 0 (λ n. refl) i)
    >>= (λ (format : ℕ × ℕ). (field-alike bytes others 40 same w8 (λ n. nat_le n 1) (λ n. nat_le n 1) 1 (λ n. refl) i)
    >>= (λ (area : ℕ × ℕ). (field-alike bytes others 40 same w16 is_zero is_zero 2 (λ n. refl) i)
    >>= (λ (gap : ℕ × ℕ). (field-alike bytes others 40 same w32 (extents_stand g blocks) (extents_stand g blocks) 4 (λ n. refl) i)
    >>= (λ (extents : ℕ × ℕ). (field-alike bytes others 40 same w64 always always 8 (λ n. refl) i)
    >>= (λ (writes : ℕ × ℕ). (field-alike bytes others 40 same w32 (λ n. nat_le n extents.0) (λ n. nat_le n extents.0) 16 (λ n. refl) i)
    >>= (λ (nodes : ℕ × ℕ). (field-alike bytes others 40 same w32 (λ n. nat_le 40 n && nat_le n (40 + 19 * extents.0)) (λ n. nat_le 40 n && nat_le n (40 + 19 * extents.0)) 20 (λ n. refl) i)
    >>= (λ (total : ℕ × ℕ). (field-alike bytes others 40 same w64 is_zero is_zero 24 (λ n. refl) i)
    >>= (λ (gap_high : ℕ × ℕ). (field-alike bytes others 40 same w64 is_zero is_zero 32 (λ n. refl) i)
    >>= (λ (gap_low : ℕ × ℕ). Ok (record { header = record { log_area = area.0; extents = extents.0; writes = writes.0 }; nodes = nodes.0; total = total.0 }))))))))))
