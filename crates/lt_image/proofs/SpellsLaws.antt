-- A page spells a bucket exactly where reading it gives the bucket.
use Rattle.std.proofs.Common.{◌≡◌, ℕ, List, refl, ap, ◌∙◌, true, false, ◌&&◌, Option, Some, None}
use Rattle.std.specs.Prelude.{◌==◌}
use Rattle.std.specs.Bool.{Decides}
use Rattle.std.specs.Option.{option_map_or}
use Rattle.std.specs.Cmp.Lexicographic.{bytes_decides}
use Rattle.std.proofs.lemmas.Bool.{and_parts, and_from, eqb-true, eq-eqb}
use Rattle.std.proofs.lemmas.Slice.Eq.{slice_eq-Decides}
use Rattle.lt_terms.specs.declared.Kind.{Kind}
use Rattle.lt_terms.specs.declared.Kind.TheVariants.{Put, Delete}
use Rattle.lt_terms.specs.Bytes.{same_bytes}
use Rattle.lt_terms.specs.Items.{Item, kind_byte}
use Rattle.lt_tables.specs.declared.Sends.{Sends}
use Rattle.lt_tables.specs.Bucket.{Bucket, bucket_of}
use Rattle.lt_image.specs.Standing.{same_item, same_sends, same_bucket, spells}

one_kind : (a b : Kind) → (kind_byte a == kind_byte b) ≡ true → a ≡ b
one_kind Put Put h = refl
one_kind Put Delete h = cc
one_kind Delete Put h = cc
one_kind Delete Delete h = refl

one_item : (a b : Item) → Decides (same_item a b) (a ≡ b)
one_item a b = (to, from)
  where
    to : same_item a b ≡ true → a ≡ b
    to h =
        let f = and_parts (kind_byte a.kind == kind_byte b.kind && same_bytes a.key b.key) (same_bytes a.value b.value) h in
        let e = and_parts (kind_byte a.kind == kind_byte b.kind) (same_bytes a.key b.key) f.0 in
        let kinds : a.kind ≡ b.kind = one_kind a.kind b.kind e.0 in
        let keys : a.key ≡ b.key = (bytes_decides a.key b.key).0 e.1 in
        let values : a.value ≡ b.value = (bytes_decides a.value b.value).0 f.1 in
        λ i. record { kind = kinds i; key = keys i; value = values i }

    from : a ≡ b → same_item a b ≡ true
    from h =
        and_from (kind_byte a.kind == kind_byte b.kind && same_bytes a.key b.key) (same_bytes a.value b.value)
        (and_from (kind_byte a.kind == kind_byte b.kind) (same_bytes a.key b.key) (eq-eqb (kind_byte a.kind) (kind_byte b.kind) (ap (λ (v : Item). kind_byte v.kind) h)) ((bytes_decides a.key b.key).1 (ap (λ (v : Item). v.key) h)))
        ((bytes_decides a.value b.value).1 (ap (λ (v : Item). v.value) h))

sends_to : (a b : Option Sends) → same_sends a b ≡ true → a ≡ b
sends_to None None h = refl
sends_to None (Some b) h = cc
sends_to (Some a) None h = cc
sends_to (Some a) (Some b) h =
    let e = and_parts (a.target == b.target) (a.mark == b.mark) h in
    let targets : a.target ≡ b.target = eqb-true a.target b.target e.0 in
    let marks : a.mark ≡ b.mark = eqb-true a.mark b.mark e.1 in
    λ i. Some (record { target = targets i; mark = marks i })

sends_same : (a : Option Sends) → same_sends a a ≡ true
sends_same None = refl
sends_same (Some a) = and_from (a.target == a.target) (a.mark == a.mark) (eq-eqb a.target a.target refl) (eq-eqb a.mark a.mark refl)

bucket_to : (a b : Bucket) → same_bucket a b ≡ true → a ≡ b
bucket_to a b h =
    let e = and_parts (same_sends a.sends b.sends) _ h in
    let sends : a.sends ≡ b.sends = sends_to a.sends b.sends e.0 in
    let items : a.items ≡ b.items = (slice_eq-Decides one_item a.items b.items _ refl).0 e.1 in
    λ i. record { sends = sends i; items = items i }

bucket_same : (a : Bucket) → same_bucket a a ≡ true
bucket_same a = and_from (same_sends a.sends a.sends) _ (sends_same a.sends) ((slice_eq-Decides one_item a.items a.items _ refl).1 refl)

pub spells-reads : (page : List ℕ) (b : Bucket) → spells page b ≡ true → bucket_of page ≡ Some b
spells-reads page b h = by_read (bucket_of page) refl h
  where
    by_read : (o : Option Bucket) → bucket_of page ≡ o → option_map_or (λ a. same_bucket a b) o false ≡ true → o ≡ Some b
    by_read None e h = cc
    by_read (Some a) e h = ap (λ x. Some x) (bucket_to a b h)

pub spells-is : (page : List ℕ) (b : Bucket) → bucket_of page ≡ Some b → spells page b ≡ true
spells-is page b h = ap (λ o. option_map_or (λ a. same_bucket a b) o false) h ∙ bucket_same b
