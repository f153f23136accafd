-- A node is read as its first fields and its extent numbers.
use Rattle.std.proofs.Common.{◌≡◌, ℕ, zero, suc, ◌+◌, ◌^◌, ◌<◌, ◌≤◌, refl, ◌∙◌, List, ◌++◌, Option, Result, Ok, Err, ◌&&◌, arith}
use Rattle.std.specs.Prelude.{nat_le, nat_lt, ◌==◌, if◌then◌else◌}
use Rattle.std.specs.Int.{w8, w16, w32}
use Rattle.lt_format.specs.declared.node_id.NodeId.{NodeId}
use Rattle.lt_format.specs.Trie.{Node, groups_for}
use Rattle.lt_format.specs.Snapshot.{node_read, extents_at, field, follows, ◌>>=◌}
use Rattle.lt_manifest.specs.Shape.{Shape, shape_read}

-- the extent numbers behind a node's first fields
abbrev pub extents_read : (ℕ → ℕ) → ℕ → ℕ → List ℕ → Shape × ℕ → Result ((NodeId × Node) × ℕ) ℕ
extents_read bytes limit extents before s =
    extents_at bytes limit extents s.0.tables before s.1 >>= (λ (tables : List ℕ × ℕ).
    extents_at bytes limit extents s.0.groups (tables.0 ++ before) tables.1 >>= (λ (groups : List ℕ × ℕ).
    Ok ((s.0.id, record { base = s.0.base; tables = tables.0; groups = groups.0 }), groups.1)))

bind-deep : {A B C : Type 0} (r : Result A ℕ) (f : A → Result C ℕ) (first : A → Result B ℕ) (goes : B → Result C ℕ) → ((x : A) → f x ≡ (first x >>= goes)) → (r >>= f) ≡ ((r >>= first) >>= goes)
bind-deep (Ok x) f first goes each = each x
bind-deep (Err e) f first goes each = refl

-- five fields, each of which may depend on those before it, and what is done with them
module _ {B C : Type 0} (one : Result (ℕ × ℕ) ℕ) (two : ℕ × ℕ → Result (ℕ × ℕ) ℕ) (three : ℕ × ℕ → ℕ × ℕ → Result (ℕ × ℕ) ℕ) (four : ℕ × ℕ → ℕ × ℕ → ℕ × ℕ → Result (ℕ × ℕ) ℕ)
    (five : ℕ × ℕ → ℕ × ℕ → ℕ × ℕ → ℕ × ℕ → Result (ℕ × ℕ) ℕ) (made : ℕ × ℕ → ℕ × ℕ → ℕ × ℕ → ℕ × ℕ → ℕ × ℕ → B) (goes : B → Result C ℕ) where
  five_fields : (one >>= (λ a. two a >>= (λ b. three a b >>= (λ c. four a b c >>= (λ d. five a b c d >>= (λ e. goes (made a b c d e)))))))
      ≡ ((one >>= (λ a. two a >>= (λ b. three a b >>= (λ c. four a b c >>= (λ d. five a b c d >>= (λ e. Ok (made a b c d e))))))) >>= goes)
  five_fields =
      bind-deep one (λ a. two a >>= (λ b. three a b >>= (λ c. four a b c >>= (λ d. five a b c d >>= (λ e. goes (made a b c d e)))))) (λ a. two a >>= (λ b. three a b >>= (λ c. four a b c >>= (λ d. five a b c d >>= (λ e. Ok (made a b c d e)))))) goes
      (λ a. bind-deep (two a) (λ b. three a b >>= (λ c. four a b c >>= (λ d. five a b c d >>= (λ e. goes (made a b c d e))))) (λ b. three a b >>= (λ c. four a b c >>= (λ d. five a b c d >>= (λ e. Ok (made a b c d e))))) goes
      (λ b. bind-deep (three a b) (λ c. four a b c >>= (λ d. five a b c d >>= (λ e. goes (made a b c d e)))) (λ c. four a b c >>= (λ d. five a b c d >>= (λ e. Ok (made a b c d e)))) goes
      (λ c. bind-deep (four a b c) (λ d. five a b c d >>= (λ e. goes (made a b c d e))) (λ d. five a b c d >>= (λ e. Ok (made a b c d e))) goes
      (λ d. bind-deep (five a b c d) (λ e. goes (made a b c d e)) (λ e. Ok (made a b c d e)) goes (λ e. refl)))))

pub node_read-shape : (bytes : ℕ → ℕ) (limit levels extents : ℕ) (last_id : Option NodeId) (before : List ℕ) (at : ℕ) → node_read bytes limit levels extents last_id before at ≡ (shape_read bytes limit levels extents last_id at >>= extents_read bytes limit extents before)
unfolding node_read shape_read
node_read-shape bytes limit levels extents last_id before at =
    five_fields
    (field bytes limit w8 (λ l. nat_lt l levels) at)
    (λ level. field bytes limit w16 (λ n. nat_lt n (8 ^ level.0) && follows last_id (record { level = level.0; number = n })) level.1)
    (λ level number. field bytes limit w32 (λ m. nat_le m (if level.0 + 1 == levels then extents else 0)) number.1)
    (λ level number base. field bytes limit w32 (λ t. nat_le 1 t && nat_le t extents) base.1)
    (λ level number base tables_len. field bytes limit w32 (λ g. g == (if level.0 + 1 == levels then groups_for tables_len.0 else 0)) tables_len.1)
    (λ level number base tables_len groups_len. (record { id = record { level = level.0; number = number.0 }; base = base.0; tables = tables_len.0; groups = groups_len.0 }, groups_len.1))
    (extents_read bytes limit extents before)

-- what its parts answer
pub node_read-ok : (bytes : ℕ → ℕ) (limit levels extents : ℕ) (last_id : Option NodeId) (before : List ℕ) (at : ℕ) (s : Shape) (at_tables : ℕ) (tables : List ℕ) (at_groups : ℕ) (groups : List ℕ) (next : ℕ)
    → shape_read bytes limit levels extents last_id at ≡ Ok (s, at_tables) → extents_at bytes limit extents s.tables before at_tables ≡ Ok (tables, at_groups) → extents_at bytes limit extents s.groups (tables ++ before) at_groups ≡ Ok (groups, next)
    → node_read bytes limit levels extents last_id before at ≡ Ok ((s.id, record { base = s.base; tables = tables; groups = groups }), next)
node_read-ok bytes limit levels extents last_id before at s at_tables tables at_groups groups next shape first second = node_read-shape bytes limit levels extents last_id before at ∙ (rw (shape, first, second) refl)

pub node_read-shape_fault : (bytes : ℕ → ℕ) (limit levels extents : ℕ) (last_id : Option NodeId) (before : List ℕ) (at e : ℕ) → shape_read bytes limit levels extents last_id at ≡ Err e → node_read bytes limit levels extents last_id before at ≡ Err e
node_read-shape_fault bytes limit levels extents last_id before at e shape = node_read-shape bytes limit levels extents last_id before at ∙ (rw shape refl)

pub node_read-tables_fault : (bytes : ℕ → ℕ) (limit levels extents : ℕ) (last_id : Option NodeId) (before : List ℕ) (at : ℕ) (s : Shape) (at_tables e : ℕ)
    → shape_read bytes limit levels extents last_id at ≡ Ok (s, at_tables) → extents_at bytes limit extents s.tables before at_tables ≡ Err e → node_read bytes limit levels extents last_id before at ≡ Err e
node_read-tables_fault bytes limit levels extents last_id before at s at_tables e shape first = node_read-shape bytes limit levels extents last_id before at ∙ (rw (shape, first) refl)

pub node_read-groups_fault : (bytes : ℕ → ℕ) (limit levels extents : ℕ) (last_id : Option NodeId) (before : List ℕ) (at : ℕ) (s : Shape) (at_tables : ℕ) (tables : List ℕ) (at_groups e : ℕ)
    → shape_read bytes limit levels extents last_id at ≡ Ok (s, at_tables) → extents_at bytes limit extents s.tables before at_tables ≡ Ok (tables, at_groups) → extents_at bytes limit extents s.groups (tables ++ before) at_groups ≡ Err e
    → node_read bytes limit levels extents last_id before at ≡ Err e
node_read-groups_fault bytes limit levels extents last_id before at s at_tables tables at_groups e shape first second = node_read-shape bytes limit levels extents last_id before at ∙ (rw (shape, first, second) refl)

-- the numbers of a level are few
pub eight_fits : (level : ℕ) → level ≤ 4 → 8 ^ level < 4294967296
eight_fits zero h = omega arith
eight_fits (suc zero) h = omega arith
eight_fits (suc (suc zero)) h = omega arith
eight_fits (suc (suc (suc zero))) h = omega arith
eight_fits (suc (suc (suc (suc zero)))) h = omega arith
eight_fits (suc (suc (suc (suc (suc level))))) h = absurd (omega arith)
