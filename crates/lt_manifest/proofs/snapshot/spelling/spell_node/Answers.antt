use Rattle.std.proofs.Common.{ℕ, ◌∙◌, ap, List, [], ◌∷◌, ◌++◌, length, arith}
use Rattle.lt_terms.specs.Bytes.{u16, u32}
use Rattle.lt_format.specs.declared.node_id.NodeId.{NodeId}
use Rattle.lt_format.specs.Snapshot.{numbers}
use Rattle.lt_manifest.proofs.SpellingLaws.{length-entry, seven_joined}
use Rattle.lt_manifest.proofs.snapshot.spelling.spell_node.Goals as goal

pub overflow_cast-tables : goal.overflow_cast-tables
overflow_cast-tables c = omega (arith, length-entry c.args.entry.now, ap length c.tables.ensures, c.requires.few)

pub overflow_cast-groups : goal.overflow_cast-groups
overflow_cast-groups c = omega (arith, length-entry c.args.entry.now, ap length c.groups.ensures, c.requires.few)

pub returns : goal.returns
returns c =
    let level = c.add.ensures.bytes ∙ ap (λ (id : NodeId). c.args.bytes.now.items ++ (id.level ∷ [])) c.node-level.ensures in
    let number = c.add-2.ensures.bytes ∙ ap (λ (xs : List ℕ). c.add.new.bytes.items ++ xs) (c.to_be_bytes.ensures ∙ ap (λ (id : NodeId). u16 id.number) c.node-level.ensures) in
    let base = c.add-3.ensures.bytes ∙ ap (λ (xs : List ℕ). c.add-2.new.bytes.items ++ xs) (c.to_be_bytes-2.ensures ∙ ap u32 c.base.ensures) in
    let tables_len = c.add-4.ensures.bytes ∙ ap (λ (xs : List ℕ). c.add-3.new.bytes.items ++ xs) (c.to_be_bytes-3.ensures ∙ ap (λ (xs : List ℕ). u32 (length xs)) c.tables.ensures) in
    let groups_len = c.add-5.ensures.bytes ∙ ap (λ (xs : List ℕ). c.add-4.new.bytes.items ++ xs) (c.to_be_bytes-4.ensures ∙ ap (λ (xs : List ℕ). u32 (length xs)) c.groups.ensures) in
    let tables = c.spell_numbers.ensures.bytes ∙ ap (λ (xs : List ℕ). c.add-5.new.bytes.items ++ numbers xs) c.tables-2.ensures in
    let groups = c.spell_numbers-2.ensures.bytes ∙ ap (λ (xs : List ℕ). c.spell_numbers.new.bytes.items ++ numbers xs) c.groups-2.ensures in
    let e = c.args.entry.now in
    record {
      bytes = seven_joined c.args.bytes.now.items c.add.new.bytes.items c.add-2.new.bytes.items c.add-3.new.bytes.items c.add-4.new.bytes.items c.add-5.new.bytes.items c.spell_numbers.new.bytes.items c.spell_numbers-2.new.bytes.items
          (e.0.level ∷ []) (u16 e.0.number) (u32 e.1.base) (u32 (length e.1.tables)) (u32 (length e.1.groups)) (numbers e.1.tables) (numbers e.1.groups) level number base tables_len groups_len tables groups;
      capacity = omega (arith, c.add.ensures.capacity, c.add-2.ensures.capacity, c.add-3.ensures.capacity, c.add-4.ensures.capacity, c.add-5.ensures.capacity, c.spell_numbers.ensures.capacity, c.spell_numbers-2.ensures.capacity);
    }
