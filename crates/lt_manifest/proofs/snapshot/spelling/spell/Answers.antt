use Rattle.std.proofs.Common.{ℕ, ◌+◌, ◌∙◌, ap, List, [], ◌∷◌, ◌++◌, length, arith, length-append}
use Rattle.lt_terms.specs.Bytes.{u32, u64, zeros}
use Rattle.lt_format.specs.declared.header.Header.{Header}
use Rattle.lt_format.specs.Snapshot.{nodes_bytes}
use Rattle.lt_format.proofs.SnapshotReadLaws.{length-snapshot}
use Rattle.lt_manifest.proofs.SpellingLaws.{few_nodes, seven_joined}
use Rattle.lt_manifest.proofs.snapshot.spelling.spell.Goals as goal

pub overflow_cast-nodes : goal.overflow_cast-nodes
overflow_cast-nodes c = omega (arith, few_nodes c.args.nodes.now, length-snapshot (record { header = c.args.header.now; trie = c.args.nodes.now }), c.requires.few)

pub spell_nodes-requires-clause-room : goal.spell_nodes-requires-clause-room
unfolding zeros
spell_nodes-requires-clause-room c =
    let one = ap length c.add.ensures.bytes ∙ ap (λ (xs : List ℕ). length (xs ++ (1 ∷ c.args.header.now.log_area ∷ 0 ∷ 0 ∷ []))) c.requires.empty in
    let two = ap length (c.add-2.ensures.bytes ∙ ap (λ (xs : List ℕ). c.add.new.bytes.items ++ xs) c.to_be_bytes.ensures) ∙ length-append c.add.new.bytes.items (u32 c.args.header.now.extents) in
    let three = ap length (c.add-3.ensures.bytes ∙ ap (λ (xs : List ℕ). c.add-2.new.bytes.items ++ xs) c.to_be_bytes-2.ensures) ∙ length-append c.add-2.new.bytes.items (u64 c.args.header.now.writes) in
    let four = ap length (c.add-4.ensures.bytes ∙ ap (λ (xs : List ℕ). c.add-3.new.bytes.items ++ xs) c.to_be_bytes-3.ensures) ∙ length-append c.add-3.new.bytes.items (u32 (length c.args.nodes.now)) in
    let five = ap length (c.add-5.ensures.bytes ∙ ap (λ (xs : List ℕ). c.add-4.new.bytes.items ++ xs) c.to_be_bytes-4.ensures) ∙ length-append c.add-4.new.bytes.items (u32 (40 + c.nodes_len-total.result)) in
    let six = ap length c.add-6.ensures.bytes ∙ length-append c.add-5.new.bytes.items (zeros 16) in
    let whole = length-snapshot (record { header = c.args.header.now; trie = c.args.nodes.now }) in
    omega (arith, one, two, three, four, five, six, whole, c.requires.few, c.requires.room, c.add.ensures.capacity, c.add-2.ensures.capacity, c.add-3.ensures.capacity, c.add-4.ensures.capacity, c.add-5.ensures.capacity, c.add-6.ensures.capacity)

pub returns : goal.returns
unfolding zeros
returns c =
    let h : Header = c.args.header.now in
    let extents = c.add-2.ensures.bytes ∙ ap (λ (xs : List ℕ). c.add.new.bytes.items ++ xs) c.to_be_bytes.ensures in
    let writes = c.add-3.ensures.bytes ∙ ap (λ (xs : List ℕ). c.add-2.new.bytes.items ++ xs) c.to_be_bytes-2.ensures in
    let nodes = c.add-4.ensures.bytes ∙ ap (λ (xs : List ℕ). c.add-3.new.bytes.items ++ xs) c.to_be_bytes-3.ensures in
    let total = c.add-5.ensures.bytes ∙ ap (λ (xs : List ℕ). c.add-4.new.bytes.items ++ xs) (c.to_be_bytes-4.ensures ∙ ap (λ k. u32 (40 + k)) c.nodes_len-total.ensures) in
    seven_joined c.args.bytes.now.items c.add.new.bytes.items c.add-2.new.bytes.items c.add-3.new.bytes.items c.add-4.new.bytes.items c.add-5.new.bytes.items c.add-6.new.bytes.items c.spell_nodes.new.bytes.items
    (1 ∷ h.log_area ∷ 0 ∷ 0 ∷ []) (u32 h.extents) (u64 h.writes) (u32 (length c.args.nodes.now)) (u32 (40 + length (nodes_bytes c.args.nodes.now))) (zeros 16) (nodes_bytes c.args.nodes.now)
    c.add.ensures.bytes extents writes nodes total c.add-6.ensures.bytes c.spell_nodes.ensures
    ∙ ap (λ (xs : List ℕ). xs ++ (((((((1 ∷ h.log_area ∷ 0 ∷ 0 ∷ []) ++ u32 h.extents) ++ u64 h.writes) ++ u32 (length c.args.nodes.now)) ++ u32 (40 + length (nodes_bytes c.args.nodes.now))) ++ zeros 16) ++ nodes_bytes c.args.nodes.now)) c.requires.empty
