-- The bytes of a snapshot, as they are spelled one node and one number after another.
use Rattle.std.proofs.Common.{◌≡◌, ℕ, suc, ◌+◌, ◌*◌, ◌<◌, ◌≤◌, sym, ap, ◌∙◌, List, [], ◌∷◌, ◌++◌, length, drop, arith, length-append, append_assoc}
use Rattle.std.specs.Prelude.{get_or}
use Rattle.std.proofs.Math.Seq.{drop-cons}
use Rattle.lt_terms.specs.Bytes.{u32}
use Rattle.lt_format.specs.declared.node_id.NodeId.{NodeId}
use Rattle.lt_format.specs.Trie.{Node, Trie}
use Rattle.lt_format.specs.Snapshot.{node_bytes, nodes_bytes, numbers}
use Rattle.lt_format.proofs.NodeReadLaws.{length-node}

pub length-entry : (e : NodeId × Node) → length (node_bytes e) ≡ 15 + 4 * (length e.1.tables + length e.1.groups)
length-entry e = omega (arith, length-node e.0 e.1, length-append e.1.tables e.1.groups)

pub nodes-next : (nodes : Trie) (k : ℕ) (e : NodeId × Node) → k < length nodes → nodes_bytes (drop k nodes) ≡ node_bytes (get_or nodes k e) ++ nodes_bytes (drop (k + 1) nodes)
nodes-next nodes k e within =
    let next : suc k ≡ k + 1 = omega arith in
    ap nodes_bytes (drop-cons nodes k e within) ∙ ap (λ n. node_bytes (get_or nodes k e) ++ nodes_bytes (drop n nodes)) next

pub numbers-next : (list : List ℕ) (k d : ℕ) → k < length list → numbers (drop k list) ≡ u32 (get_or list k d) ++ numbers (drop (k + 1) list)
numbers-next list k d within =
    let next : suc k ≡ k + 1 = omega arith in
    ap numbers (drop-cons list k d within) ∙ ap (λ n. u32 (get_or list k d) ++ numbers (drop n list)) next

-- one part more
pub spelled-more : (bytes now part rest all left : List ℕ) → bytes ++ left ≡ all → left ≡ part ++ rest → now ≡ bytes ++ part → now ++ rest ≡ all
spelled-more bytes now part rest all left so_far split is = ap (λ xs. xs ++ rest) is ∙ append_assoc bytes part rest ∙ ap (λ xs. bytes ++ xs) (sym split) ∙ so_far

-- there is room for it
pub spelled-fits : (bytes part rest first whole left : List ℕ) (room capacity : ℕ) → bytes ++ left ≡ first ++ whole → left ≡ part ++ rest → length first + length whole ≤ room → room ≤ capacity → length bytes + length part ≤ capacity
spelled-fits bytes part rest first whole left room capacity so_far split fits grows =
    let all = ap length so_far in
    omega (arith, all, length-append bytes left, length-append first whole, ap length split, length-append part rest)

-- one part behind another
joined : (first mid last one two : List ℕ) → mid ≡ first ++ one → last ≡ mid ++ two → last ≡ first ++ (one ++ two)
joined first mid last one two a b = b ∙ ap (λ xs. xs ++ two) a ∙ append_assoc first one two

-- seven of them
pub seven_joined : (a b c d e f g h p q r s t u v : List ℕ) → b ≡ a ++ p → c ≡ b ++ q → d ≡ c ++ r → e ≡ d ++ s → f ≡ e ++ t → g ≡ f ++ u → h ≡ g ++ v → h ≡ a ++ ((((((p ++ q) ++ r) ++ s) ++ t) ++ u) ++ v)
seven_joined a b c d e f g h p q r s t u v one two three four five six seven =
    joined a g h (((((p ++ q) ++ r) ++ s) ++ t) ++ u) v (joined a f g ((((p ++ q) ++ r) ++ s) ++ t) u (joined a e f (((p ++ q) ++ r) ++ s) t (joined a d e ((p ++ q) ++ r) s (joined a c d (p ++ q) r (joined a b c p q one two) three) four) five) six) seven

pub few_nodes : (nodes : Trie) → length nodes ≤ length (nodes_bytes nodes)
few_nodes [] = omega arith
few_nodes (e ∷ es) = omega (arith, few_nodes es, length-append (node_bytes e) (nodes_bytes es), length-entry e)
