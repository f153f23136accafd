use Rattle.std.proofs.Common.{◌≡◌, ◌+◌, ◌≤◌, ◌<◌, ◌∙◌, ◌++◌, ◌∷◌, [], ◌&&◌, ◌||◌, ℕ, List, Bool, sym, ap, subst, length, arith, Global, Vec}
use Rattle.std.specs.Prelude.{nat_lt}
use Rattle.std.specs.List.{flat_map}
use Rattle.std.proofs.lemmas.List.{append-nil}
use Rattle.lt_bucket.specs.declared.owned.Item.{Item}
use Rattle.lt_terms.specs.Items as terms
use Rattle.lt_tables.specs.Table.{newest}
use Rattle.lt_tables.proofs.NewestLaws.{newest-newest}
use Rattle.lt_format.specs.Trie.{is_last_level, node_at}
use Rattle.lt_image.specs.Shares.{Share, needed}
use Rattle.lt_compact.specs.Jobs.{is_loose}
use Rattle.lt_compact.specs.Plans.{extents_for}
use Rattle.lt_compact.proofs.LooseLaws.{counted, loose-kept}
use Rattle.lt_compact.proofs.NeedLaws.{needed-is, needs-few}
use Rattle.lt_compact.proofs.planning.plan_lists.Goals as goal

-- the items of one list alone
one-list : {A : Type 0} (items_of : A → List terms.Item) (lists now : List A) (list : A) → lists ≡ [] → now ≡ lists ++ list ∷ [] → flat_map items_of now ≡ items_of list
one-list items_of lists now list none is = ap (flat_map items_of) (is ∙ ap (λ ls. ls ++ list ∷ []) none) ∙ append-nil (items_of list)

pub shares_of-requires-clause-items : goal.shares_of-requires-clause-items
shares_of-requires-clause-items c =
    let all : List terms.Item = flat_map (λ (list : Vec Item Global). list.items) c.args.lists.now.items in
    record {
      ranked = ap newest c.in_ok-kept.ensures.newest ∙ newest-newest all ∙ sym c.in_ok-kept.ensures.newest;
      few = omega (arith, ap length c.in_ok-kept.ensures.newest, (counted all).few, c.requires.few);
    }

pub planned-requires : goal.planned-requires
planned-requires c =
    let all : List terms.Item = flat_map (λ (list : Vec Item Global). list.items) c.args.lists.now.items in
    let kept : List terms.Item = c.in_ok-kept.kept.items in
    let ranked : newest kept ≡ kept = ap newest c.in_ok-kept.ensures.newest ∙ newest-newest all ∙ sym c.in_ok-kept.ensures.newest in
    let few : length kept ≤ 3422552064 = omega (arith, ap length c.in_ok-kept.ensures.newest, (counted all).few, c.requires.few) in
    record { few = subst (λ (ss : List Share). extents_for c.args.trie.now.levels ss < 4294967296) (sym c.in-Ok.ensures.shares) (needs-few c.args.trie.now.levels c.args.trie.now.nodes c.args.node kept ranked c.in-Ok.ensures.valid few) }

pub returns-in-Ok-clause-needed : goal.returns-in-Ok-clause-needed
returns-in-Ok-clause-needed c =
    c.planned.ensures.needed
    ∙ ap (extents_for c.args.trie.now.levels) c.in-Ok.ensures.shares
    ∙ sym (needed-is c.args.trie.now.levels c.args.trie.now.nodes c.args.node c.in_ok-kept.kept.items)
    ∙ ap (needed c.args.trie.now.levels c.args.trie.now.nodes c.args.node) c.in_ok-kept.ensures.newest

pub returns-in-Ok-clause-slack : goal.returns-in-Ok-clause-slack
returns-in-Ok-clause-slack c =
    let all : List terms.Item = flat_map (λ (list : Vec Item Global). list.items) c.args.lists.now.items in
    let last : Bool = is_last_level c.args.trie.now.levels c.args.node in
    let extents : ℕ = length (node_at c.args.trie.now.nodes c.args.node).tables + length (node_at c.args.trie.now.nodes c.args.node).groups in
    let wanted : c.planned.result.needed ≡ needed c.args.trie.now.levels c.args.trie.now.nodes c.args.node (newest all) =
    c.planned.ensures.needed
    ∙ ap (extents_for c.args.trie.now.levels) c.in-Ok.ensures.shares
    ∙ sym (needed-is c.args.trie.now.levels c.args.trie.now.nodes c.args.node c.in_ok-kept.kept.items)
    ∙ ap (needed c.args.trie.now.levels c.args.trie.now.nodes c.args.node) c.in_ok-kept.ensures.newest in
    c.planned.ensures.slack
    ∙ ap (λ (b : Bool). last && (b || nat_lt c.planned.result.needed extents)) c.in_ok-kept.ensures.loose
    ∙ ap (λ (n : ℕ). last && ((c.args.loose.now || is_loose all) || nat_lt n extents)) wanted

pub returns-in-Err-clause-kept : goal.returns-in-Err-clause-kept
returns-in-Err-clause-kept c =
    let all : List terms.Item = flat_map (λ (list : Vec Item Global). list.items) c.args.lists.now.items in
    let items_of : Vec Item Global → List terms.Item = λ list. list.items in
    let one : flat_map items_of c.push_reserved.new.self.items ≡ newest all =
    one-list items_of c.in_ok-room.room.items c.push_reserved.new.self.items c.shares_of.new.kept c.in_ok-room.ensures.items c.push_reserved.ensures.items ∙ c.in-Err.ensures.kept ∙ c.in_ok-kept.ensures.newest in
    ap newest one ∙ newest-newest all

pub returns-in-Err-clause-loose : goal.returns-in-Err-clause-loose
returns-in-Err-clause-loose c =
    let all : List terms.Item = flat_map (λ (list : Vec Item Global). list.items) c.args.lists.now.items in
    let items_of : Vec Item Global → List terms.Item = λ list. list.items in
    let one : flat_map items_of c.push_reserved.new.self.items ≡ newest all =
    one-list items_of c.in_ok-room.room.items c.push_reserved.new.self.items c.shares_of.new.kept c.in_ok-room.ensures.items c.push_reserved.ensures.items ∙ c.in-Err.ensures.kept ∙ c.in_ok-kept.ensures.newest in
    ap (λ (b : Bool). b || is_loose (flat_map items_of c.push_reserved.new.self.items)) c.in_ok-kept.ensures.loose
    ∙ ap (λ (xs : List terms.Item). (c.args.loose.now || is_loose all) || is_loose xs) one
    ∙ loose-kept c.args.loose.now all

pub returns-in-Err-clause-fewer : goal.returns-in-Err-clause-fewer
returns-in-Err-clause-fewer c =
    let all : List terms.Item = flat_map (λ (list : Vec Item Global). list.items) c.args.lists.now.items in
    let items_of : Vec Item Global → List terms.Item = λ list. list.items in
    let one : flat_map items_of c.push_reserved.new.self.items ≡ newest all =
    one-list items_of c.in_ok-room.room.items c.push_reserved.new.self.items c.shares_of.new.kept c.in_ok-room.ensures.items c.push_reserved.ensures.items ∙ c.in-Err.ensures.kept ∙ c.in_ok-kept.ensures.newest in
    omega (arith, ap length one, (counted all).few)
