use Rattle.std.proofs.Common.{◌≡◌, ◌||◌, ◌∙◌, ℕ, List, Bool, ap, length, Global, Vec}
use Rattle.std.specs.Prelude.{nat_lt}
use Rattle.std.specs.List.{flat_map}
use Rattle.lt_bucket.specs.declared.owned.Item.{Item}
use Rattle.lt_terms.specs.Items as terms
use Rattle.lt_tables.specs.Table.{newest}
use Rattle.lt_compact.proofs.LooseLaws.{loose-told}
use Rattle.lt_compact.proofs.StepLaws.{has_delete}
use Rattle.lt_compact.proofs.planning.merged.Goals as goal

pub returns-clause-loose : goal.returns-clause-loose
returns-clause-loose c =
    let items : List terms.Item = flat_map (λ (list : Vec Item Global). list.items) c.args.lists.now.items in
    let count : c.count-count.result ≡ length items = c.count-count.ensures ∙ ap (λ (ls : List (Vec Item Global)). length (flat_map (λ (list : Vec Item Global). list.items) ls)) c.deref.ensures.value in
    let deletes : c.have_deletes-deletes.result ≡ has_delete items = c.have_deletes-deletes.ensures ∙ ap (λ (ls : List (Vec Item Global)). has_delete (flat_map (λ (list : Vec Item Global). list.items) ls)) c.deref-2.ensures.value in
    let keys : c.len.result ≡ length (newest items) = c.len.ensures ∙ c.in_ok-kept.kept.ok.0 ∙ ap length c.in_ok-kept.ensures.newest in
    c.told.ensures
    ∙ ap (λ (b : Bool). (c.args.loose.now || b) || nat_lt c.len.result c.count-count.result) deletes
    ∙ ap (λ (n : ℕ). (c.args.loose.now || has_delete items) || nat_lt n c.count-count.result) keys
    ∙ ap (λ (n : ℕ). (c.args.loose.now || has_delete items) || nat_lt (length (newest items)) n) count
    ∙ loose-told c.args.loose.now items
