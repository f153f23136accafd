use Rattle.std.proofs.Common.{◌≡◌, ◌≤◌, ◌+◌, ◌∙◌, ◌++◌, ◌∷◌, [], refl, ap, length, arith}
use Rattle.lt_terms.specs.Items.{total_cost, item_cost}
use Rattle.lt_item.specs.Views.{item_of}
use Rattle.lt_mem.specs.Index.{bucket_of, last_in}
use Rattle.lt_mem.specs.Inside.{items_inside}
use Rattle.lt_mem.proofs.IndexLaws.{index-bytes, cost_of_places, five, grown, place_is, head_is, index-itself, index-renewed}
use Rattle.lt_mem.proofs.table.MemTable.add.Goals as goal

pub overflow_cast-place : goal.overflow_cast-place
overflow_cast-place c =
    let cost = index-bytes _ _ _ _ c.self.invariant.index in
    let fits = c.self.invariant.index.fits in
    let len = c.self.inside.bytes.ok.0 in
    omega arith

pub append_item-requires-clause-room : goal.append_item-requires-clause-room
append_item-requires-clause-room c =
    let cost = index-bytes _ _ _ _ c.self.invariant.index in
    let same = ap total_cost c.self.view_is in
    let fits = c.requires.room in
    let room = c.self.invariant.room in
    let len = c.self.inside.bytes.ok.0 in
    omega arith

pub push_reserved-requires : goal.push_reserved-requires
push_reserved-requires c =
    let cost = cost_of_places _ _ _ _ c.self.invariant.index in
    let same = ap total_cost c.self.view_is in
    let fits = c.requires.room in
    let one = five (item_of c.args.item.now) c.requires.valid in
    let room = c.self.invariant.room_for_places in
    let len = c.self.inside.places.ok.0 in
    omega arith

pub overflow_cast-len : goal.overflow_cast-len
overflow_cast-len c =
    let cost = cost_of_places _ _ _ _ c.self.invariant.index in
    let fits = c.self.invariant.index.fits in
    let len = c.self.inside.places.ok.0 in
    let more = c.push_reserved.ensures.len in
    let is = c.len-2.ensures in
    omega arith

pub invariant_of-self : goal.invariant_of-self
invariant_of-self c =
    let at : c.len.result ≡ total_cost (items_inside c.self.inside) = c.len.ensures ∙ c.self.inside.bytes.ok.0 ∙ index-bytes _ _ _ _ c.self.invariant.index in
    let before : c.index.result.now ≡ last_in (bucket_of c.args.item.now.key.now) (items_inside c.self.inside) =
    head_is _ _ _ _ c.self.invariant.index.buckets c.self.invariant.index.heads_are c.bucket_of-bucket.ensures.below c.index.ensures
    ∙ ap (λ b. last_in b (items_inside c.self.inside)) (c.bucket_of-bucket.ensures.bucket _ c.requires.parts) in
    let number : c.len-2.result ≡ length c.self.inside.places.items + 1 = c.len-2.ensures ∙ c.push_reserved.ensures.len ∙ ap (λ n. n + 1) c.self.inside.places.ok.0 in
    let room : total_cost (items_inside c.self.inside) + item_cost (item_of c.args.item.now) ≤ 204092 = let same = ap total_cost c.self.view_is in let fits = c.requires.room in omega arith in
    record {
      index = index-renewed _ _ _ _ (grown _ _ _ _ _ _ _ (item_of c.args.item.now) _ _ _ c.self.invariant.index c.requires.valid room (c.bucket_of-bucket.ensures.bucket _ c.requires.parts) c.bucket_of-bucket.ensures.below
          (place_is _ _ _ (item_of c.args.item.now) at before) number c.append_item.ensures.items c.push_reserved.ensures.items refl);
      room = let old = c.self.invariant.room in let more = c.append_item.ensures.capacity in omega arith;
      room_for_places = let old = c.self.invariant.room_for_places in let same = c.push_reserved.ensures.capacity in omega arith;
    }

pub returns : goal.returns
returns c =
    let at : c.len.result ≡ total_cost (items_inside c.self.inside) = c.len.ensures ∙ c.self.inside.bytes.ok.0 ∙ index-bytes _ _ _ _ c.self.invariant.index in
    let before : c.index.result.now ≡ last_in (bucket_of c.args.item.now.key.now) (items_inside c.self.inside) =
    head_is _ _ _ _ c.self.invariant.index.buckets c.self.invariant.index.heads_are c.bucket_of-bucket.ensures.below c.index.ensures
    ∙ ap (λ b. last_in b (items_inside c.self.inside)) (c.bucket_of-bucket.ensures.bucket _ c.requires.parts) in
    let number : c.len-2.result ≡ length c.self.inside.places.items + 1 = c.len-2.ensures ∙ c.push_reserved.ensures.len ∙ ap (λ n. n + 1) c.self.inside.places.ok.0 in
    let room : total_cost (items_inside c.self.inside) + item_cost (item_of c.args.item.now) ≤ 204092 = let same = ap total_cost c.self.view_is in let fits = c.requires.room in omega arith in
    index-itself _ _ _ _ (grown _ _ _ _ _ _ _ (item_of c.args.item.now) _ _ _ c.self.invariant.index c.requires.valid room (c.bucket_of-bucket.ensures.bucket _ c.requires.parts) c.bucket_of-bucket.ensures.below
    (place_is _ _ _ (item_of c.args.item.now) at before) number c.append_item.ensures.items c.push_reserved.ensures.items refl)
    ∙ ap (λ items. items ++ item_of c.args.item.now ∷ []) c.self.view_is
