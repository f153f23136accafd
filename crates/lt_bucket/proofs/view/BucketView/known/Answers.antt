use Rattle.std.proofs.Common.{◌≡◌, ℕ, ◌+◌, ◌≤◌, List, [], Option, Some, true, sym, ap, subst, ◌∙◌}
use Rattle.std.specs.Prelude.{is_some, unwrap_or, slice_index, slice_range}
use Rattle.lt_terms.specs.Bytes.{u16_at, u32_at}
use Rattle.lt_terms.specs.Items.{Item, items_of}
use Rattle.lt_tables.specs.declared.Sends.{Sends}
use Rattle.lt_tables.specs.Bucket.{sends_of}
use Rattle.lt_bucket.specs.Reading.{SpellsBucket}
use Rattle.lt_bucket.proofs.KnownLaws.{known-page, header_read, area_read}
use Rattle.lt_bucket.proofs.view.BucketView.known.Goals as goal

pub unwrap-sends-requires : goal.unwrap-sends-requires
unwrap-sends-requires c =
    let page : List ℕ = c.args.page.now in
    let header = header_read page c.byte.result c.byte-2.result c.number_u32.result c.sends_of.result c.sends_of.ensures c.byte.ensures.byte c.byte-2.ensures.byte c.number_u32.ensures.number in
    ap is_some header ∙ (known-page page c.requires).sends

pub area-spelled-requires : goal.area-spelled-requires
area-spelled-requires c =
    subst (λ n. n ≤ 4080) (sym c.number_u16.ensures.number) (known-page c.args.page.now c.requires).small

pub known-items-requires : goal.known-items-requires
known-items-requires c =
    let page : List ℕ = c.args.page.now in
    let read = area_read page c.area-spelled.result.now c.number_u16-2.result c.number_u16.result c.area-spelled.ensures c.number_u16-2.ensures.number c.number_u16.ensures.number in
    ap is_some read ∙ (known-page page c.requires).items

pub invariant_of-result : goal.invariant_of-result
invariant_of-result c =
    let page : List ℕ = c.args.page.now in
    let header = header_read page c.byte.result c.byte-2.result c.number_u32.result c.sends_of.result c.sends_of.ensures c.byte.ensures.byte c.byte-2.ensures.byte c.number_u32.ensures.number in
    let read = area_read page c.area-spelled.result.now c.number_u16-2.result c.number_u16.result c.area-spelled.ensures c.number_u16-2.ensures.number c.number_u16.ensures.number in
    let items : c.known-items.result ≡ unwrap_or (items_of (u16_at page 0) (slice_range page 16 (16 + u16_at page 2))) [] = c.known-items.ensures ∙ ap (λ o. unwrap_or o []) read in
    subst (SpellsBucket page c.unwrap-sends.result) (sym items) ((known-page page c.requires).is c.unwrap-sends.result (sym header ∙ c.unwrap-sends.ensures))
