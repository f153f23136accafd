use Rattle.std.proofs.Common.{◌≡◌, ◌+◌, ◌-◌, ◌*◌, ◌<◌, ◌≤◌, ◌∙◌, ◌++◌, [], ℕ, List, sym, ap, subst, length, take, drop, get_or, arith, length-append, Some}
use Rattle.std.specs.Prelude.{IsTrue}
use Rattle.lt_terms.specs.Bytes.{is_in}
use Rattle.lt_terms.specs.Items.{Item}
use Rattle.lt_format.specs.Layout.{extent_block}
use Rattle.lt_htable.specs.Building.{InExtent}
use Rattle.lt_image.specs.Shares.{Share, kept_groups}
use Rattle.lt_image.specs.Standing.{filter_blocks}
use Rattle.lt_tables.specs.Filter.{IsGroup, filter_block}
use Rattle.lt_tables.specs.Table.{IsPlaced, blocks_from}
use Rattle.lt_compact.specs.Plans.{Holds, filters_of}
use Rattle.lt_compact.proofs.SpotLaws.{group-begins, group-content, length-slice, some-tables, spot-of, table-content, told-tables}
use Rattle.lt_compact.proofs.SpreadLaws.{filters-apart, group-others, number-within}
use Rattle.lt_compact.proofs.filling.fill.Goals as goal

pub build-requires-clause-within : goal.build-requires-clause-within
build-requires-clause-within g c =
    omega (arith, number-within c.args.geometry.now (g.D.Device.blocks c.args.device.now) c.args.shares.now c.args.numbers.now c.args.filled c.requires.may c.requires.left, c.extent-extent.ensures)

pub returns-in_ok-build-clause-holds : goal.returns-in_ok-build-clause-holds
returns-in_ok-build-clause-holds g c = λ before image content was is.
    let s : Share = c.index-shares-share.result in
    let spot = spot-of c.args.geometry.now.levels c.args.shares.now c.args.filled c.spot_of-share.result.share c.spot_of-share.result.first c.spot_of-share.result.place s c.spot_of-share.ensures c.index-shares-share.is in
    let at = table-content c.args.geometry.now.levels c.args.shares.now c.args.numbers.now c.args.filled c.spot_of-share.result.share c.spot_of-share.result.first c.spot_of-share.result.place s content spot (omega (arith, c.if-place-tables.true, c.tables.ensures.count)) in
    subst (Holds c.args.geometry.now image (get_or c.args.numbers.now c.args.filled 0)) (sym at)
    (subst (λ (b : ℕ). IsPlaced (get_or s.parts c.spot_of-share.result.place []) (blocks_from image b)) c.extent-extent.ensures
    (subst (λ (items : List Item). IsPlaced items (blocks_from image c.extent-extent.result)) c.part.ensures.items (c.in_ok-build.ensures.placed image is)))

pub returns-in_ok-build-clause-filters : goal.returns-in_ok-build-clause-filters
returns-in_ok-build-clause-filters g c = λ content.
    let s : Share = c.index-shares-share.result in
    let spot = spot-of c.args.geometry.now.levels c.args.shares.now c.args.filled c.spot_of-share.result.share c.spot_of-share.result.first c.spot_of-share.result.place s c.spot_of-share.ensures c.index-shares-share.is in
    let at = table-content c.args.geometry.now.levels c.args.shares.now c.args.numbers.now c.args.filled c.spot_of-share.result.share c.spot_of-share.result.first c.spot_of-share.result.place s content spot (omega (arith, c.if-place-tables.true, c.tables.ensures.count)) in
    ap (λ (page : List ℕ). Some page) (c.in_ok-build.ensures.filters ∙ ap filter_block c.part.ensures.items) ∙ ap filters_of (sym at)

pub fill_group-requires-clause-within : goal.fill_group-requires-clause-within
fill_group-requires-clause-within g c =
    omega (arith, number-within c.args.geometry.now (g.D.Device.blocks c.args.device.now) c.args.shares.now c.args.numbers.now c.args.filled c.requires.may c.requires.left, c.extent-extent.ensures)

pub fill_group-requires-clause-tables : goal.fill_group-requires-clause-tables
fill_group-requires-clause-tables g c =
    let s : Share = c.index-shares-share.result in
    let first : ℕ = c.spot_of-share.result.first in
    let place : ℕ = c.spot_of-share.result.place in
    let spot = spot-of c.args.geometry.now.levels c.args.shares.now c.args.filled c.spot_of-share.result.share first place s c.spot_of-share.ensures c.index-shares-share.is in
    let tables = c.deref.ensures.value ∙ c.in_ok-tables.ensures
    ∙ told-tables c.args.geometry.now.levels s c.args.numbers.now c.behind.result.now first place c.kept_groups.result c.tables-else-place-tables.result c.tables-else-place-tables-2.result c.behind.ensures.behind c.kept_groups.ensures.count c.tables-else-place-tables.ensures.count c.tables-else-place-tables-2.ensures.count in
    record {
      each = λ x there.
          (group-others c.args.geometry.now (g.D.Device.blocks c.args.device.now) c.args.shares.now c.args.numbers.now c.spot_of-share.result.share s first place c.args.filled _ _ x c.requires.may spot.there spot.is (omega (arith, c.if-place-tables.false, c.tables.ensures.count)) c.requires.left
          (subst (λ (xs : List ℕ). IsTrue (is_in x xs)) tables there)).within;
    }

pub fill_group-requires-clause-apart : goal.fill_group-requires-clause-apart
fill_group-requires-clause-apart g c = λ x there inside.
    let s : Share = c.index-shares-share.result in
    let first : ℕ = c.spot_of-share.result.first in
    let place : ℕ = c.spot_of-share.result.place in
    let spot = spot-of c.args.geometry.now.levels c.args.shares.now c.args.filled c.spot_of-share.result.share first place s c.spot_of-share.ensures c.index-shares-share.is in
    let tables = c.deref.ensures.value ∙ c.in_ok-tables.ensures
    ∙ told-tables c.args.geometry.now.levels s c.args.numbers.now c.behind.result.now first place c.kept_groups.result c.tables-else-place-tables.result c.tables-else-place-tables-2.result c.behind.ensures.behind c.kept_groups.ensures.count c.tables-else-place-tables.ensures.count c.tables-else-place-tables-2.ensures.count in
    let other = group-others c.args.geometry.now (g.D.Device.blocks c.args.device.now) c.args.shares.now c.args.numbers.now c.spot_of-share.result.share s first place c.args.filled _ _ x c.requires.may spot.there spot.is (omega (arith, c.if-place-tables.false, c.tables.ensures.count)) c.requires.left
    (subst (λ (xs : List ℕ). IsTrue (is_in x xs)) tables there) in
    filters-apart c.args.geometry.now (get_or c.args.numbers.now c.args.filled 0) x other.other
    (subst (λ (b : ℕ). InExtent b (extent_block c.args.geometry.now x + 64)) c.extent-extent.ensures inside)

pub fill_group-requires-clause-some : goal.fill_group-requires-clause-some
fill_group-requires-clause-some g c =
    let s : Share = c.index-shares-share.result in
    let first : ℕ = c.spot_of-share.result.first in
    let place : ℕ = c.spot_of-share.result.place in
    let spot = spot-of c.args.geometry.now.levels c.args.shares.now c.args.filled c.spot_of-share.result.share first place s c.spot_of-share.ensures c.index-shares-share.is in
    let above : length s.parts ≤ place = omega (arith, c.if-place-tables.false, c.tables.ensures.count) in
    let tables = c.deref.ensures.value ∙ c.in_ok-tables.ensures
    ∙ told-tables c.args.geometry.now.levels s c.args.numbers.now c.behind.result.now first place c.kept_groups.result c.tables-else-place-tables.result c.tables-else-place-tables-2.result c.behind.ensures.behind c.kept_groups.ensures.count c.tables-else-place-tables.ensures.count c.tables-else-place-tables-2.ensures.count in
    let new : length (take (length s.parts) (drop first c.args.numbers.now)) ≡ length s.parts = length-slice c.args.numbers.now first (length s.parts) (omega (arith, spot.is, above, c.requires.left)) in
    let begins = group-begins c.args.geometry.now.levels s place above spot.below in
    let below : 64 * (kept_groups c.args.geometry.now.levels s + (place - length s.parts)) < length (s.behind ++ take (length s.parts) (drop first c.args.numbers.now)) = omega (arith, length-append s.behind (take (length s.parts) (drop first c.args.numbers.now)), new, begins) in
    subst (λ (xs : List ℕ). 1 ≤ length xs) (sym tables) (some-tables (s.behind ++ take (length s.parts) (drop first c.args.numbers.now)) (kept_groups c.args.geometry.now.levels s + (place - length s.parts)) below)

pub returns-in_ok-fill_group-clause-holds : goal.returns-in_ok-fill_group-clause-holds
returns-in_ok-fill_group-clause-holds g c = λ before image content was is.
    let s : Share = c.index-shares-share.result in
    let first : ℕ = c.spot_of-share.result.first in
    let place : ℕ = c.spot_of-share.result.place in
    let spot = spot-of c.args.geometry.now.levels c.args.shares.now c.args.filled c.spot_of-share.result.share first place s c.spot_of-share.ensures c.index-shares-share.is in
    let tables = c.deref.ensures.value ∙ c.in_ok-tables.ensures
    ∙ told-tables c.args.geometry.now.levels s c.args.numbers.now c.behind.result.now first place c.kept_groups.result c.tables-else-place-tables.result c.tables-else-place-tables-2.result c.behind.ensures.behind c.kept_groups.ensures.count c.tables-else-place-tables.ensures.count c.tables-else-place-tables-2.ensures.count in
    let at = group-content c.args.geometry.now.levels c.args.shares.now c.args.numbers.now c.args.filled c.spot_of-share.result.share first place s content spot (omega (arith, c.if-place-tables.false, c.tables.ensures.count)) in
    subst (Holds c.args.geometry.now image (get_or c.args.numbers.now c.args.filled 0)) (sym at)
    (subst (λ (xs : List ℕ). IsGroup (filter_blocks c.args.geometry.now image xs) (blocks_from image (extent_block c.args.geometry.now (get_or c.args.numbers.now c.args.filled 0)))) tables
    (subst (λ (b : ℕ). IsGroup (filter_blocks c.args.geometry.now image c.deref.result.now) (blocks_from image b)) c.extent-extent.ensures (c.in_ok-fill_group.ensures.grouped before image was is)))

pub returns-in_ok-fill_group-clause-filters : goal.returns-in_ok-fill_group-clause-filters
returns-in_ok-fill_group-clause-filters g c = λ content.
    let s : Share = c.index-shares-share.result in
    let first : ℕ = c.spot_of-share.result.first in
    let place : ℕ = c.spot_of-share.result.place in
    let spot = spot-of c.args.geometry.now.levels c.args.shares.now c.args.filled c.spot_of-share.result.share first place s c.spot_of-share.ensures c.index-shares-share.is in
    ap filters_of (sym (group-content c.args.geometry.now.levels c.args.shares.now c.args.numbers.now c.args.filled c.spot_of-share.result.share first place s content spot (omega (arith, c.if-place-tables.false, c.tables.ensures.count))))
