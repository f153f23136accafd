-- What a look-up and a scan answer on the table of some items.
use Rattle.std.proofs.Common.{◌≡◌, ℕ, ◌+◌, ◌<◌, refl, ap, subst, ◌∙◌, Bool, true, false, ◌&&◌, cond, List, [], Option, Some, None, Result, Ok, arith, eq-eqb}
use Rattle.std.specs.Prelude.{◌==◌, nat_le}
use Rattle.lt_terms.specs.declared.Kind.TheVariants.{Put}
use Rattle.lt_terms.specs.Bytes.{Image}
use Rattle.lt_terms.specs.Hashes.{home_column, key_suffix}
use Rattle.lt_terms.specs.Items.{Item}
use Rattle.lt_tables.specs.declared.ColumnPlan.{ColumnPlan}
use Rattle.lt_tables.specs.Alike.{SameNewest, HasOnce}
use Rattle.lt_tables.specs.Bucket.{Look, moved, absent, look_of, look_on, items_on}
use Rattle.lt_tables.specs.Table.{newest_of, blocks_from, IsPlaced, table_items}
use Rattle.lt_tables.specs.Placement.{plan_at, columns}
use Rattle.lt_tables.proofs.HashLaws.{home_column-small}
use Rattle.lt_tables.proofs.LookLaws.{place_key, look_on-placed, sent_where}
use Rattle.lt_tables.proofs.PlanLaws.{placement-within}
use Rattle.lt_tables.proofs.TableLaws.{flat_map-range, SameNewest-placed, HasOnce-placed}
use Rattle.lt_htable.specs.declared.faults.LookFault.{LookFault}
use Rattle.lt_htable.specs.Reading.{IsLookedUp, IsScanned, at_last, at_home}

-- ---- look-ups

last_look : (block : ℕ) (o : Option Item) (b : Bool) (t : ℕ) → at_last block (Some (look_of o (cond b (moved t) absent))) ≡ Ok o
last_look block (Some v) b t = refl
last_look block None true t = refl
last_look block None false t = refl

stays : (first home : ℕ) (o : Option Item) (second : Option Look) → at_home first home (Some (look_of o absent)) second ≡ Ok o
stays first home None second = refl
stays first home (Some v) second = refl

goes : (first home : ℕ) (o : Option Item) (same : Bool) (t : ℕ) (second : Option Look) → (look_of (cond same o None) (moved t) ≡ moved t → at_last (first + t) second ≡ Ok o) → at_home first home (Some (look_of (cond same o None) (moved t))) second ≡ Ok o
goes first home None true t second h = h refl
goes first home None false t second h = h refl
goes first home (Some v) true t second h = refl
goes first home (Some v) false t second h = h refl

-- on the table of some items a look-up answers their item of the key
pub looked_up-placed : (image : Image) (shown : Option Image) (first : ℕ) (key : List ℕ) (items : List Item) (answer : Result (Option Item) LookFault) → shown ≡ Some image → IsPlaced items (blocks_from image first) → IsLookedUp shown first key answer → answer ≡ Ok (newest_of key items)
looked_up-placed image shown first key items answer told placed looked =
    looked.is ∙ by_sent ((plan_at plans home).sends && nat_le (plan_at plans home).mark (key_suffix key)) refl
  where
    plans : List ColumnPlan
    plans = placed.plans

    home : ℕ
    home = home_column key

    o : Option Item
    o = newest_of key items

    look : (c : ℕ) → c < 64 → look_on (blocks_from image first c) key ≡ Some (look_of (cond (place_key plans key == c) o None) (cond ((plan_at plans c).sends && nat_le (plan_at plans c).mark (key_suffix key)) (moved (plan_at plans c).target) absent))
    look c small =
        look_on-placed plans items (blocks_from image first) key c small placed.buckets
        ∙ ap (λ l. Some (look_of (cond (place_key plans key == c) o None) l)) (sent_where (plan_at plans c).sends (plan_at plans c).target (plan_at plans c).mark (key_suffix key))

    home_look : look_on looked.home key ≡ Some (look_of (cond (place_key plans key == home) o None) (cond ((plan_at plans home).sends && nat_le (plan_at plans home).mark (key_suffix key)) (moved (plan_at plans home).target) absent))
    home_look = ap (λ (p : List ℕ). look_on p key) (looked.home_read image told) ∙ look home (home_column-small key)

    by_sent : (b : Bool) → ((plan_at plans home).sends && nat_le (plan_at plans home).mark (key_suffix key)) ≡ b → at_home first home (look_on looked.home key) (look_on looked.target key) ≡ Ok o
    by_sent false e =
        let place : place_key plans key ≡ home = ap (λ b. cond b (plan_at plans home).target home) e in
        let here_look : look_on looked.home key ≡ Some (look_of o absent) =
        home_look
        ∙ ap (λ b. Some (look_of (cond (place_key plans key == home) o None) (cond b (moved (plan_at plans home).target) absent))) e
        ∙ ap (λ b. Some (look_of (cond b o None) absent)) (eq-eqb (place_key plans key) home place) in
        ap (λ l. at_home first home l (look_on looked.target key)) here_look ∙ stays first home o (look_on looked.target key)
    by_sent true e =
        let t : ℕ = (plan_at plans home).target in
        let place : place_key plans key ≡ t = ap (λ b. cond b (plan_at plans home).target home) e in
        let within : t < 64 = subst (λ n. n < 64) place (placement-within items plans placed.placement (record { kind = Put; key = key; value = [] })) in
        let there : look_on looked.home key ≡ Some (look_of (cond (place_key plans key == home) o None) (moved t)) =
        home_look ∙ ap (λ b. Some (look_of (cond (place_key plans key == home) o None) (cond b (moved t) absent))) e in
        ap (λ l. at_home first home l (look_on looked.target key)) there
        ∙ goes first home o (place_key plans key == home) t (look_on looked.target key) (λ sent.
        let target : look_on looked.target key ≡ Some (look_of o (cond ((plan_at plans t).sends && nat_le (plan_at plans t).mark (key_suffix key)) (moved (plan_at plans t).target) absent)) =
        ap (λ (p : List ℕ). look_on p key) (looked.target_read t (there ∙ ap Some sent) image told)
        ∙ look t within
        ∙ ap (λ b. Some (look_of (cond b o None) (cond ((plan_at plans t).sends && nat_le (plan_at plans t).mark (key_suffix key)) (moved (plan_at plans t).target) absent))) (eq-eqb (place_key plans key) t place) in
        ap (at_last (first + t)) target ∙ last_look (first + t) o _ (plan_at plans t).target)

-- ---- scans

pub scanned-told : (image : Image) (shown : Option Image) (first : ℕ) (found : List Item) → shown ≡ Some image → IsScanned shown first found → found ≡ table_items (blocks_from image first)
unfolding columns
scanned-told image shown first found told scanned =
    scanned.is ∙ flat_map-range (λ c. items_on (scanned.block c)) (λ c. items_on (blocks_from image first c)) 0 64 (λ c small. ap items_on (scanned.read c (omega arith) image told))

-- a scan of the table of some items gives these, each key once
pub scanned-placed : (image : Image) (first : ℕ) (items : List Item) → IsPlaced items (blocks_from image first) → SameNewest (table_items (blocks_from image first)) items × HasOnce (table_items (blocks_from image first))
scanned-placed image first items placed = (
  SameNewest-placed placed.plans items (blocks_from image first) (placement-within items placed.plans placed.placement) placed.buckets,
  HasOnce-placed placed.plans items (blocks_from image first) (placement-within items placed.plans placed.placement) placed.buckets,
)
