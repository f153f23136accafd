-- A store that a flush is due for: what a crash leaves of it, and how full it is.
use Rattle.std.proofs.Common.{◌≡◌, ℕ, ◌+◌, ◌*◌, ◌<◌, ◌≤◌, refl, sym, ap, subst, ◌∙◌, List, [], ◌∷◌, ◌++◌, length, Bool, true, false, ◌||◌, None, Ok, arith, append-nil, length-append, ⊎_elim}
use Rattle.std.specs.Prelude.{IsTrue, ◌==◌, nat_lt}
use Rattle.std.proofs.lemmas.Bool.{and_parts, eqb-true, not-false, true≢false, cases_lt}
use Rattle.lt_terms.specs.Bytes.{Image, is_in}
use Rattle.lt_terms.specs.Items.{Item, total_cost}
use Rattle.lt_device.specs.Moments.{MayLeave}
use Rattle.lt_device.specs.State as told
use Rattle.lt_language.specs.Machine.{State}
use Rattle.lt_tables.specs.Cut.{table_total}
use Rattle.lt_tables.specs.Table.{newest}
use Rattle.lt_alloc.specs.Extents.{is_free, free_count}
use Rattle.lt_format.specs.Log.{items_in}
use Rattle.lt_format.specs.Snapshot.{Named}
use Rattle.lt_format.specs.Trie.{named, table_total as tables_in}
use Rattle.lt_format.proofs.Numbers.{times, absent-times}
use Rattle.lt_redo.specs.LogState.{LogState}
use Rattle.lt_redo.specs.Slots.{HasLog}
use Rattle.lt_image.specs.Pressure.{IsFullImage}
use Rattle.lt_image.specs.Standing.{HasCounts}
use Rattle.lt_image.specs.Versions.{free_extents, Opened, open_image}
use Rattle.lt_image.proofs.OpenLaws.{is-opens}
use Rattle.lt_image.proofs.StandLaws.{stands-as}
use Rattle.lt_work.specs.Work.{WorkView, reserved_by, reserved_for}
use Rattle.lt_work.proofs.StepLaws.{taken-named}
use Rattle.lt_store.specs.Kept.{IsKept, in_use}
use Rattle.lt_store.specs.Open.{IsOpen, StoreView}
use Rattle.lt_store.specs.Taking.{is_due}
use Rattle.lt_store.proofs.CommitLaws.{kept-fits, open-logs}
use Rattle.lt_store.proofs.CountLaws.{apart-few, use-apart, use-below}
use Rattle.lt_store.proofs.MomentLaws.{open-names, open-same}
use Rattle.lt_store.proofs.SameLaws.{same-names}
use Rattle.lt_image.proofs.FewLaws.{full-few}
use Rattle.lt_image.specs.Pressure.{flush_tables}

-- ---- what is free and what is named are all extents

-- the extents that the manifest does not name are the free ones and those that the job in flight reserved
pub free-all : (n : Named) (log : LogState) (memory : List Item) (taken : List Bool) (filters writes : ℕ) (work : WorkView) → IsKept n log memory taken filters writes work → free_count taken + length (reserved_by work) ≡ free_extents n
free-all n log memory taken filters writes work k =
    let few = apart-few n.manifest.header.extents taken (in_use n work) k.taken_in_use.len k.taken_in_use.free (use-apart n log memory taken filters writes work k) (use-below n log memory taken filters writes work k) in
    let many = taken-named taken 0 (in_use n work) at in
    let size = k.taken_in_use.len in
    let both = length-append (named n.manifest.trie) (reserved_by work) in
    omega (arith, few, many, size, both)
  where
    at : (i : ℕ) → i < length taken → is_free taken i ≡ false → 1 ≤ times (0 + i) (in_use n work)
    at i below is =
        let within : i < n.manifest.header.extents = let size = k.taken_in_use.len in omega (arith, below, size) in
        let there : is_in i (in_use n work) ≡ true = not-false (is_in i (in_use n work)) (sym (k.taken_in_use.free i within) ∙ is) in
        let some : 1 ≤ times i (in_use n work) = ⊎_elim
        (λ (few : times i (in_use n work) < 1). let none : times i (in_use n work) ≡ 0 = omega arith in absurd (true≢false (sym there ∙ absent-times i (in_use n work) none)))
        (λ (some : 1 ≤ times i (in_use n work)). some)
        (cases_lt (times i (in_use n work)) 1) in
        let e : i ≡ 0 + i = omega arith in
        subst (λ x. 1 ≤ times x (in_use n work)) e some

-- with no job in flight they are the free ones
free-idle : (n : Named) (log : LogState) (memory : List Item) (taken : List Bool) (filters writes : ℕ) (work : WorkView) → IsKept n log memory taken filters writes work → work.job ≡ None → free_count taken ≡ free_extents n
free-idle n log memory taken filters writes work k still =
    let all = free-all n log memory taken filters writes work k in
    let none : length (reserved_by work) ≡ 0 = ap (λ job. length (reserved_for job)) still in
    omega (arith, all, none)

-- ---- the images

-- what each image that a crash may leave opens as
abbrev pub opened_of : StoreView → List (List Item) → Opened
opened_of v groups = record { named = v.named; groups = groups }

pub image-opens : (v : StoreView) (d : State) (s : told.State) (filters : ℕ) (o : IsOpen v d s) → IsKept v.named v.log v.memory v.taken filters v.writes v.work → (left : Image) → MayLeave s left → open_image left ≡ Ok (opened_of v o.groups)
image-opens v d s filters o k left may =
    let f = kept-fits v d s v.taken filters v.writes o k in
    let names = same-names v.named o.rest.image left (open-same v d s o left may) (open-names v d s o) in
    let log = open-logs v d s o f left may in
    let placed : HasLog v.named.geometry v.named.manifest.header.log_area v.log.writes o.groups left =
    subst (λ b. HasLog v.named.geometry b v.log.writes o.groups left) f.area (subst (λ g. HasLog g v.log.area v.log.writes o.groups left) f.geometry log) in
    let there : HasLog v.named.geometry v.named.manifest.header.log_area v.named.manifest.header.writes o.groups left =
    subst (λ w. HasLog v.named.geometry v.named.manifest.header.log_area w o.groups left) f.start placed in
    is-opens left (opened_of v o.groups) names.read there.read

-- where a flush is due nothing is pending: the memory table has the items of the log
due-logged : (v : StoreView) (d : State) (s : told.State) (o : IsOpen v d s) → IsTrue (is_due v) → v.memory ≡ items_in o.groups
due-logged v d s o due =
    let parts = and_parts (length v.log.pending == 0) (v.log.slots == v.named.geometry.slots || nat_lt 200000 (total_cost v.memory)) due in
    let idle : v.log.pending ≡ [] = no_items v.log.pending (eqb-true (length v.log.pending) 0 parts.0) in
    o.memory ∙ ap (λ xs. items_in o.groups ++ xs) idle ∙ append-nil (items_in o.groups)
  where
    no_items : (xs : List Item) → length xs ≡ 0 → xs ≡ []
    no_items [] none = refl
    no_items (x ∷ xs) none = absurd (omega arith)

-- a flush that is due and gives more tables than extents are free: the extents are fewer than twice the writes
pub few-extents : (v : StoreView) (d : State) (s : told.State) (filters : ℕ) (o : IsOpen v d s) → IsKept v.named v.log v.memory v.taken filters v.writes v.work → v.work.job ≡ None → IsTrue (is_due v) → free_count v.taken < table_total (newest v.memory) → v.named.manifest.header.extents < 2 * v.writes
few-extents v d s filters o k still due short =
    let image : Image = o.rest.image in
    let opened : Opened = opened_of v o.groups in
    let opens = image-opens v d s filters o k image o.rest.tells in
    let sound = (stands-as image opened d opens (o.rest.each image o.rest.tells)).sound in
    let same = due-logged v d s o due in
    let free = free-idle v.named v.log v.memory v.taken filters v.writes v.work k still in
    let tables : table_total (newest v.memory) ≡ flush_tables opened = ap (λ xs. table_total (newest xs)) same in
    let few : free_extents v.named < flush_tables opened = omega (arith, short, free, tables) in
    let half = full-few image opened opens sound few in
    let number = k.number in
    let size : length v.memory ≡ length (items_in o.groups) = ap length same in
    omega (arith, half, number, size)

-- each image that a crash may leave is as full as the store
pub full-image : (v : StoreView) (d : State) (s : told.State) (filters : ℕ) (o : IsOpen v d s) → IsKept v.named v.log v.memory v.taken filters v.writes v.work → v.work.job ≡ None → IsTrue (is_due v) → (left : Image) → MayLeave s left → IsFullImage left (table_total (newest v.memory)) (free_count v.taken)
full-image v d s filters o k still due left may =
    let parts = and_parts (length v.log.pending == 0) (v.log.slots == v.named.geometry.slots || nat_lt 200000 (total_cost v.memory)) due in
    let same = due-logged v d s o due in
    record {
      opened = opened_of v o.groups;
      opens = image-opens v d s filters o k left may;
      due = subst (λ n. IsTrue (n == v.named.geometry.slots || nat_lt 200000 (total_cost (items_in o.groups)))) o.slots (subst (λ xs. IsTrue (v.log.slots == v.named.geometry.slots || nat_lt 200000 (total_cost xs))) same parts.1);
      needs = ap (λ xs. table_total (newest xs)) (sym same);
      has = sym (free-idle v.named v.log v.memory v.taken filters v.writes v.work k still);
    }

-- each image that a crash may leave has the store's numbers
pub image-counts : (v : StoreView) (d : State) (s : told.State) → IsOpen v d s → (left : Image) → MayLeave s left → HasCounts left (tables_in v.named.manifest.trie) (free_extents v.named)
image-counts v d s o left may = record {
  named = v.named;
  names = (same-names v.named o.rest.image left (open-same v d s o left may) (open-names v d s o)).read;
  tables_are = refl;
  free_are = refl;
}
