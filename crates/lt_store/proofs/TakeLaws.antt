-- The answers to a write.
use Rattle.std.proofs.Common.{◌≡◌, ℕ, ◌+◌, ◌≤◌, ap, subst, Bool, true, false, Result, Ok, Err}
use Rattle.std.specs.Prelude.{◌↔◌, IsErrOf, nat_le, if◌then◌else◌}
use Rattle.std.proofs.lemmas.Bool.{and_from, le-leb, true_from_ne_false}
use Rattle.lt_terms.specs.Items.{total_cost}
use Rattle.lt_format.specs.Log.{group_room}
use Rattle.lt_store.specs.Committing.{committed}
use Rattle.lt_store.specs.Open.{StoreView}
use Rattle.lt_store.specs.Taking.{readied}
use Rattle.lt_store.specs.declared.faults.FlushFault.{FlushFault}
use Rattle.lt_store.specs.declared.faults.FlushFault.TheVariants as flushes
use Rattle.lt_store.specs.declared.faults.WriteFault.{WriteFault}
use Rattle.lt_store.specs.declared.faults.WriteFault.TheVariants.{NoMemory}
use Rattle.lt_store.specs.Faults.{fault_of_flush}
use Rattle.lt_store.specs.declared.writing.Taken.{Taken}
use Rattle.lt_store.specs.declared.writing.Taken.TheVariants as taken

-- what holds of the numbers of an answer holds of those of the same answer
pub full-alike : (P : ℕ → ℕ → Type 0) (a b needed free : ℕ) → ◌≡◌ {A = Result Taken WriteFault} (Ok (taken.Full a b)) (Ok (taken.Full needed free)) → P a b → P needed free
full-alike P a b needed free same p =
    let n : a ≡ needed = cc in
    let f : b ≡ free = cc in
    subst (P needed) f (subst (λ x. P x b) n p)

-- with room for the item, and few bytes in the memory table, the store is ready as it is
pub readied-same : (v : StoreView) (cost : ℕ) → total_cost v.log.pending + cost ≤ group_room → total_cost v.memory ≤ 200000 → readied v cost ≡ v
readied-same v cost room few = ap (λ b. if b then v else committed v) (and_from (nat_le (total_cost v.log.pending + cost) group_room) (nat_le (total_cost v.memory) 200000) (le-leb _ _ room) (le-leb _ _ few))

-- a flush that ended for want of memory leaves the store up
pub no-memory-up : {T : Type 0} (up : Bool) (result : Result T FlushFault) (fault : FlushFault) → result ≡ Err fault → (up ≡ false) ↔ IsErrOf result flushes.Device → fault_of_flush fault ≡ NoMemory → up ≡ true
no-memory-up up result flushes.Device was downs none = cc
no-memory-up up result flushes.NoMemory was downs none = true_from_ne_false up (λ down. absurd (let failed = downs.0 down in cc))
