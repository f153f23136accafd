-- What the parts of a step want, and what they leave of the device.
use Rattle.std.proofs.Common.{◌≡◌, ℕ, ◌+◌, ◌<◌, ◌≤◌, refl, sym, subst, ◌∙◌, List, [], ◌∷◌, ◌++◌, length, Bool, true, false, Result, Ok, Err, arith}
use Rattle.std.specs.Prelude.{IfOk, OnErr}
use Rattle.std.specs.List.{AllByRecursion}
use Rattle.std.proofs.lemmas.Bool.{eq-eqb, true≢false}
use Rattle.lt_terms.specs.Bytes.{is_in}
use Rattle.lt_terms.proofs.AmongLaws.{in_left, in_right}
use Rattle.lt_device.specs.Calls.{OnlyReads, ReadsAndWrites}
use Rattle.lt_device.specs.declared.device.Device.{Ghosts}
use Rattle.lt_device.specs.Moments.{ConfinedTo, ShowsSameOutside}
use Rattle.lt_device.specs.State.{State}
use Rattle.lt_device.proofs.Runs.{confined_begins, stays}
use Rattle.lt_device.proofs.Shows.{shows-none}
use Rattle.lt_format.specs.declared.geometry.Geometry.{Geometry}
use Rattle.lt_format.specs.Layout.{blocks_needed, extent_block}
use Rattle.lt_format.specs.Trie.{Trie, all_distinct, named}
use Rattle.lt_image.specs.Shares.{Share}
use Rattle.lt_compact.specs.declared.faults.JobFault.{JobFault}
use Rattle.lt_compact.specs.declared.step.Stepped.{Stepped}
use Rattle.lt_compact.specs.Extents.{AllTaken}
use Rattle.lt_compact.specs.Jobs.{JobView, Stage, filling, taken_in, is_filled, is_shaped_stage, IsShaped}
use Rattle.lt_compact.specs.Plans.{MayFill}
use Rattle.lt_compact.proofs.AdvanceLaws.{filling-parts}
use Rattle.lt_compact.proofs.ExtentLaws.{all_those, apart-joined, distinct_behind, each_of}
use Rattle.lt_compact.proofs.LocalLaws.{behind_those, sources_named}

-- ---- where the extents lie

-- an extent that is taken lies on the device
within : (g : Geometry) (taken : List Bool) (numbers : List ℕ) (blocks : ℕ) → AllTaken taken numbers → blocks_needed g (length taken) ≤ blocks → (x : ℕ) → is_in x numbers ≡ true → extent_block g x + 65 ≤ blocks
within g taken numbers blocks all fits x there = let below = all.below x there in omega arith

-- a job's tables are named
source-named : (levels : ℕ) (trie : Trie) (j : JobView) → IsShaped levels trie j → (x : ℕ) → is_in x j.sources ≡ true → is_in x (named trie) ≡ true
source-named levels trie j s x there =
    each_of (λ y. is_in y (named trie) ≡ true) j.sources (sources_named (λ y. is_in y (named trie) ≡ true) levels trie j s (all_those (λ y. is_in y (named trie) ≡ true) (named trie) (λ y here. here))) x there

pub sources-within : (g : Geometry) (trie : Trie) (taken : List Bool) (blocks : ℕ) (j : JobView) → IsShaped g.levels trie j → AllTaken taken (named trie ++ taken_in j.stage) → blocks_needed g (length taken) ≤ blocks → (x : ℕ) → is_in x j.sources ≡ true → extent_block g x + 65 ≤ blocks
sources-within g trie taken blocks j s all fits x there =
    within g taken (named trie ++ taken_in j.stage) blocks all fits x (in_left x (named trie) (taken_in j.stage) (source-named g.levels trie j s x there))

-- ---- the extents that shares may be written to

each_share : (P : ℕ → Type 0) (Q : Share → Type 0) (shares : List Share) → ((s : Share) → AllByRecursion P s.behind → Q s) → AllByRecursion (λ (s : Share). AllByRecursion P s.behind) shares → AllByRecursion Q shares
each_share P Q [] f all = tt
each_share P Q (s ∷ shares) f all = (f s all.0, each_share P Q shares f all.1)

pub may-fill : (g : Geometry) (trie : Trie) (taken : List Bool) (blocks : ℕ) (j : JobView) → IsShaped g.levels trie j → AllTaken taken (named trie ++ taken_in j.stage) → all_distinct (named trie ++ taken_in j.stage) ≡ true → blocks_needed g (length taken) ≤ blocks
    → (shares : List Share) (numbers : List ℕ) (filled : ℕ) → j.stage ≡ filling shares numbers filled → MayFill g blocks shares numbers
may-fill g trie taken blocks j s all distinct fits shares numbers filled is =
    let f = filling-parts g.levels trie j.node j.sources shares numbers filled (subst (λ (x : Stage). is_shaped_stage g.levels trie j.node j.sources x ≡ true) is s.stage) in
    let apart : all_distinct (named trie ++ numbers) ≡ true = subst (λ (x : Stage). all_distinct (named trie ++ taken_in x) ≡ true) is distinct in
    let those : AllTaken taken (named trie ++ numbers) = subst (λ (x : Stage). AllTaken taken (named trie ++ taken_in x)) is all in
    let behind = behind_those (λ y. is_in y (named trie) ≡ true) g.levels trie j.node shares (all_those (λ y. is_in y (named trie) ≡ true) (named trie) (λ y here. here)) f.shared in
    record {
      count = f.count;
      distinct = distinct_behind (named trie) numbers apart;
      apart = each_share (λ y. is_in y (named trie) ≡ true) (λ (s : Share). (x : ℕ) → is_in x s.behind ≡ true → is_in x numbers ≡ false) shares
          (λ s there x here. apart-joined (named trie) numbers apart x (each_of (λ y. is_in y (named trie) ≡ true) s.behind there x here)) behind;
      within = λ x there. within g taken (named trie ++ numbers) blocks those fits x (in_right x (named trie) numbers there);
      behind = each_share (λ y. is_in y (named trie) ≡ true) (λ (s : Share). (x : ℕ) → is_in x s.behind ≡ true → extent_block g x + 65 ≤ blocks) shares
          (λ s there x here. within g taken (named trie ++ numbers) blocks those fits x (in_left x (named trie) numbers (each_of (λ y. is_in y (named trie) ≡ true) s.behind there x here))) behind;
    }

-- a job that is not ready has an extent left to fill
pub one-left : (levels : ℕ) (trie : Trie) (j : JobView) → IsShaped levels trie j → is_filled j.stage ≡ false → (shares : List Share) (numbers : List ℕ) (filled : ℕ) → j.stage ≡ filling shares numbers filled → filled < length numbers
one-left levels trie j s not_ready shares numbers filled is =
    let f = filling-parts levels trie j.node j.sources shares numbers filled (subst (λ (x : Stage). is_shaped_stage levels trie j.node j.sources x ≡ true) is s.stage) in
    below f.within (λ same. true≢false (sym (eq-eqb filled (length numbers) same) ∙ subst (λ (x : Stage). is_filled x ≡ false) is not_ready))
  where
    below : filled ≤ length numbers → (filled ≡ length numbers → ⊥) → filled < length numbers
    below most other = omega arith

-- ---- the device

-- what tells the same
pub same-confined : {S : ℕ → Type 0} (old new : State) → new ≡ old → ConfinedTo S old new
same-confined old new same = stays same (confined_begins old)

pub same-shows : (S : ℕ → Type 0) (old new : State) → new ≡ old → ShowsSameOutside S old.shown new.shown
same-shows S old new same = subst (λ (s : State). ShowsSameOutside S old.shown s.shown) (sym same) (shows-none S old.shown)

pub only-read : {D A : Type 0} {g : Ghosts D} {old new : D} → OnlyReads g 64 A old new → ReadsAndWrites g 64 A old new
only-read calls = record { size = calls.size; count = calls.count; later = calls.later; cause = calls.cause }

pub untouched : {D A : Type 0} {g : Ghosts D} (d : D) → (A → ⊥) → ReadsAndWrites g 64 A d d
untouched d none = record { size = refl; count = record { later = omega arith; at_most = omega arith }; later = omega arith; cause = λ failed. absurd (none failed) }

-- ---- whatever the trie and the extents are

pub at-all : {A : Type 0} {B : Type 0} (P : A → B → Stepped → Type 0) (a : A) (b : B) (result : Result Stepped JobFault) → IfOk result (λ stepped. (a : A) (b : B) → P a b stepped) → IfOk result (P a b)
at-all P a b (Ok stepped) all = all a b
at-all P a b (Err fault) all = tt

pub at-three : {A B C : Type 0} (P : A → B → C → Stepped → Type 0) (a : A) (b : B) (c : C) (result : Result Stepped JobFault) → IfOk result (λ stepped. (a : A) (b : B) (c : C) → P a b c stepped) → IfOk result (P a b c)
at-three P a b c (Ok stepped) all = all a b c
at-three P a b c (Err fault) all = tt

-- what holds anyway holds after a fault
pub on-err : {P : Type 0} (result : Result Stepped JobFault) → P → OnErr result P
on-err (Ok stepped) here = tt
on-err (Err fault) here = here
