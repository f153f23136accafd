-- Reading ends early with the fault of a part of it.
use Rattle.std.proofs.Common.{◌≡◌, ℕ, ap, sym, subst, ◌∙◌, Result, Ok, Err}
use Rattle.lt_manifest.specs.Area.{IsReadAs}
use Rattle.lt_manifest.specs.declared.fault.ReadFault.{ReadFault}
use Rattle.lt_manifest.specs.declared.fault.ReadFault.TheVariants.{Field, NoMemory}

-- what was read is told of the answer
pub read-ok : {T A : Type 0} (result : Result T ReadFault) (seen : T → A) (answer : Result A ℕ) (x : T) → IsReadAs result seen answer → result ≡ Ok x → answer ≡ Ok (seen x)
read-ok result seen answer x is was = subst (λ r. IsReadAs r seen answer) was is

pub read-err : {T A : Type 0} (result : Result T ReadFault) (seen : T → A) (answer : Result A ℕ) (at : ℕ) → IsReadAs result seen answer → result ≡ Err (Field at) → answer ≡ Err at
read-err result seen answer at is was = subst (λ r. IsReadAs r seen answer) was is

module _ {U B : Type 0} (outer : Result U ReadFault) (whole : U → B) (all : Result B ℕ) (given : ReadFault) where
  -- a field of its own does not stand
  pub read-field : (at : ℕ) → outer ≡ Err given → given ≡ Field at → all ≡ Err at → IsReadAs outer whole all
  read-field at is same fault = subst (λ r. IsReadAs r whole all) (sym (is ∙ ap (λ f. Err f) same)) fault

  -- there was no memory
  pub read-none : outer ≡ Err given → given ≡ NoMemory → IsReadAs outer whole all
  read-none is same = subst (λ r. IsReadAs r whole all) (sym (is ∙ ap (λ f. Err f) same)) tt

  -- a part of it was not read
  pub read-part : {T A : Type 0} (inner : Result T ReadFault) (part : T → A) (answer : Result A ℕ) (fault : ReadFault) → inner ≡ Err fault → outer ≡ Err given → given ≡ fault
      → IsReadAs inner part answer → ((e : ℕ) → answer ≡ Err e → all ≡ Err e) → IsReadAs outer whole all
  read-part inner part answer fault was is same read goes = by_fault fault (is ∙ ap (λ f. Err f) same) (subst (λ r. IsReadAs r part answer) was read)
    where
      by_fault : (f : ReadFault) → outer ≡ Err f → IsReadAs (Err f) part answer → IsReadAs outer whole all
      by_fault (Field at) now told = subst (λ r. IsReadAs r whole all) (sym now) (goes at told)
      by_fault NoMemory now told = subst (λ r. IsReadAs r whole all) (sym now) tt
