-- Images that have first writes of a list.
use Rattle.std.proofs.Common.{◌≡◌, ℕ, ◌+◌, ◌≤◌, sym, subst, ◌∙◌, List, ◌++◌, length, take, arith}
use Rattle.std.proofs.lemmas.List.{length-append, take-append-le}
use Rattle.std.proofs.Math.Seq.{take-length, take-append-add}
use Rattle.lt_terms.specs.Bytes.{Image}
use Rattle.lt_terms.specs.Items.{Item}
use Rattle.lt_language.specs.Machine.{State}
use Rattle.lt_image.specs.Standing.{Stands, IsPrefix, after_writes}
use Rattle.lt_image.proofs.KeptLaws.{no_writes, writes-joined}
use Rattle.lt_image.proofs.StandLaws.{StandsAs, stands-as}

pub one-state : (image : Image) (s t : State) → Stands image s → Stands image t → s ≡ t
one-state image s t a b =
    let as_b : StandsAs image b.opened s = stands-as image b.opened s b.opens a in
    let maps : s.map ≡ t.map = sym as_b.map ∙ b.map in
    let counts : s.writes ≡ t.writes = sym as_b.writes ∙ b.writes in
    λ i. record { map = maps i; writes = counts i }

pub prefix-whole : (image : Image) (s : State) (writes : List Item) → Stands image (after_writes s writes) → IsPrefix image s writes (length writes)
prefix-whole image s writes st = record { count = length writes; at_least = omega arith; at_most = omega arith; stands = subst (λ ws. Stands image (after_writes s ws)) (sym (take-length writes)) st }

pub prefix-none : (image : Image) (s : State) (writes : List Item) → Stands image s → IsPrefix image s writes 0
prefix-none image s writes st = record { count = 0; at_least = omega arith; at_most = omega arith; stands = subst (Stands image) (sym (no_writes s)) st }

pub prefix-fewer : (image : Image) (s : State) (writes : List Item) (j k : ℕ) → j ≤ k → IsPrefix image s writes k → IsPrefix image s writes j
prefix-fewer image s writes j k few p = let enough : k ≤ p.count = p.at_least in record { count = p.count; at_least = omega arith; at_most = p.at_most; stands = p.stands }

pub prefix-longer : (image : Image) (s : State) (writes more : List Item) (k : ℕ) → IsPrefix image s writes k → IsPrefix image s (writes ++ more) k
prefix-longer image s writes more k p =
    let most : p.count ≤ length writes = p.at_most in
    let long : length (writes ++ more) ≡ length writes + length more = length-append writes more in
    record { count = p.count; at_least = p.at_least; at_most = omega arith; stands = subst (λ ws. Stands image (after_writes s ws)) (sym (take-append-le p.count writes more most)) p.stands }

pub prefix-later : (image : Image) (s : State) (first rest : List Item) (k : ℕ) → IsPrefix image (after_writes s first) rest k → IsPrefix image s (first ++ rest) (length first + k)
prefix-later image s first rest k p =
    let enough : k ≤ p.count = p.at_least in
    let most : p.count ≤ length rest = p.at_most in
    let long : length (first ++ rest) ≡ length first + length rest = length-append first rest in
    record {
      count = length first + p.count;
      at_least = omega arith;
      at_most = omega arith;
      stands = subst (λ ws. Stands image (after_writes s ws)) (sym (take-append-add first rest p.count)) (subst (Stands image) (writes-joined s first (take p.count rest)) p.stands);
    }
