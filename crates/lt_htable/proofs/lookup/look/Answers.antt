use Rattle.std.proofs.Common.{◌≡◌, ℕ, Bool, true, not, refl, false, is_some, List, Option, Ok, Err, Result, sym, ap, subst, ◌∙◌}
use Rattle.std.specs.Option.{option_map}
use Rattle.lt_item.specs.Views.{item_of}
use Rattle.lt_terms.specs.Items.{Item}
use Rattle.lt_tables.specs.Bucket.{look_on, bucket_of_page_1}
use Rattle.lt_htable.specs.declared.faults.LookFault.{LookFault}
use Rattle.lt_htable.specs.declared.faults.LookFault.TheVariants.{Damaged}
use Rattle.lt_htable.specs.Reading.{IsLookedUp, at_last}
use Rattle.lt_htable.proofs.SoughtLaws.{sought-answers, look_on-none}
use Rattle.lt_htable.proofs.PlacedLaws.{looked_up-placed}
use Rattle.lt_htable.proofs.lookup.look.Goals as goal

off_by : (b : Bool) → not b ≡ true → b ≡ false
off_by true h = sym h
off_by false h = refl

same_ok : (x y : Option Item) → ◌≡◌ {A = Result (Option Item) LookFault} (Ok x) (Ok y) → x ≡ y
same_ok x y h = cc

pub returns-clause-answer : goal.returns-clause-answer
returns-clause-answer g c =
    let shown = (g.D.Device.state c.args.device.now).shown in
    let key : List ℕ = c.args.key.now in
    let block : ℕ = c.in_ok-sought.sought.block in
    let page : List ℕ = c.seek.new.page in
    let answer = ap (λ (p : List ℕ). at_last block (look_on p key)) (sym c.known.ensures) ∙ ap (at_last block) c.find.ensures ∙ c.found.ensures block in
    subst (IsLookedUp shown c.args.first key) answer (sought-answers shown c.args.first key block page c.in_ok-sought.ensures.sought)

pub returns-then-not-sought-clause-answer : goal.returns-then-not-sought-clause-answer
returns-then-not-sought-clause-answer g c =
    let shown = (g.D.Device.state c.args.device.now).shown in
    let key : List ℕ = c.args.key.now in
    let block : ℕ = c.in_ok-sought.sought.block in
    let page : List ℕ = c.seek.new.page in
    let told = c.in_ok-sought.ensures.spells in
    let off = c.if-not-sought.true in
    let none : is_some (bucket_of_page_1 page) ≡ false = sym told ∙ off_by (c.in_ok-sought.sought.spells) off in
    subst (IsLookedUp shown c.args.first key) (ap (at_last block) (look_on-none page key none)) (sought-answers shown c.args.first key block page c.in_ok-sought.ensures.sought)

pub returns-clause-placed : goal.returns-clause-placed
returns-clause-placed g c = λ image items told placed.
    same_ok _ _ (looked_up-placed image (g.D.Device.state c.args.device.now).shown c.args.first c.args.key.now items (Ok (option_map item_of c.found.result)) told placed (returns-clause-answer g c))

pub returns-then-not-sought-clause-placed : goal.returns-then-not-sought-clause-placed
returns-then-not-sought-clause-placed g c = λ image items told placed.
    let no = looked_up-placed image (g.D.Device.state c.args.device.now).shown c.args.first c.args.key.now items (Err (Damaged c.in_ok-sought.sought.block)) told placed (returns-then-not-sought-clause-answer g c) in
    cc
