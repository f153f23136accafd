use Rattle.std.proofs.Common.{◌≡◌, ℕ, ◌+◌, List, None, refl, sym, ap, subst, ◌∙◌, arith}
use Rattle.std.proofs.lemmas.Option.{none-some}
use Rattle.lt_terms.specs.Bytes.{block_at}
use Rattle.lt_tables.specs.Bucket.{look_on}
use Rattle.lt_device.specs.State.{State}
use Rattle.lt_terms.specs.Hashes.{home_column}
use Rattle.lt_htable.specs.Reading.{IsRead, IsBlockOf, target_of}
use Rattle.lt_htable.proofs.SoughtLaws.{column-is, column-small, look_on-none}
use Rattle.lt_htable.proofs.lookup.seek.Goals as goal

pub block_in-home-requires : goal.block_in-home-requires
block_in-home-requires g c = omega (arith, column-small c.args.parts.now c.args.key.now c.requires.parts, c.requires.within)

pub read-requires : goal.read-requires
read-requires g c = omega (arith, column-small c.args.parts.now c.args.key.now c.requires.parts, c.block_in-home.ensures, c.requires.within)

pub returns-in-None-clause-sought : goal.returns-in-None-clause-sought
returns-in-None-clause-sought g c =
    let shown = (g.D.Device.state c.args.device.now).shown in
    let first : ℕ = c.args.first in
    let key : List ℕ = c.args.key.now in
    let page : List ℕ = c.read.new.into in
    let home_is : c.block_in-home.result ≡ first + home_column key = c.block_in-home.ensures ∙ ap (λ n. first + n) (column-is c.args.parts.now key c.requires.parts) in
    record {
      home = page;
      home_read = subst (λ b. IsRead shown b page) home_is c.in_ok-read.ensures.content;
      is = subst (λ o. IsBlockOf shown first (home_column key) page o c.block_in-home.result page) (sym (ap target_of (look_on-none page key (sym c.in-None.ensures.spelled)))) (home_is, refl);
    }

pub returns-in-Some-None-clause-sought : goal.returns-in-Some-None-clause-sought
returns-in-Some-None-clause-sought g c =
    let shown = (g.D.Device.state c.args.device.now).shown in
    let first : ℕ = c.args.first in
    let key : List ℕ = c.args.key.now in
    let page : List ℕ = c.read.new.into in
    let home_is : c.block_in-home.result ≡ first + home_column key = c.block_in-home.ensures ∙ ap (λ n. first + n) (column-is c.args.parts.now key c.requires.parts) in
    let told = c.in-Some-None.ensures.target in
    let stays : None ≡ target_of (look_on page key) = cc in
    record {
      home = page;
      home_read = subst (λ b. IsRead shown b page) home_is c.in_ok-read.ensures.content;
      is = subst (λ o. IsBlockOf shown first (home_column key) page o c.block_in-home.result page) stays (home_is, refl);
    }

pub returns-in_ok-read-in-Some-Some-clause-sought : goal.returns-in_ok-read-in-Some-Some-clause-sought
returns-in_ok-read-in-Some-Some-clause-sought g c =
    let shown = (g.D.Device.state c.args.device.now).shown in
    let first : ℕ = c.args.first in
    let key : List ℕ = c.args.key.now in
    let home : List ℕ = c.read.new.into in
    let page : List ℕ = c.read-in-Some-Some.new.into in
    let home_is : c.block_in-home.result ≡ first + home_column key = c.block_in-home.ensures ∙ ap (λ n. first + n) (column-is c.args.parts.now key c.requires.parts) in
    let read : IsRead shown c.block_in-block.result page = subst (λ (s : State). IsRead s.shown c.block_in-block.result page) c.read.ensures.state c.in_ok-read-in-Some-Some.ensures.content in
    record {
      home = home;
      home_read = subst (λ b. IsRead shown b home) home_is c.in_ok-read.ensures.content;
      is = subst (λ o. IsBlockOf shown first (home_column key) home o c.block_in-block.result page) (sym c.in-Some-Some.field-0-is ∙ c.in-Some-Some.ensures.target) (c.block_in-block.ensures, subst (λ b. IsRead shown b page) c.block_in-block.ensures read);
    }

pub returns-in_err-read-in-Some-Some-clause-once : goal.returns-in_err-read-in-Some-Some-clause-once
returns-in_err-read-in-Some-Some-clause-once g c = λ image shown none.
    let first : ℕ = c.args.first in
    let key : List ℕ = c.args.key.now in
    let home_is : c.block_in-home.result ≡ first + home_column key = c.block_in-home.ensures ∙ ap (λ n. first + n) (column-is c.args.parts.now key c.requires.parts) in
    let page_is : c.read.new.into ≡ block_at image (first + home_column key) = c.in_ok-read.ensures.content image shown ∙ ap (block_at image) home_is in
    absurd (none-some c.in-Some-Some.target (sym none ∙ ap (λ p. target_of (look_on p key)) (sym page_is) ∙ sym (sym c.in-Some-Some.field-0-is ∙ c.in-Some-Some.ensures.target)))

pub returns-in_ok-read-in-Some-Some-clause-once : goal.returns-in_ok-read-in-Some-Some-clause-once
returns-in_ok-read-in-Some-Some-clause-once g c = λ image shown none.
    let first : ℕ = c.args.first in
    let key : List ℕ = c.args.key.now in
    let home_is : c.block_in-home.result ≡ first + home_column key = c.block_in-home.ensures ∙ ap (λ n. first + n) (column-is c.args.parts.now key c.requires.parts) in
    let page_is : c.read.new.into ≡ block_at image (first + home_column key) = c.in_ok-read.ensures.content image shown ∙ ap (block_at image) home_is in
    absurd (none-some c.in-Some-Some.target (sym none ∙ ap (λ p. target_of (look_on p key)) (sym page_is) ∙ sym (sym c.in-Some-Some.field-0-is ∙ c.in-Some-Some.ensures.target)))
