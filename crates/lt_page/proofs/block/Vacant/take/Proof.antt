-- `take` lends the handle for the call, and then owns what the call gave.
use mathlib.Core.Path.{◌≡◌, refl, sym, subst, ap}
use mathlib.Core.Bool.{true, false}
use Prim.Native.Nat.{ℕ}
use mathlib.Core.List.{List, [], ◌∷◌, ◌++◌}
use seplogic.Ra.Ura.{Ura}
use base.Fraction.{full_share}
use base.Logic.{SProp, ent, sep, emp, via, wand, fst∗, id⊢, apply∗}
use base.Fml.{Fml, Lft, Share, ftrue, flft, fat, Incl-trans}
use mir.Syntax.{Fn, Body}
use mir.Syntax.{ty_struct}
use mir.MapTy.{inst_fn}
use mir.Val.{Val, vcons, vnil}
use prog.Memory.{Memory, size, align, capped}
use prog.Capped.{capped_fits}
use prog.RawLaws.{size-raw, align-raw}
use prog.Routine.{Routine}
use prog.Wp.{Env, Calls, Loops, Wp, WpFn, Tables, after_seq, at_return}
use types.Logic.{Logic, sem}
use types.Kit.{Post as After, any_q, ‵, raw, ◌⊛◌, some, later, given, at_ret, ◌$◌, ◌∵◌, !, qed, by, move, keep, use1, use2, pick, learn, split, split3, join, fsplit, fjoin, suffices, await, done}
use types.Part.{whole, agg}
use types.Match.{live, vrt, in_variant}
use types.Run.{stop, fld, from, addr, lit, size_word, align_word, no_more, and_then, of_opd, first, switches_on, exec, returns, enter}
use types.ByLocal.{alloc_all, pass_all, free_all, look_at, take_at, give_at, get, get_in, get_tag, sets, sets_last, lands_as, env}
use contract.Monad.{Fun}
use contract.BorrowLft.{◌⊑◌, meet_⊑_right}
use contract.Running.{tables, tables_of}
use sound.WpLaws.{FmC, fm_of, WpFn-mono}
use denote.Exit.{no}
use denote.RattleType.{owns}
use denote.Memory.{part_at}
use denote.Param.{param}
use denote.RawPtr.{block_ptr}
use denote.Signature.{plain}
use denote.Steps.{nothing}
use denote.Triple.Call.{calls_at}
use denote.Triple.Clauses.{Clauses, Ended, closing}
use denote.Triple.Entry.{on_entry}
use denote.Triple.Spec.{Meets, triple_of}
use denote.Triple.Statement.{Triple}
use denote.Triple.Table.{entered}
use denote.Triple.Walked.{says, Stays, stay_dropped, walk_of, ends_at, Goes-dropped, walk_Meets}
use borrow.Table.OneValue.{part_in, part_out}
use Rattle.core.specs.Result.{MatchResult}
use Rattle.core.specs.declared.result.Result.TheVariants.{Ok, Err}
use Rattle.core.proofs.alloc.Shapes.{after, head, arm_body}
use Rattle.core.proofs.alloc.Calls.{second, Answer-typed, α, Fits, seen, Lent, lends, handle_tells, takes_key, Takes, at_takes, Answered, Takes-goes, Takes-gives, answers}
use Rattle.std_alloc.proofs.ResultValues.{ok_of, err_of}
use Rattle.lt_page.proofs.BlockForm.{Types, args, From, τ, τ_bare, Vacant, Taken, vacant_owning, field_types, word, vacant_typed, ok_typed, err_typed}
use Rattle.lt_page.proofs.BlockSteps.{vacant_in}
use Rattle.lt_page.specs.contracts.block.Vacant.take as f
use Rattle.lt_page.specs.contracts.block.Vacant.take.Key.{name}
use Rattle.lt_page.proofs.block.Vacant.take.Statement.{statement}
use Rattle.lt_page.proofs.block.Vacant.take.Code as code

module _ (E : Types) where
  abbrev fn' : Fn
  fn' = inst_fn (args E) code.function

  abbrev ended : Ended
  ended = f.ended E.value E.from.row E.from.g E.from.d E.from.drops

  abbrev clauses : {M : Type 1} {𝓤 : Ura M} (𝓛 : Logic 𝓤) → (Memory → SProp 𝓤) → (Routine → Fun 𝓤) → Clauses 𝓤 ended
  clauses 𝓛 = f.clauses E.value E.from.row E.from.g E.from.d E.from.drops 𝓛

  abbrev stayed : Stays ended.signature.params ended.kept
  stayed = (stay_dropped (plain (λ _. From E)) no, tt)

module _ (E : Types) {M : Type 1} {𝓤 : Ura M} (𝓛 : Logic 𝓤) (at_mem : Memory → SProp 𝓤) (run : Routine → Fun 𝓤) (C : Calls 𝓤 𝓛.H) (Λ : Loops 𝓤 𝓛.H) (fm : FmC 𝓤 𝓛.H 𝓛.laws C)
    (callee : Triple 𝓤 (C (takes_key E.from)) (Takes E.from 𝓛 at_mem run)) (κT ρ : Lft) (qT qρ : Share) (within : ρ ⊑ E.from.row.lives) (a : E.from.row.Denot) (vs : List Val) where
  open 𝓛 use {H, A}

  abbrev bound : (walk_of 𝓛 (ended E) (stayed E) (clauses E 𝓛 at_mem run)).Ghost
  bound = (((κT, (ρ, tt)), (qT, (qρ, tt)), tt, (a, tt), (vs, tt)), tt)

  abbrev Post : Val → SProp 𝓤
  Post = (walk_of 𝓛 (ended E) (stayed E) (clauses E 𝓛 at_mem run)).post bound

  abbrev Had : Val → SProp 𝓤
  Had handle = sep 𝓤 (sem 𝓛 (E.from.row.own_val a (handle ∷ []))) (sep 𝓤 (A.lft ρ qρ) (A.lft κT qT))

  exits : (r : (Taken E).Denot) (v : Val) → MatchResult r (λ room. room.alloc ≡ a) (λ back. back ≡ a) → ent 𝓤 (sep 𝓤 (sem 𝓛 ((Taken E).own_val r (v ∷ []))) (sep 𝓤 (A.lft κT qT) (A.lft ρ qρ))) (Post v)
  exits r v is =
      qed 𝓛 (‵ ((Taken E).own_val r (v ∷ [])) ∷ ‵ (flft κT qT) ∷ ‵ (flft ρ qρ) ∷ []) ∵ suffices ! _ (ends_at 𝓛 (ended E) (stayed E) (clauses E 𝓛 at_mem run) bound v r (tt, tt) (tt, tt)) $ says ! is $
      nothing ! $ nothing ! $ fjoin ! $ join ! $ nothing ! $ move ! (3 ∷ 0 ∷ []) $ join ! $ move ! (2 ∷ 0 ∷ []) $ join ! $ join ! $ done !

  walk : (handle : Val) → Fits E.from handle → ent 𝓤 (Had handle) (WpFn 𝓤 H C Λ (fn' E) (handle ∷ []) Post)
  walk handle fits =
      qed 𝓛 (‵ (E.from.row.own_val a (handle ∷ [])) ∷ ‵ (flft ρ qρ) ∷ ‵ (flft κT qT) ∷ []) ∵ enter ! C Λ (fn' E) (handle ∷ []) _ $ alloc_all ! (λ l. pass_all ! refl (fits, tt) $
      let En : Env 𝓤 H = env (fn' E).locals l in
      let both : Body = head (after 3 (fn' E).body) in
      let Then : After 𝓤 H = any_q (after_seq 𝓤 H (Wp 𝓤 H C Λ En (after 4 (fn' E).body) (at_return 𝓤 H En Post)) (at_return 𝓤 H En Post)) in
      let s : ℕ = capped (size (τ E)) in
      let al : ℕ = capped (align (τ E)) in
      let hp : ℕ × ℕ = (l 2, 0) in
      let Lies : Fml = part_at (param 0 E.from.row) full_share a (l 2) 0 in
      sets ! (of_opd ! (get ! refl)) refl fits $ sets ! (addr ! (from ! (stop !))) refl (tt, tt) $ take_at ! 2 $
      use2 𝓛 (‵ Lies) (part_in 𝓛 (param 0 E.from.row) refl full_share a (l 2) 0 handle) $
      use2 𝓛 (later (some (λ (n : ℕ × Share). raw (Lent E.from 𝓛 ρ qρ hp a n)))) (lends E.from 𝓛 ρ qρ within hp a) $ await ! tt $ pick ! (λ n.
      let κ : Lft = n.0 ∷ ρ in
      let Again : SProp 𝓤 = H.⇛ (sep 𝓤 (sem 𝓛 Lies) (A.lft ρ qρ)) in
      let y : (Takes E.from 𝓛 at_mem run).Ghost = at_takes E.from 𝓛 at_mem run κ n.1 hp a s al (τ_bare E) in
      use1 𝓛 (‵ (seen E.from κ hp a) ⊛ ‵ (flft κ n.1) ⊛ raw (wand 𝓤 (A.lft κ n.1) Again)) (id⊢ 𝓤 _) $ split3 ! $
      use2 𝓛 (raw ((Takes E.from 𝓛 at_mem run).pre y))
      (Takes-goes E.from 𝓛 at_mem run κ n.1 hp a (Incl-trans (meet_⊑_right (n.0 ∷ []) ρ) within) s al (τ_bare E) (ap capped (size-raw (τ E))) (ap capped (align-raw (τ E))) (capped_fits (size (τ E))) (capped_fits (align (τ E)))) $
      calls_at ! fm (Takes E.from 𝓛 at_mem run) callee y (and_then ! (get ! refl) (and_then ! (size_word !) (and_then ! (align_word !) (no_more !)))) (λ v.
      use1 𝓛 (later (raw (Answered E.from 𝓛 at_mem run a (τ_bare E) v) ⊛ ‵ (flft κ n.1))) (Takes-gives E.from 𝓛 at_mem run κ n.1 hp a s al (τ_bare E) v) $ await ! tt $ split ! $ move ! (1 ∷ 2 ∷ []) $
      use2 𝓛 (later (‵ Lies ⊛ ‵ (flft ρ qρ))) (apply∗ 𝓤 (A.lft κ n.1) Again) $ await ! tt $ split ! $
      use1 𝓛 (some (λ (u : Val). ‵ (fat full_share (α E.from) (l 2) 0 u) ⊛ ‵ (E.from.row.own_val a (u ∷ [])))) (part_out 𝓛 (param 0 E.from.row) refl full_share a (l 2) 0) $ pick ! (λ handle'. split ! $
      use1 𝓛 (given (Fits E.from handle') (‵ (fat full_share (α E.from) (l 2) 0 handle'))) (𝓛.laws.at_wt full_share (α E.from) (l 2) 0 handle') $ learn ! (λ fits'. give_at ! 2 $ move ! (2 ∷ []) $
      answers E.from ! at_mem run a (τ_bare E) v
      (λ b o is.
      let made = vacant_typed E handle' b o fits' in
      let ok = ok_typed E (ty_struct (vacant_owning E).name (field_types E)) (word E handle' b o) made in
      let room : (Vacant E).Denot = record { at = block_ptr b o; alloc = a } in
      lands_as ! is refl (Answer-typed true b o) $ first ! $ switches_on ! (get_tag ! (vrt ! refl (fld ! refl (stop !))) (whole !)) $ exec ! C Λ En (arm_body 0 both) Then $
      sets ! (of_opd ! (get_in ! (vrt ! refl (fld ! refl (stop !))) (in_variant ! 0 0 refl refl (whole !)))) refl (tt, tt) $ sets ! (of_opd ! (get ! refl)) refl (tt, tt) $ sets ! (of_opd ! (get ! refl)) refl fits' $
      sets ! (agg ! (and_then ! (get ! refl) (and_then ! (get ! refl) (no_more !)))) refl made $ sets_last ! (agg ! (and_then ! (lit ! tt) (and_then ! (get ! refl) (no_more !)))) refl ok $
      exec ! C Λ En (after 4 (fn' E).body) (at_ret En Post) $ sets ! (of_opd ! (get ! refl)) refl ok $ vacant_in E ! a b o $
      use1 𝓛 (‵ ((Taken E).own_val (Ok room) (live 0 (vcons (word E handle' b o) vnil) ∷ []))) (ok_of 𝓛 (Vacant E) (From E) room (word E handle' b o)) $
      returns ! (look_at ! 0 refl) $ free_all ! refl $ keep ! (0 ∷ 2 ∷ 1 ∷ []) $ by ! (exits (Ok room) (live 0 (vcons (word E handle' b o) vnil)) refl))
      (λ is.
      let none = err_typed E (α E.from) handle' fits' in
      lands_as ! is refl (Answer-typed false 0 0) $ first ! $ switches_on ! (get_tag ! (vrt ! refl (fld ! refl (stop !))) (whole !)) $ exec ! C Λ En (arm_body 1 both) Then $
      sets ! (of_opd ! (get ! refl)) refl fits' $ sets_last ! (agg ! (and_then ! (lit ! tt) (and_then ! (get ! refl) (no_more !)))) refl none $
      exec ! C Λ En (after 4 (fn' E).body) (at_ret En Post) $ sets ! (of_opd ! (get ! refl)) refl none $
      use1 𝓛 (‵ ((Taken E).own_val (Err a) (live 1 (vcons handle' vnil) ∷ []))) (err_of 𝓛 (Vacant E) (From E) a handle') $
      returns ! (look_at ! 0 refl) $ free_all ! refl $ keep ! (0 ∷ 2 ∷ 1 ∷ []) $ by ! (exits (Err a) (live 1 (vcons handle' vnil)) refl)))))))

  entry : ent 𝓤 (on_entry 𝓛 (ended E).signature (κT, (ρ, tt)) (qT, (qρ, tt)) (a, tt) (vs, tt)) (WpFn 𝓤 H C Λ (fn' E) (vs ++ []) Post)
  entry =
      qed 𝓛 ((‵ (flft κT qT) ⊛ ‵ (flft ρ qρ) ⊛ ‵ ftrue) ∷ ‵ (owns (From E ∷ []) (a, tt) (vs, tt)) ∷ []) ∵ split3 ! $ move ! (3 ∷ []) $ fsplit ! $ handle_tells E.from ! a vs (λ handle is fits.
      keep ! (0 ∷ 3 ∷ 2 ∷ []) $ by ! (subst (λ (ws : List Val). ent 𝓤 (Had handle) (WpFn 𝓤 H C Λ (fn' E) (ws ++ []) Post)) (sym is) (walk handle fits)))

meets : (E : Types) {M : Type 1} {𝓤 : Ura M} (𝓛 : Logic 𝓤) (at_mem : Memory → SProp 𝓤) (run : Routine → Fun 𝓤) (𝓣 : Tables 𝓤 𝓛.H) → Triple 𝓤 (𝓣.C (takes_key E.from)) (Takes E.from 𝓛 at_mem run)
    → Meets 𝓛 (ended E).signature (WpFn 𝓤 𝓛.H 𝓣.C 𝓣.Λ (fn' E)) (closing 𝓛 (ended E) (clauses E 𝓛 at_mem run))
meets E {𝓤 = 𝓤} 𝓛 at_mem run 𝓣 callee =
    walk_Meets 𝓛 (ended E) (stayed E) (Goes-dropped 𝓛 2 (plain (λ _. From E)) no (λ κs x f. refl), tt) (clauses E 𝓛 at_mem run) (WpFn 𝓤 𝓛.H 𝓣.C 𝓣.Λ (fn' E)) (WpFn-mono 𝓤 𝓛.H 𝓛.laws 𝓣 (fn' E))
    (λ z. let κs = z.0.0 in let qs = z.0.1 in let On : SProp 𝓤 = on_entry 𝓛 (ended E).signature κs qs z.0.3 z.0.4 in
    second 𝓤 (κs.0 ⊑ E.value.lives) (κs.1.0 ⊑ E.from.row.lives) On (emp 𝓤) (λ within. via 𝓤 On (fst∗ 𝓤 On (emp 𝓤))
    (entry E 𝓛 at_mem run 𝓣.C 𝓣.Λ (fm_of 𝓤 𝓛.H 𝓛.laws 𝓣) callee κs.0 κs.1.0 qs.0 qs.1.0 within z.0.3.0 z.0.4.0)))

pub take_spec : {M : Type 1} → statement M
unfolding tables_of
take_spec 𝓤 𝓛 𝓜 𝓡 wired Y Z L LZ g d dd met md =
    let E : Types = record { value = Y; laws = L; from = record { row = Z; laws = LZ; g = g; d = d; drops = dd } } in
    let A = 𝓛.A in
    let 𝓣 : Tables 𝓤 𝓛.H = tables_of 𝓤 𝓛.H 𝓜 (tables 𝓤 𝓛.H 𝓜 𝓡 𝓡.env) in
    entered 𝓤 𝓛.H (triple_of 𝓛 (ended E).signature (f.spec Y Z g d dd 𝓛 𝓜.mem 𝓡.returns)) 𝓣.C 𝓣.Λ (name (args E)) (fn' E) (code.unfolded 𝓤 𝓛.H 𝓜 𝓡 wired (Y, (Z, tt)) d dd)
    (meets E 𝓛 𝓜.mem 𝓡.returns 𝓣 (met.allocate dd))
