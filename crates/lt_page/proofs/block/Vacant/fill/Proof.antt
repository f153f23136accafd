-- `fill` writes the value into the room, which is a block then.
use mathlib.Core.Path.{◌≡◌, refl, sym, subst}
use Prim.Native.Nat.{ℕ}
use mathlib.Core.List.{List, [], ◌∷◌, ◌++◌}
use seplogic.Ra.Ura.{Ura}
use base.Fraction.{full_share}
use base.Logic.{SProp, ent, sep, emp, via, fst∗}
use base.Fml.{ftrue, fat, froom}
use mir.Syntax.{Fn}
use mir.MapTy.{inst_fn}
use mir.Val.{Val}
use prog.Wp.{Env, Calls, Loops, WpFn, Tables}
use types.Logic.{Logic, sem}
use types.Kit.{‵, ◌⊛◌, at_ret, ◌$◌, ◌∵◌, !, qed, by, move, keep, use1, use2, drop, split, join, fsplit, fjoin, suffices, done}
use types.Part.{whole, sub, agg}
use types.Run.{init, stop, fld, of_opd, and_then, no_more, assigns_last, first, blocks, exec, returns, enter}
use types.ByLocal.{alloc_all, pass_all, free_all, look_at, get, get_in, through, sets, env}
use contract.Monad.{fact}
use contract.Running.{tables, tables_of}
use sound.WpLaws.{WpFn-mono}
use denote.Exit.{no}
use denote.RattleType.{owns}
use denote.Memory.{part_at}
use denote.RawPtr.{block_ptr}
use denote.Signature.{plain}
use denote.Steps.{nothing}
use denote.Triple.Carry.{spared}
use denote.Triple.Clauses.{Clauses, Ended, closing}
use denote.Triple.Entry.{on_entry}
use denote.Triple.Spec.{Meets, triple_of}
use denote.Triple.Table.{entered, run_framed}
use denote.Triple.Walked.{says, Stays, stay_dropped, walk_of, ends_at, Goes-dropped, walk_Meets}
use Rattle.core.proofs.alloc.Shapes.{after}
use Rattle.core.proofs.alloc.Calls.{token, Fits, Goes-blank}
use Rattle.lt_page.proofs.BlockForm.{Types, args, Value, From, τ, τ_bare, Good, Block, Vacant, word, block_typed, vacant_typed}
use Rattle.lt_page.proofs.BlockSteps.{value_in, value_tells, vacant_out, block_in}
use Rattle.lt_page.specs.contracts.block.Vacant.fill.Key.{name}
use Rattle.lt_page.proofs.block.Vacant.fill.Statement.{statement}
use Rattle.lt_page.proofs.block.Vacant.fill.Code as code

module _ (E : Types) where
  abbrev fn' : Fn
  fn' = inst_fn (args E) code.function

  abbrev ended : Ended
  ended = record { signature = record { lifetimes = 0; outlives = []; params = plain (λ _. Vacant E) ∷ plain (λ _. Value E) ∷ []; result = plain (λ _. Block E) }; kept = (no, (no, tt)) }

  abbrev stayed : Stays ended.signature.params ended.kept
  stayed = (stay_dropped (plain (λ _. Vacant E)) no, (stay_dropped (plain (λ _. Value E)) no, tt))

  abbrev spec : {M : Type 1} (𝓤 : Ura M) → Clauses 𝓤 ended
  spec 𝓤 κs a = record { ghost = Unit {0}; requires = λ _. emp 𝓤; ensures = λ _ r _. fact 𝓤 (r.value ≡ a.1.0) }

module _ (E : Types) {M : Type 1} {𝓤 : Ura M} (𝓛 : Logic 𝓤) (C : Calls 𝓤 𝓛.H) (Λ : Loops 𝓤 𝓛.H) (room : (Vacant E).Denot) (x : E.value.Denot) (us vs : List Val) where
  open 𝓛 use {H}

  abbrev bound : (walk_of 𝓛 (ended E) (stayed E) (spec E 𝓤)).Ghost
  bound = ((tt, tt, tt, (room, (x, tt)), (us, (vs, tt))), tt)

  abbrev Post : Val → SProp 𝓤
  Post = (walk_of 𝓛 (ended E) (stayed E) (spec E 𝓤)).post bound

  abbrev a : E.from.row.Denot
  a = room.alloc

  abbrev Had : ℕ → ℕ → Val → Val → SProp 𝓤
  Had b o handle v = sep 𝓤 (H.room (τ_bare E) b o) (sep 𝓤 (sem 𝓛 (E.value.own_val x (v ∷ []))) (sep 𝓤 (sem 𝓛 (token E.from a (τ_bare E) (block_ptr b o))) (sem 𝓛 ((From E).own_val a (handle ∷ [])))))

  exits : (b o : ℕ) (handle v : Val) → ent 𝓤 (sep 𝓤 (H.at full_share (τ E) b o v) (sep 𝓤 (sem 𝓛 (E.value.own_val x (v ∷ []))) (sep 𝓤 (sem 𝓛 (token E.from a (τ_bare E) (block_ptr b o))) (sem 𝓛 ((From E).own_val a (handle ∷ [])))))) (Post (word E handle b o))
  exits b o handle v =
      let filled : (Block E).Denot = record { at = block_ptr b o; alloc = a; value = x } in
      qed 𝓛 (‵ (fat full_share (τ E) b o v) ∷ ‵ (E.value.own_val x (v ∷ [])) ∷ ‵ (token E.from a (τ_bare E) (block_ptr b o)) ∷ ‵ ((From E).own_val a (handle ∷ [])) ∷ []) ∵
      use2 𝓛 (‵ (part_at (Value E) full_share x b o)) (value_in E 𝓛 x b o v) $ block_in E ! filled b o x refl refl $
      suffices ! _ (ends_at 𝓛 (ended E) (stayed E) (spec E 𝓤) bound (word E handle b o) filled ((tt, (tt, tt)), (tt, tt)) (tt, (tt, tt))) $ says ! refl $
      nothing ! $ nothing ! $ fjoin ! $ nothing ! $ fjoin ! $ join ! $ nothing ! $ join ! $ done !

  walk : (b o : ℕ) (handle v : Val) → Fits E.from handle → Good E v → ent 𝓤 (Had b o handle v) (WpFn 𝓤 H C Λ (fn' E) (word E handle b o ∷ v ∷ []) Post)
  walk b o handle v fits good =
      qed 𝓛 (‵ (froom (τ_bare E) b o) ∷ ‵ (E.value.own_val x (v ∷ [])) ∷ ‵ (token E.from a (τ_bare E) (block_ptr b o)) ∷ ‵ ((From E).own_val a (handle ∷ [])) ∷ []) ∵
      use1 𝓛 (‵ (froom (τ E) b o)) (𝓛.laws.raw-room (τ E) b o) $ enter ! C Λ (fn' E) (word E handle b o ∷ v ∷ []) _ $
      alloc_all ! (λ l. pass_all ! refl (vacant_typed E handle b o fits, (good, tt)) $
      let En : Env 𝓤 H = env (fn' E).locals l in
      sets ! (of_opd ! (get_in ! (fld ! refl (stop !)) (sub ! 0 refl (whole !)))) refl (tt, tt) $ sets ! (of_opd ! (get_in ! (fld ! refl (stop !)) (sub ! 1 refl (whole !)))) refl fits $
      first ! $ blocks ! $ sets ! (of_opd ! (get ! refl)) refl good $ assigns_last ! (of_opd ! (get ! refl)) (through ! refl (stop !)) (init ! 0 refl good) $
      exec ! C Λ En (after 3 (fn' E).body) (at_ret En Post) $
      sets ! (of_opd ! (get ! refl)) refl fits $ sets ! (agg ! (and_then ! (get ! refl) (and_then ! (get ! refl) (no_more !)))) refl (block_typed E handle b o fits) $
      returns ! (look_at ! 0 refl) $ free_all ! refl $
      keep ! (0 ∷ 1 ∷ 2 ∷ 3 ∷ []) $ by ! (exits b o handle v))

  entry : ent 𝓤 (on_entry 𝓛 (ended E).signature tt tt (room, (x, tt)) (us, (vs, tt))) (WpFn 𝓤 H C Λ (fn' E) (us ++ (vs ++ [])) Post)
  entry =
      qed 𝓛 ((‵ ftrue ⊛ ‵ (owns (Vacant E ∷ Value E ∷ []) (room, (x, tt)) (us, (vs, tt)))) ∷ []) ∵ split ! $ drop ! $ fsplit ! $ vacant_out E ! room us (λ b o handle at is fits.
      move ! (3 ∷ []) $ fsplit ! $ value_tells E ! x vs (λ v one good. keep ! (2 ∷ 0 ∷ 3 ∷ 4 ∷ []) $
      by ! (subst (λ (ws : List Val × List Val). ent 𝓤 (Had b o handle v) (WpFn 𝓤 H C Λ (fn' E) (ws.0 ++ (ws.1 ++ [])) Post)) (λ i. (sym is i, sym one i)) (walk b o handle v fits good))))

meets : (E : Types) {M : Type 1} {𝓤 : Ura M} (𝓛 : Logic 𝓤) (𝓣 : Tables 𝓤 𝓛.H)
    → Meets 𝓛 (ended E).signature (WpFn 𝓤 𝓛.H 𝓣.C 𝓣.Λ (fn' E)) (closing 𝓛 (ended E) (spec E 𝓤))
meets E {𝓤 = 𝓤} 𝓛 𝓣 =
    walk_Meets 𝓛 (ended E) (stayed E) (Goes-blank 𝓛 0 (plain (λ _. Vacant E)) no (λ κs x f. tt), (Goes-dropped 𝓛 0 (plain (λ _. Value E)) no (λ κs x f. refl), tt)) (spec E 𝓤) (WpFn 𝓤 𝓛.H 𝓣.C 𝓣.Λ (fn' E)) (WpFn-mono 𝓤 𝓛.H 𝓛.laws 𝓣 (fn' E))
    (λ z. via 𝓤 _ (fst∗ 𝓤 _ (emp 𝓤)) (entry E 𝓛 𝓣.C 𝓣.Λ z.0.3.0 z.0.3.1.0 z.0.4.0 z.0.4.1.0))

pub fill_spec : {M : Type 1} → statement M
unfolding tables_of
fill_spec 𝓤 𝓛 𝓜 𝓡 wired Y Z L LZ g d dd met md y =
    let E : Types = record { value = Y; laws = L; from = record { row = Z; laws = LZ; g = g; d = d; drops = dd } } in
    let A = 𝓛.A in
    let 𝓣 : Tables 𝓤 𝓛.H = tables_of 𝓤 𝓛.H 𝓜 (tables 𝓤 𝓛.H 𝓜 𝓡 𝓡.env) in
    spared 𝓛 (ended E).signature (𝓡.run (𝓡.env (name (args E)))) (run_framed 𝓤 𝓛.H 𝓜 𝓡 (𝓡.env (name (args E)))) 2 (Y.lives, (Z.lives, tt)) (closing 𝓛 (ended E) (spec E 𝓤))
    (entered 𝓤 𝓛.H (triple_of 𝓛 (ended E).signature (closing 𝓛 (ended E) (spec E 𝓤))) 𝓣.C 𝓣.Λ (name (args E)) (fn' E) (code.unfolded 𝓤 𝓛.H 𝓜 𝓡 wired (Y, (Z, tt)) d dd) (meets E 𝓛 𝓣))
    ((y.0.0, y.0.1, tt, y.0.3, y.0.4), y.1)
