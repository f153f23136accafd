-- `free` lets the value go, lends the handle for the call, and hands it back.
use mathlib.Core.Path.{◌≡◌, refl, sym, subst, ap}
use Prim.Native.Nat.{ℕ, ◌+◌}
use mathlib.Core.List.{List, [], ◌∷◌, ◌++◌}
use lib.Dec.{T}
use seplogic.Ra.Ura.{Ura}
use base.Fraction.{full_share}
use base.Logic.{SProp, ent, sep, emp, via, fst∗}
use base.Fml.{Lft, Share, ftrue, flft, froom, Incl-trans}
use mir.Syntax.{Fn, ty_unit}
use mir.MapTy.{inst_fn}
use mir.Val.{Val, has_ty, WT, vunit}
use prog.Memory.{Memory, size, align, capped, up}
use prog.Capped.{capped_fits}
use prog.RawLaws.{size-raw, align-raw}
use prog.Routine.{Routine}
use prog.Wp.{Env, Calls, Loops, WpFn, Tables}
use types.Logic.{Logic, sem}
use types.Kit.{‵, raw, ◌⊛◌, later, given, at_ret, ◌$◌, ◌∵◌, !, qed, by, move, keep, use1, use3, learn, split3, join, fsplit, fjoin, suffices, await, done}
use types.Part.{whole, sub}
use types.Run.{stop, fld, from, addr, size_word, align_word, no_more, and_then, of_opd, first, blocks, exec, returns, enter}
use types.ByLocal.{alloc_all, pass_all, free_all, look_at, take_at, give_at, get, get_in, sets, lands_last, env}
use contract.Monad.{Fun}
use contract.BorrowLft.{◌⊑◌, meet_⊑_right}
use contract.Running.{tables, tables_of}
use sound.WpLaws.{FmC, fm_of, WpFn-mono}
use denote.Exit.{no}
use denote.RattleType.{owns}
use denote.Memory.{part_at}
use denote.RawPtr.{block_ptr}
use denote.Signature.{plain}
use denote.Steps.{nothing}
use denote.Triple.Call.{calls_at_last}
use denote.Triple.Clauses.{Clauses, Ended, closing}
use denote.Triple.Entry.{on_entry}
use denote.Triple.Spec.{Meets, triple_of}
use denote.Triple.Statement.{Triple}
use denote.Triple.Table.{entered}
use denote.Triple.Walked.{says, Stays, stay_dropped, walk_of, ends_at, walk_Meets}
use Rattle.core.proofs.alloc.Shapes.{after}
use Rattle.core.proofs.alloc.Calls.{second, α, token, Fits, gives_key, Gives, at_gives, Gives-goes, Gives-Gives, lends_field, takes_back, Goes-blank}
use Rattle.lt_page.proofs.BlockForm.{Types, args, Value, τ, τ_bare, Block, owning, field_types, field_values, word, block_typed}
use Rattle.lt_page.proofs.BlockSteps.{value_room, block_out}
use Rattle.lt_page.specs.contracts.block.Block.free as f
use Rattle.lt_page.specs.contracts.block.Block.free.Key.{name}
use Rattle.lt_page.proofs.block.Block.free.Statement.{statement}
use Rattle.lt_page.proofs.block.Block.free.Code as code

module _ (E : Types) where
  abbrev fn' : Fn
  fn' = inst_fn (args E) code.function

  abbrev ended : Ended
  ended = f.ended E.value E.from.row E.from.g E.from.d E.from.drops

  abbrev clauses : {M : Type 1} {𝓤 : Ura M} (𝓛 : Logic 𝓤) → (Memory → SProp 𝓤) → (Routine → Fun 𝓤) → Clauses 𝓤 ended
  clauses 𝓛 = f.clauses E.value E.from.row E.from.g E.from.d E.from.drops 𝓛

  abbrev stayed : Stays ended.signature.params ended.kept
  stayed = (stay_dropped (plain (λ _. Block E)) no, tt)

module _ (E : Types) {M : Type 1} {𝓤 : Ura M} (𝓛 : Logic 𝓤) (at_mem : Memory → SProp 𝓤) (run : Routine → Fun 𝓤) (C : Calls 𝓤 𝓛.H) (Λ : Loops 𝓤 𝓛.H) (fm : FmC 𝓤 𝓛.H 𝓛.laws C)
    (callee : Triple 𝓤 (C (gives_key E.from)) (Gives E.from 𝓛 at_mem run)) (κT ρ : Lft) (qT qρ : Share) (within : ρ ⊑ E.from.row.lives) (d : (Block E).Denot) (vs : List Val) where
  open 𝓛 use {H, A}

  abbrev bound : (walk_of 𝓛 (ended E) (stayed E) (clauses E 𝓛 at_mem run)).Ghost
  bound = (((κT, (ρ, tt)), (qT, (qρ, tt)), tt, (d, tt), (vs, tt)), tt)

  abbrev Post : Val → SProp 𝓤
  Post = (walk_of 𝓛 (ended E) (stayed E) (clauses E 𝓛 at_mem run)).post bound

  abbrev a : E.from.row.Denot
  a = d.alloc

  abbrev Had : Val → ℕ → ℕ → SProp 𝓤
  Had handle b o = sep 𝓤 (sem 𝓛 (part_at (Value E) full_share d.value b o)) (sep 𝓤 (sem 𝓛 (token E.from a (τ_bare E) (block_ptr b o))) (sep 𝓤 (sem 𝓛 (E.from.row.own_val a (handle ∷ []))) (sep 𝓤 (A.lft ρ qρ) (A.lft κT qT))))

  exits : (v : Val) → ent 𝓤 (sep 𝓤 (sem 𝓛 (E.from.row.own_val a (v ∷ []))) (sep 𝓤 (A.lft κT qT) (A.lft ρ qρ))) (Post v)
  exits v =
      qed 𝓛 (‵ (E.from.row.own_val a (v ∷ [])) ∷ ‵ (flft κT qT) ∷ ‵ (flft ρ qρ) ∷ []) ∵
      suffices ! _ (ends_at 𝓛 (ended E) (stayed E) (clauses E 𝓛 at_mem run) bound v a ((tt, (tt, tt)), tt) (tt, tt)) $ says ! refl $
      nothing ! $ nothing ! $ fjoin ! $ join ! $ nothing ! $ move ! (3 ∷ 0 ∷ []) $ join ! $ move ! (2 ∷ 0 ∷ []) $ join ! $ join ! $ done !

  walk : (handle : Val) (b o : ℕ) → Fits E.from handle → ent 𝓤 (Had handle b o) (WpFn 𝓤 H C Λ (fn' E) (word E handle b o ∷ []) Post)
  walk handle b o fits =
      let typed = block_typed E handle b o fits in
      qed 𝓛 (‵ (part_at (Value E) full_share d.value b o) ∷ ‵ (token E.from a (τ_bare E) (block_ptr b o)) ∷ ‵ (E.from.row.own_val a (handle ∷ [])) ∷ ‵ (flft ρ qρ) ∷ ‵ (flft κT qT) ∷ []) ∵
      use1 𝓛 (‵ (froom (τ E) b o)) (value_room E 𝓛 d.value b o) $ use1 𝓛 (‵ (froom (τ_bare E) b o)) (𝓛.laws.room-raw (τ E) b o) $
      enter ! C Λ (fn' E) (word E handle b o ∷ []) _ $ alloc_all ! (λ l. pass_all ! refl (typed, tt) $
      let En : Env 𝓤 H = env (fn' E).locals l in
      let s : ℕ = capped (size (τ E)) in
      let al : ℕ = capped (align (τ E)) in
      let at : ℕ = up (align (α E.from)) 8 in
      let words = field_values E handle b o in
      sets ! (of_opd ! (get ! refl)) refl typed $ first ! $ blocks ! $ sets ! (addr ! (from ! (fld ! refl (stop !)))) refl (tt, tt) $
      sets ! (of_opd ! (get_in ! (fld ! refl (stop !)) (sub ! 0 refl (whole !)))) refl (tt, tt) $ sets ! (of_opd ! (get ! refl)) refl (tt, tt) $
      take_at ! 2 $ move ! (0 ∷ 3 ∷ 4 ∷ []) $
      lends_field E.from (owning E).name (field_types E) 1 at (l 2) 0 words a ρ qρ ! tt refl within (λ m.
      let κ : Lft = m.0 ∷ ρ in
      let hp : ℕ × ℕ = (l 2, 0 + at) in
      let y : (Gives E.from 𝓛 at_mem run).Ghost = at_gives E.from 𝓛 at_mem run κ m.1 hp a b o s al (τ_bare E) in
      join ! $ move ! (2 ∷ 3 ∷ 0 ∷ []) $ use3 𝓛 (raw ((Gives E.from 𝓛 at_mem run).pre y))
      (Gives-goes E.from 𝓛 at_mem run κ m.1 hp a (Incl-trans (meet_⊑_right (m.0 ∷ []) ρ) within) b o s al (τ_bare E) (ap capped (size-raw (τ E))) (ap capped (align-raw (τ E))) (capped_fits (size (τ E))) (capped_fits (align (τ E)))) $
      calls_at_last ! fm (Gives E.from 𝓛 at_mem run) callee y (and_then ! (get ! refl) (and_then ! (get ! refl) (and_then ! (size_word !) (and_then ! (align_word !) (no_more !))))) (λ v.
      use1 𝓛 (later (given (v ≡ vunit) (‵ (flft κ m.1)))) (Gives-Gives E.from 𝓛 at_mem run κ m.1 hp a b o s al (τ_bare E) v) $ await ! tt $ learn ! (λ is_unit.
      takes_back E.from (owning E).name (field_types E) 1 at (l 2) 0 words a ρ qρ ! tt m (λ handle' fits'. give_at ! 2 $
      lands_last ! refl (subst (λ (z : Val). T (has_ty ty_unit z) × WT z) (sym is_unit) (tt, tt)) $ exec ! C Λ En (after 2 (fn' E).body) (at_ret En Post) $
      sets ! (of_opd ! (get_in ! (fld ! refl (stop !)) (sub ! 1 refl (whole !)))) refl fits' $ sets ! (of_opd ! (get ! refl)) refl fits' $
      returns ! (look_at ! 0 refl) $ free_all ! refl $ keep ! (0 ∷ 2 ∷ 1 ∷ []) $ by ! (exits handle'))))))

  entry : ent 𝓤 (on_entry 𝓛 (ended E).signature (κT, (ρ, tt)) (qT, (qρ, tt)) (d, tt) (vs, tt)) (WpFn 𝓤 H C Λ (fn' E) (vs ++ []) Post)
  entry =
      qed 𝓛 ((‵ (flft κT qT) ⊛ ‵ (flft ρ qρ) ⊛ ‵ ftrue) ∷ ‵ (owns (Block E ∷ []) (d, tt) (vs, tt)) ∷ []) ∵ split3 ! $ move ! (3 ∷ []) $ fsplit ! $ block_out E ! d vs (λ b o handle at is fits.
      keep ! (0 ∷ 1 ∷ 2 ∷ 5 ∷ 4 ∷ []) $ by ! (subst (λ (ws : List Val). ent 𝓤 (Had handle b o) (WpFn 𝓤 H C Λ (fn' E) (ws ++ []) Post)) (sym is) (walk handle b o fits)))

meets : (E : Types) {M : Type 1} {𝓤 : Ura M} (𝓛 : Logic 𝓤) (at_mem : Memory → SProp 𝓤) (run : Routine → Fun 𝓤) (𝓣 : Tables 𝓤 𝓛.H) → Triple 𝓤 (𝓣.C (gives_key E.from)) (Gives E.from 𝓛 at_mem run)
    → Meets 𝓛 (ended E).signature (WpFn 𝓤 𝓛.H 𝓣.C 𝓣.Λ (fn' E)) (closing 𝓛 (ended E) (clauses E 𝓛 at_mem run))
meets E {𝓤 = 𝓤} 𝓛 at_mem run 𝓣 callee =
    walk_Meets 𝓛 (ended E) (stayed E) (Goes-blank 𝓛 2 (plain (λ _. Block E)) no (λ κs x f. tt), tt) (clauses E 𝓛 at_mem run) (WpFn 𝓤 𝓛.H 𝓣.C 𝓣.Λ (fn' E)) (WpFn-mono 𝓤 𝓛.H 𝓛.laws 𝓣 (fn' E))
    (λ z. let κs = z.0.0 in let qs = z.0.1 in let On : SProp 𝓤 = on_entry 𝓛 (ended E).signature κs qs z.0.3 z.0.4 in
    second 𝓤 (κs.0 ⊑ E.value.lives) (κs.1.0 ⊑ E.from.row.lives) On (emp 𝓤) (λ within. via 𝓤 On (fst∗ 𝓤 On (emp 𝓤))
    (entry E 𝓛 at_mem run 𝓣.C 𝓣.Λ (fm_of 𝓤 𝓛.H 𝓛.laws 𝓣) callee κs.0 κs.1.0 qs.0 qs.1.0 within z.0.3.0 z.0.4.0)))

pub free_spec : {M : Type 1} → statement M
unfolding tables_of
free_spec 𝓤 𝓛 𝓜 𝓡 wired Y Z L LZ g d dd met md =
    let E : Types = record { value = Y; laws = L; from = record { row = Z; laws = LZ; g = g; d = d; drops = dd } } in
    let A = 𝓛.A in
    let 𝓣 : Tables 𝓤 𝓛.H = tables_of 𝓤 𝓛.H 𝓜 (tables 𝓤 𝓛.H 𝓜 𝓡 𝓡.env) in
    entered 𝓤 𝓛.H (triple_of 𝓛 (ended E).signature (f.spec Y Z g d dd 𝓛 𝓜.mem 𝓡.returns)) 𝓣.C 𝓣.Λ (name (args E)) (fn' E) (code.unfolded 𝓤 𝓛.H 𝓜 𝓡 wired (Y, (Z, tt)) d dd)
    (meets E 𝓛 𝓜.mem 𝓡.returns 𝓣 (met.deallocate dd))
