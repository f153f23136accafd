-- `as_ref` reads the pointer through the `&`, and lends what lies there for as long.
use mathlib.Core.Path.{◌≡◌, refl}
use Prim.Native.Nat.{ℕ, ◌+◌}
use mathlib.Core.List.{List, [], ◌∷◌}
use seplogic.Ra.Ura.{Ura}
use base.Logic.{SProp, ent, sep, emp, via, fst∗}
use base.Fml.{Lft, Share, ftrue, fhide, flft}
use mir.Syntax.{Fn, named}
use mir.MapTy.{inst_fn}
use mir.Val.{Val, vptr}
use prog.Wp.{Env, Calls, Loops, WpFn, Tables}
use types.Logic.{Logic, sem}
use types.Kit.{at_ret, ‵, ◌⊛◌, ◌$◌, ◌∵◌, !, qed, by, move, keep, use1, drop, split, join, fsplit, fjoin, feq_i, raw, suffices, frame, done}
use types.Run.{look, stop, hop, fld, of_opd, first, blocks, exec, returns, enter, addr}
use types.ByLocal.{alloc_all, pass_all, free_all, look_at, get, through, sets, sets_last, env}
use contract.Monad.{fact}
use contract.Running.{tables, tables_of}
use sound.WpLaws.{WpFn-mono}
use denote.Builtin.{RefOf}
use denote.Exit.{yes}
use denote.RattleType.{RattleType, RowLaws, owns}
use denote.Memory.{hidden_shr}
use denote.Opens.{shr_dup, unhide, hide}
use denote.RawPtr.{RawPtr, ptr_row_laws, block_of, count_of, InBlock}
use denote.Ref.{Bor, ShrRef, shr_vals, shr_Tells}
use denote.SharingLaws.{beside_shr_laws}
use denote.Signature.{plain}
use denote.Steps.{heard, nothing}
use denote.Struct.Struct.{Struct, Struct-row_laws}
use denote.Struct.Owning.{shape}
use denote.Struct.Lending.{lent_at, lent_at_shr_laws, in_block_says, lent_out}
use denote.Triple.Carry.{spared}
use denote.Triple.Clauses.{Clauses, Ended, closing}
use denote.Triple.Entry.{on_entry}
use denote.Triple.Spec.{Meets, triple_of}
use denote.Triple.Table.{entered, run_framed}
use denote.Triple.Walked.{says, Stays, stay_none_ref, walk_of, ends_at, walked, Goes-none_ref, walk_Meets}
use Rattle.core.proofs.alloc.Shapes.{after}
use Rattle.std_alloc.proofs.Words.{pointer_in, pointer_out}
use Rattle.lt_page.proofs.BlockForm.{Types, args, Value, From, Block, owning}
use Rattle.lt_page.specs.contracts.block.Block as block
use Rattle.lt_page.specs.contracts.block.Block.as_ref.Key.{name}
use Rattle.lt_page.proofs.block.Block.as_ref.Statement.{statement}
use Rattle.lt_page.proofs.block.Block.as_ref.Code as code

module _ (E : Types) where
  abbrev fn' : Fn
  fn' = inst_fn (args E) code.function

  abbrev ended : Ended
  ended = record { signature = record { lifetimes = 1; outlives = []; params = RefOf (0 ∷ []) tt (plain (λ _. Block E)) (λ _. tt) ∷ []; result = RefOf (0 ∷ []) tt (plain (λ _. Value E)) (λ _. tt) }; kept = (yes, tt) }

  abbrev stayed : Stays ended.signature.params ended.kept
  stayed = (stay_none_ref (0 ∷ []) tt (plain (λ _. Block E)) yes, tt)

  abbrev spec : {M : Type 1} (𝓤 : Ura M) → Clauses 𝓤 ended
  spec 𝓤 κs a = record { ghost = Unit {0}; requires = λ _. emp 𝓤; ensures = λ _ r _. fact 𝓤 (r.now ≡ a.0.now.value) }

  -- the two fields
  abbrev Words : RattleType
  Words = Struct (shape (owning E))

  words_laws : RowLaws Words
  words_laws = Struct-row_laws (shape (owning E)) (ptr_row_laws, (E.from.laws.shr_laws, tt))

  block_laws : RowLaws (Block E)
  block_laws d b o =
      beside_shr_laws (Words.shr_at (d.at, (d.alloc, tt)) b o) (lent_at (Value E) d.at d.value) (words_laws (d.at, (d.alloc, tt)) b o) (lent_at_shr_laws (Value E) E.laws.shr_laws d.at d.value)

module _ (E : Types) {M : Type 1} {𝓤 : Ura M} (𝓛 : Logic 𝓤) (κ : Lft) (q : Share) (b o : ℕ) (d : (Block E).Denot) where
  open 𝓛 use {H, A}

  abbrev self : Bor (Block E).Denot
  self = record { ref_ptr = (b, o); now = d }

  abbrev bound : (walk_of 𝓛 (ended E) (stayed E) (spec E 𝓤)).Ghost
  bound = (((κ, tt), (q, tt), tt, (self, tt), (vptr b o ∷ [], tt)), tt)

  abbrev Post : Val → SProp 𝓤
  Post = (walk_of 𝓛 (ended E) (stayed E) (spec E 𝓤)).post bound

  -- where the value lies
  abbrev there : ℕ × ℕ
  there = (block_of d.at, count_of d.at)

  abbrev fields : (Words E).Denot
  fields = (d.at, (d.alloc, tt))

  -- a `&` to the fields shows the pointer
  shows_pointer : ent 𝓤 (sem 𝓛 (hidden_shr (Words E) κ fields b o)) (sep 𝓤 (sem 𝓛 (hidden_shr RawPtr κ d.at b (o + 0))) (sem 𝓛 (hidden_shr (Words E) κ fields b o)))
  shows_pointer = qed 𝓛 (‵ (hidden_shr (Words E) κ fields b o) ∷ []) ∵ shr_dup ! (Words E) (words_laws E) fields b o κ $ unhide ! $ fsplit ! $ fsplit ! $ hide ! $ keep ! (0 ∷ 3 ∷ []) $ done !

  exits : ent 𝓤 (sep 𝓤 (A.lft κ q) (sep 𝓤 (sem 𝓛 (hidden_shr (Block E) κ d b o)) (sem 𝓛 (hidden_shr (Value E) κ d.value there.0 there.1)))) (Post (vptr there.0 there.1))
  exits =
      qed 𝓛 (‵ (flft κ q) ∷ ‵ (hidden_shr (Block E) κ d b o) ∷ ‵ (hidden_shr (Value E) κ d.value there.0 there.1) ∷ []) ∵
      suffices ! _ (ends_at 𝓛 (ended E) (stayed E) (spec E 𝓤) bound (vptr there.0 there.1) (record { ref_ptr = there; now = d.value }) (tt, tt) (tt, tt)) $ says ! refl $
      nothing ! $ move ! (1 ∷ 0 ∷ []) $ join ! $ frame ! $ feq_i ! (List Val) (vptr b o ∷ []) (vptr b o ∷ []) refl $ fjoin ! $ nothing ! $ move ! (1 ∷ 0 ∷ []) $ fjoin ! $ frame ! $
      feq_i ! (List Val) (vptr there.0 there.1 ∷ []) (vptr there.0 there.1 ∷ []) refl $ fjoin ! $ done !

  module _ (C : Calls 𝓤 H) (Λ : Loops 𝓤 H) where
    walk : ent 𝓤 (on_entry 𝓛 (ended E).signature (κ, tt) (q, tt) (self, tt) (vptr b o ∷ [], tt)) (WpFn 𝓤 H C Λ (fn' E) (vptr b o ∷ []) Post)
    walk =
        qed 𝓛 ((‵ (flft κ q) ⊛ ‵ ftrue) ∷ ‵ (owns (ShrRef (named 0) κ (Block E) ∷ []) (self, tt) (vptr b o ∷ [], tt)) ∷ []) ∵ move ! (1 ∷ []) $
        fsplit ! $ fsplit ! $ drop ! $ shr_dup ! (Block E) (block_laws E) d b o κ $
        use1 𝓛 (‵ (hidden_shr (Words E) κ fields b o) ⊛ ‵ (fhide (block.the_lent (Value E) (From E) E.from.g d d.at κ)))
        (lent_out 𝓛 (block.struct (Value E) (From E) E.from.g) (block.the_codes (Value E).Denot (From E).Denot (Value E).coded (From E).coded) (block.the_heap (Value E) (From E) E.from.g) (block.the_lent (Value E) (From E) E.from.g) κ d b o) $ split ! $
        move ! (1 ∷ []) $ unhide ! $ fsplit ! $ use1 𝓛 (raw (fact 𝓤 (InBlock d.at))) (in_block_says 𝓛 d.at) $ heard ! (InBlock d.at) (λ inb. hide ! $
        -- [the `&` to the value; the one to the fields; the one to the block; nothing; the token]
        move ! (4 ∷ []) $ split ! $ move ! (3 ∷ 0 ∷ []) $ enter ! C Λ (fn' E) (vptr b o ∷ []) _ $ alloc_all ! (λ l. pass_all ! refl ((tt, tt), tt) $
        let En : Env 𝓤 H = env (fn' E).locals l in
        first ! $ blocks ! $ pointer_in ! tt d.at inb b (o + 0) shows_pointer (λ q'.
        sets_last ! (addr ! (through ! refl (fld ! refl (hop ! (look ! 1 refl) (stop !))))) refl (tt, tt) $
        exec ! C Λ En (after 1 (fn' E).body) (at_ret En Post) $ pointer_out ! tt d.at inb b (o + 0) $
        sets ! (of_opd ! (get ! refl)) refl (tt, tt) $ returns ! (look_at ! 0 refl) $ free_all ! refl $ keep ! (0 ∷ 4 ∷ 3 ∷ []) $ by ! exits)))

meets : (E : Types) {M : Type 1} {𝓤 : Ura M} (𝓛 : Logic 𝓤) (𝓣 : Tables 𝓤 𝓛.H) → Meets 𝓛 (ended E).signature (WpFn 𝓤 𝓛.H 𝓣.C 𝓣.Λ (fn' E)) (closing 𝓛 (ended E) (spec E 𝓤))
meets E {𝓤 = 𝓤} 𝓛 𝓣 =
    walk_Meets 𝓛 (ended E) (stayed E) (Goes-none_ref 𝓛 1 (0 ∷ []) tt (plain (λ _. Block E)) yes, tt) (spec E 𝓤) (WpFn 𝓤 𝓛.H 𝓣.C 𝓣.Λ (fn' E)) (WpFn-mono 𝓤 𝓛.H 𝓛.laws 𝓣 (fn' E))
    (walked 𝓛 (ended E) (stayed E) (spec E 𝓤) (WpFn 𝓤 𝓛.H 𝓣.C 𝓣.Λ (fn' E)) (λ κs. (shr_vals, tt)) (λ κs. (shr_Tells (named 0) κs.0 (Block E), tt))
    (λ κs qs bounds a g are. via 𝓤 _ (fst∗ 𝓤 _ (emp 𝓤)) (walk E 𝓛 κs.0 qs.0 a.0.ref_ptr.0 a.0.ref_ptr.1 a.0.now 𝓣.C 𝓣.Λ)))

pub as_ref_spec : {M : Type 1} → statement M
unfolding tables_of
as_ref_spec 𝓤 𝓛 𝓜 𝓡 wired Y Z L LZ g d dd met md y =
    let E : Types = record { value = Y; laws = L; from = record { row = Z; laws = LZ; g = g; d = d; drops = dd } } in
    let A = 𝓛.A in
    let 𝓣 : Tables 𝓤 𝓛.H = tables_of 𝓤 𝓛.H 𝓜 (tables 𝓤 𝓛.H 𝓜 𝓡 𝓡.env) in
    spared 𝓛 (ended E).signature (𝓡.run (𝓡.env (name (args E)))) (run_framed 𝓤 𝓛.H 𝓜 𝓡 (𝓡.env (name (args E)))) 2 (Y.lives, (Z.lives, tt)) (closing 𝓛 (ended E) (spec E 𝓤))
    (entered 𝓤 𝓛.H (triple_of 𝓛 (ended E).signature (closing 𝓛 (ended E) (spec E 𝓤))) 𝓣.C 𝓣.Λ (name (args E)) (fn' E) (code.unfolded 𝓤 𝓛.H 𝓜 𝓡 wired (Y, (Z, tt)) d dd) (meets E 𝓛 𝓣))
    ((y.0.0, y.0.1, tt, y.0.3, y.0.4), y.1)
