-- What is owned of a block and of room for one, taken apart and put together.
--     value_out, value_in, value_room    the value in memory is a cell and what the value owns; and it is let go
--     vacant_out, vacant_in              room by value: [the room; the leave; the handle]
--     block_out, block_in                a block by value: [the value; the leave; the handle]
use mathlib.Core.Path.{◌≡◌, refl, sym, ap, subst}
use Prim.Native.Nat.{ℕ}
use mathlib.Core.List.{List, [], ◌∷◌, ◌++◌}
use seplogic.Ra.Ura.{Ura}
use base.Fraction.{full_share}
use base.Logic.{ent, sep, fst∗, never}
use base.Fml.{ftrue, fat, froom}
use mir.Val.{Val, vptr, vstruct, of_list}
use types.Logic.{Logic, sem}
use types.Kit.{Goal, Step, step, Seq, Item, ‵, ◌⊛◌, some, ◌$◌, ◌∵◌, !, qed, by, move, keep, drop, use1, pick, split, rewrite, fsplit, fjoin, fpick, fpack, feq_l, feq_i}
use denote.RattleType.{Valss}
use denote.Memory.{part_at}
use denote.RawPtr.{Ptr, RawPtr, block_ptr, ptr_val, in_a_block, null_ptr}
use denote.Steps.{nothing}
use denote.Struct.Struct.{within}
use denote.Struct.Owning.{shape}
use borrow.Table.OneValue.{part_out, part_in}
use Rattle.core.proofs.alloc.Calls.{token, Fits, handle_tells}
use Rattle.lt_page.specs.Block.{room_owns, block_owns}
use Rattle.lt_page.proofs.BlockForm.{Types, Value, From, τ, τ_bare, Good, Block, owning, Vacant, vacant_owning, word}

module _ (E : Types) {M : Type 1} {𝓤 : Ura M} (𝓛 : Logic 𝓤) (x : E.value.Denot) (b o : ℕ) where
  open 𝓛 use {H}

  pub value_in : (v : Val) → ent 𝓤 (sep 𝓤 (H.at full_share (τ E) b o v) (sem 𝓛 (E.value.own_val x (v ∷ [])))) (sem 𝓛 (part_at (Value E) full_share x b o))
  value_in v = part_in 𝓛 (Value E) refl full_share x b o v

  pub value_room : ent 𝓤 (sem 𝓛 (part_at (Value E) full_share x b o)) (H.room (τ E) b o)
  value_room = qed 𝓛 (‵ (part_at (Value E) full_share x b o) ∷ []) ∵
      use1 𝓛 (some (λ (v : Val). ‵ (fat full_share (τ E) b o v) ⊛ ‵ (E.value.own_val x (v ∷ [])))) (part_out 𝓛 (Value E) refl full_share x b o) $
      pick ! (λ v. split ! $ keep ! (0 ∷ []) $ by ! (𝓛.laws.at_room (τ E) b o v))

-- the machine value of a struct of a pointer and a handle
word_is : {vs : List Val} {p : Ptr} {ps hs : List Val} {handle : Val} (b o : ℕ) → vs ≡ vstruct (of_list (ps ++ (hs ++ []))) ∷ [] → ps ≡ ptr_val p ∷ [] → hs ≡ handle ∷ [] → p ≡ block_ptr b o
    → vs ≡ vstruct (of_list (ptr_val (block_ptr b o) ∷ handle ∷ [])) ∷ []
word_is {vs} {p} {ps} {hs} {handle} b o whole pointer one at =
    subst (λ (q : Ptr). vs ≡ vstruct (of_list (ptr_val q ∷ handle ∷ [])) ∷ []) at
    (subst (λ (ws : List Val). vs ≡ vstruct (of_list (ptr_val p ∷ (ws ++ []))) ∷ []) one (subst (λ (ws : List Val). vs ≡ vstruct (of_list (ws ++ (hs ++ []))) ∷ []) pointer whole))

module _ (E : Types) {M : Type 1} {𝓤 : Ura M} {𝓛 : Logic 𝓤} {K : Type 0} {Γ : List (Item 𝓤)} {G : Goal 𝓤 𝓛.H} where
  -- what is owned of a value is one machine value, of its type
  pub value_tells : K → (x : E.value.Denot) (vs : List Val) → ((v : Val) → vs ≡ v ∷ [] → Good E v → Seq K 𝓛 (‵ (E.value.own_val x (v ∷ [])) ∷ Γ) G) → Seq K 𝓛 (‵ (E.value.own_val x vs) ∷ Γ) G
  value_tells = handle_tells (record { row = E.value; laws = E.laws; g = record { dealloc_token = λ a σ p. ftrue }; d = E.from.d; drops = E.from.drops })

  pub vacant_out : K → (d : (Vacant E).Denot) (vs : List Val)
      → ((b o : ℕ) (handle : Val) → d.at ≡ block_ptr b o → vs ≡ word E handle b o ∷ [] → Fits E.from handle
      → Seq K 𝓛 (‵ (froom (τ_bare E) b o) ∷ ‵ (token E.from d.alloc (τ_bare E) (block_ptr b o)) ∷ ‵ ((From E).own_val d.alloc (handle ∷ [])) ∷ Γ) G)
      → Seq K 𝓛 (‵ ((Vacant E).own_val d vs) ∷ Γ) G
  vacant_out t d vs next =
      fsplit t $ fpick t (λ parts. fsplit t $ feq_l t (λ whole. fsplit t $ feq_l t (λ pointer. fsplit t $ handle_tells E.from t d.alloc parts.1.0 (λ handle one fits.
      move t (1 ∷ []) $ drop t $ move t (1 ∷ []) $
      in_a_block t d.at (room_owns (token E.from d.alloc) (Value E)) (fst∗ 𝓤 (never 𝓤) (sem 𝓛 (token E.from d.alloc (τ_bare E) null_ptr))) (λ b o at.
      fsplit t $ next b o handle at (word_is b o whole pointer one at) fits)))))

  pub vacant_in : K → {handle : Val} (a : E.from.row.Denot) (b o : ℕ)
      → Step K 𝓛 (‵ ((Vacant E).own_val (record { at = block_ptr b o; alloc = a }) (word E handle b o ∷ [])) ∷ Γ) G (‵ (froom (τ_bare E) b o) ∷ ‵ (token E.from a (τ_bare E) (block_ptr b o)) ∷ ‵ ((From E).own_val a (handle ∷ [])) ∷ Γ) G
  vacant_in t {handle} a b o = step (λ s.
      fjoin t $ nothing t $ move t (2 ∷ 0 ∷ []) $ fjoin t $ feq_i t (List Val) (vptr b o ∷ []) (vptr b o ∷ []) refl $ fjoin t $
      feq_i t (List Val) (word E handle b o ∷ []) (word E handle b o ∷ []) refl $ fjoin t $
      fpack t (Valss (RawPtr ∷ From E ∷ [])) (within (shape (vacant_owning E)) (block_ptr b o, (a, tt)) (word E handle b o ∷ [])) (vptr b o ∷ [], (handle ∷ [], tt)) $ fjoin t $ s)

  pub block_out : K → (d : (Block E).Denot) (vs : List Val)
      → ((b o : ℕ) (handle : Val) → d.at ≡ block_ptr b o → vs ≡ word E handle b o ∷ [] → Fits E.from handle
      → Seq K 𝓛 (‵ (part_at (Value E) full_share d.value b o) ∷ ‵ (token E.from d.alloc (τ_bare E) (block_ptr b o)) ∷ ‵ ((From E).own_val d.alloc (handle ∷ [])) ∷ Γ) G)
      → Seq K 𝓛 (‵ ((Block E).own_val d vs) ∷ Γ) G
  block_out t d vs next =
      fsplit t $ fpick t (λ parts. fsplit t $ feq_l t (λ whole. fsplit t $ feq_l t (λ pointer. fsplit t $ handle_tells E.from t d.alloc parts.1.0 (λ handle one fits.
      move t (1 ∷ []) $ drop t $ move t (1 ∷ []) $
      in_a_block t d.at (λ p. block_owns (token E.from d.alloc) (Value E) p d.value) (fst∗ 𝓤 (never 𝓤) (sem 𝓛 (token E.from d.alloc (τ_bare E) null_ptr))) (λ b o at.
      fsplit t $ next b o handle at (word_is b o whole pointer one at) fits)))))

  pub block_in : K → {handle : Val} (d : (Block E).Denot) (b o : ℕ) (x : E.value.Denot) → d.at ≡ block_ptr b o → d.value ≡ x
      → Step K 𝓛 (‵ ((Block E).own_val d (word E handle b o ∷ [])) ∷ Γ) G (‵ (part_at (Value E) full_share x b o) ∷ ‵ (token E.from d.alloc (τ_bare E) (block_ptr b o)) ∷ ‵ ((From E).own_val d.alloc (handle ∷ [])) ∷ Γ) G
  block_in t {handle} d b o x at is = step (λ s.
      fjoin t $ rewrite t 0 (λ (y : E.value.Denot). ‵ (block_owns (token E.from d.alloc) (Value E) (block_ptr b o) y)) (sym is) refl $
      rewrite t 0 (λ (p : Ptr). ‵ (block_owns (token E.from d.alloc) (Value E) p d.value)) (sym at) refl $
      nothing t $ move t (2 ∷ 0 ∷ []) $ fjoin t $ feq_i t (List Val) (vptr b o ∷ []) (ptr_val d.at ∷ []) (ap (λ (p : Ptr). ptr_val p ∷ []) (sym at)) $ fjoin t $
      feq_i t (List Val) (word E handle b o ∷ []) (word E handle b o ∷ []) refl $ fjoin t $
      fpack t (Valss (RawPtr ∷ From E ∷ [])) (within (shape (owning E)) (d.at, (d.alloc, tt)) (word E handle b o ∷ [])) (vptr b o ∷ [], (handle ∷ [], tt)) $ fjoin t $ s)
