-- A block and room for one, at any type of value and any allocator, under short names.
use mathlib.Core.Bool.{Bool, true, false, ◌&&◌}
use mathlib.Core.List.{[], ◌∷◌}
use Prim.Native.Nat.{ℕ}
use lib.Dec.{T, lit<}
use seplogic.Ra.Ura.{Ura}
use mir.Syntax.{Ty, Tys, Args, a_type, ty_ptr, ty_struct, tcons, tnil, dcons, dnil}
use mir.Val.{Val, Vals, vptr, vstruct, vcons, vnil, has_ty, WT}
use mir.Raw.{raw as bare}
use types.Logic.{Logic}
use types.Match.{live}
use denote.RattleType.{RattleType}
use denote.Laws.{Lawful}
use denote.Param.{layout, bounded, param}
use denote.Param.Laws.{Laws, param_laws}
use denote.Struct.Owning.{Owning}
use Rattle.core.proofs.alloc.Calls.{Al, α, Fits}
use Rattle.core.specs.contracts.result.Result as result
use Rattle.lt_page.specs.contracts.block.Block as block
use Rattle.lt_page.specs.contracts.block.Vacant as vacant

-- the type of the value, and the allocator
pub record Types : Type 2 where
  pub value : RattleType
  pub laws : Laws value
  pub from : Al

module _ (E : Types) where
  -- what a call passes for them
  abbrev pub args : Args
  args = bounded (a_type ∷ a_type ∷ []) (E.value, (E.from.row, tt)) (dcons E.from.d (dcons E.from.drops dnil))

  abbrev pub Value : RattleType
  Value = param 0 E.value

  abbrev pub From : RattleType
  From = param 1 E.from.row

  abbrev pub τ : Ty
  τ = layout E.value

  -- the type of the memory of a block
  abbrev pub τ_bare : Ty
  τ_bare = bare τ

  abbrev pub lawful : {M : Type 1} {𝓤 : Ura M} (𝓛 : Logic 𝓤) → Lawful 𝓛 Value
  lawful 𝓛 = (param_laws 0 E.value E.laws).lawful 𝓛

  -- a machine value of the value's type
  abbrev pub Good : Val → Type 0
  Good v = T (has_ty τ v) × WT v

  abbrev pub owning : Owning
  owning = block.the_type Value From E.from.g

  abbrev pub Block : RattleType
  Block = block.the_row Value From E.from.g

  abbrev pub vacant_owning : Owning
  vacant_owning = vacant.the_type Value From E.from.g

  abbrev pub Vacant : RattleType
  Vacant = vacant.the_row Value From E.from.g

  -- what `take` answers
  abbrev pub Taken : RattleType
  Taken = result.the_row Vacant From

  -- the types and the machine values of the two fields: the pointer, and the handle
  abbrev pub field_types : Tys
  field_types = tcons ty_ptr (tcons (α E.from) tnil)

  abbrev pub field_values : Val → ℕ → ℕ → Vals
  field_values handle b o = vcons (vptr b o) (vcons handle vnil)

  abbrev pub word : Val → ℕ → ℕ → Val
  word handle b o = vstruct (field_values handle b o)

  with_true : (b : Bool) → T b → T (b && true)
  with_true true t = tt
  with_true false t = absurd t

  pub block_typed : (handle : Val) (b o : ℕ) → Fits E.from handle → T (has_ty (ty_struct owning.name field_types) (word handle b o)) × WT (word handle b o)
  block_typed handle b o fits = (with_true (has_ty (α E.from) handle) fits.0, (tt, (fits.1, tt)))

  pub vacant_typed : (handle : Val) (b o : ℕ) → Fits E.from handle → T (has_ty (ty_struct vacant_owning.name field_types) (word handle b o)) × WT (word handle b o)
  vacant_typed handle b o fits = (with_true (has_ty (α E.from) handle) fits.0, (tt, (fits.1, tt)))

  -- the two machine values of an answer
  pub ok_typed : (σ : Ty) (v : Val) → T (has_ty σ v) × WT v → T (has_ty σ v && true) × WT (live 0 (vcons v vnil))
  ok_typed σ v good = (with_true (has_ty σ v) good.0, (record { fits = lit< tt }, (good.1, tt)))

  pub err_typed : (σ : Ty) (v : Val) → T (has_ty σ v) × WT v → T (has_ty σ v && true) × WT (live 1 (vcons v vnil))
  err_typed σ v good = (with_true (has_ty σ v) good.0, (record { fits = lit< tt }, (good.1, tt)))
