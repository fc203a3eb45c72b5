-- The machine values of a handle, and the steps of its walks.
use Rattle.std.proofs.Common.{◌≡◌, ℕ, zero, suc, ◌^◌, ◌<◌, List, [], ◌∷◌, ◌++◌, refl, ◌∙◌, lit<, w64}
use seplogic.Ra.Ura.{Ura}
use mir.Syntax.{int_big, ty_ptr}
use Rattle.core.proofs.cell.Inside.{Good}
use mir.Val.{Val, Fits, vint, vstruct, vcons, vnil, of_list}
use base.Logic.{ent, emp, via, guard_i}
use base.Fml.{Fml}
use prog.Wp.{Env}
use types.Logic.{Logic, sem}
use types.Kit.{Item}
use types.Run.{Opd}
use denote.RattleType.{RattleType}
use denote.Builtin.{u64, unit}
use denote.Signature.{Slot, plain}
use denote.RawPtr.{Ptr, RawPtr, block_ptr, null_ptr, ptr_val}
use denote.Shadow.{shadow, makes_shadow}
use denote.Struct.Struct.{Struct}
use Rattle.hg_ffi.specs.Owning.{open_mark, bank_mark, part_mark}

-- a struct by its fields alone: what it owns does not read its name
abbrev pub plainly : List RattleType → RattleType
plainly Rs = Struct (record { name = []; args = []; types = []; fields = Rs })

abbrev pub handle_val : Ptr → ℕ → Val
handle_val p n = vstruct (vcons (ptr_val p) (vcons (vint w64 n) vnil))

abbrev pub handle_own : Ptr → ℕ → List Val → Fml
handle_own p n = (plainly (RawPtr ∷ u64 ∷ [])).own_val (p, (n, tt))

pub handle_told : (p : Ptr) (n : ℕ) (vs : List Val) → shadow (handle_own p n vs) → (vs ≡ handle_val p n ∷ []) × (n < 2 ^ 64)
handle_told p n vs s = (s.1.0 ∙ (λ i. vstruct (of_list (s.1.1.0 i ++ (s.1.1.1.0.0 i ++ []))) ∷ []), s.1.1.1.0.1)

pub handle_made : {M : Type 1} {𝓤 : Ura M} (𝓛 : Logic 𝓤) (p : Ptr) (n : ℕ) → (n < 2 ^ 64) → ent 𝓤 (emp 𝓤) (sem 𝓛 (handle_own p n (handle_val p n ∷ [])))
handle_made 𝓛 p n f = makes_shadow 𝓛 (handle_own p n (handle_val p n ∷ [])) (λ _. (tt, (tt, ((tt, tt), tt)))) ((ptr_val p ∷ [], (vint w64 n ∷ [], tt)), (refl, (refl, ((refl, f), tt))))

-- the mark of an open handle, as an operand
pub marked : {M : Type 1} {𝓤 : Ura M} {𝓛 : Logic 𝓤} {K : Type 0} {Γ : List (Item 𝓤)} {E : Env 𝓤 𝓛.H} → Opd K 𝓛 Γ E (int_big w64 open_mark) (vint w64 open_mark)
marked {𝓤 = 𝓤} = record { go = λ Kt h. via 𝓤 (Kt (vint w64 open_mark)) h (guard_i 𝓤 (Fits w64 open_mark) (Kt (vint w64 open_mark)) (record { fits = lit< tt })) }

pub bank_marked : {M : Type 1} {𝓤 : Ura M} {𝓛 : Logic 𝓤} {K : Type 0} {Γ : List (Item 𝓤)} {E : Env 𝓤 𝓛.H} → Opd K 𝓛 Γ E (int_big w64 bank_mark) (vint w64 bank_mark)
bank_marked {𝓤 = 𝓤} = record { go = λ Kt h. via 𝓤 (Kt (vint w64 bank_mark)) h (guard_i 𝓤 (Fits w64 bank_mark) (Kt (vint w64 bank_mark)) (record { fits = lit< tt })) }

pub part_marked : {M : Type 1} {𝓤 : Ura M} {𝓛 : Logic 𝓤} {K : Type 0} {Γ : List (Item 𝓤)} {E : Env 𝓤 𝓛.H} → Opd K 𝓛 Γ E (int_big w64 part_mark) (vint w64 part_mark)
part_marked {𝓤 = 𝓤} = record { go = λ Kt h. via 𝓤 (Kt (vint w64 part_mark)) h (guard_i 𝓤 (Fits w64 part_mark) (Kt (vint w64 part_mark)) (record { fits = lit< tt })) }

abbrev pub slot_at : {n : ℕ} → ℕ → List (Slot n) → Slot n
slot_at k [] = plain (λ _. unit)
slot_at zero (s ∷ ss) = s
slot_at (suc k) (s ∷ ss) = slot_at k ss

pub ptr_typed : (p : Ptr) → Good ty_ptr (ptr_val p)
ptr_typed (block_ptr b o) = (tt, tt)
ptr_typed null_ptr = (tt, record { fits = lit< tt })
