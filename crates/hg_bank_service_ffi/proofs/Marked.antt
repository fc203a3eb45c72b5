-- The mark of an open part, as an operand.
use Rattle.std.proofs.Common.{List, lit<, w64}
use seplogic.Ra.Ura.{Ura}
use mir.Syntax.{int_big}
use mir.Val.{Fits, vint}
use base.Logic.{via, guard_i}
use prog.Wp.{Env}
use types.Logic.{Logic}
use types.Kit.{Item}
use types.Run.{Opd}
use Rattle.hg_bank_service_ffi.specs.Owning.{bank_part_mark}

pub bank_part_marked : {M : Type 1} {𝓤 : Ura M} {𝓛 : Logic 𝓤} {K : Type 0} {Γ : List (Item 𝓤)} {E : Env 𝓤 𝓛.H} → Opd K 𝓛 Γ E (int_big w64 bank_part_mark) (vint w64 bank_part_mark)
bank_part_marked {𝓤 = 𝓤} = record { go = λ Kt h. via 𝓤 (Kt (vint w64 bank_part_mark)) h (guard_i 𝓤 (Fits w64 bank_part_mark) (Kt (vint w64 bank_part_mark)) (record { fits = lit< tt })) }
