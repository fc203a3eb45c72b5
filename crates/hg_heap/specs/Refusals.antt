-- Whether an allocation is served, and why not.
use Rattle.std.specs.Prelude.{ℕ, List, Option, Some, None, Result, Ok, Err}
use Rattle.hg_place.specs.declared.standing.Standing.{Standing}
use Rattle.hg_machine.specs.Policy.{Policy}
use Rattle.hg_machine.specs.Request.{alloc_verdict, size_of, words_for}
use Rattle.hg_machine.specs.declared.AllocVerdict.{AllocVerdict}
use Rattle.hg_machine.specs.declared.AllocVerdict.TheVariants as verdict
use Rattle.hg_heap.specs.Charges.{charge_in}
use Rattle.hg_heap.specs.Choice.{chosen_place}
use Rattle.hg_heap.specs.Held.{Held}
use Rattle.hg_heap.specs.declared.refused.Refused.{Refused}
use Rattle.hg_heap.specs.declared.refused.Refused.TheVariants as refused

-- by the verdict, before there is a question of room
abbrev pub refused_by : AllocVerdict → Option Refused
refused_by (verdict.Denied rule) = Some (refused.Denied rule)
refused_by verdict.TooLarge = Some refused.TooLarge
refused_by (verdict.Fits size) = None

-- and where that admits it, by the place of the order of choice
abbrev pub refused_at : Option Refused → Option ℕ → Option Refused
refused_at (Some why) place = Some why
refused_at None None = Some refused.NoRoom
refused_at None (Some place) = None

abbrev pub refusal_of
    : {S : Type 0} → (S → ℕ) → (S → List Standing) → Policy → ℕ → ℕ → ℕ → Held S → Option Refused
refusal_of number records policy actor arena bytes held =
    refused_at
    (refused_by
    (alloc_verdict policy actor arena (words_for bytes) (charge_in records held.segments actor)))
    (chosen_place number records held arena (size_of bytes))

-- what an answer tells of it
abbrev pub err_of : {X : Type 0} → Result X Refused → Option Refused
err_of (Ok value) = None
err_of (Err why) = Some why
