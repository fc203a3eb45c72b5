-- The events of a core, as steps with their choices.
use Rattle.std.specs.Prelude.{ℕ}
use Rattle.hg_machine.specs.declared.Event.{Event}
use Rattle.hg_machine.specs.declared.Answer.{Answer}
use Rattle.hg_agreement.specs.Parts.{kept_of}
use Rattle.hg_choice.specs.ChosenSteps.{ChosenStep}
use Rattle.hg_events.specs.Core.{Core, parts_of}

-- the worker's event and this answer are such a step, from what the one core is seen as to what the
-- other is
abbrev pub IsChosenBy : Core → ℕ → Event → Answer → Core → Type 0
IsChosenBy core worker event answer new =
    ChosenStep (kept_of (parts_of core)) worker event answer (kept_of (parts_of new))
