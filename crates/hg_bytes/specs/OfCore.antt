-- What reads and writes words of a core's blocks.
use Rattle.std.specs.Prelude.{ℕ, ◌<◌}
use Rattle.hg_machine.specs.Lists.{Kept}
use Rattle.hg_machine.specs.declared.Answer.{Answer}
use Rattle.hg_machine.specs.declared.Event.TheVariants as event
use Rattle.hg_choice.specs.ChosenSteps.{ChosenStep}
use Rattle.hg_bytes.specs.declared.of_core.CoreBlock.{CoreBlock}

-- the worker is one of the policy's
abbrev pub core_has : CoreBlock → Kept → Type 0
core_has by core = by.worker < core.state.policy.workers

abbrev pub core_reads : CoreBlock → ℕ → Answer → Kept → Kept → Type 0
core_reads by index said old new =
    ChosenStep old by.worker (event.Read by.actor by.handle index) said new

abbrev pub core_writes : CoreBlock → ℕ → ℕ → Answer → Kept → Kept → Type 0
core_writes by index value said old new =
    ChosenStep old by.worker (event.Write by.actor by.handle index value) said new
