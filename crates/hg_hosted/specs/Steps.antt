-- What a worker does by an event.
use Rattle.hg_machine.specs.declared.Answer.{Answer}
use Rattle.hg_machine.specs.declared.Event.{Event}
use Rattle.hg_machine.specs.declared.Event.TheVariants as event
use Rattle.hg_worker.specs.declared.state.WorkerState.{WorkerState}
use Rattle.hg_hosted.specs.Behind.{GivesUp, Sends, TakesIn, TakesOne}
use Rattle.hg_hosted.specs.Calls.{Allocates, Collects, Frees, LooksAt, Reads, Writes}

-- what the call of its name does
abbrev pub Does : Event → Answer → WorkerState → WorkerState → Type 0
Does (event.Alloc actor arena bytes) answer = Allocates actor arena bytes answer
Does (event.Free actor handle) answer = Frees actor handle answer
Does event.Deliver answer = Sends answer
Does (event.Take segment) answer = TakesIn segment answer
Does event.Collect answer = Collects answer
Does (event.Read actor handle index) answer = Reads actor handle index answer
Does (event.Write actor handle index value) answer = Writes actor handle index value answer
Does (event.Look actor place) answer = LooksAt actor place answer
Does (event.Abandon segment) answer = GivesUp segment answer
Does (event.Refill arena) answer = TakesOne arena answer
