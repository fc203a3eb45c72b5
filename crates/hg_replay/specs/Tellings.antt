-- What a line came to.
use Rattle.std.specs.Prelude.{◌≡◌}
use Rattle.hg_place.specs.declared.Actor.{Actor}
use Rattle.hg_machine.specs.Lists.{Kept}
use Rattle.hg_choice.specs.ChosenSteps.{ChosenStep}
use Rattle.hg_trace.specs.declared.line.Line.{Line}
use Rattle.hg_replay.specs.declared.replaying.events.Meaning.TheVariants as meaning
use Rattle.hg_replay.specs.declared.replaying.told.Told.{Told}
use Rattle.hg_replay.specs.declared.replaying.told.Told.TheVariants as told
use Rattle.hg_replay.specs.Replays.{Progress, meaning_at}

-- where this is what a line came to, this is what it means here; and its event, if it means one,
-- was answered so, with its choices, which leaves this
abbrev pub IsTold : Progress → Line → Told → Kept → Type 0
IsTold from line (told.One event answer) end =
    (meaning_at from line ≡ meaning.One event)
    × ChosenStep from.kept line.worker event answer end
IsTold from line told.Listing end =
    (actor : Actor) × (meaning_at from line ≡ meaning.Listing actor)
IsTold from line told.Unbound end = meaning_at from line ≡ meaning.Unbound
