-- What the lines so far have done with places and labels.
use Rattle.std.specs.Prelude.{ℕ, ◌*◌, Bool, true, false, List, [], ◌∷◌, ◌++◌, length, Some}
use Rattle.std.specs.Prelude.{replicate, slice_set, slice_index_or, if◌then◌else◌}
use Rattle.hg_place.specs.declared.geometry.TheConstants.{SEGMENT_PLACES}
use Rattle.hg_place.specs.Places.{number_of}
use Rattle.hg_machine.specs.Policy.{Policy}
use Rattle.hg_machine.specs.declared.Answer.{Answer}
use Rattle.hg_machine.specs.declared.Answer.TheVariants as answer
use Rattle.hg_machine.specs.declared.Event.{Event}
use Rattle.hg_machine.specs.declared.Event.TheVariants as event
use Rattle.hg_trace.specs.declared.line.Command.{Command}
use Rattle.hg_trace.specs.declared.line.Command.TheVariants as command
use Rattle.hg_replay.specs.declared.replaying.told.Told.{Told}
use Rattle.hg_replay.specs.declared.replaying.told.Told.TheVariants as told
use Rattle.hg_reasons.specs.Counts.{counted}
use Rattle.hg_reasons.specs.declared.counts.Outcome.{Outcome}
use Rattle.hg_reasons.specs.declared.past.Life.{Life}
use Rattle.hg_reasons.specs.declared.past.Bound.{Bound}

-- by place the tenant that was given a block there last, and the line that freed it, 0 where none
-- did; by label its line, and what its allocation was answered; and what each line came to, as it is
-- counted
pub record Past : Type 0 where
  pub lives : List Life
  pub labels : List Bound
  pub lines : List Outcome

abbrev pub no_life : Life
no_life = record { owner = 255; freed = 0 }

abbrev pub life_at : Past → ℕ → Life
life_at past place = slice_index_or past.lives place no_life

-- no block was given out yet
abbrev pub no_past : Policy → Past
no_past policy = record {
  lives = replicate (length policy.segments * SEGMENT_PLACES) no_life;
  labels = [];
  lines = [];
}

-- a tenant is given a block at a place, by this answer
abbrev pub given : List Life → ℕ → Answer → List Life
given lives tenant (answer.Block handle) =
    slice_set lives (number_of handle.place) (record { owner = tenant; freed = 0 })
given lives tenant _ = lives

-- whether a free was served by this answer
abbrev pub is_freed : Answer → Bool
is_freed answer.Done = true
is_freed answer.Parted = true
is_freed _ = false

-- the line of this number frees the block of a place
abbrev pub freed_by : List Life → ℕ → ℕ → List Life
freed_by lives place number =
    slice_set lives place (record (slice_index_or lives place no_life) { freed = number })

-- the lives after the event of a line of this number was answered so, and after it came to this
abbrev pub lives_of : List Life → ℕ → Event → Answer → List Life
lives_of lives number (event.Alloc actor arena bytes) a = given lives actor.0 a
lives_of lives number (event.Free actor handle) a =
    if is_freed a then freed_by lives (number_of handle.place) number else lives
lives_of lives number _ a = lives

abbrev pub lives_after : List Life → ℕ → Told → List Life
lives_after lives number (told.One event answer) = lives_of lives number event answer
lives_after lives number _ = lives

-- a line that gives a label notes what it was answered
abbrev pub labels_after : List Bound → ℕ → Command → Told → List Bound
labels_after labels number (command.Alloc actor arena bytes (Some label)) (told.One event answer) =
    labels ++ record { line = number; answer = answer } ∷ []
labels_after labels number _ _ = labels

abbrev pub past_after : Past → ℕ → Command → Told → Past
past_after past number command told = record {
  lives = lives_after past.lives number told;
  labels = labels_after past.labels number command told;
  lines = past.lines ++ counted told ∷ [];
}
