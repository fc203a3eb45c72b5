-- Laws of listings and of replays.
use Rattle.std.specs.Prelude.{◌≡◌, ℕ, List, [], ◌∷◌, ◌++◌, Option, Some, None, map, filter}
use Rattle.std.specs.Prelude.{filter_map, flat_map, All, Contains, ◌<◌, ◌≤◌, ◌+◌, true, length}
use Rattle.std.specs.Io.KnownBytes.{Appends}
use Rattle.hg_place.specs.declared.Actor.{Actor}
use Rattle.hg_place.specs.declared.Handle.{Handle}
use Rattle.hg_machine.specs.Policy.{Policy}
use Rattle.hg_machine.specs.State.{State}
use Rattle.hg_machine.specs.Lists.{Kept}
use Rattle.hg_machine.specs.Steps.{Run}
use Rattle.hg_machine.specs.Soundness.{IsSound}
use Rattle.hg_machine.specs.Listing.{line_of, listing}
use Rattle.hg_machine.specs.declared.Event.{Event}
use Rattle.hg_machine.specs.declared.Row.{Row}
use Rattle.hg_machine.specs.declared.Answer.{Answer}
use Rattle.hg_machine.specs.declared.Answer.TheVariants as answer
use Rattle.hg_choice.specs.ChosenSteps.{Chosen}
use Rattle.hg_trace.specs.declared.line.Command.TheVariants as command
use Rattle.hg_trace.specs.declared.line.Line.{Line}
use Rattle.hg_replay.specs.Events.{actor_of, events_of, unknown_worker}
use Rattle.hg_replay.specs.Listings.{looks}
use Rattle.hg_replay.specs.Rows.{is_row}
use Rattle.hg_replay.specs.Text.{listing_text, reply_text}
use Rattle.hg_replay.specs.Replays.{Progress, Answered, Replays, handles_after, meaning_at}
use Rattle.hg_replay.specs.Replays.{StopsAt, starting}
use Rattle.hg_replay.specs.Sinks.{Seen}
use Rattle.hg_replay.specs.declared.replaying.output.TheConstants.{ROOM}

-- the row that an answer is
abbrev pub row_of : Answer → Option Row
row_of (answer.Listed row) = Some row
row_of _ = None

-- the rows among answers, in their order
abbrev pub rows_in : List Answer → List Row
rows_in answers = filter_map row_of answers

-- the Looks of a listing change nothing. The rows among their answers are the machine's listing,
-- and they alone are what a listing writes
abbrev pub ListingsShowWhatIsListed : Type 0
ListingsShowWhatIsListed =
    (s : State) (worker : ℕ) (actor : Actor) (answers : List Answer) (end : State)
    → IsSound s → Run s (looks s worker actor) answers end
    → (end ≡ s) × (map line_of (rows_in answers) ≡ listing s worker actor.0)
    × (filter is_row answers ≡ map answer.Listed (rows_in answers))

-- a line that lists leaves all as it was, and writes the machine's listing: the lines of its rows,
-- and their number
abbrev pub ListLinesPrintListings : Type 0
ListLinesPrintListings =
    (from end : Progress) (line : Line) (name : List ℕ) (text : List ℕ)
    → IsSound from.kept.state → line.command ≡ command.List name → Answered from line end text
    → (end ≡ from) × (rows : List Row)
    × (map line_of rows
    ≡ listing from.kept.state line.worker (actor_of from.kept.state.policy name).0)
    × (text ≡ listing_text from.kept.state.policy (map answer.Listed rows))

-- a line of a replay, where the replay stood at it, and what it was answered
pub record Told : Type 0 where
  pub line : Line
  pub at : Progress
  pub answers : List Answer

-- the events of lines, of each what it means where the replay stood, one after another; all
-- answers, and the text of these
abbrev pub all_events : List Told → List (ℕ × Event)
all_events told =
    flat_map (λ t. events_of t.at.kept.state t.line.worker (meaning_at t.at t.line)) told

abbrev pub all_answers : List Told → List Answer
all_answers told = flat_map (λ t. t.answers) told

abbrev pub all_text : Policy → List Told → List ℕ
all_text policy told = flat_map (λ t. reply_text policy (meaning_at t.at t.line) t.answers) told

-- each line that gives a label binds it to what its allocation was answered
abbrev pub all_handles : List (Option Handle) → List Told → List (Option Handle)
all_handles handles [] = handles
all_handles handles (t ∷ told) =
    all_handles (handles_after handles t.line.command t.answers) told

-- the events of these lines are one run of the machine, and with its choices it leads here, with
-- their labels
pub record LeadsTo (from : Progress) (told : List Told) (end : Progress) : Type 0 where
  pub run : Run from.kept.state (all_events told) (all_answers told) end.kept.state
  pub chosen : Chosen from.kept (all_events told) (all_answers told) end.kept
  pub handles : end.handles ≡ all_handles from.handles told

-- at each line the replay stands where the lines before it lead
abbrev pub StandsWhereLed : Progress → List Told → Type 0
StandsWhereLed from told =
    (before : List Told) (t : Told) (after : List Told) → told ≡ before ++ t ∷ after
    → LeadsTo from before t.at

-- the workers of lines
abbrev pub workers_of : List Line → List ℕ
workers_of lines = map (λ line. line.worker) lines

-- a replay is one run of the machine: the events of all lines, each line's what it means where the
-- lines before it lead, are answered as in a run with its choices, and the text is that of its
-- answers. Each event is of a line's worker
abbrev pub ReplaysAreRuns : Type 0
ReplaysAreRuns =
    (from end : Progress) (lines : List Line) (text : List ℕ) → Replays from lines end text
    → (told : List Told) × (map (λ t. t.line) told ≡ lines)
    × LeadsTo from told end × StandsWhereLed from told
    × (text ≡ all_text from.kept.state.policy told)
    × All (λ event. Contains (workers_of lines) event.0) (all_events told)

-- it leaves the policy as it was
abbrev pub ReplaysKeepPolicy : Type 0
ReplaysKeepPolicy =
    (from end : Progress) (lines : List Line) (text : List ℕ) → Replays from lines end text
    → end.kept.state.policy ≡ from.kept.state.policy

-- and a sound state sound, where no line's worker is unknown
abbrev pub ReplaysKeepSound : Type 0
ReplaysKeepSound =
    (from end : Progress) (lines : List Line) (text : List ℕ)
    → IsSound from.kept.state → unknown_worker from.kept.state.policy.workers lines ≡ None
    → Replays from lines end text → IsSound end.kept.state

-- a replay of all lines begins as one of first lines of them: the run of these leads where the one
-- replay stands, the run of all goes on from there, and the text of each is that of its answers
pub record BeginsAlike (from mid end : Progress) (before after : List Line) (text all : List ℕ)
    : Type 0 where
  pub told : List Told
  pub more : List Told
  pub first : map (λ t. t.line) told ≡ before
  pub later : map (λ t. t.line) more ≡ after
  pub leads : LeadsTo from told mid
  pub whole : LeadsTo from (told ++ more) end
  pub stands : StandsWhereLed from (told ++ more)
  pub prints : text ≡ all_text from.kept.state.policy told
  pub prints_all : all ≡ all_text from.kept.state.policy (told ++ more)

-- so whatever first lines are answered, their answers are the first of the run of all, and their
-- text is the first of its text
abbrev pub FirstLinesBeginRuns : Type 0
FirstLinesBeginRuns =
    (from mid end : Progress) (before after : List Line) (text all : List ℕ)
    → Replays from before mid text → Replays from (before ++ after) end all
    → BeginsAlike from mid end before after text all

-- a replay of lines stopped in the run of all of them: it stands where the first entries and one
-- more lead. The known bytes have grown by a front of the text of these and not all of it, since a
-- write stopped, and what isn't written of the text of the first fits into the room
pub record StopsInRun (k : Kept) (lines : List Line) (end last : Progress) (old new : Seen)
    (all : List ℕ) : Type 0 where
  pub told : List Told
  pub here : Told
  pub more : List Told
  pub whole : map (λ t. t.line) (told ++ here ∷ more) ≡ lines
  pub leads : LeadsTo (starting k) (told ++ here ∷ []) end
  pub leads_on : LeadsTo (starting k) (told ++ here ∷ more) last
  pub stands : StandsWhereLed (starting k) (told ++ here ∷ more)
  pub prints : all ≡ all_text k.state.policy (told ++ here ∷ more)
  pub front : List ℕ
  pub rest : List ℕ
  pub split :
      all_text k.state.policy told ++ all_text k.state.policy (here ∷ []) ≡ front ++ rest
  pub not_all : 0 < length rest
  pub written : Appends old.contents new.contents front
  pub stopped : new.has_stopped ≡ true
  pub waited : length (all_text k.state.policy told) ≤ length front + ROOM

-- so does each replay that stopped: the lines that it answered are the first of the run of all
abbrev pub StopsAreInRuns : Type 0
StopsAreInRuns =
    (k : Kept) (lines : List Line) (end last : Progress) (old new : Seen) (all : List ℕ)
    → StopsAt k lines end old new → Replays (starting k) lines last all
    → StopsInRun k lines end last old new all
