-- Each side is answered as if the others did nothing.
use Rattle.std.specs.Prelude.{◌≡◌, ℕ, ◌*◌, List, [], length, replicate}
use Rattle.hg_place.specs.declared.geometry.TheConstants.{SEGMENT_PAGES}
use Rattle.hg_machine.specs.declared.Event.{Event}
use Rattle.hg_machine.specs.declared.Answer.{Answer}
use Rattle.hg_machine.specs.Policy.{Policy}
use Rattle.hg_machine.specs.State.{opening}
use Rattle.hg_machine.specs.Lists.{Kept}
use Rattle.hg_choice.specs.ChosenSteps.{Chosen}
use Rattle.hg_purge.specs.Sides.{Sides, AreApart, purged, answers_of}

-- what is kept where a run begins: the opening state of the policy, an empty list for each page and
-- each segment, and these queues
abbrev pub beginning : Policy → List (List (List ℕ)) → Kept
beginning policy queues = record {
  state = opening policy;
  lists = record {
    free = replicate (length policy.segments * SEGMENT_PAGES) [];
    local_free = replicate (length policy.segments * SEGMENT_PAGES) [];
    thread_free = replicate (length policy.segments * SEGMENT_PAGES) [];
    delayed = replicate (length policy.segments) [];
  };
  queues = queues;
}

-- where each event names only what is of its worker's side, a side's answers are those of a run of
-- its own events alone
abbrev pub SidesAreAnsweredAlone : Type 0
SidesAreAnsweredAlone =
    (sides : Sides) (policy : Policy) (queues : List (List (List ℕ))) (events : List (ℕ × Event))
    (answers given : List Answer) (new last : Kept) (side : ℕ)
    → AreApart sides policy events
    → Chosen (beginning policy queues) events answers new
    → Chosen (beginning policy queues) (purged sides side events) given last
    → given ≡ answers_of sides side events answers

-- and there is such a run
abbrev pub PurgedRunsAreRuns : Type 0
PurgedRunsAreRuns =
    (sides : Sides) (policy : Policy) (queues : List (List (List ℕ))) (events : List (ℕ × Event))
    (answers : List Answer) (new : Kept) (side : ℕ)
    → AreApart sides policy events
    → Chosen (beginning policy queues) events answers new
    → (last : Kept)
    × Chosen (beginning policy queues) (purged sides side events)
    (answers_of sides side events answers) last

-- so whatever the others do, a side is answered the same: in two runs with the same events of its
-- own, whose other events may differ in each way
abbrev pub OthersDoNotShow : Type 0
OthersDoNotShow =
    (sides : Sides) (policy : Policy) (queues : List (List (List ℕ)))
    (events others : List (ℕ × Event)) (answers given : List Answer) (new last : Kept) (side : ℕ)
    → AreApart sides policy events → AreApart sides policy others
    → purged sides side others ≡ purged sides side events
    → Chosen (beginning policy queues) events answers new
    → Chosen (beginning policy queues) others given last
    → answers_of sides side others given ≡ answers_of sides side events answers
