-- A call that concerns a worker and the pool at once is what a step owes of two seats that were
-- joined.
use Rattle.std.specs.Prelude.{◌≡◌, ℕ, ◌<◌, ◌==◌, ◌&&◌, ◌||◌, true, not, List, [], ◌∷◌, ◌++◌, length}
use Rattle.std.specs.Prelude.{Option, Some, None, find, filter, if◌then◌else◌}
use Rattle.std.specs.List.{range_with_len}
use Rattle.std.specs.Option.{option_or}
use Rattle.hg_place.specs.Places.{segment_of, segment_of_page}
use Rattle.hg_machine.specs.declared.Event.TheVariants as event
use Rattle.hg_machine.specs.declared.Answer.TheVariants as answer
use Rattle.hg_machine.specs.Policy.{Policy, arena_of}
use Rattle.hg_machine.specs.Holders.{is_number}
use Rattle.hg_agreement.specs.Views.{View}
use Rattle.hg_history.specs.Steps.{Decides}
use Rattle.hg_roles.specs.Roles.{Call, Pooled, Role, of_pool}
use Rattle.hg_roles.specs.Served.{running}
use Rattle.hg_roles.specs.Joined.{IsSeatWith, both_called}

-- the worker holds the segment no more; it is the last orphan, with all that the worker had of it
abbrev pub let_go : View → ℕ → View
let_go view segment =
    record view { holds = λ other. not (other == segment) && view.holds other }

abbrev pub put_back : Pooled → View → ℕ → Pooled
put_back p view segment = record {
  orphans = p.orphans ++ segment ∷ [];
  fresh = p.fresh;
  class = λ page. if segment_of_page page == segment then view.class page else p.class page;
  standing = λ place. if segment_of place == segment then view.standing place else p.standing place;
  block = λ place. if segment_of place == segment then view.block place else p.block place;
}

-- the segment that a refill takes: the oldest orphan of the arena, else its lowest fresh segment
abbrev pub next_in : Policy → ℕ → Pooled → Option ℕ
next_in policy arena p =
    option_or
    (find (λ segment. is_number arena (arena_of policy segment)) p.orphans)
    (find (λ segment. is_number arena (arena_of policy segment) && p.fresh segment)
    (range_with_len 0 (length policy.segments)))

-- the worker holds it, with all that the pool had of it; it is neither orphan nor fresh any more
abbrev pub taken_up : View → Pooled → ℕ → View
taken_up view p segment = record view {
  holds = λ other. other == segment || view.holds other;
  class = λ page. if segment_of_page page == segment then p.class page else view.class page;
  standing = λ place. if segment_of place == segment then p.standing place else view.standing place;
  block = λ place. if segment_of place == segment then p.block place else view.block place;
}

abbrev pub without : Pooled → ℕ → Pooled
without p segment = record p {
  orphans = filter (λ other. not (other == segment)) p.orphans;
  fresh = λ other. not (other == segment) && p.fresh other;
}

-- an Abandon of a segment that the worker holds
abbrev pub AbandonsDecide : Type 0
AbandonsDecide =
    (policy : Policy) (words : List ℕ) (parts : List Role) (log : List Call)
    (before : View) (p : Pooled) (segment : ℕ)
    → IsSeatWith before log (of_pool p) parts
    → before.worker < policy.workers → before.holds segment ≡ true
    → Decides (running policy)
    ((before.worker, (event.Abandon segment, answer.Done)) ∷ []) words words parts
    (both_called (let_go before segment) (of_pool (put_back p before segment))
    (event.Abandon segment, answer.Done))

-- a Refill that finds a segment
abbrev pub RefillsDecide : Type 0
RefillsDecide =
    (policy : Policy) (words : List ℕ) (parts : List Role) (log : List Call)
    (before : View) (p : Pooled) (arena segment : ℕ)
    → IsSeatWith before log (of_pool p) parts
    → before.worker < policy.workers → next_in policy arena p ≡ Some segment
    → Decides (running policy)
    ((before.worker, (event.Refill arena, answer.Refilled segment)) ∷ []) words words parts
    (both_called (taken_up before p segment) (of_pool (without p segment))
    (event.Refill arena, answer.Refilled segment))

-- and one that finds none, which changes nothing
abbrev pub EmptyRefillsDecide : Type 0
EmptyRefillsDecide =
    (policy : Policy) (words : List ℕ) (parts : List Role) (log : List Call)
    (before : View) (p : Pooled) (arena : ℕ)
    → IsSeatWith before log (of_pool p) parts
    → before.worker < policy.workers → next_in policy arena p ≡ None
    → Decides (running policy)
    ((before.worker, (event.Refill arena, answer.NoSegment)) ∷ []) words words parts
    (both_called before (of_pool p) (event.Refill arena, answer.NoSegment))
