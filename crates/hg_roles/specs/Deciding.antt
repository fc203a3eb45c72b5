-- A tied call of a worker is what its deciding step owes.
use Rattle.std.specs.Prelude.{◌≡◌, ◌⊎◌, ℕ, ◌+◌, ◌<◌, Bool, true, false, List, [], ◌∷◌, ◌++◌, Some}
use Rattle.std.specs.Prelude.{None, slice_index, slice_set}
use Rattle.hg_machine.specs.declared.Event.{Event}
use Rattle.hg_machine.specs.declared.Event.TheVariants as event
use Rattle.hg_machine.specs.declared.Answer.{Answer}
use Rattle.hg_machine.specs.Policy.{Policy}
use Rattle.hg_machine.specs.Refusal.{refusal}
use Rattle.hg_machine.specs.State.{State}
use Rattle.hg_agreement.specs.Views.{View}
use Rattle.hg_agreement.specs.Agreement.{Agrees, Ties}
use Rattle.hg_frame.specs.SlotWords.{changes_word}
use Rattle.hg_history.specs.Service.{IsIn}
use Rattle.hg_history.specs.Steps.{Decides}
use Rattle.hg_roles.specs.Roles.{Call, Role, of_worker, of_segment}
use Rattle.hg_roles.specs.Served.{running, places_of_policy}

-- the worker decides it alone: it moves nothing that is sent, and no segment
abbrev pub is_own : Event → Bool
is_own event.Deliver = false
is_own (event.Take segment) = false
is_own (event.Abandon segment) = false
is_own (event.Refill arena) = false
is_own other = true

-- a worker's part after a call has this view, and the call in its log; other parts stay
abbrev pub called : View → Call → Role → Role
called after call (of_worker view log) = of_worker after (log ++ call ∷ [])
called after call role = role

-- the seat of a worker, by itself or joined with seats of segments
pub record IsSeatOf (view : View) (log : List Call) (parts : List Role) : Type 0 where
  pub place : ℕ
  pub there : IsIn parts place (of_worker view log)
  pub others :
      (j : ℕ) (part : Role) → IsIn parts j part
      → (part ≡ of_worker view log) ⊎ ((segment : ℕ) × (part ≡ of_segment segment))

-- a call of a worker that stays the same one, whose event it decides alone
pub record IsCallOf (policy : Policy) (before after : View) (e : Event) : Type 0 where
  pub worker : before.worker < policy.workers
  pub same : after.worker ≡ before.worker
  pub own : is_own e ≡ true

-- Where it is tied at the word that the step finds, and changes no other slot word, it is what the
-- step owes that finds this word and leaves that one
abbrev pub TiesDecide : Type 0
TiesDecide =
    (policy : Policy) (words : List ℕ) (parts : List Role) (log : List Call)
    (before after : View) (e : Event) (a : Answer) (place left : ℕ)
    → IsSeatOf before log parts → IsCallOf policy before after e
    → place < places_of_policy policy
    → ((other : ℕ) → other < places_of_policy policy → changes_word e a other ≡ true
    → other ≡ place)
    → Ties before (Some (record { place = place; word = slice_index words (place + 1) })) e a
    after (Some (record { place = place; word = left }))
    → Decides (running policy) ((before.worker, (e, a)) ∷ []) words
    (slice_set words (place + 1) left) parts (called after (e, a))

-- Where it is tied without a word, and changes none, it is what a step owes that leaves all words
abbrev pub PrivateCallsDecide : Type 0
PrivateCallsDecide =
    (policy : Policy) (words : List ℕ) (parts : List Role) (log : List Call)
    (before after : View) (e : Event) (a : Answer)
    → IsSeatOf before log parts → IsCallOf policy before after e
    → ((other : ℕ) → other < places_of_policy policy → changes_word e a other ≡ false)
    → Ties before None e a after None
    → Decides (running policy) ((before.worker, (e, a)) ∷ []) words words parts
    (called after (e, a))

-- Where each state that agrees with the worker refuses the event so, whatever event it is, that is
-- what a step owes that leaves all as it is but for the log
abbrev pub RefusalsDecide : Type 0
RefusalsDecide =
    (policy : Policy) (words : List ℕ) (parts : List Role) (log : List Call) (before : View)
    (e : Event) (a : Answer)
    → IsSeatOf before log parts → before.worker < policy.workers
    → ((m : State) → Agrees m before None → refusal m before.worker e ≡ Some a)
    → Decides (running policy) ((before.worker, (e, a)) ∷ []) words words parts
    (called before (e, a))
