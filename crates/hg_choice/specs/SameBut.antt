-- What is the same but for the words of some blocks.
use Rattle.std.specs.Prelude.{◌≡◌, ◌⊎◌, ℕ, ◌&&◌, Bool, true, not, List, [], ◌∷◌}
use Rattle.hg_place.specs.declared.Right.TheVariants as right
use Rattle.hg_place.specs.declared.Actor.{Actor}
use Rattle.hg_place.specs.declared.Handle.{Handle}
use Rattle.hg_place.specs.Places.{number_of, segment_of}
use Rattle.hg_machine.specs.declared.Event.{Event}
use Rattle.hg_machine.specs.declared.Event.TheVariants as event
use Rattle.hg_machine.specs.declared.Answer.{Answer}
use Rattle.hg_machine.specs.declared.Answer.TheVariants as answer
use Rattle.hg_machine.specs.Policy.{Policy, is_tenant, arena_of, lets}
use Rattle.hg_machine.specs.Life.{owner_of}
use Rattle.hg_machine.specs.State.{State, record_at}
use Rattle.hg_machine.specs.Denial.{is_admitted}
use Rattle.hg_machine.specs.Steps.{successor}
use Rattle.hg_machine.specs.Lists.{Kept}
use Rattle.hg_choice.specs.Masks.{masked, is_hidden}

-- the policy lets the actor read blocks of the owner in the segment
abbrev pub may_read : Policy → ℕ → ℕ → ℕ → Bool
may_read policy actor segment owner =
    is_tenant policy actor
    && (is_admitted policy (arena_of policy segment) actor
    && lets policy owner actor right.Read)

-- it doesn't
abbrev pub is_unreadable : Policy → ℕ → ℕ → ℕ → Bool
is_unreadable policy actor segment owner = not (may_read policy actor segment owner)

-- which blocks have hidden words, by segment and owner
module _ (hides : ℕ → ℕ → Bool) where
  -- the two are the same once hidden words are zeros
  pub record IsSameBut (old other : Kept) : Type 0 where
    pub state : masked hides other.state ≡ masked hides old.state
    pub lists : other.lists ≡ old.lists
    pub queues : other.queues ≡ old.queues

  -- one writes this value and the other that, at one index of a block whose words are hidden
  pub record IsHiddenWrite (s : State) (one other : Event) : Type 0 where
    pub writer : Actor
    pub handle : Handle
    pub index : ℕ
    pub value : ℕ
    pub instead : ℕ
    pub written : one ≡ event.Write writer handle index value
    pub rewritten : other ≡ event.Write writer handle index instead
    pub hidden : is_hidden hides s (number_of handle.place) ≡ true

  abbrev pub IsSameEvent : State → Event → Event → Type 0
  IsSameEvent s one other = (other ≡ one) ⊎ IsHiddenWrite s one other

  -- events of the same workers, the same but for values written into hidden words, as the first
  -- ones are answered so one after another
  abbrev pub AreSameEvents : State → List (ℕ × Event) → List (ℕ × Event) → List Answer → Type 0
  AreSameEvents s (e ∷ events) (f ∷ others) (a ∷ answers) =
      (f.0 ≡ e.0) × IsSameEvent s e.1 f.1
      × AreSameEvents (successor s e.0 e.1 a) events others answers
  AreSameEvents s [] [] [] = Unit {0}
  AreSameEvents s events others answers = ⊥

  -- an actor that may read the block was answered this value and that, of a word that is hidden
  pub record IsHiddenRead (s : State) (asked : Event) (one other : Answer) : Type 0 where
    pub reader : Actor
    pub handle : Handle
    pub index : ℕ
    pub value : ℕ
    pub instead : ℕ
    pub read : asked ≡ event.Read reader handle index
    pub told : one ≡ answer.Value value
    pub retold : other ≡ answer.Value instead
    pub hidden : is_hidden hides s (number_of handle.place) ≡ true
    pub permitted :
        may_read s.policy reader.0 (segment_of (number_of handle.place))
        (owner_of (record_at s (number_of handle.place)).life)
        ≡ true

  abbrev pub IsSameAnswer : State → Event → Answer → Answer → Type 0
  IsSameAnswer s asked one other = (other ≡ one) ⊎ IsHiddenRead s asked one other

  -- answers to these events, the same but for values of hidden words that a reader may read
  abbrev pub AreSameAnswers : State → List (ℕ × Event) → List Answer → List Answer → Type 0
  AreSameAnswers s (e ∷ events) (a ∷ answers) (b ∷ given) =
      IsSameAnswer s e.1 a b × AreSameAnswers (successor s e.0 e.1 a) events answers given
  AreSameAnswers s [] [] [] = Unit {0}
  AreSameAnswers s events answers given = ⊥
