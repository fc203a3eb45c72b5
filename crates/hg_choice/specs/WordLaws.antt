-- What is written shows only in permitted reads.
use Rattle.std.specs.Prelude.{◌≡◌, ℕ, Bool, true, List, [], ◌∷◌, IfSome, map}
use Rattle.hg_machine.specs.declared.Event.{Event}
use Rattle.hg_machine.specs.declared.Event.TheVariants as event
use Rattle.hg_machine.specs.declared.Answer.{Answer}
use Rattle.hg_machine.specs.declared.Answer.TheVariants as answer
use Rattle.hg_machine.specs.Lists.{Kept}
use Rattle.hg_laws.specs.Asked.{actor_of}
use Rattle.hg_choice.specs.ChosenSteps.{Chosen}
use Rattle.hg_choice.specs.Masks.{masked_kept}
use Rattle.hg_choice.specs.SameBut.{is_unreadable, IsSameBut, AreSameEvents, AreSameAnswers}

-- what the actor may not read in what is kept
abbrev pub unreadable : Kept → ℕ → ℕ → ℕ → Bool
unreadable k actor = is_unreadable k.state.policy actor

-- two runs that begin the same but for words that the actor may not read, by events that are the
-- same but for values written there
pub record AreAlike (actor : ℕ) (old other : Kept) (events others : List (ℕ × Event))
    (answers given : List Answer) (new last : Kept) : Type 0 where
  pub begin : IsSameBut (unreadable old actor) old other
  pub same : AreSameEvents (unreadable old actor) old.state events others answers
  pub one : Chosen old events answers new
  pub second : Chosen other others given last

-- then they end so, and all answers are the same but for values of such words, answered to others
-- who may read them
abbrev pub WordsStayHidden : Type 0
WordsStayHidden =
    (actor : ℕ) (old other : Kept) (events others : List (ℕ × Event)) (answers given : List Answer)
    (new last : Kept)
    → AreAlike actor old other events others answers given new last
    → AreSameAnswers (unreadable old actor) old.state events answers given
    × IsSameBut (unreadable old actor) new last

-- and where there is the first of such runs there is the second: no hidden word decides whether an
-- event is answered
abbrev pub SecondRunsAre : Type 0
SecondRunsAre =
    (actor : ℕ) (old other : Kept) (events others : List (ℕ × Event)) (answers : List Answer)
    (new : Kept)
    → IsSameBut (unreadable old actor) old other
    → AreSameEvents (unreadable old actor) old.state events others answers
    → Chosen old events answers new
    → (given : List Answer) × (last : Kept) × Chosen other others given last

-- the event is on behalf of no other actor: of this one, or of none, as a Take and a Collect are
abbrev pub IsOfNoOther : ℕ → Event → Type 0
IsOfNoOther actor event = IfSome (actor_of event) (λ other. other ≡ actor)

-- what the actor itself is answered is the same, and what workers are that ask for nobody
abbrev pub AreSameTo : ℕ → List (ℕ × Event) → List Answer → List Answer → Type 0
AreSameTo actor (e ∷ events) (a ∷ answers) (b ∷ given) =
    (IsOfNoOther actor e.1 → b ≡ a) × AreSameTo actor events answers given
AreSameTo actor [] [] [] = Unit {0}
AreSameTo actor events answers given = ⊥

-- so the actor is told nothing of what is written there
abbrev pub ActorsAreToldNothing : Type 0
ActorsAreToldNothing =
    (actor : ℕ) (old other : Kept) (events others : List (ℕ × Event)) (answers given : List Answer)
    (new last : Kept)
    → AreAlike actor old other events others answers given new last
    → AreSameTo actor events answers given

-- an event, and an answer, with 0 for the value of a word
abbrev pub without_value : Event → Event
without_value (event.Write actor handle index value) = event.Write actor handle index 0
without_value other = other

abbrev pub without_answer : Answer → Answer
without_answer (answer.Value value) = answer.Value 0
without_answer other = other

abbrev pub without_values : List (ℕ × Event) → List (ℕ × Event)
without_values events = map (λ e. (e.0, without_value e.1)) events

abbrev pub without_answers : List Answer → List Answer
without_answers answers = map without_answer answers

-- what is kept with 0 for all words of blocks
abbrev pub without_words : Kept → Kept
without_words k = masked_kept (λ segment owner. true) k

-- a run with 0 for all words and values is a run
abbrev pub WordsMayBeForgotten : Type 0
WordsMayBeForgotten =
    (old new : Kept) (events : List (ℕ × Event)) (answers : List Answer)
    → Chosen old events answers new
    → Chosen (without_words old) (without_values events) (without_answers answers)
    (without_words new)

-- so runs whose events differ in written values alone differ in answered values alone, and in words
abbrev pub ValuesShowInValues : Type 0
ValuesShowInValues =
    (old new last : Kept) (events others : List (ℕ × Event)) (answers given : List Answer)
    → without_values others ≡ without_values events
    → Chosen old events answers new → Chosen old others given last
    → (without_answers given ≡ without_answers answers)
    × (without_words last ≡ without_words new)
