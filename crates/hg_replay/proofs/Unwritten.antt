-- What is the same for lines, answers and places of a replay that differ in words and values alone.
use Rattle.std.proofs.Common.{◌≡◌, ◌⊎◌, inl, inr, ℕ, Bool, cond, List, [], ◌∷◌, ◌++◌, Option, None, Some, filter, refl, sym, ap, subst, ◌∙◌}
use Rattle.hg_place.specs.declared.Handle.{Handle}
use Rattle.hg_place.specs.declared.Actor.{Actor}
use Rattle.hg_place.specs.Places.{place_at}
use Rattle.hg_machine.specs.Policy.{Policy}
use Rattle.hg_machine.specs.State.{State}
use Rattle.hg_machine.specs.Lists.{Kept}
use Rattle.hg_machine.specs.declared.Event.{Event}
use Rattle.hg_machine.specs.declared.Event.TheVariants as event
use Rattle.hg_machine.specs.declared.Answer.{Answer}
use Rattle.hg_machine.specs.declared.Answer.TheVariants as answer
use Rattle.hg_choice.specs.Masks.{masked}
use Rattle.hg_choice.specs.WordLaws.{without_value, without_values, without_answer, without_answers, without_words}
use Rattle.hg_choice.specs.ChosenSteps.{Chosen}
use Rattle.hg_choice.proofs.ChoiceLemmas.{choices_are_determined}
use Rattle.hg_choice.proofs.ForgottenLemmas.{words_may_be_forgotten}
use Rattle.hg_choice.proofs.MaskedFacts.{same_places}
use Rattle.hg_trace.specs.declared.line.Command.{Command}
use Rattle.hg_trace.specs.declared.line.Command.TheVariants as command
use Rattle.hg_replay.specs.declared.replaying.events.Meaning.{Meaning}
use Rattle.hg_replay.specs.declared.replaying.events.Meaning.TheVariants as meaning
use Rattle.hg_replay.specs.Events.{of_block, handle_named, meaning_of, events_of}
use Rattle.hg_replay.specs.Listings.{held_among, held_places, looks_at}
use Rattle.hg_replay.specs.Rows.{is_row}
use Rattle.hg_replay.specs.Replays.{handle_in, handles_after}
use Rattle.hg_replay.specs.WrittenValues.{unwritten}

-- what is meant, with 0 for the value of a write
abbrev pub unwritten_meaning : Meaning → Meaning
unwritten_meaning (meaning.One asked) = meaning.One (without_value asked)
unwritten_meaning (meaning.Listing actor) = meaning.Listing actor
unwritten_meaning meaning.Unbound = meaning.Unbound

block_unwritten : (handle : Option Handle) (asked wanted : Handle → Event) → ((h : Handle) → without_value (asked h) ≡ wanted h)
    → unwritten_meaning (of_block handle asked) ≡ of_block handle wanted
block_unwritten None asked wanted same = refl
block_unwritten (Some h) asked wanted same = ap meaning.One (same h)

pub meaning_unwritten : (policy : Policy) (handles : List (Option Handle)) (c : Command)
    → unwritten_meaning (meaning_of policy handles c) ≡ meaning_of policy handles (unwritten c)
meaning_unwritten policy handles (command.Alloc actor arena bytes label) = refl
meaning_unwritten policy handles (command.Free actor block) = block_unwritten (handle_named handles block) _ _ (λ h. refl)
meaning_unwritten policy handles command.Deliver = refl
meaning_unwritten policy handles (command.Take segment) = refl
meaning_unwritten policy handles command.Collect = refl
meaning_unwritten policy handles (command.Read actor block index) = block_unwritten (handle_named handles block) _ _ (λ h. refl)
meaning_unwritten policy handles (command.Write actor block index value) = block_unwritten (handle_named handles block) _ _ (λ h. refl)
meaning_unwritten policy handles (command.Look actor place) = refl
meaning_unwritten policy handles _ = refl

looks_unwritten : (worker : ℕ) (actor : Actor) (places : List ℕ) → without_values (looks_at worker actor places) ≡ looks_at worker actor places
looks_unwritten worker actor [] = refl
looks_unwritten worker actor (place ∷ places) = ap (λ l. (worker, event.Look actor (place_at place)) ∷ l) (looks_unwritten worker actor places)

pub events_unwritten : (s : State) (worker : ℕ) (m : Meaning) → without_values (events_of s worker m) ≡ events_of s worker (unwritten_meaning m)
events_unwritten s worker (meaning.One asked) = refl
events_unwritten s worker (meaning.Listing actor) = looks_unwritten worker actor (held_places s worker)
events_unwritten s worker meaning.Unbound = refl

-- no listing reads a word
held_masked : (hides : ℕ → ℕ → Bool) (s : State) (worker : ℕ) → held_places (masked hides s) worker ≡ held_places s worker
held_masked hides s worker = ap (held_among s worker) (same_places hides s)

events_masked : (hides : ℕ → ℕ → Bool) (s : State) (worker : ℕ) (m : Meaning) → events_of (masked hides s) worker m ≡ events_of s worker m
events_masked hides s worker (meaning.One asked) = refl
events_masked hides s worker (meaning.Listing actor) = ap (looks_at worker actor) (held_masked hides s worker)
events_masked hides s worker meaning.Unbound = refl

pub events_agree : (hides : ℕ → ℕ → Bool) (s t : State) (worker : ℕ) (m : Meaning) → masked hides t ≡ masked hides s → events_of t worker m ≡ events_of s worker m
events_agree hides s t worker m same =
    sym (events_masked hides t worker m) ∙ ap (λ u. events_of u worker m) same ∙ events_masked hides s worker m

-- two runs from what is the same but for words, by events that are the same but for values
pub runs_agree : (old other new last : Kept) (events others : List (ℕ × Event)) (answers given : List Answer)
    → without_words other ≡ without_words old → without_values others ≡ without_values events
    → Chosen old events answers new → Chosen other others given last
    → (without_answers given ≡ without_answers answers) × (without_words last ≡ without_words new)
runs_agree old other new last events others answers given kept same one second =
    let forgotten = words_may_be_forgotten other last others given second in
    let alike : Chosen (without_words old) (without_values events) (without_answers given) (without_words last) =
    subst (λ es. Chosen (without_words old) es (without_answers given) (without_words last)) same
    (subst (λ k. Chosen k (without_values others) (without_answers given) (without_words last)) kept forgotten) in
    choices_are_determined (without_words old) (without_words new) (without_words last) (without_values events) (without_answers answers) (without_answers given)
    (words_may_be_forgotten old new events answers one) alike

-- an answer is a value, or stays
pub value_or_same : (a : Answer) → (without_answer a ≡ a) ⊎ ((n : ℕ) × (a ≡ answer.Value n))
value_or_same (answer.Block handle) = inl refl
value_or_same answer.Done = inl refl
value_or_same answer.Parted = inl refl
value_or_same (answer.Value n) = inr (n, refl)
value_or_same (answer.Taken n) = inl refl
value_or_same _ = inl refl

-- answers that are the same but for values are the same, or both are values
pub answers_differ : (a b : Answer) → without_answer b ≡ without_answer a
    → (b ≡ a) ⊎ ((m : ℕ) × (n : ℕ) × (a ≡ answer.Value m) × (b ≡ answer.Value n))
answers_differ a b same =
    elim (value_or_same a) [
      | inl plain ↦ elim (value_or_same b) [
        | inl also ↦ inl (sym also ∙ same ∙ plain)
        | inr (n, is) ↦ inr (0, n, sym plain ∙ sym same ∙ ap without_answer is, is)
      ]
      | inr (m, is) ↦ elim (value_or_same b) [
        | inl also ↦ inr (m, 0, is, sym also ∙ same ∙ ap without_answer is)
        | inr (n, are) ↦ inr (m, n, is, are)
      ]
    ]

-- values are neither rows nor handles
row_or_not : (a : Answer) (l m : List Answer) → filter is_row l ≡ filter is_row m → filter is_row (without_answer a ∷ l) ≡ filter is_row (a ∷ m)
row_or_not a l m same =
    elim (value_or_same a) [
      | inl plain ↦ rw plain (ap (λ r. cond (is_row a) (a ∷ r) r) same)
      | inr (n, is) ↦ rw is same
    ]

pub rows_unwritten : (answers : List Answer) → filter is_row (without_answers answers) ≡ filter is_row answers
rows_unwritten [] = refl
rows_unwritten (a ∷ answers) = row_or_not a (without_answers answers) answers (rows_unwritten answers)

pub handle_unwritten : (answers : List Answer) → handle_in (without_answers answers) ≡ handle_in answers
handle_unwritten [] = refl
handle_unwritten (a ∷ []) =
    elim (value_or_same a) [
      | inl plain ↦ ap (λ b. handle_in (b ∷ [])) plain
      | inr (n, is) ↦ rw is refl
    ]
handle_unwritten (a ∷ b ∷ answers) = several (without_answer a) (without_answer b) (without_answers answers) ∙ sym (several a b answers)
  where
    several : (a b : Answer) (answers : List Answer) → handle_in (a ∷ b ∷ answers) ≡ None
    several (answer.Block handle) b answers = refl
    several _ b answers = refl

handles_unwritten : (handles : List (Option Handle)) (c : Command) (answers : List Answer)
    → handles_after handles (unwritten c) (without_answers answers) ≡ handles_after handles c answers
handles_unwritten handles (command.Alloc actor arena bytes None) answers = refl
handles_unwritten handles (command.Alloc actor arena bytes (Some label)) answers = ap (λ h. handles ++ h ∷ []) (handle_unwritten answers)
handles_unwritten handles (command.Free actor block) answers = refl
handles_unwritten handles _ answers = refl

-- labels stand for the same
pub handles_agree : (handles : List (Option Handle)) (c d : Command) (answers given : List Answer)
    → unwritten d ≡ unwritten c → without_answers given ≡ without_answers answers
    → handles_after handles d given ≡ handles_after handles c answers
handles_agree handles c d answers given same told =
    sym (handles_unwritten handles d given)
    ∙ ap (λ x. handles_after handles x (without_answers given)) same
    ∙ ap (handles_after handles (unwritten c)) told
    ∙ handles_unwritten handles c answers
