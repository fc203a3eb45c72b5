-- A line is answered by its meaning.
use Rattle.std.proofs.Common.{◌≡◌, ℕ, true, false, List, [], ◌∷◌, ◌++◌, Option, None, Some, is_some, option_map, refl, sym, ap, subst, ◌∙◌, append-nil, filter}
use Rattle.std.proofs.lemmas.Bool.{false_from_ne_true}
use Rattle.hg_place.specs.declared.Actor.{Actor}
use Rattle.hg_place.specs.declared.Handle.{Handle}
use Rattle.hg_machine.specs.Policy.{Policy}
use Rattle.hg_machine.specs.Lists.{Kept}
use Rattle.hg_machine.specs.declared.Event.{Event}
use Rattle.hg_machine.specs.declared.Answer.{Answer}
use Rattle.hg_heap.specs.Answers.{refused_answer}
use Rattle.hg_heap.specs.declared.refused.Refused.{Refused}
use Rattle.hg_choice.specs.ChosenSteps.{ChosenStep, Chosen}
use Rattle.hg_trace.specs.declared.line.Command.{Command}
use Rattle.hg_trace.specs.declared.line.Line.{Line}
use Rattle.hg_replay.specs.Events.{meaning_of, events_of}
use Rattle.hg_trace.specs.Labels.{gives_label}
use Rattle.hg_replay.specs.Listings.{looks}
use Rattle.hg_replay.specs.Rows.{is_row}
use Rattle.hg_replay.specs.Text.{answer_line, listing_text, reply_text}
use Rattle.hg_replay.specs.Replays.{Progress, handles_after, handle_in, meaning_at, Answered}
use Rattle.hg_heap.specs.declared.refused.Refused.TheVariants as refused
use Rattle.hg_trace.specs.declared.line.Command.TheVariants as command
use Rattle.hg_replay.specs.declared.replaying.events.Meaning.TheVariants as meaning

-- a line that gives no label leaves the labels as they were
pub no_label : (handles : List (Option Handle)) (c : Command) (answers : List Answer) → gives_label c ≡ false → handles_after handles c answers ≡ handles
no_label handles (command.Alloc actor arena bytes None) answers e = refl
no_label handles (command.Alloc actor arena bytes (Some label)) answers e = absurd (cc)
no_label handles (command.Free actor block) answers e = refl
no_label handles _ answers e = refl

-- only an allocation gives a label, and it means one event
pub one_labels : (policy : Policy) (handles : List (Option Handle)) (c : Command) → gives_label c ≡ true
    → (event : Event) × (meaning_of policy handles c ≡ meaning.One event)
one_labels policy handles (command.Alloc actor arena bytes None) e = absurd (cc)
one_labels policy handles (command.Alloc actor arena bytes (Some label)) e = (_, refl)
one_labels policy handles (command.Free actor block) e = absurd (cc)
one_labels policy handles _ e = absurd (cc)

unlabelled : (policy : Policy) (handles : List (Option Handle)) (c : Command)
    → ((event : Event) → meaning_of policy handles c ≡ meaning.One event → ⊥) → gives_label c ≡ false
unlabelled policy handles c other = false_from_ne_true (gives_label c) (λ given.
    let one = one_labels policy handles c given in other one.0 one.1)

-- a call that is refused gives out no handle
pub no_handle : (refused : Refused) → None ≡ handle_in (refused_answer refused ∷ [])
no_handle (refused.Denied rule) = refl
no_handle _ = refl

-- a line is answered by its meaning
module _ (from : Progress) (line : Line) where
  pub one_answered : (event : Event) (answer : Answer) (end : Kept) (handles : List (Option Handle))
      → meaning_at from line ≡ meaning.One event → ChosenStep from.kept line.worker event answer end
      → handles ≡ handles_after from.handles line.command (answer ∷ [])
      → Answered from line (record { kept = end; handles = handles }) (answer_line from.kept.state.policy answer)
  one_answered event answer end handles meant step noted = record {
    answers = answer ∷ [];
    chosen =
        subst (λ m. Chosen from.kept (events_of from.kept.state line.worker m) (answer ∷ []) end) (sym meant) (end, step, refl);
    handles = noted;
    told = sym (ap (λ m. reply_text from.kept.state.policy m (answer ∷ [])) meant ∙ append-nil (answer_line from.kept.state.policy answer));
  }

  pub listing_answered : (actor : Actor) (answers : List Answer) (end : Kept)
      → meaning_at from line ≡ meaning.Listing actor → end ≡ from.kept → Chosen from.kept (looks from.kept.state line.worker actor) answers from.kept
      → Answered from line (record { kept = end; handles = from.handles }) (listing_text from.kept.state.policy (filter is_row answers))
  listing_answered actor answers end meant same chosen = record {
    answers = answers;
    chosen =
        subst (λ m. Chosen from.kept (events_of from.kept.state line.worker m) answers end) (sym meant)
        (subst (λ k. Chosen from.kept (looks from.kept.state line.worker actor) answers k) (sym same) chosen);
    handles = sym (no_label from.handles line.command answers (unlabelled from.kept.state.policy from.handles line.command
        (λ event one. let same : meaning.Listing actor ≡ meaning.One event = sym meant ∙ one in cc)));
    told = sym (ap (λ m. reply_text from.kept.state.policy m answers) meant);
  }

  pub unbound_answered : meaning_at from line ≡ meaning.Unbound → Answered from line from (reply_text from.kept.state.policy meaning.Unbound [])
  unbound_answered meant = record {
    answers = [];
    chosen = subst (λ m. Chosen from.kept (events_of from.kept.state line.worker m) [] from.kept) (sym meant) refl;
    handles = sym (no_label from.handles line.command [] (unlabelled from.kept.state.policy from.handles line.command
        (λ event one. let same : meaning.Unbound ≡ meaning.One event = sym meant ∙ one in cc)));
    told = sym (ap (λ m. reply_text from.kept.state.policy m []) meant);
  }

-- an allocation's line binds the label that it gives, if it gives one
pub alloc_binds : (handles : List (Option Handle)) (actor arena : List ℕ) (bytes : ℕ) (f : ℕ → List ℕ) (label : Option ℕ) (answers : List Answer)
    → is_some label ≡ true → handles ++ handle_in answers ∷ [] ≡ handles_after handles (command.Alloc actor arena bytes (option_map f label)) answers
alloc_binds handles actor arena bytes f None answers e = absurd (cc)
alloc_binds handles actor arena bytes f (Some label) answers e = refl

pub alloc_binds_none : (handles : List (Option Handle)) (actor arena : List ℕ) (bytes : ℕ) (f : ℕ → List ℕ) (label : Option ℕ) (answers : List Answer)
    → is_some label ≡ false → handles ≡ handles_after handles (command.Alloc actor arena bytes (option_map f label)) answers
alloc_binds_none handles actor arena bytes f None answers e = refl
alloc_binds_none handles actor arena bytes f (Some label) answers e = absurd (cc)
