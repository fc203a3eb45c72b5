-- A replay is a run.
use Rattle.std.proofs.Common.{◌≡◌, ℕ, ◌<◌, suc, List, [], ◌∷◌, ◌++◌, length, length-append, None, refl, sym, ap, subst, ◌∙◌, arith}
use Rattle.std.specs.List.{All, Contains}
use Rattle.std.proofs.lemmas.List.{get_or-map, length-map}
use Rattle.std.proofs.lemmas.List.Elements.{All-append, All-cons, All-map, All-nil}
use Rattle.hg_machine.specs.State.{State}
use Rattle.hg_machine.specs.declared.Event.{Event}
use Rattle.hg_choice.specs.ChosenSteps.{Chosen}
use Rattle.hg_choice.proofs.ChoiceLemmas.{chosen_runs_are_runs}
use Rattle.hg_machine.proofs.Preserves.{runs_keep_sound}
use Rattle.hg_trace.specs.declared.line.Line.{Line}
use Rattle.hg_replay.specs.declared.replaying.events.Meaning.{Meaning}
use Rattle.hg_replay.specs.declared.replaying.events.Meaning.TheVariants as meaning
use Rattle.hg_replay.specs.Events.{events_of, unknown_worker}
use Rattle.hg_replay.specs.Listings.{held_places}
use Rattle.hg_replay.specs.Text.{reply_text}
use Rattle.hg_replay.specs.Replays.{Progress, Answered, meaning_at}
use Rattle.hg_replay.specs.ReplayLaws.{Told, LeadsTo, StandsWhereLed, workers_of, all_events, all_answers, all_text, all_handles, ReplaysAreRuns, ReplaysKeepPolicy, ReplaysKeepSound}
use Rattle.hg_replay.proofs.GoingOn.{answered_keeps_policy, runs_keep_policy, workers_below}
use Rattle.hg_replay.proofs.Looking.{chosen_then}

-- the events of a line are its worker's
one_worker : (s : State) (worker : ℕ) (m : Meaning) → All (λ event. event.0 ≡ worker) (events_of s worker m)
one_worker s worker (meaning.One event) = All-cons (λ event. event.0 ≡ worker) (worker, event) [] refl (All-nil (λ event. event.0 ≡ worker))
one_worker s worker (meaning.Listing actor) = All-map (λ event. event.0 ≡ worker) _ (held_places s worker) (λ k d within. refl)
one_worker s worker meaning.Unbound = All-nil (λ event. event.0 ≡ worker)

first_worker : (worker : ℕ) (workers : List ℕ) (events : List (ℕ × Event)) → All (λ event. event.0 ≡ worker) events
    → All (λ event. Contains (worker ∷ workers) event.0) events
first_worker worker workers events one = λ k d within. (0, omega arith, sym (one k d within))

later_worker : (worker : ℕ) (workers : List ℕ) (events : List (ℕ × Event)) → All (λ event. Contains workers event.0) events
    → All (λ event. Contains (worker ∷ workers) event.0) events
later_worker worker workers events all = λ k d within. let at = all k d within in (suc at.0, omega (arith, at.1), at.2)

-- a run with its choices leads there
pub leads : (from end : Progress) (told : List Told) → Chosen from.kept (all_events told) (all_answers told) end.kept → end.handles ≡ all_handles from.handles told
    → LeadsTo from told end
leads from end told chosen handles = record {
  run = chosen_runs_are_runs from.kept end.kept (all_events told) (all_answers told) chosen;
  chosen = chosen;
  handles = handles;
}

-- the entry of the first line, and those of the others
module _ (from mid : Progress) (line : Line) (here : List ℕ) (answered : Answered from line mid here) where
  abbrev pub first : Told
  first = record { line = line; at = from; answers = answered.answers }

  pub leads_then : (told : List Told) (end : Progress) → LeadsTo mid told end → LeadsTo from (first ∷ told) end
  leads_then told end then =
      leads from end (first ∷ told)
      (chosen_then (events_of from.kept.state line.worker (meaning_at from line)) (all_events told) answered.answers (all_answers told)
      from.kept mid.kept end.kept answered.chosen then.chosen)
      (then.handles ∙ ap (λ h. all_handles h told) answered.handles)

  pub stands_then : (told : List Told) → StandsWhereLed mid told → StandsWhereLed from (first ∷ told)
  stands_then told stands [] t after split =
      let same : first ≡ t = cc in
      subst (λ u. LeadsTo from [] u.at) same (leads from from [] refl refl)
  stands_then told stands (b ∷ before) t after split =
      let same : first ≡ b = cc in
      let more : told ≡ before ++ t ∷ after = cc in
      subst (λ u. LeadsTo from (u ∷ before) t.at) same (leads_then before t.at (stands before t after more))

pub replays_are_runs : ReplaysAreRuns
replays_are_runs from end [] text (same, told) = (
  [],
  refl,
  leads from end [] (ap (λ p. p.kept) same) (ap (λ p. p.handles) same),
  (λ before t after split. absurd (omega (arith, ap length split, length-append before (t ∷ after)))),
  told,
  All-nil (λ event. Contains [] event.0),
)
replays_are_runs from end (line ∷ lines) text (mid, here, rest, answered, more, told) =
    let meant = meaning_at from line in
    let events = events_of from.kept.state line.worker meant in
    let then = replays_are_runs mid end lines rest more in
    let kept = answered_keeps_policy from mid line here answered in (
      first from mid line here answered ∷ then.0,
      ap (λ ls. line ∷ ls) then.1,
      leads_then from mid line here answered then.0 end then.2,
      stands_then from mid line here answered then.0 then.3,
      told ∙ ap (λ t. t ++ rest) answered.told ∙ ap (λ t. reply_text from.kept.state.policy meant answered.answers ++ t) (then.4 ∙ ap (λ p. all_text p then.0) kept),
      All-append (λ event. Contains (workers_of (line ∷ lines)) event.0) events (all_events then.0)
          (first_worker line.worker (workers_of lines) events (one_worker from.kept.state line.worker meant))
          (later_worker line.worker (workers_of lines) (all_events then.0) then.5),
    )

pub replays_keep_policy : ReplaysKeepPolicy
replays_keep_policy from end lines text replayed =
    let run = replays_are_runs from end lines text replayed in
    runs_keep_policy (all_events run.0) (all_answers run.0) from.kept.state end.kept.state run.2.run

known_worker : (workers : ℕ) (lines : List Line) → None ≡ unknown_worker workers lines → (worker : ℕ) → Contains (workers_of lines) worker → worker < workers
known_worker workers [] known worker at = absurd (omega (arith, at.1))
known_worker workers (line ∷ lines) known worker at =
    let within : at.0 < length (line ∷ lines) = omega (arith, at.1, length-map (line ∷ lines) (λ line. line.worker)) in
    subst (λ w. w < workers) (sym (get_or-map (λ line. line.worker) (line ∷ lines) at.0 line worker within) ∙ at.2)
    (workers_below workers (line ∷ lines) known at.0 line within)

pub replays_keep_sound : ReplaysKeepSound
replays_keep_sound from end lines text sound known replayed =
    let run = replays_are_runs from end lines text replayed in
    runs_keep_sound from.kept.state (all_events run.0) (all_answers run.0) end.kept.state sound
    (λ k d within. known_worker from.kept.state.policy.workers lines (sym known) _ (run.5 k d within)) run.2.run
