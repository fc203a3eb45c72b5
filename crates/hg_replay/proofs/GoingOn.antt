-- A replay goes on by a line, under one policy, and where it stops.
use Rattle.std.proofs.Common.{◌≡◌, ℕ, ◌+◌, ◌<◌, suc, zero, leb, false, List, [], ◌∷◌, ◌++◌, length, get_or, take, drop, None, refl, sym, ap, subst, ◌∙◌, inl, inr, arith, append-nil, append_assoc, take-append-drop, length-append}
use Rattle.std.proofs.lemmas.Bool.{cases_Bool, leb-false}
use Rattle.std.proofs.lemmas.List.{take_more}
use Rattle.hg_machine.specs.State.{State}
use Rattle.hg_machine.specs.Steps.{Run}
use Rattle.hg_machine.specs.Lists.{Kept}
use Rattle.hg_machine.specs.declared.Event.{Event}
use Rattle.hg_machine.specs.declared.Answer.{Answer}
use Rattle.hg_machine.proofs.Preserves.{steps_keep_policy}
use Rattle.hg_choice.proofs.ChoiceLemmas.{chosen_runs_are_runs}
use Rattle.hg_trace.specs.declared.line.Line.{Line}
use Rattle.hg_replay.specs.Events.{events_of, unknown_worker}
use Rattle.hg_replay.specs.Sinks.{Seen}
use Rattle.hg_replay.specs.declared.replaying.output.Output.{Output}
use Rattle.hg_replay.specs.Writes.{StopsIn, StopsSoon, IsGiven}
use Rattle.hg_replay.specs.Replays.{Progress, starting, meaning_at, Answered, Replays, StopsAt}
use Rattle.hg_replay.proofs.Writes.{stops_in_last}

-- a replay goes on by a line
pub replays_more : (lines : List Line) (line : Line) (from mid end : Progress) (text here : List ℕ)
    → Replays from lines mid text → Answered mid line end here → Replays from (lines ++ line ∷ []) end (text ++ here)
replays_more [] line from mid end text here so_far answered =
    (end, here, [], subst (λ p. Answered p line end here) so_far.0 answered, (refl, refl), ap (λ t. t ++ here) so_far.1 ∙ sym (append-nil here))
replays_more (first ∷ lines) line from mid end text here (next, one, rest, done, more, told) answered = (
  next,
  one,
  rest ++ here,
  done,
  replays_more lines line next mid end rest here more answered,
  ap (λ t. t ++ here) told ∙ append_assoc one rest here,
)

-- the lines up to index i are answered, and the next one is too
module _ (k : Kept) (lines : List Line) (i : ℕ) (line : Line) (mid end : Progress) (text here : List ℕ) (within : i < length lines)
    (here_is : line ≡ get_or lines i line) (so_far : Replays (starting k) (take i lines) mid text) (answered : Answered mid line end here) where
  pub replays_next : Replays (starting k) (take (i + 1) lines) end (text ++ here)
  replays_next =
      let more : take (i + 1) lines ≡ take i lines ++ line ∷ [] =
      take_more lines i line within ∙ ap (λ l. take i lines ++ l ∷ []) (sym here_is) in
      subst (λ ls. Replays (starting k) ls end (text ++ here)) (sym more) (replays_more (take i lines) line (starting k) mid end text here so_far answered)

  pub replays_stop : (old new : Seen) → StopsSoon old new text here → StopsAt k lines end old new
  replays_stop old new soon =
      let more : take (i + 1) lines ≡ take i lines ++ line ∷ [] =
      take_more lines i line within ∙ ap (λ l. take i lines ++ l ∷ []) (sym here_is) in
      record {
        before = take i lines;
        last = line;
        after = drop (i + 1) lines;
        split =
            sym (take-append-drop (i + 1) lines) ∙ ap (λ l. l ++ drop (i + 1) lines) more
            ∙ append_assoc (take i lines) (line ∷ []) (drop (i + 1) lines);
        mid = mid;
        text = text;
        here = here;
        replayed = so_far;
        answered = answered;
        stopped = soon;
      }

-- a replay of some lines is one of all but the last, and this one's answers
pub record Last (from : Progress) (lines : List Line) (end : Progress) (text : List ℕ) : Type 0 where
  pub before : List Line
  pub last : Line
  pub split : lines ≡ before ++ last ∷ []
  pub mid : Progress
  pub early : List ℕ
  pub here : List ℕ
  pub replayed : Replays from before mid early
  pub answered : Answered mid last end here
  pub told : text ≡ early ++ here

pub replays_last : (line : Line) (lines : List Line) (from end : Progress) (text : List ℕ) → Replays from (line ∷ lines) end text → Last from (line ∷ lines) end text
replays_last line [] from end text (mid, here, rest, answered, (same, none), told) = record {
  before = [];
  last = line;
  split = refl;
  mid = from;
  early = [];
  here = here;
  replayed = (refl, refl);
  answered = subst (λ p. Answered from line p here) (sym same) answered;
  told = told ∙ ap (λ t. here ++ t) none ∙ append-nil here;
}
replays_last line (next ∷ lines) from end text (mid, here, rest, answered, more, told) =
    let later = replays_last next lines mid end rest more in
    record {
      before = line ∷ later.before;
      last = later.last;
      split = ap (λ ls. line ∷ ls) later.split;
      mid = later.mid;
      early = here ++ later.early;
      here = later.here;
      replayed = (mid, here, later.early, answered, later.replayed, refl);
      answered = later.answered;
      told = told ∙ ap (λ t. here ++ t) later.told ∙ sym (append_assoc here later.early later.here);
    }

-- all lines are answered, and a write stops in what waits after the last
module _ (k : Kept) (a b c : Seen) (x : Output) (on : x.stopped ≡ false)
    (stopped : (start : Seen) (given : List ℕ) → IsGiven start b x given → StopsIn start c given) where
  pub replays_stop_last : (lines : List Line) (end : Progress) (text : List ℕ) → Replays (starting k) lines end text → IsGiven a b x text → StopsAt k lines end a c
  replays_stop_last [] end text (same, none) given =
      let stop = stopped a text given in
      absurd (omega (arith, stop.not_all, ap (λ l. length l) (sym none ∙ stop.split), length-append stop.front stop.rest))
  replays_stop_last (line ∷ lines) end text replayed given =
      let parts = replays_last line lines (starting k) end text replayed in
      let soon = stops_in_last a b c x parts.early text parts.here given on parts.told stopped in
      record {
        before = parts.before;
        last = parts.last;
        after = [];
        split = parts.split;
        mid = parts.mid;
        text = parts.early;
        here = parts.here;
        replayed = parts.replayed;
        answered = parts.answered;
        stopped = soon;
      }

-- a run leaves the policy as it was
pub runs_keep_policy : (events : List (ℕ × Event)) (answers : List Answer) (old new : State) → Run old events answers new → new.policy ≡ old.policy
runs_keep_policy [] [] old new run = ap (λ t. t.policy) run
runs_keep_policy [] (a ∷ answers) old new run = absurd run
runs_keep_policy (e ∷ events) [] old new run = absurd run
runs_keep_policy (e ∷ events) (a ∷ answers) old new run =
    runs_keep_policy events answers run.0 new run.2 ∙ steps_keep_policy old e.0 e.1 a run.0 run.1

pub answered_keeps_policy : (from end : Progress) (line : Line) (text : List ℕ) → Answered from line end text → end.kept.state.policy ≡ from.kept.state.policy
answered_keeps_policy from end line text answered =
    let events = events_of from.kept.state line.worker (meaning_at from line) in
    runs_keep_policy events answered.answers from.kept.state end.kept.state
    (chosen_runs_are_runs from.kept end.kept events answered.answers answered.chosen)

-- where no line's worker is unknown, each is below the count
pub workers_below : (workers : ℕ) (lines : List Line) → None ≡ unknown_worker workers lines → (k : ℕ) (d : Line) → k < length lines
    → (get_or lines k d).worker < workers
workers_below workers [] none k d within = absurd (omega arith)
workers_below workers (line ∷ lines) none zero d within =
    elim (cases_Bool (leb workers line.worker)) [
      | inl e ↦ let here = rw e at none in absurd (cc)
      | inr e ↦ omega (arith, leb-false workers line.worker e)
    ]
workers_below workers (line ∷ lines) none (suc k) d within =
    elim (cases_Bool (leb workers line.worker)) [
      | inl e ↦ let here = rw e at none in absurd (cc)
      | inr e ↦ workers_below workers lines (rw e at none) k d (omega arith)
    ]
