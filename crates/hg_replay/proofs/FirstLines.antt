-- First lines of a replay are the first of a replay of all.
use Rattle.std.proofs.Common.{◌≡◌, ℕ, List, [], ◌∷◌, ◌++◌, map, refl, sym, ap, subst, ◌∙◌, append-nil}
use Rattle.hg_choice.proofs.ChoiceLemmas.{choices_are_determined}
use Rattle.hg_trace.specs.declared.line.Line.{Line}
use Rattle.hg_replay.specs.Events.{events_of}
use Rattle.hg_replay.specs.Text.{reply_text}
use Rattle.hg_replay.specs.Replays.{Progress, Answered, Replays, handles_after, meaning_at, starting}
use Rattle.hg_replay.specs.ReplayLaws.{Told, LeadsTo, StandsWhereLed, all_text, FirstLinesBeginRuns, StopsAreInRuns}
use Rattle.hg_replay.specs.Writes.{StopsSoon}
use Rattle.hg_replay.proofs.GoingOn.{answered_keeps_policy}
use Rattle.hg_replay.proofs.ReplayRuns.{first, leads, leads_then, stands_then, replays_are_runs}

-- a line is answered in one way
module _ (from mid end : Progress) (line : Line) (here there : List ℕ) (one : Answered from line mid here) (other : Answered from line end there) where
  answered_once : (other.answers ≡ one.answers) × (end.kept ≡ mid.kept)
  answered_once =
      choices_are_determined from.kept mid.kept end.kept (events_of from.kept.state line.worker (meaning_at from line)) one.answers other.answers one.chosen other.chosen

  leads_once : end ≡ mid
  leads_once =
      let handles : end.handles ≡ mid.handles =
      other.handles ∙ ap (handles_after from.handles line.command) answered_once.0 ∙ sym one.handles in
      ap (λ k. record { kept = k; handles = end.handles }) answered_once.1 ∙ ap (λ h. record { kept = mid.kept; handles = h }) handles

  prints_once : there ≡ here
  prints_once = other.told ∙ ap (reply_text from.kept.state.policy (meaning_at from line)) answered_once.0 ∙ sym one.told

pub first_lines_begin_runs : FirstLinesBeginRuns
first_lines_begin_runs from mid end [] after text all (same, none) replayed =
    let run = replays_are_runs from end after all replayed in
    record {
      told = [];
      more = run.0;
      first = refl;
      later = run.1;
      leads = leads from mid [] (ap (λ p. p.kept) same) (ap (λ p. p.handles) same);
      whole = run.2;
      stands = run.3;
      prints = none;
      prints_all = run.4;
    }
first_lines_begin_runs from mid end (line ∷ before) after text all (next, here, rest, answered, more, told) (second, there, left, again, further, retold) =
    let policy = from.kept.state.policy in
    let on = subst (λ p. Replays p (before ++ after) end left) (leads_once from next second line here there answered again) further in
    let then = first_lines_begin_runs next mid end before after rest left more on in
    let kept = answered_keeps_policy from next line here answered in
    let reply = reply_text policy (meaning_at from line) answered.answers in
    record {
      told = first from next line here answered ∷ then.told;
      more = then.more;
      first = ap (λ ls. line ∷ ls) then.first;
      later = then.later;
      leads = leads_then from next line here answered then.told mid then.leads;
      whole = leads_then from next line here answered (then.told ++ then.more) end then.whole;
      stands = stands_then from next line here answered (then.told ++ then.more) then.stands;
      prints = told ∙ ap (λ t. t ++ rest) answered.told ∙ ap (λ t. reply ++ t) (then.prints ∙ ap (λ p. all_text p then.told) kept);
      prints_all =
          retold ∙ ap (λ t. t ++ left) (prints_once from next second line here there answered again ∙ answered.told)
          ∙ ap (λ t. reply ++ t) (then.prints_all ∙ ap (λ p. all_text p (then.told ++ then.more)) kept);
    }

-- lines and one more are answered, and so are all
record Goes (from end last : Progress) (lines : List Line) (text here all : List ℕ) : Type 0 where
  told : List Told
  entry : Told
  more : List Told
  whole : map (λ t. t.line) (told ++ entry ∷ more) ≡ lines
  leads_here : LeadsTo from (told ++ entry ∷ []) end
  leads_on : LeadsTo from (told ++ entry ∷ more) last
  stands : StandsWhereLed from (told ++ entry ∷ more)
  prints : text ≡ all_text from.kept.state.policy told
  prints_here : here ≡ all_text from.kept.state.policy (entry ∷ [])
  prints_all : all ≡ all_text from.kept.state.policy (told ++ entry ∷ more)

goes : (from mid end last : Progress) (before : List Line) (line : Line) (after : List Line) (text here all : List ℕ)
    → Replays from before mid text → Answered mid line end here → Replays from (before ++ line ∷ after) last all
    → Goes from end last (before ++ line ∷ after) text here all
goes from mid end last [] line after text here all (same, none) reached (second, there, left, again, further, told) =
    let policy = from.kept.state.policy in
    let answered = subst (λ p. Answered p line end here) same reached in
    let on = subst (λ p. Replays p after last left) (leads_once from end second line here there answered again) further in
    let then = replays_are_runs end last after left on in
    let kept = answered_keeps_policy from end line here answered in
    let reply = reply_text policy (meaning_at from line) answered.answers in
    record {
      told = [];
      entry = first from end line here answered;
      more = then.0;
      whole = ap (λ ls. line ∷ ls) then.1;
      leads_here = leads_then from end line here answered [] end (leads end end [] refl refl);
      leads_on = leads_then from end line here answered then.0 last then.2;
      stands = stands_then from end line here answered then.0 then.3;
      prints = none;
      prints_here = answered.told ∙ sym (append-nil reply);
      prints_all =
          told ∙ ap (λ t. t ++ left) (prints_once from end second line here there answered again ∙ answered.told)
          ∙ ap (λ t. reply ++ t) (then.4 ∙ ap (λ p. all_text p then.0) kept);
    }
goes from mid end last (line ∷ before) target after text here all (next, first_text, rest, answered, more, told) reached (second, there, left, again, further, retold) =
    let policy = from.kept.state.policy in
    let on = subst (λ p. Replays p (before ++ target ∷ after) last left) (leads_once from next second line first_text there answered again) further in
    let then = goes next mid end last before target after rest here left more reached on in
    let kept = answered_keeps_policy from next line first_text answered in
    let reply = reply_text policy (meaning_at from line) answered.answers in
    record {
      told = first from next line first_text answered ∷ then.told;
      entry = then.entry;
      more = then.more;
      whole = ap (λ ls. line ∷ ls) then.whole;
      leads_here = leads_then from next line first_text answered (then.told ++ then.entry ∷ []) end then.leads_here;
      leads_on = leads_then from next line first_text answered (then.told ++ then.entry ∷ then.more) last then.leads_on;
      stands = stands_then from next line first_text answered (then.told ++ then.entry ∷ then.more) then.stands;
      prints = told ∙ ap (λ t. t ++ rest) answered.told ∙ ap (λ t. reply ++ t) (then.prints ∙ ap (λ p. all_text p then.told) kept);
      prints_here = then.prints_here ∙ ap (λ p. all_text p (then.entry ∷ [])) kept;
      prints_all =
          retold ∙ ap (λ t. t ++ left) (prints_once from next second line first_text there answered again ∙ answered.told)
          ∙ ap (λ t. reply ++ t) (then.prints_all ∙ ap (λ p. all_text p (then.told ++ then.entry ∷ then.more)) kept);
    }

pub stops_are_in_runs : StopsAreInRuns
stops_are_in_runs k lines end last old new all stop replayed =
    let on = subst (λ ls. Replays (starting k) ls last all) stop.split replayed in
    let run = goes (starting k) stop.mid end last stop.before stop.last stop.after stop.text stop.here all stop.replayed stop.answered on in
    let soon : StopsSoon old new (all_text k.state.policy run.told) (all_text k.state.policy (run.entry ∷ [])) =
    subst (λ t. StopsSoon old new t (all_text k.state.policy (run.entry ∷ []))) run.prints
    (subst (StopsSoon old new stop.text) run.prints_here stop.stopped) in
    record {
      told = run.told;
      here = run.entry;
      more = run.more;
      whole = run.whole ∙ sym stop.split;
      leads = run.leads_here;
      leads_on = run.leads_on;
      stands = run.stands;
      prints = run.prints_all;
      front = soon.stopped.front;
      rest = soon.stopped.rest;
      split = soon.stopped.split;
      not_all = soon.stopped.not_all;
      written = soon.stopped.written;
      stopped = soon.stopped.stopped;
      waited = soon.waited;
    }
