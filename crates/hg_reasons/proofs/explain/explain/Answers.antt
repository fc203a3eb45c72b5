use Rattle.std.proofs.Common.{◌≡◌, ◌+◌, ◌<◌, map, take, sym, ap, subst, ◌∙◌, arith}
use Rattle.std.specs.Prelude.{if◌then◌else◌}
use Rattle.hg_trace.specs.Labels.{label_count}
use Rattle.hg_trace.specs.Stored.{line_in, lines_in}
use Rattle.hg_replay.specs.KnownNames.{meanings}
use Rattle.hg_replay.specs.Replays.{Progress}
use Rattle.hg_replay.specs.StoredLabels.{binds}
use Rattle.hg_replay.proofs.GoingOn.{answered_keeps_policy}
use Rattle.hg_replay.proofs.LinesSaid.{label_count_more, label_within, binds_said, said_within}
use Rattle.hg_replay.proofs.LinesSaid.{said_here, numbered_here}
use Rattle.hg_reasons.specs.Explaining.{story_after, text_of, Explained}
use Rattle.hg_reasons.proofs.Explaining.{explains_next}
use Rattle.hg_reasons.proofs.explain.explain.Goals as goal

pub told_by-requires-clause-worker : goal.told_by-requires-clause-worker
told_by-requires-clause-worker c =
    let store = c.args.trace.now in
    let i = c.loop-line.line-index in
    let line = c.line-item.result in
    let lines = c.stored-line-items.result.now in
    let same = c.stored-line-items.ensures.lines in
    let there = said_here store lines same i line c.loop-line-test.true c.line-item.is in
    let below = c.requires.workers i (line_in store.names store.labels line) (said_within store lines same i line c.loop-line-test.true c.line-item.is) in
    let worker : line.worker < c.args.ready.now.core.state.policy.workers =
    subst (λ l. l.worker < c.args.ready.now.core.state.policy.workers) (sym there) below in
    subst (λ p. line.worker < p.workers) (sym c.loop-line.invariant.policy) worker

pub told_by-requires-clause-room : goal.told_by-requires-clause-room
told_by-requires-clause-room c = λ given.
    let store = c.args.trace.now in
    let i = c.loop-line.line-index in
    let line = c.line-item.result in
    let lines = c.stored-line-items.result.now in
    let same = c.stored-line-items.ensures.lines in
    let within = said_within store lines same i line c.loop-line-test.true c.line-item.is in
    let there = said_here store lines same i line c.loop-line-test.true c.line-item.is in
    let more = label_within (lines_in store) i (line_in store.names store.labels line) within there (binds_said store.names store.labels line.command ∙ given) in
    omega (arith, more, c.loop-line.invariant.count, c.loop-line.invariant.room, c.requires.room)

pub loop-line-preserved : goal.loop-line-preserved
loop-line-preserved c =
    let store = c.args.trace.now in
    let i = c.loop-line.line-index in
    let line = c.line-item.result in
    let says = line_in store.names store.labels line in
    let lines = c.stored-line-items.result.now in
    let same = c.stored-line-items.ensures.lines in
    let within = said_within store lines same i line c.loop-line-test.true c.line-item.is in
    let there = said_here store lines same i line c.loop-line-test.true c.line-item.is in
    let meant = ap (λ m. m.items) c.loop-line.invariant.meant ∙ c.requires.meant ∙ ap (λ p. meanings p store.names) (sym c.loop-line.invariant.policy) in
    let numbered = numbered_here store lines same i line c.loop-line-test.true c.line-item.is c.stored-line-items.ensures.numbered in
    let texts = map (λ text. text.now) c.args.texts.now in
    let reply = c.in_ok-told.reply.items in
    let told = c.in_ok-told.told in
    let (answered, comes_to) = c.in_ok-told.ensures.told store.names store.labels meant numbered in
    let core = c.told_by.new.ready.core in
    let here = c.loop-line.story in
    let is : c.tell.new.self ≡ story_after here core.state says told (text_of texts line.number) reply =
    c.in_ok-tell.ensures store.labels
    ∙ ap (λ ns. story_after here core.state (line_in ns store.labels line) told c.text_of-text.result.now c.deref.result.now) c.names.ensures
    ∙ ap (λ t. story_after here core.state says told t c.deref.result.now) c.text_of-text.ensures
    ∙ ap (λ r. story_after here core.state says told (text_of texts line.number) r) c.deref.ensures.value in
    let now : Progress = record { kept = core; handles = c.told_by.new.ready.handles.items } in
    let more : Explained (text_of texts line.number) (record { kept = c.loop-line.ready.core; handles = c.loop-line.ready.handles.items }) here says now c.tell.new.self =
    record { told = told; reply = reply; answered = answered; comes_to = comes_to; is = is } in
    record {
      policy = answered_keeps_policy _ _ says reply answered ∙ c.loop-line.invariant.policy;
      meant = c.told_by.ensures.meant ∙ c.loop-line.invariant.meant;
      told =
          explains_next texts (lines_in store) i says _ _ _ c.args.story.now here c.tell.new.self within there c.loop-line.invariant.told more;
      count =
          c.told_by.ensures.count ∙ ap (λ n. n + (if binds line.command then 1 else 0)) c.loop-line.invariant.count
          ∙ (ap (λ b. label_count (take i (lines_in store)) + (if b then 1 else 0)) (sym (binds_said store.names store.labels line.command))
          ∙ sym (label_count_more (lines_in store) i says within there));
      room = c.told_by.ensures.room ∙ c.loop-line.invariant.room;
    }
