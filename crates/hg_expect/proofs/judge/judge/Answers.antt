use Rattle.std.proofs.Common.{◌+◌, ◌<◌, map, take, sym, ap, subst, ◌∙◌, arith}
use Rattle.std.specs.Prelude.{if◌then◌else◌}
use Rattle.hg_trace.specs.Labels.{label_count}
use Rattle.hg_trace.specs.Stored.{line_in, lines_in}
use Rattle.hg_replay.specs.KnownNames.{meanings}
use Rattle.hg_replay.specs.StoredLabels.{binds}
use Rattle.hg_replay.proofs.GoingOn.{answered_keeps_policy}
use Rattle.hg_replay.proofs.LinesSaid.{label_count_more, label_within, binds_said, said_within}
use Rattle.hg_replay.proofs.LinesSaid.{said_here, numbered_here}
use Rattle.hg_expect.specs.Findings.{Finds, nothing}
use Rattle.hg_expect.specs.Judging.{text_of}
use Rattle.hg_expect.proofs.Judging.{judges_next, finds_stated, finds_differ, finds_slips}
use Rattle.hg_expect.proofs.judge.judge.Goals as goal

pub reply_to-requires-clause-worker : goal.reply_to-requires-clause-worker
reply_to-requires-clause-worker c =
    let store = c.args.trace.now in
    let i = c.loop-line.line-index in
    let line = c.line-item.result in
    let lines = c.stored-line-items.result.now in
    let same = c.stored-line-items.ensures.lines in
    let there = said_here store lines same i line c.loop-line-test.true c.line-item.is in
    let below = c.requires.workers i (line_in store.names store.labels line) (said_within store lines same i line c.loop-line-test.true c.line-item.is) in
    let worker : line.worker < c.args.ready.now.core.state.policy.workers =
    subst (λ l. l.worker < c.args.ready.now.core.state.policy.workers) (sym there) below in
    subst (λ p. line.worker < p.workers) (sym c.loop-line.invariant.policy) worker

pub reply_to-requires-clause-room : goal.reply_to-requires-clause-room
reply_to-requires-clause-room c = λ given.
    let store = c.args.trace.now in
    let i = c.loop-line.line-index in
    let line = c.line-item.result in
    let lines = c.stored-line-items.result.now in
    let same = c.stored-line-items.ensures.lines in
    let within = said_within store lines same i line c.loop-line-test.true c.line-item.is in
    let there = said_here store lines same i line c.loop-line-test.true c.line-item.is in
    let more = label_within (lines_in store) i (line_in store.names store.labels line) within there (binds_said store.names store.labels line.command ∙ given) in
    omega (arith, more, c.loop-line.invariant.count, c.loop-line.invariant.room, c.requires.room)

pub loop-line-preserved : goal.loop-line-preserved
loop-line-preserved c =
    let store = c.args.trace.now in
    let i = c.loop-line.line-index in
    let line = c.line-item.result in
    let says = line_in store.names store.labels line in
    let lines = c.stored-line-items.result.now in
    let same = c.stored-line-items.ensures.lines in
    let within = said_within store lines same i line c.loop-line-test.true c.line-item.is in
    let there = said_here store lines same i line c.loop-line-test.true c.line-item.is in
    let meant = ap (λ m. m.items) c.loop-line.invariant.meant ∙ c.requires.meant ∙ ap (λ p. meanings p store.names) (sym c.loop-line.invariant.policy) in
    let numbered = numbered_here store lines same i line c.loop-line-test.true c.line-item.is c.stored-line-items.ensures.numbered in
    let texts = map (λ text. text.now) c.args.texts.now in
    let reply = c.in_ok-reply.reply.items in
    let here = c.loop-line.found in
    let next = c.note.new.self in
    let answered = c.in_ok-reply.ensures.answered store.names store.labels meant numbered in
    let finds : Finds here line.number (text_of texts line.number) reply next =
    subst (λ n. Finds here n (text_of texts line.number) reply next) c.from.ensures
    (subst (λ t. Finds here c.from.result t reply next) c.text_of-text.ensures
    (subst (λ r. Finds here c.from.result c.text_of-text.result.now r next) c.deref.ensures.value c.in_ok-note.ensures)) in
    record {
      policy = answered_keeps_policy _ _ says reply answered ∙ c.loop-line.invariant.policy;
      meant = c.reply_to.ensures.meant ∙ c.loop-line.invariant.meant;
      judged =
          judges_next texts (lines_in store) i says _ _ _ nothing here next reply within there c.loop-line.invariant.judged answered
          finds;
      count =
          c.reply_to.ensures.count ∙ ap (λ n. n + (if binds line.command then 1 else 0)) c.loop-line.invariant.count
          ∙ (ap (λ b. label_count (take i (lines_in store)) + (if b then 1 else 0)) (sym (binds_said store.names store.labels line.command))
          ∙ sym (label_count_more (lines_in store) i says within there));
      room = c.reply_to.ensures.room ∙ c.loop-line.invariant.room;
      stated = omega (arith, finds_stated here next line.number (text_of texts line.number) reply finds, c.loop-line.invariant.stated);
      differ = omega (arith, finds_differ here next line.number (text_of texts line.number) reply finds, c.loop-line.invariant.differ);
      slips = omega (arith, finds_slips here next line.number (text_of texts line.number) reply finds, c.loop-line.invariant.slips);
    }
