use Rattle.std.proofs.Common.{◌+◌, [], ◌∷◌, ◌++◌, ◌<◌, take, sym, ap, subst, ◌∙◌, arith}
use Rattle.std.specs.Prelude.{if◌then◌else◌}
use Rattle.hg_trace.specs.Labels.{label_count}
use Rattle.hg_trace.specs.Stored.{line_in, lines_in}
use Rattle.hg_replay.specs.KnownNames.{meanings}
use Rattle.hg_replay.specs.StoredLabels.{binds}
use Rattle.hg_replay.proofs.GoingOn.{answered_keeps_policy}
use Rattle.hg_replay.proofs.LinesSaid.{label_count_more, label_within, binds_said, said_within}
use Rattle.hg_replay.proofs.LinesSaid.{said_here, numbered_here}
use Rattle.hg_text.proofs.Texts.{flat_one}
use Rattle.hg_state.specs.Costs.{granted_in}
use Rattle.hg_state.specs.Orphans.{orphans_after}
use Rattle.hg_state.proofs.Coming.{comes_next}
use Rattle.hg_state.proofs.OrphansTold.{told_orphans}
use Rattle.hg_state.proofs.after.answer_all.Goals as goal

pub answer_next-requires-clause-worker : goal.answer_next-requires-clause-worker
answer_next-requires-clause-worker c =
    let store = c.args.trace.now in
    let i = c.loop-line.line-index in
    let line = c.line-item.result in
    let lines = c.stored-line-items.result.now in
    let same = c.stored-line-items.ensures.lines in
    let there = said_here store lines same i line c.loop-line-test.true c.line-item.is in
    let below = c.requires.workers i (line_in store.names store.labels line) (said_within store lines same i line c.loop-line-test.true c.line-item.is) in
    let worker : line.worker < c.args.ready.now.core.state.policy.workers =
    subst (λ l. l.worker < c.args.ready.now.core.state.policy.workers) (sym there) below in
    subst (λ p. line.worker < p.workers) (sym c.loop-line.invariant.policy) worker

pub answer_next-requires-clause-room : goal.answer_next-requires-clause-room
answer_next-requires-clause-room c = λ given.
    let store = c.args.trace.now in
    let i = c.loop-line.line-index in
    let line = c.line-item.result in
    let lines = c.stored-line-items.result.now in
    let same = c.stored-line-items.ensures.lines in
    let within = said_within store lines same i line c.loop-line-test.true c.line-item.is in
    let there = said_here store lines same i line c.loop-line-test.true c.line-item.is in
    let more = label_within (lines_in store) i (line_in store.names store.labels line) within there (binds_said store.names store.labels line.command ∙ given) in
    omega (arith, more, c.loop-line.invariant.count, c.loop-line.invariant.room, c.requires.room)

pub loop-line-preserved : goal.loop-line-preserved
loop-line-preserved c =
    let store = c.args.trace.now in
    let i = c.loop-line.line-index in
    let line = c.line-item.result in
    let says = line_in store.names store.labels line in
    let lines = c.stored-line-items.result.now in
    let same = c.stored-line-items.ensures.lines in
    let within = said_within store lines same i line c.loop-line-test.true c.line-item.is in
    let there = said_here store lines same i line c.loop-line-test.true c.line-item.is in
    let meant = ap (λ m. m.items) c.loop-line.invariant.meant ∙ c.requires.meant ∙ ap (λ p. meanings p store.names) (sym c.loop-line.invariant.policy) in
    let numbered = numbered_here store lines same i line c.loop-line-test.true c.line-item.is c.stored-line-items.ensures.numbered in
    let (told, so_far, blocks) = c.loop-line.invariant.replayed in
    let (here, answered, comes_to) = c.in_ok-told.ensures.told store.names store.labels meant numbered in
    record {
      policy = answered_keeps_policy _ _ says here answered ∙ c.loop-line.invariant.policy;
      meant = c.answer_next.ensures.meant ∙ c.loop-line.invariant.meant;
      replayed = (
        told ++ c.in_ok-told.told ∷ [],
        comes_next c.args.ready.now.core (lines_in store) i says _ _ told c.in_ok-told.told here within there so_far answered comes_to,
        c.in_ok-note_told.ensures ∙ ap (λ b. b ++ granted_in c.in_ok-told.told) blocks ∙ sym (flat_one granted_in told c.in_ok-told.told),
      );
      count =
          c.answer_next.ensures.count ∙ ap (λ n. n + (if binds line.command then 1 else 0)) c.loop-line.invariant.count
          ∙ (ap (λ b. label_count (take i (lines_in store)) + (if b then 1 else 0)) (sym (binds_said store.names store.labels line.command))
          ∙ sym (label_count_more (lines_in store) i says within there));
      orphans =
          c.in_ok-note.ensures ∙ ap (λ o. orphans_after o c.in_ok-told.told) c.loop-line.invariant.orphans
          ∙ sym (told_orphans (record { kept = c.loop-line.ready.core; handles = c.loop-line.ready.handles.items }) (record { kept = c.answer_next.new.ready.core; handles = c.answer_next.new.ready.handles.items }) says c.in_ok-told.told here answered comes_to);
      room = c.answer_next.ensures.room ∙ c.loop-line.invariant.room;
    }
