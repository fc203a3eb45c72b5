use Rattle.std.proofs.Common.{◌≡◌, [], map, take, sym, ap, ◌∙◌}
use Rattle.hg_trace.specs.Stored.{line_in, lines_in}
use Rattle.hg_replay.proofs.LinesSaid.{said_here, said_within}
use Rattle.hg_strangers.specs.Mentions.{noted_in, seen}
use Rattle.hg_strangers.proofs.Lists.{fold_next}
use Rattle.hg_strangers.proofs.lacked.lacked.Goals as goal

pub loop-line-preserved : goal.loop-line-preserved
loop-line-preserved c =
    let store = c.args.trace.now in
    let policy = c.args.policy.now in
    let i = c.loop-line.line-index in
    let line = c.line-item.result in
    let lines = c.stored-line-items.result.now in
    let same = c.stored-line-items.ensures.lines in
    let within = said_within store lines same i line c.loop-line-test.true c.line-item.is in
    let there = said_here store lines same i line c.loop-line-test.true c.line-item.is in
    c.in_ok-note_line.ensures store.labels
    ∙ ap (λ names. noted_in policy (map seen c.loop-line.mentions.items) (line_in names store.labels line)) c.names.ensures
    ∙ ap (λ mentions. noted_in policy mentions (line_in store.names store.labels line)) c.loop-line.invariant
    ∙ sym (fold_next (noted_in policy) [] (lines_in store) i (line_in store.names store.labels line) within there)
