use Rattle.std.proofs.Common.{◌+◌}
use Rattle.hg_heap.specs.Answers.{read_answer}
use Rattle.hg_machine.specs.declared.Event.TheVariants as event
use Rattle.hg_core.proofs.Kept.{kept_sound}
use Rattle.hg_core.proofs.WordReads.{read_leaves, refused_told}
use Rattle.hg_core.proofs.serving.Core.read_words.Goals as goal

pub returns-clause-each : goal.returns-clause-each
returns-clause-each c = rw (← c.self.view_is) c.read_words.ensures.each

pub returns-clause-next : goal.returns-clause-next
returns-clause-next c =
    let next = c.read_words.ensures.next in
    let told = refused_told c.args.worker (event.Read c.args.actor c.args.handle
    (c.args.first + c.read_words.result.done)) c.self.inside.stores c.read_words.new.self next.0
    c.read_words.result.refused next.1 next.2 in
    rw (← c.self.view_is) told

pub returns-clause-same : goal.returns-clause-same
returns-clause-same c =
    let next = c.read_words.ensures.next in
    rw (← c.self.view_is) (read_leaves _ _ c.args.worker c.args.actor c.args.handle
    (c.args.first + c.read_words.result.done) (read_answer next.0) next.1)

pub returns-clause-kept : goal.returns-clause-kept
returns-clause-kept c = kept_sound c.read_words.new.self c.read_words.ensures.kept
