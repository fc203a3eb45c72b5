use Rattle.std.proofs.Common.{[], refl, sym, ap, ◌∙◌, append-nil}
use Rattle.hg_trace.specs.Commands.{command_at}
use Rattle.hg_trace.specs.Stored.{lines_in}
use Rattle.hg_trace.proofs.LineReads.{no_words, no_worker, no_command, reads_kept}
use Rattle.hg_trace.proofs.read.read_words.Goals as goal

pub returns-in_default : goal.returns-in_default
returns-in_default c =
    ([], rw c.in_default.ensures.0 (no_words c.args.number c.args.trace.now.labels), sym (append-nil (lines_in c.args.trace.now)), refl)

pub returns-in-Err : goal.returns-in-Err
returns-in-Err c = λ other.
    rw (c.in-Some.ensures, c.at.ensures) (no_worker c.args.number c.args.trace.now.labels c.in-Some.word.now c.next_word.new.self c.in-Err.fault (sym c.in-Err.ensures))

pub returns-in-Ok-command_of : goal.returns-in-Ok-command_of
returns-in-Ok-command_of c =
    let labels = ap (λ known. command_at known c.next_word.new.self) c.labels.ensures in
    rw c.in-Some.ensures
    (reads_kept c.args.number c.args.trace.now.labels c.in-Some.word.now c.next_word.new.self c.in-Ok.worker (sym c.in-Ok.ensures)
    c.in-Ok-command_of.command (sym (c.in-Ok-command_of.ensures ∙ labels)) (lines_in c.args.trace.now) (lines_in c.push.new.self) c.push.new.self.labels c.push.result
    c.push.ensures.fresh c.push.ensures.lines c.push.ensures.labels c.push.ensures.err)

pub returns-in-Err-command_of : goal.returns-in-Err-command_of
returns-in-Err-command_of c = λ other.
    let labels = ap (λ known. command_at known c.next_word.new.self) c.labels.ensures in
    rw (c.in-Some.ensures, c.at-in-Err-command_of.ensures)
    (no_command c.args.number c.args.trace.now.labels c.in-Some.word.now c.next_word.new.self c.in-Ok.worker (sym c.in-Ok.ensures)
    c.in-Err-command_of.fault (sym (c.in-Err-command_of.ensures ∙ labels)))
