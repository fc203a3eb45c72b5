use Rattle.hg_trace.proofs.LineReads.{line_words, no_text}
use Rattle.hg_trace.proofs.read.read_line.Goals as goal

pub returns-in-Some : goal.returns-in-Some
returns-in-Some c =
    let text = c.in-Some.ensures in
    rw (line_words c.args.number c.args.trace.now.labels c.args.line c.in-Some.text.now text.0 text.1) (rw c.new.ensures at c.read_words.ensures)

pub returns-in-None : goal.returns-in-None
returns-in-None c = λ other. rw c.at.ensures (no_text c.args.number c.args.trace.now.labels c.args.line c.in-None.ensures)
