use Rattle.std.proofs.Common.{Some, ap, sym, ◌∙◌}
use Rattle.hg_labels.specs.Indexes.{texts}
use Rattle.hg_trace.specs.Stored.{line_in}
use Rattle.hg_reasons.specs.Explaining.{words_of}
use Rattle.hg_reasons.proofs.explain.words_of.Goals as goal

pub returns-in_ok-words-in-Some : goal.returns-in_ok-words-in-Some
returns-in_ok-words-in-Some c = λ labels.
    ap (λ words. Some words) (c.in_ok-words-in-Some.ensures labels)
    ∙ ap (words_of c.args.policy.now (line_in (texts c.args.names.now) labels c.args.line.now) c.args.tells) (sym c.in-Some.is)
