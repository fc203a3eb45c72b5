use Rattle.std.proofs.Common.{sym, ap, ◌∙◌, not}
use Rattle.std.proofs.lemmas.List.{take_rest}
use Rattle.hg_trace.specs.Lines.{is_blank}
use Rattle.hg_trace.specs.Operands.{name_operand}
use Rattle.hg_trace.proofs.Firsts.{position_none}
use Rattle.hg_trace.proofs.WordCuts.{split_words-blanks}
use Rattle.hg_trace.proofs.NameCuts.{name_in_front, no_name_in_front}
use Rattle.hg_trace.proofs.words.Words.next_name.Goals as goal

pub returns-in_default : goal.returns-in_default
returns-in_default c =
    let rest = c.self.inside.rest.now in
    ap name_operand (sym c.self.view_is ∙ split_words-blanks rest (position_none (λ b. not (is_blank b)) rest c.in_default.ensures))

pub returns-in-Some-at_front : goal.returns-in-Some-at_front
returns-in-Some-at_front c =
    let rest = c.self.inside.rest.now in
    let found = c.in-Some-at_front.ensures in
    ap name_operand (sym c.self.view_is)
    ∙ name_in_front rest _ c.in-Some.start c.in-Some.ensures (take_rest rest c.in-Some.start) c.in-Some-at_front.name c.in-Some-at_front.rest.now found.0 found.1 found.2

pub returns-in-None : goal.returns-in-None
returns-in-None c =
    let rest = c.self.inside.rest.now in
    ap name_operand (sym c.self.view_is) ∙ no_name_in_front rest _ c.in-Some.start c.in-Some.ensures (take_rest rest c.in-Some.start) c.in-None.ensures
