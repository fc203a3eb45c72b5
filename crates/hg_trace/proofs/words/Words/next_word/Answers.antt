use Rattle.std.proofs.Common.{◌-◌, length, take, drop, refl, sym, ap, ◌∙◌, not}
use Rattle.std.specs.Prelude.{unwrap_or}
use Rattle.std.proofs.lemmas.List.{take_rest}
use Rattle.hg_trace.specs.Lines.{is_blank}
use Rattle.hg_trace.proofs.Firsts.{position_none}
use Rattle.hg_trace.proofs.WordCuts.{split_words-next, split_words-blanks}
use Rattle.hg_trace.proofs.words.Words.next_word.Goals as goal

pub returns-in-Some : goal.returns-in-Some
returns-in-Some c =
    let rest = c.self.inside.rest.now in
    sym c.self.view_is
    ∙ split_words-next rest _ c.in-Some.start c.unwrap_or-end.result c.in-Some.ensures (take_rest rest c.in-Some.start)
    (c.unwrap_or-end.ensures ∙ ap (λ place. unwrap_or place (length (take (length rest - c.in-Some.start) (drop c.in-Some.start rest)))) c.word_end.ensures)

pub returns-in-None : goal.returns-in-None
returns-in-None c =
    let rest = c.self.inside.rest.now in
    (sym c.self.view_is ∙ split_words-blanks rest (position_none (λ b. not (is_blank b)) rest c.in-None.ensures), refl)
