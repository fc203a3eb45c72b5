use Rattle.std.proofs.Common.{◌-◌, length, take, drop, ap, ◌∙◌}
use Rattle.std.specs.Prelude.{unwrap_or}
use Rattle.std.specs.List.{position_or_len}
use Rattle.std.proofs.lemmas.List.{take_rest}
use Rattle.hg_trace.specs.Lines.{is_blank}
use Rattle.hg_trace.proofs.Firsts.{unwrap_or_position}
use Rattle.hg_trace.proofs.spans.first_word.Goals as goal

pub returns-clause-width : goal.returns-clause-width
returns-clause-width c =
    let word = take (length c.args.text.now - c.unwrap_or-start.result) (drop c.unwrap_or-start.result c.args.text.now) in
    c.unwrap_or.ensures ∙ ap (λ place. unwrap_or place (length word)) c.word_end.ensures ∙ unwrap_or_position is_blank word ∙ ap (position_or_len is_blank) (take_rest c.args.text.now c.unwrap_or-start.result)
