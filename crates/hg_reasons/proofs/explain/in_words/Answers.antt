use Rattle.std.proofs.Common.{◌++◌, ap, ◌∙◌}
use Rattle.hg_reasons.specs.Wording.{words_text}
use Rattle.hg_reasons.proofs.explain.in_words.Goals as goal

-- nothing was written before, and the words are about the line
pub returns : goal.returns
returns c = λ labels.
    let words = words_text c.by.result c.args.tells c.args.reason in
    c.in_ok-push_words.ensures
    ∙ ap (λ front. front ++ words) c.new-words.ensures.items
    ∙ ap (λ said. words_text said c.args.tells c.args.reason) (c.by.ensures labels)
