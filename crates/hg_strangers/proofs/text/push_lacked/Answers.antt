use Rattle.std.proofs.Common.{◌≡◌, ◌++◌, codes, ap, ◌∙◌}
use Rattle.std.specs.Prelude.{decimal}
use Rattle.std.proofs.lemmas.Result.{on_ok_weaker}
use Rattle.hg_strangers.specs.Texts.{kind_text, lacked_text}
use Rattle.hg_strangers.proofs.Lists.{more_pieces}
use Rattle.hg_strangers.proofs.text.push_lacked.Goals as goal

pub returns : goal.returns
unfolding lacked_text
returns c =
    let old = c.args.out.now.items in
    let front = codes "warning: line " in
    on_ok_weaker c.push-3.result
    (λ last. more_pieces old front (decimal c.args.line) (codes ": the policy has no ") (kind_text c.args.kind) c.args.name.now _ _ _ _
    (c.in_ok-push_count.ensures ∙ ap (λ n. (old ++ front) ++ decimal n) c.from.ensures)
    c.in_ok-push.ensures
    (c.in_ok-push-2.ensures ∙ ap (λ k. c.push.new.out.items ++ k) c.kind_text.ensures)
    last)
    c.push-3.ensures
