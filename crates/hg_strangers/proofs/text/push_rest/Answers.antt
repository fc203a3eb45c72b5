use Rattle.std.proofs.Common.{◌≡◌, codes, option_map}
use Rattle.std.specs.Prelude.{decimal}
use Rattle.std.proofs.lemmas.Result.{on_ok_weaker}
use Rattle.hg_hints.specs.PolicyNames.{near_text}
use Rattle.hg_strangers.specs.Texts.{rest_text}
use Rattle.hg_strangers.proofs.Lists.{pieces}
use Rattle.hg_strangers.proofs.text.push_rest.Goals as goal

pub returns : goal.returns
unfolding rest_text
returns c =
    on_ok_weaker c.push.result
    (λ last. pieces c.args.out.now.items (near_text (option_map (λ name. name.now) c.args.near)) (codes " (such lines: ") (decimal c.args.lines) (codes ")\n")
    _ _ _ c.in_ok-push_near.ensures c.in_ok-push_count.ensures last)
    c.push.ensures
