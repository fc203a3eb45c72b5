use Rattle.std.proofs.Common.{◌≡◌, ◌++◌, ◌∷◌, [], ap, ◌∙◌, codes}
use Rattle.std.proofs.lemmas.List.{map_push}
use Rattle.toml.specs.View.{view}
use Rattle.hg_show.specs.Rows.{text_at}
use Rattle.hg_hints.proofs.Finds.{texts}
use Rattle.hg_hints.proofs.Lists.{given_more}
use Rattle.hg_hints.proofs.reason.push_names.Goals as goal

pub loop-row-preserved : goal.loop-row-preserved
loop-row-preserved c =
    let names = c.loop-row.names.items in
    let pushed : texts c.push.new.self.items ≡ texts names ++ text_at (codes "name") (view c.row-item.result) ∷ [] =
    ap texts c.in_ok-push.ensures.items ∙ map_push (λ name. name.now) names c.text_at.result ∙ ap (λ t. texts names ++ t ∷ []) c.text_at.ensures in
    given_more (text_at (codes "name")) view c.args.rows.now c.loop-row.row-index c.row-item.result
    (texts c.args.names.now.items) (texts names) (texts c.push.new.self.items) c.loop-row-test.true c.row-item.is c.loop-row.invariant pushed
