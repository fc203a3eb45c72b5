use Rattle.std.proofs.Common.{◌≡◌, ◌++◌, ◌∷◌, [], length, ap, ◌∙◌, arith}
use Rattle.std.proofs.lemmas.List.{map_push}
use Rattle.hg_hints.specs.PolicyNames.{arena_at}
use Rattle.hg_hints.proofs.Numbered.{each_all, each_more, texts}
use Rattle.hg_hints.proofs.policy_names.arenas.Goals as goal

pub loop-arena-preserved : goal.loop-arena-preserved
loop-arena-preserved c =
    let names = c.loop-arena.names.items in
    let pushed : texts c.push.new.self.items ≡ texts names ++ arena_at c.args.policy.now c.loop-arena.arena ∷ [] =
    ap texts c.in_ok-push.ensures.items ∙ map_push (λ name. name.now) names c.arena_at.result ∙ ap (λ t. texts names ++ t ∷ []) c.arena_at.ensures in
    each_more (arena_at c.args.policy.now) c.loop-arena.arena (texts names) (texts c.push.new.self.items) c.loop-arena.invariant pushed

pub returns : goal.returns
returns c =
    let ends : c.loop-arena.arena ≡ length c.args.policy.now.arenas = omega (arith, c.loop-arena-test.false, c.loop-arena.auto.arena-end, c.arenas-arena-end.ensures.arenas) in
    each_all (arena_at c.args.policy.now) c.loop-arena.arena (length c.args.policy.now.arenas) (texts c.loop-arena.names.items) ends c.loop-arena.invariant
