use Rattle.std.proofs.Common.{◌++◌, refl, sym, ◌∙◌, ap}
use Rattle.hg_policy.specs.Copied.{by_text}
use Rattle.hg_policy.proofs.Copies.{are_apart, one_more, no_more}
use Rattle.hg_policy.proofs.copied.copied.Goals as goal

pub loop-name-init : goal.loop-name-init
loop-name-init g c = rw (c.in_ok-copy.ensures.empty, c.into_iter-name-iterator.ensures.into_iter_gives, c.iter-name-items.ensures.rest) refl

pub loop-name-preserved : goal.loop-name-preserved
loop-name-preserved g c =
    one_more (by_text c.args.named.now.entries) c.loop-name.copy c.insert.new.self c.loop-name.name-iterator c.next.new.self c.in-Some.name.now c.in_ok-name.name c.in-Some.value.now
    (are_apart c.args.named.now.entries c.iter-name-items.ensures.unique) c.loop-name.invariant c.in-Some.ensures.steps (c.in_ok-name.ensures.ok ∙ c.as_str.ensures.value) c.in_ok-insert.ensures.entries

pub returns : goal.returns
returns g c =
    let done = by_text c.loop-name.copy.entries in
    sym (no_more done) ∙ ap (λ rest. done ++ by_text rest) (sym c.in-None.ensures.steps.0) ∙ c.loop-name.invariant
