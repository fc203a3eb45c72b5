use Rattle.std.proofs.Common.{◌≡◌, ◌+◌, ◌∷◌, ◌++◌, [], take, sym, ap, subst, ◌∙◌, arith}
use Rattle.std.proofs.lemmas.List.{take_more}
use Rattle.hg_expect.specs.Tests.{IsUnwarned, Stands}
use Rattle.hg_expect.proofs.run.run_tests.Goals as goal

pub loop-source-preserved : goal.loop-source-preserved
loop-source-preserved g c =
    let policy = c.args.policy.now in
    let sources = c.args.sources.now in
    let i = c.loop-source.source-index in
    let source = c.source-item.result in
    let within = c.loop-source-test.true in
    let more : take (i + 1) sources ≡ take i sources ++ source ∷ [] =
    take_more sources i source within ∙ ap (λ s. take i sources ++ s ∷ []) (sym c.source-item.is) in
    let added = c.add.ensures in
    record {
      stands =
          subst (λ ss. Stands policy ss c.add.new.self) (sym more)
          (added.stands (take i sources) c.loop-source.invariant.stands);
      quiet = λ all.
          added.quiet (subst (λ s. IsUnwarned policy s) (sym c.source-item.is) (all i source within))
          ∙ c.loop-source.invariant.quiet all;
      traces = omega (arith, added.traces, c.loop-source.invariant.traces);
      differ = omega (arith, added.differ, c.loop-source.invariant.differ);
    }
