use Rattle.std.proofs.Common.{◌≡◌, inr, ◌∙◌, subst, sym}
use Rattle.hg_replay.specs.declared.run.status.Status.{Status}
use Rattle.hg_replay.specs.declared.run.status.Status.TheVariants as status
use Rattle.hg_program.specs.Ends.{EndsOnTests}
use Rattle.hg_program.proofs.Tested.{texts}
use Rattle.hg_program.proofs.files.test_files.Goals as goal

pub returns-in-Ok-clause-ends : goal.returns-in-Ok-clause-ends
returns-in-Ok-clause-ends g c =
    let (bytes, of, stand) = c.in-Ok.ensures in
    let (sources, are, stands, quiet) = stand in
    subst
    (λ (ended : Status). EndsOnTests (g.H.Host.holds c.args.cx.now.host.now) c.args.policy.now
    (texts c.args.names.now) ended (g.W.Sink.seen c.args.out.now) (g.W.Sink.seen c.end-ended.new.out))
    (sym (c.unwritten.ensures.status ∙ c.told.ensures.status))
    (inr (bytes, sources, of, are, c.end-ended.ensures.ends bytes sources stands))

pub returns-in-Ok-clause-quiet : goal.returns-in-Ok-clause-quiet
returns-in-Ok-clause-quiet g c = λ done.
    let (bytes, of, stand) = c.in-Ok.ensures in
    let (sources, are, stands, quiet) = stand in
    let told : c.told.result ≡ status.Done = sym c.unwritten.ensures.status ∙ done in
    let ended : c.end-ended.result ≡ status.Done = sym c.told.ensures.status ∙ told in
    (bytes, sources, of, are, λ all. c.unwritten.ensures.quiet told ∙ (c.told.ensures.quiet ended ∙ (c.end-ended.ensures.quiet ended ∙ quiet all)))
