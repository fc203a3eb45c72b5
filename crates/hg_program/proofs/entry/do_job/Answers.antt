use Rattle.std.proofs.Common.{◌≡◌, ℕ, List, Bor, map, subst, sym}
use Rattle.hg_job.specs.declared.job.Job.{Job}
use Rattle.hg_program.specs.Ends.{EndsJob, EndsOnTests, IsQuietJob, IsQuietTest}
use Rattle.hg_program.proofs.entry.do_job.Goals as goal

pub returns-in-Test-clause-ends : goal.returns-in-Test-clause-ends
returns-in-Test-clause-ends g c =
    let holds = g.H.Host.holds c.args.cx.now.host.now in
    let seen = g.W.Sink.seen in
    subst
    (λ (job : Job). EndsJob holds (g.R.Read.remaining c.args.input.now) job c.test_files.result
    (seen c.args.out.now) (seen c.test_files.new.out)) (sym c.in-Test.is)
    (subst
    (λ (traces : List (Bor (List ℕ))). EndsOnTests holds c.in-Test.policy.now
    (map (λ trace. trace.now) traces) c.test_files.result (seen c.args.out.now)
    (seen c.test_files.new.out)) c.as_slice.ensures.value c.test_files.ensures.ends)

pub returns-in-Test-clause-quiet : goal.returns-in-Test-clause-quiet
returns-in-Test-clause-quiet g c = λ done.
    let holds = g.H.Host.holds c.args.cx.now.host.now in
    subst
    (λ (job : Job). IsQuietJob (g.H.Host.may_be_terminal c.args.cx.now.host.now) holds job (c.test_files.new.err ≡ c.args.err.now))
    (sym c.in-Test.is)
    (subst
    (λ (traces : List (Bor (List ℕ))). IsQuietTest holds c.in-Test.policy.now
    (map (λ trace. trace.now) traces) (c.test_files.new.err ≡ c.args.err.now))
    c.as_slice.ensures.value (c.test_files.ensures.quiet done))
