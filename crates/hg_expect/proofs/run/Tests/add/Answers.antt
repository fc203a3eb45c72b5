use Rattle.std.proofs.Common.{◌+◌, ◌≤◌, sym, ap, subst, ◌∙◌}
use Rattle.hg_replay.specs.RunFaults.{status_of}
use Rattle.hg_expect.specs.Tests.{Progress}
use Rattle.hg_expect.proofs.Summaries.{has_fault, has_none, stands_behind, stands_faulty}
use Rattle.hg_expect.proofs.Summaries.{stands_tested}
use Rattle.hg_expect.proofs.run.Tests.add.Goals as goal

pub returns-then-is_some-clause-stands : goal.returns-then-is_some-clause-stands
returns-then-is_some-clause-stands g c = λ sources so_far.
    let f = has_fault (λ faulty. status_of faulty.fault) c.self.inside.faulty
    (sym c.is_some.ensures ∙ c.if-is_some.true) in
    stands_behind c.args.policy.now sources c.args.source.now c.args.self.now f.0
    (sym (ap (λ (t : Progress). t.fault) c.self.view_is) ∙ f.1) so_far

pub returns-in-Err-clause-stands : goal.returns-in-Err-clause-stands
returns-in-Err-clause-stands g c = λ sources so_far.
    let none = sym (ap (λ (t : Progress). t.fault) c.self.view_is)
    ∙ has_none (λ faulty. status_of faulty.fault) c.self.inside.faulty
    (sym c.is_some.ensures ∙ c.if-is_some.false) in
    stands_faulty c.args.policy.now sources c.args.source.now c.args.self.now c.stop.new.self
    (status_of c.in-Err.fault) none (ap (λ (t : Progress). t.fault) c.stop.ensures)
    c.in-Err.ensures.faulty so_far

pub returns-in-Err-clause-traces : goal.returns-in-Err-clause-traces
returns-in-Err-clause-traces g c =
    subst (λ (t : Progress). t.summary.traces ≤ c.args.self.now.summary.traces + 1)
    (sym c.stop.ensures) c.try_add.ensures.traces

pub returns-in-Err-clause-differ : goal.returns-in-Err-clause-differ
returns-in-Err-clause-differ g c =
    subst (λ (t : Progress). t.summary.differ ≤ c.args.self.now.summary.differ + 1)
    (sym c.stop.ensures) c.try_add.ensures.differ

pub returns-in_default-clause-stands : goal.returns-in_default-clause-stands
returns-in_default-clause-stands g c = λ sources so_far.
    let none = sym (ap (λ (t : Progress). t.fault) c.self.view_is)
    ∙ has_none (λ faulty. status_of faulty.fault) c.self.inside.faulty
    (sym c.is_some.ensures ∙ c.if-is_some.false) in
    let (found, tested, is) = c.in_default.ensures.tested in
    stands_tested c.args.policy.now sources c.args.source.now c.args.self.now c.try_add.new.self
    found none (c.try_add.ensures.fault ∙ none) tested is so_far
