use Rattle.std.proofs.Common.{ℕ, List, Bor, refl, inl, ap, ◌∙◌, subst, map, Err}
use Rattle.hg_job.specs.declared.job.JobFault.TheVariants.{Memory}
use Rattle.hg_program.specs.Ends.{EndsProgram}
use Rattle.hg_program.proofs.entry.program_of.Goals as goal

pub returns-in-Ok : goal.returns-in-Ok
returns-in-Ok g c =
    let told : List (Bor (List ℕ)) → List (List ℕ) = λ texts. map (λ text. text.now) texts in
    let words = ap told c.as_slice.ensures.value ∙ c.in-Ok.ensures in
    let seen = g.W.Sink.seen in
    let told_on = g.E.Sink.seen in
    subst
    (λ ws. EndsProgram ws (g.H.Host.holds c.args.host.now) (g.R.Read.remaining c.args.input.now) c.program.result (seen c.args.out.now) (seen c.program.new.out)
    (told_on c.args.err.now) (told_on c.program.new.err))
    words c.program.ensures.ends

-- want of memory for the texts of the words is want of memory for their answer
pub returns-in-Err : goal.returns-in-Err
returns-in-Err g c = (Err Memory, (inl refl, λ _. refl), (c.fails.ensures, refl))
