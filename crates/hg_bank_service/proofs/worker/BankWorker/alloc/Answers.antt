use Rattle.std.proofs.Common.{Err, refl, sym, subst}
use Rattle.hg_heap.specs.declared.refused.Refused.TheVariants as refused
use Rattle.hg_bank_service.specs.Allocating.{AllocatesBy}
use Rattle.hg_bank_service.proofs.Verdicts.{fits_size, verdict_told}
use Rattle.hg_bank_service.proofs.worker.BankWorker.alloc.Goals as goal

pub returns-in-Denied : goal.returns-in-Denied
returns-in-Denied c =
    let old = c.args.self.now in
    let told = verdict_told old c.args.actor c.args.arena c.args.bytes c.words_of.ensures
    c.counted-charge.ensures c.judge_alloc.ensures c.in-Denied.is in
    subst (λ v. AllocatesBy v c.args.actor c.args.arena c.args.bytes (Err (refused.Denied c.in-Denied.rule))
    old old) (sym told) (refl, refl)

pub returns-in-TooLarge : goal.returns-in-TooLarge
returns-in-TooLarge c =
    let old = c.args.self.now in
    let told = verdict_told old c.args.actor c.args.arena c.args.bytes c.words_of.ensures
    c.counted-charge.ensures c.judge_alloc.ensures c.in-TooLarge.is in
    subst (λ v. AllocatesBy v c.args.actor c.args.arena c.args.bytes (Err refused.TooLarge) old old)
    (sym told) (refl, refl)

pub alloc_fitting-requires : goal.alloc_fitting-requires
alloc_fitting-requires c =
    let old = c.args.self.now in
    fits_size old c.args.actor c.args.arena c.args.bytes _
    (verdict_told old c.args.actor c.args.arena c.args.bytes c.words_of.ensures
    c.counted-charge.ensures c.judge_alloc.ensures c.in-Fits.is)

pub returns-in-Fits : goal.returns-in-Fits
returns-in-Fits c =
    let old = c.args.self.now in
    let told =
    fits_size old c.args.actor c.args.arena c.args.bytes _
    (verdict_told old c.args.actor c.args.arena c.args.bytes c.words_of.ensures
    c.counted-charge.ensures c.judge_alloc.ensures c.in-Fits.is) in
    subst (λ v. AllocatesBy v c.args.actor c.args.arena c.args.bytes c.alloc_fitting.result old
    c.alloc_fitting.new.self) (sym told) c.alloc_fitting.ensures
