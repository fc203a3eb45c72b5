use Rattle.std.proofs.Common.{subst}
use Rattle.std.proofs.lemmas.Bool.{eq-eqb, ne_eqb}
use Rattle.hg_place.specs.declared.Actor.{Actor}
use Rattle.hg_heap.specs.Answers.{refused_answer}
use Rattle.hg_machine.specs.declared.Answer.TheVariants as answer
use Rattle.hg_machine.specs.declared.Event.TheVariants as event
use Rattle.hg_machine.specs.Steps.{Step}
use Rattle.hg_bulk.proofs.OwnBlockLemmas.{is_own, not_own, not_told}
use Rattle.hg_bulk.proofs.Frees.{look_leaves, no_row}
use Rattle.hg_bulk.proofs.freeing.own_block.Goals as goal

pub returns-then-row-owner-clause-block : goal.returns-then-row-owner-clause-block
returns-then-row-owner-clause-block c =
    let who : Actor = record { 0 = c.args.owner } in
    let s = c.args.core.now.state in
    let new = c.look.new.self.state in
    is_own s new c.args.worker c.args.owner c.args.number c.policy-policy.ensures.kept.0 c.requires.number c.in-Ok.row
    (eq-eqb c.in-Ok.row.owner c.args.owner c.if-row-owner.true)
    (subst (λ p. Step s c.args.worker (event.Look who p) (answer.Listed c.in-Ok.row) new) c.place_at.ensures.place c.in-Ok.ensures.step)

pub returns-else-row-owner-clause-block : goal.returns-else-row-owner-clause-block
returns-else-row-owner-clause-block c =
    let who : Actor = record { 0 = c.args.owner } in
    let s = c.args.core.now.state in
    let new = c.look.new.self.state in
    not_own s new c.args.worker c.args.owner c.args.number c.policy-policy.ensures.kept.0 c.requires.number c.in-Ok.row
    (ne_eqb c.in-Ok.row.owner c.args.owner c.if-row-owner.false)
    (subst (λ p. Step s c.args.worker (event.Look who p) (answer.Listed c.in-Ok.row) new) c.place_at.ensures.place c.in-Ok.ensures.step)

pub returns-in-Err-clause-same : goal.returns-in-Err-clause-same
returns-in-Err-clause-same c =
    let who : Actor = record { 0 = c.args.owner } in
    look_leaves c.args.core.now c.look.new.self c.args.worker who c.place_at.result (refused_answer c.in-Err.field-0) c.in-Err.ensures.chosen

pub returns-in-Err-clause-block : goal.returns-in-Err-clause-block
returns-in-Err-clause-block c =
    let who : Actor = record { 0 = c.args.owner } in
    let s = c.args.core.now.state in
    let new = c.look.new.self.state in
    let why = c.in-Err.field-0 in
    not_told s new c.args.worker c.args.owner c.args.number c.policy-policy.ensures.kept.0 c.requires.number
    (refused_answer why) (no_row why)
    (subst (λ p. Step s c.args.worker (event.Look who p) (refused_answer why) new) c.place_at.ensures.place c.in-Err.ensures.step)
