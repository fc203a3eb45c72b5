use Rattle.std.proofs.Common.{◌≡◌, ◌+◌, [], ◌∷◌, cond, sym, ap, subst}
use Rattle.std.specs.Prelude.{Ok, Err}
use Rattle.std.specs.List.{count_by}
use Rattle.hg_core.specs.Answers.{free_answer}
use Rattle.hg_machine.specs.declared.Event.TheVariants as event
use Rattle.hg_choice.specs.ChosenSteps.{ChosenStep}
use Rattle.hg_bulk.specs.Freeing.{FreesAmong, is_freed}
use Rattle.hg_bulk.specs.Later.{IsSameFrom}
use Rattle.hg_bulk.proofs.Later.{past_free}
use Rattle.hg_bulk.proofs.Frees.{frees_none, frees_one, is_freed_here, is_not_freed}
use Rattle.hg_bulk.proofs.freeing.free_at.Goals as goal

pub returns-in-Ok-clause-freed : goal.returns-in-Ok-clause-freed
returns-in-Ok-clause-freed c =
    let k = c.args.core.now in
    let new = c.free.new.self in
    let handle = c.in-Some.handle in
    let a = free_answer (Ok c.in-Ok.field-0) in
    let one : count_by is_freed (a ∷ []) ≡ 1 = ap (λ b. 0 + cond b 1 0) (is_freed_here c.in-Ok.field-0) in
    subst (λ count. FreesAmong k c.args.worker c.args.actor c.args.owner (c.args.number ∷ []) count new) one
    (frees_one k new c.args.worker c.args.actor c.args.owner c.args.number handle a c.in-Some.ensures.block
    (subst (λ m. ChosenStep m c.args.worker (event.Free c.args.actor handle) a new) c.in-Some.ensures.same c.in-Ok.ensures.chosen))

pub returns-in-Ok-clause-later : goal.returns-in-Ok-clause-later
returns-in-Ok-clause-later c =
    let s = c.args.core.now.state in
    let new = c.free.new.self in
    let handle = c.in-Some.handle in
    let a = free_answer (Ok c.in-Ok.field-0) in
    let free = subst (λ m. ChosenStep m c.args.worker (event.Free c.args.actor handle) a new) c.in-Some.ensures.same c.in-Ok.ensures.chosen in
    subst (λ n. IsSameFrom s new.state (n + 1)) c.in-Some.ensures.block.0 (past_free s new.state c.args.worker c.args.actor handle a free.step)

pub returns-in-Err-clause-freed : goal.returns-in-Err-clause-freed
returns-in-Err-clause-freed c =
    let k = c.args.core.now in
    let new = c.free.new.self in
    let handle = c.in-Some.handle in
    let a = free_answer (Err c.in-Err.field-0) in
    let none : count_by is_freed (a ∷ []) ≡ 0 = ap (λ b. 0 + cond b 1 0) (is_not_freed c.in-Err.field-0) in
    subst (λ count. FreesAmong k c.args.worker c.args.actor c.args.owner (c.args.number ∷ []) count new) none
    (frees_one k new c.args.worker c.args.actor c.args.owner c.args.number handle a c.in-Some.ensures.block
    (subst (λ m. ChosenStep m c.args.worker (event.Free c.args.actor handle) a new) c.in-Some.ensures.same c.in-Err.ensures.chosen))

pub returns-in-Err-clause-later : goal.returns-in-Err-clause-later
returns-in-Err-clause-later c =
    let s = c.args.core.now.state in
    let new = c.free.new.self in
    let handle = c.in-Some.handle in
    let a = free_answer (Err c.in-Err.field-0) in
    let free = subst (λ m. ChosenStep m c.args.worker (event.Free c.args.actor handle) a new) c.in-Some.ensures.same c.in-Err.ensures.chosen in
    subst (λ n. IsSameFrom s new.state (n + 1)) c.in-Some.ensures.block.0 (past_free s new.state c.args.worker c.args.actor handle a free.step)

pub returns-in-None-clause-freed : goal.returns-in-None-clause-freed
returns-in-None-clause-freed c =
    let k = c.args.core.now in
    subst (λ m. FreesAmong k c.args.worker c.args.actor c.args.owner (c.args.number ∷ []) 0 m) (sym c.in-None.ensures.same)
    (frees_none k c.args.worker c.args.actor c.args.owner (c.args.number ∷ []) c.in-None.ensures.block)
