use Rattle.std.proofs.Common.{◌≡◌, ℕ, false, [], ◌∷◌, ◌++◌, ◌∙◌, None, refl, sym, subst, ap}
use Rattle.hg_machine.specs.declared.Event.TheVariants as event
use Rattle.hg_frame.specs.SlotWords.{changes_word}
use Rattle.hg_machine.specs.State.{State}
use Rattle.hg_agreement.specs.Agreement.{Agrees}
use Rattle.hg_agreement.specs.Views.{View}
use Rattle.hg_heap.specs.Answers.{refused_answer}
use Rattle.hg_heap.specs.declared.refused.Refused.{Refused}
use Rattle.hg_heap.specs.declared.refused.Refused.TheVariants as refused
use Rattle.hg_run_table.specs.Calls.{IsTiedAlone, IsWorkers, log_in}
use Rattle.hg_heap.specs.Held.{Held}
use Rattle.hg_run_table.specs.declared.segment.RunSegment.{RunSegment}
use Rattle.hg_run_worker.proofs.Ready.{decided_here}
use Rattle.hg_run_worker.proofs.worker.RunWorker.log_refused.Goals as goal

-- a refusal of an allocation changes no word
no_word : (f : Refused) (actor : _) (arena bytes other : ℕ)
    → changes_word (event.Alloc actor arena bytes) (refused_answer f) other ≡ false
no_word (refused.Denied rule) actor arena bytes other = refl
no_word refused.TooLarge actor arena bytes other = refl
no_word refused.NoRoom actor arena bytes other = refl
no_word refused.Elsewhere actor arena bytes other = refl
no_word refused.OutOfBlock actor arena bytes other = refl

pub call_alone-requires-clause-tied : goal.call_alone-requires-clause-tied
call_alone-requires-clause-tied g c =
    let key = c.requires.ready.key in
    subst (λ (T : Type 0). T)
    (λ i.
    IsTiedAlone (sym key i) (sym c.requires.before i) (sym c.requires.call i) (sym c.requires.after i))
    (record {
      own = record { worker = c.args.self.now.below; same = refl; own = refl };
      none = λ other lt. no_word c.args.refused c.args.actor c.args.arena c.args.bytes other;
      ties = c.requires.tied;
    })

pub returns-clause-called : goal.returns-clause-called
returns-clause-called g c =
    let s = c.args.self.now in
    let e = c.call_alone.ensures in
    decided_here s c.call_alone.new.self c.requires.ready e.rest
    (ap (λ (h : Held RunSegment). h.segments) e.heap) e.same
    (e.lives ∙ c.requires.ready.work.bare)
    (subst (IsWorkers c.call_alone.new.self.call) c.requires.after e.worker)
    (e.log ∙ ap (λ call. log_in s.call ++ call ∷ []) c.requires.call)
    (subst (λ (v : View). (m : State) × Agrees m v None) c.requires.before e.agreed) c.requires.tied
