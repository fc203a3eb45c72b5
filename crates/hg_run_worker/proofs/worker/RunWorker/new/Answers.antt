use Rattle.std.proofs.Common.{◌≡◌, [], ◌∷◌, None, refl, sym, ap, subst, ◌∙◌, arith, drop, take}
use Rattle.hg_heap.specs.Policies.{AreOf}
use Rattle.hg_heap.proofs.Founds.{inside_of}
use Rattle.hg_roles.specs.FirstParts.{idle}
use Rattle.hg_table.specs.View.{View, blank, part_of}
use Rattle.hg_run_table.specs.declared.table.RunTable.{RunTable}
use Rattle.hg_run_table.proofs.WorkerSteps.{own_log}
use Rattle.hg_run_table.specs.Calls.{log_in}
use Rattle.hg_run_worker.specs.AtWork.{IsAtWork, IsOwn, number_in}
use Rattle.hg_run_worker.proofs.worker.RunWorker.new.Goals as goal
use Rattle.hg_run_worker.proofs.worker.RunWorker.new.Goals.{After-split-call}

-- the worker's part, which has made no call and holds nothing
at_work : (c : After-split-call)
    → IsAtWork c.args.table.now.value.table.shared.table_id c.args.policy.now c.args.number None []
    c.split-call.result
at_work c =
    let new = c.requires.new in
    record {
      same = c.split-call.ensures.of_it ∙ new.same;
      bare = c.split-call.ensures.lives_given ∙ ap (λ (l : View). drop 1 l) new.lives;
      worker =
          own_log c.split-call.result.seat.me.0.run (idle c.args.policy.now c.args.number)
          (log_in c.args.seat) (c.split-call.ensures.roles [] _ refl new.worker).1;
      seated = λ at k e. absurd (let below = inside_of [] at k e in omega (arith, below));
    }

pub returns-clause-ready : goal.returns-clause-ready
returns-clause-ready c =
    let policy : c.in_ok-policy.policy ≡ c.args.policy.now = c.in_ok-policy.ensures in
    let table : c.in_ok-table.table.value ≡ c.args.table.now.value = c.in_ok-table.ensures in
    let nothing : c.in_ok-heap.heap.segments ≡ [] = c.in_ok-heap.ensures.segments in
    -- it knows nothing of words and lives
    let kept : c.split-call.new.seat.seat.me.0.lives ≡ blank ∷ [] =
    c.split-call.ensures.lives ∙ ap (λ (l : View). take 1 l) c.requires.new.lives in
    record {
      work =
          subst (λ (T : Type 0). T)
          (λ i.
          IsAtWork (sym table i).table.shared.table_id (sym policy i) c.args.number None (sym nothing i)
          c.split-call.result)
          (at_work (goal.at.returns-clause-ready c).After-split-call);
      own =
          subst (λ (t : RunTable). IsOwn t.table.shared.table_id c.split-call.new.seat) (sym table)
          (record {
            same = c.split-call.ensures.same ∙ c.requires.new.same;
            one = kept ∙ sym (ap (λ (l : View). part_of l ∷ []) kept);
            bare = c.split-call.ensures.run;
          });
      of =
          subst (AreOf number_in c.in_ok-policy.policy) (sym nothing)
          (record {
            arena = λ k there. absurd (let below = there.1 in omega (arith, below));
            greatest = λ k there. absurd (let below = there.1 in omega (arith, below));
          });
      key = ap (λ (t : RunTable). t.table.shared.key) table ∙ c.requires.key ∙ sym policy;
    }
