-- Which status is due, and that runs and checks end with it.
use Rattle.std.proofs.Common.{◌≡◌, ℕ, zero, suc, List, Ok, Err, Some, None, Option, Result, length, refl, sym, ap, subst, ◌∙◌, inl, inr, arith}
use Rattle.hg_machine.specs.Policy.{Policy}
use Rattle.hg_policy_text.specs.Document.{document_of}
use Rattle.hg_policy_text.specs.Faults.{Fault}
use Rattle.hg_trace.specs.declared.fault.TraceFault.{TraceFault}
use Rattle.hg_trace.specs.declared.line.Line.{Line}
use Rattle.hg_trace.specs.Trace.{trace_of}
use Rattle.hg_replay.specs.declared.run.status.Status.{Status}
use Rattle.hg_replay.specs.declared.run.status.Status.TheVariants as status
use Rattle.hg_replay.specs.Events.{unknown_worker}
use Rattle.hg_replay.specs.Numbers.{number_of}
use Rattle.hg_core.specs.Opening.{opened}
use Rattle.hg_replay.specs.Replays.{Replays, starting}
use Rattle.hg_replay.proofs.FirstLines.{stops_are_in_runs}
use Rattle.hg_replay.proofs.ValuesInWords.{values_show_in_words}
use Rattle.hg_replay.specs.StatusLaws.{IsDue, OneStatusIsDue, RunsEndAsDue, RunsShowValuesInWords, FailedRunsBeginWell, ChecksEndAsDue, LongInputsFail, NumbersDiffer}

-- bytes that mean no policy
module _ (p t : List ℕ) (fault : Fault) (none : document_of p ≡ Err fault) where
  only_bad_policy : (other : Status) → IsDue other p t → other ≡ status.BadPolicy
  only_bad_policy status.Done (policy, lines, means) = let e = means.0 in absurd (cc)
  only_bad_policy status.BadPolicy due = refl
  only_bad_policy status.BadTrace (policy, e, none_read) = absurd (cc)
  only_bad_policy status.Failed due = absurd due
  only_bad_policy status.BadLine due = absurd due
  only_bad_policy status.Differs due = absurd due

-- bytes that mean a policy
module _ (p t : List ℕ) (policy : Policy) (is : document_of p ≡ Ok policy) where
  -- with no trace
  module _ (fault : TraceFault) (none : trace_of t ≡ Err fault) where
    only_no_trace : (other : Status) → IsDue other p t → other ≡ status.BadTrace
    only_no_trace status.Done (other, lines, means) = let e = means.1 in absurd (cc)
    only_no_trace status.BadPolicy (fault, e) = absurd (cc)
    only_no_trace status.BadTrace due = refl
    only_no_trace status.Failed due = absurd due
    only_no_trace status.BadLine due = absurd due
    only_no_trace status.Differs due = absurd due

  -- and these lines
  module _ (lines : List Line) (read : trace_of t ≡ Ok lines) where
    same_worker : (other : Policy) (others : List Line) → document_of p ≡ Ok other → trace_of t ≡ Ok others
        → unknown_worker other.workers others ≡ unknown_worker policy.workers lines
    same_worker other others d r =
        let one : other ≡ policy = cc in
        let two : others ≡ lines = cc in
        ap (λ q. unknown_worker q.workers others) one ∙ ap (unknown_worker policy.workers) two

    only_done : unknown_worker policy.workers lines ≡ None → (other : Status) → IsDue other p t → other ≡ status.Done
    only_done known status.Done due = refl
    only_done known status.BadPolicy (fault, e) = absurd (cc)
    only_done known status.BadTrace (other, d, inl (fault, e)) = absurd (cc)
    only_done known status.BadTrace (other, d, inr (others, number, r, e)) =
        let same = same_worker other others d r in
        absurd (cc)
    only_done known status.Failed due = absurd due
    only_done known status.BadLine due = absurd due
    only_done known status.Differs due = absurd due

    only_bad_worker : (number : ℕ) → unknown_worker policy.workers lines ≡ Some number → (other : Status) → IsDue other p t → other ≡ status.BadTrace
    only_bad_worker number unknown status.Done (other, others, means) =
        let same = same_worker other others means.0 means.1 in
        let known = means.2 in
        absurd (cc)
    only_bad_worker number unknown status.BadPolicy (fault, e) = absurd (cc)
    only_bad_worker number unknown status.BadTrace due = refl
    only_bad_worker number unknown status.Failed due = absurd due
    only_bad_worker number unknown status.BadLine due = absurd due
    only_bad_worker number unknown status.Differs due = absurd due

    due_by_worker : (worker : Option ℕ) → unknown_worker policy.workers lines ≡ worker
        → (due : Status) × IsDue due p t × ((other : Status) → IsDue other p t → other ≡ due)
    due_by_worker None known = (status.Done, (policy, lines, (is, read, known)), only_done known)
    due_by_worker (Some number) unknown =
        (status.BadTrace, (policy, is, inr (lines, number, read, unknown)), only_bad_worker number unknown)

  due_by_trace : (read : Result (List Line) TraceFault) → trace_of t ≡ read
      → (due : Status) × IsDue due p t × ((other : Status) → IsDue other p t → other ≡ due)
  due_by_trace (Ok lines) read = due_by_worker lines read (unknown_worker policy.workers lines) refl
  due_by_trace (Err fault) none = (status.BadTrace, (policy, is, inl (fault, none)), only_no_trace fault none)

due_by_policy : (p t : List ℕ) (read : Result Policy Fault) → document_of p ≡ read
    → (due : Status) × IsDue due p t × ((other : Status) → IsDue other p t → other ≡ due)
due_by_policy p t (Ok policy) is = due_by_trace p t policy is (trace_of t) refl
due_by_policy p t (Err fault) none = (status.BadPolicy, (fault, none), only_bad_policy p t fault none)

pub one_status_is_due : OneStatusIsDue
one_status_is_due p t = due_by_policy p t (document_of p) refl

pub runs_end_as_due : RunsEndAsDue
runs_end_as_due status.Done p t old new well = inr (well.0, well.1, well.2)
runs_end_as_due status.BadPolicy p t old new (none, kept) = inr none
runs_end_as_due status.BadTrace p t old new (policy, is, none, kept) = inr (policy, is, none)
runs_end_as_due status.Failed p t old new early = inl refl
runs_end_as_due status.BadLine p t old new ends = absurd ends
runs_end_as_due status.Differs p t old new ends = absurd ends

pub runs_show_values_in_words : RunsShowValuesInWords
runs_show_values_in_words p t u lines others old new before after read reread same
    (policy, ones, means, end, text, replayed, wrote) (other, twos, meant, last, instead, retold, rewrote) =
    let first = means.0 in
    let second = meant.0 in
    let one_read = means.1 in
    let two_read = meant.1 in
    let is : other ≡ policy = cc in
    let one : ones ≡ lines = cc in
    let two : twos ≡ others = cc in
    let from = starting (opened policy) in
    let here : Replays from lines end text = subst (λ ls. Replays from ls end text) one replayed in
    let there : Replays from others last instead =
    subst (λ ls. Replays from ls last instead) two (subst (λ q. Replays (starting (opened q)) twos last instead) is retold) in
    let shown = values_show_in_words from from end last lines others text instead same (record { kept = refl; handles = refl }) here there in
    (text, instead, shown.0, wrote, rewrote)

pub failed_runs_begin_well : FailedRunsBeginWell
failed_runs_begin_well p t old new before after (inl kept) well = inl kept
failed_runs_begin_well p t old new before after (inr (policy, lines, means, (end, stop))) (other, others, meant, last, all, replayed, wrote) =
    let first = means.0 in
    let second = meant.0 in
    let one_read = means.1 in
    let two_read = meant.1 in
    let is : other ≡ policy = cc in
    let same : others ≡ lines = cc in
    let whole : Replays (starting (opened policy)) lines last all =
    subst (λ ls. Replays (starting (opened policy)) ls last all) same (subst (λ q. Replays (starting (opened q)) others last all) is replayed) in
    inr (policy, lines, means, end, last, all, stops_are_in_runs (opened policy) lines end last old new all stop whole, wrote)

pub checks_end_as_due : ChecksEndAsDue
checks_end_as_due status.Done p t old new (policy, is, wrote) other =
    (inl refl, ((λ e. absurd (cc)), (λ (fault, none). absurd (cc))))
checks_end_as_due status.BadPolicy p t old new (none, kept) other = (inr refl, ((λ e. none), (λ due. refl)))
checks_end_as_due status.BadTrace p t old new ends other = absurd ends
checks_end_as_due status.Failed p t old new ends other = absurd (other refl)
checks_end_as_due status.BadLine p t old new ends other = absurd ends
checks_end_as_due status.Differs p t old new ends other = absurd ends

pub long_inputs_fail : LongInputsFail
long_inputs_fail ended bytes old new long (inl failed) = failed
long_inputs_fail ended bytes old new long (inr (read, is, fits, ends)) =
    let same : length read ≡ length bytes = ap (λ l. length l) is in
    absurd (omega (arith, long, fits, same))

-- the status of a number
status_at : ℕ → Status
status_at zero = status.Done
status_at (suc zero) = status.BadPolicy
status_at (suc (suc zero)) = status.BadTrace
status_at (suc (suc (suc zero))) = status.Failed
status_at (suc (suc (suc (suc zero)))) = status.BadLine
status_at (suc (suc (suc (suc (suc n))))) = status.Differs

status_at_number : (one : Status) → status_at (number_of one) ≡ one
unfolding status_at
status_at_number status.Done = refl
status_at_number _ = refl

pub numbers_differ : NumbersDiffer
numbers_differ one other same = sym (status_at_number one) ∙ ap status_at same ∙ status_at_number other
