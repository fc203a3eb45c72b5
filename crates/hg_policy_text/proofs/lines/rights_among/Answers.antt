use Rattle.std.proofs.Common.{◌≡◌, Ok, map, ap, arith}
use Rattle.std.proofs.lemmas.Result.{err_from_is_err_and}
use Rattle.toml.specs.View.{view}
use Rattle.hg_place.specs.declared.Right.{Right}
use Rattle.hg_machine.specs.Policy.{no_rights}
use Rattle.hg_policy_text.specs.Faults.{Read, in_turn, fault_of, ◌>>=◌}
use Rattle.hg_policy_text.specs.Grants.{right_in}
use Rattle.hg_policy_text.specs.Lines.{with_right}
use Rattle.hg_policy.specs.Rights.{rights_of, and_right}
use Rattle.hg_policy_text.proofs.Chains.{bind-fails}
use Rattle.hg_policy_text.proofs.InTurn.{in_turn-more, in_turn-stop, in_turn-end}
use Rattle.hg_policy_text.proofs.lines.rights_among.Goals as goal

pub returns-in_err-right : goal.returns-in_err-right
returns-in_err-right c =
    let p = err_from_is_err_and c.from_residual.result c.from_residual.ensures.1 in
    let done = rights_of c.loop-word.rights in
    rw (p.1, p.2) (in_turn-stop with_right view done c.deref-word-items.result.now c.loop-word.word-index (in_turn with_right no_rights (map view c.args.words.now.items)) c.loop-word.invariant c.word-item.result (omega arith)
    (fault_of c.in_err-right.field-0.0) (rw c.word-item.is at (bind-fails (fault_of c.in_err-right.field-0.0) (right_in (view c.word-item.result)) (λ right. Ok (and_right done right)) c.in_err-right.ensures)))

pub loop-word-preserved : goal.loop-word-preserved
loop-word-preserved c =
    let done = rights_of c.loop-word.rights in
    let read : with_right done (view c.word-item.result) ≡ Ok (and_right done c.in_ok-right.right) = ap (λ (r : Read Right). r >>= λ right. Ok (and_right done right)) c.in_ok-right.ensures in
    rw c.with-rights.ensures
    (in_turn-more with_right view done c.deref-word-items.result.now c.loop-word.word-index (in_turn with_right no_rights (map view c.args.words.now.items)) c.loop-word.invariant c.word-item.result (omega arith)
    (and_right done c.in_ok-right.right) (rw c.word-item.is at read))

pub returns : goal.returns
returns c = in_turn-end with_right view (rights_of c.loop-word.rights) c.deref-word-items.result.now c.loop-word.word-index (in_turn with_right no_rights (map view c.args.words.now.items)) c.loop-word.invariant (omega arith)
