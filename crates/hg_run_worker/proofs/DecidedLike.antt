-- What a call of a worker and the pool owes is owed as well where each has then what a sound state can't tell from
-- it.
use Rattle.std.proofs.Common.{◌≡◌, List, None, refl, ◌∙◌}
use Rattle.hg_machine.specs.Policy.{Policy}
use Rattle.hg_machine.specs.Soundness.{IsSound}
use Rattle.hg_machine.specs.State.{State}
use Rattle.hg_agreement.specs.Views.{View}
use Rattle.hg_agreement.specs.Changed.{IsLike}
use Rattle.hg_agreement.proofs.Frames.{like_agrees}
use Rattle.hg_roles.specs.Joined.{both_called}
use Rattle.hg_roles.specs.Roles.{Call, Pooled, Role, of_worker, of_remote, of_pool, of_segment}
use Rattle.hg_roles.specs.Roles.{PoolAgrees, RoleAgrees, calls_in, name_of}
use Rattle.hg_run_table.specs.JoinedCalls.{IsTiedTogether}

-- what a sound state has of the one pool's part it has of the other
abbrev pub IsLeftLike : Pooled → Pooled → Type 0
IsLeftLike one other = (m : State) → IsSound m → PoolAgrees m one → PoolAgrees m other

-- names and logs are the same
module _ (policy : Policy) (after other : View) (one more : Pooled) (call : Call)
    (worker : IsLike after other) where
  name_like : (part : Role)
      → name_of policy (both_called other (of_pool more) call part)
      ≡ name_of policy (both_called after (of_pool one) call part)
  name_like (of_worker view calls) = worker.worker
  name_like (of_remote segment sent) = refl
  name_like (of_pool pooled) = refl
  name_like (of_segment segment) = refl

  log_like : (part : Role)
      → calls_in (both_called other (of_pool more) call part)
      ≡ calls_in (both_called after (of_pool one) call part)
  log_like (of_worker view calls) = refl
  log_like (of_remote segment sent) = refl
  log_like (of_pool pooled) = refl
  log_like (of_segment segment) = refl

  agrees_like : IsLeftLike one more → (m : State) → IsSound m → (part : Role)
      → RoleAgrees (both_called after (of_pool one) call part) m
      → RoleAgrees (both_called other (of_pool more) call part) m
  agrees_like left m sound (of_worker view calls) a = like_agrees m after other None worker a
  agrees_like left m sound (of_remote segment sent) a = left m sound a
  agrees_like left m sound (of_pool pooled) a = left m sound a
  agrees_like left m sound (of_segment segment) a = tt

pub tied_like : {policy : Policy} {before after other : View} {log : List Call} {call : Call}
    {pool one more : Pooled} → IsLike after other → IsLeftLike one more
    → IsTiedTogether policy before log call after (of_pool pool) (of_pool one)
    → IsTiedTogether policy before log call other (of_pool pool) (of_pool more)
tied_like {policy} {before} {after} {other} {log} {call} {pool} {one} {more} worker left tied = record {
  worker = worker.worker ∙ tied.worker;
  left_is = refl;
  named = refl;
  decides = λ words.
      let d = tied.decides words in
      record {
        names = λ j part at. name_like policy after other one more call worker part ∙ d.names j part at;
        logs = λ j part at. log_like policy after other one more call worker part ∙ d.logs j part at;
        own = d.own;
        moves = λ m shows agrees.
            let v = d.moves m shows agrees in
            record {
              new = v.new;
              run = v.run;
              shown = v.shown;
              agrees = λ j part at.
                  agrees_like policy after other one more call worker left v.new v.shown.sound part
                  (v.agrees j part at);
              others = v.others;
            };
      };
}
