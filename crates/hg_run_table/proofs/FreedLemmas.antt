-- Of the frees of one block in a run, at most one is served.
use Rattle.std.proofs.Common.{◌≡◌, ◌⊎◌, inl, inr, ⊎_elim, ℕ, zero, suc, ◌<◌, ◌≤◌, ◌==◌, if◌then◌else◌}
use Rattle.std.proofs.Common.{Bool, List, [], ◌∷◌, refl, sym, ap, subst, ◌∙◌, arith}
use Rattle.std.proofs.Common.{length, take}
use Rattle.std.proofs.lemmas.Bool.{cases_Bool, cases_lt, eq-eqb, eqb-true}
use mathlib.Core.Option.{some, some-injective, some-ne-none}
use lib.ListN.{get_elem?}
use Rattle.hg_place.specs.declared.Handle.{Handle}
use Rattle.hg_machine.specs.declared.Answer.{Answer}
use Rattle.hg_machine.specs.declared.Answer.TheVariants as answer
use Rattle.hg_machine.specs.State.{State, opening}
use Rattle.hg_machine.specs.Steps.{Step, Run}
use Rattle.hg_laws.specs.Asked.{handle_of, IsDenied}
use Rattle.hg_laws.proofs.LivesLemmas.{freed_is_denied}
use Rattle.hg_history.specs.History.{log_of}
use Rattle.hg_history.specs.Service.{IsIn}
use Rattle.hg_roles.specs.Histories.{events_in, answers_in}
use Rattle.hg_roles.specs.Roles.{Call}
use Rattle.hg_run_table.specs.FreedOnce.{HasFreed, FreedOnce}

-- what the log of a name has, by whether the first call is in that name
abbrev logged : ℕ × Call → List (ℕ × Call) → ℕ → Bool → List Call
logged made more name is = if is then made.1 ∷ log_of name more else log_of name more

-- a call of the log stands in the history, behind as many of that name as there are before it in the log
record Stood (history : List (ℕ × Call)) (name k : ℕ) (call : Call) : Type 0 where
  pub at : ℕ
  pub there : IsIn history at (name, call)
  pub rank : length (log_of name (take at history)) ≡ k

-- the first call is in that name
stood_first : (made : ℕ × Call) (more : List (ℕ × Call)) (name : ℕ) (call : Call)
    → made.0 ≡ name
    → ((k : ℕ) → IsIn (log_of name more) k call → Stood more name k call)
    → (k : ℕ) → IsIn (made.1 ∷ log_of name more) k call → Stood (made ∷ more) name k call
stood_first made more name call is rest zero at =
    let same : made.1 ≡ call = some-injective made.1 call at in
    record { at = 0; there = λ i. some (is i, same i); rank = refl }
stood_first made more name call is rest (suc k) at =
    let s = rest k at in
    record {
      at = suc s.at;
      there = s.there;
      rank =
          ap (λ (b : Bool). length (logged made (take s.at more) name b)) (eq-eqb made.0 name is)
          ∙ ap suc s.rank;
    }

stood : (history : List (ℕ × Call)) (name k : ℕ) (call : Call)
    → IsIn (log_of name history) k call → Stood history name k call
stood [] name k call at = absurd (some-ne-none call (sym at))
stood (made ∷ more) name k call at =
    elim (cases_Bool (made.0 == name)) as (λ _. Stood (made ∷ more) name k call) [
      | inl mine ↦
          stood_first made more name call (eqb-true made.0 name mine)
          (λ n there. stood more name n call there) k
          (subst (λ (l : List Call). IsIn l k call) (ap (logged made more name) mine) at)
      | inr not_mine ↦
          let s =
          stood more name k call
          (subst (λ (l : List Call). IsIn l k call) (ap (logged made more name) not_mine) at) in
          record {
            at = suc s.at;
            there = s.there;
            rank =
                ap (λ (b : Bool). length (logged made (take s.at more) name b)) not_mine ∙ s.rank;
          }
    ]

-- a run of a history up to one of its calls, and the step of that call
record Reached (old : State) (history : List (ℕ × Call)) (name : ℕ) (call : Call) : Type 0 where
  pub before : List (ℕ × Call)
  pub state : State
  pub run : Run old (events_in before) (answers_in before) state
  pub next : State
  pub step : Step state name call.0 call.1 next

reached : (old : State) (history : List (ℕ × Call)) (new : State) (at name : ℕ) (call : Call)
    → Run old (events_in history) (answers_in history) new → IsIn history at (name, call)
    → Reached old history name call
reached old [] new at name call run here = absurd (some-ne-none (name, call) (sym here))
reached old (made ∷ more) new zero name call run here =
    let same : made ≡ (name, call) = some-injective made (name, call) here in record {
      before = [];
      state = old;
      run = refl;
      next = run.0;
      step = subst (λ (m : ℕ × Call). Step old m.0 m.1.0 m.1.1 run.0) same run.1;
    }
reached old (made ∷ more) new (suc at) name call run here =
    let r = reached run.0 more new at name call run.2 here in record {
      before = made ∷ r.before;
      state = r.state;
      run = (run.0, run.1, r.run);
      next = r.next;
      step = r.step;
    }

-- an answer that frees denies nothing
freed_isnt_denied : (given : Answer) → (given ≡ answer.Done) ⊎ (given ≡ answer.Parted)
    → IsDenied given → ⊥
freed_isnt_denied a freed denied = ⊎_elim
    (λ (e : a ≡ answer.Done). let is : answer.Denied denied.0 ≡ answer.Done = sym denied.1 ∙ e in absurd (cc))
    (λ (e : a ≡ answer.Parted). let is : answer.Denied denied.0 ≡ answer.Parted = sym denied.1 ∙ e in absurd (cc))
    freed

-- two calls of a history, the one before the other, haven't both freed the block
not_both : (old : State) (history : List (ℕ × Call)) (new : State) (at later one other : ℕ)
    (call second : Call) (handle : Handle)
    → Run old (events_in history) (answers_in history) new
    → IsIn history at (one, call) → IsIn history later (other, second) → at < later
    → HasFreed handle call → HasFreed handle second → ⊥
not_both old [] new at later one other call second handle run here there before freed again =
    some-ne-none (one, call) (sym here)
not_both old (made ∷ more) new zero zero one other call second handle run here there before freed
    again = absurd (omega arith)
not_both old (made ∷ more) new zero (suc later) one other call second handle run here there before
    freed again =
    let same : made ≡ (one, call) = some-injective made (one, call) here in
    let step : Step old one call.0 call.1 run.0 =
    subst (λ (m : ℕ × Call). Step old m.0 m.1.0 m.1.1 run.0) same run.1 in
    let r = reached run.0 more new later other second run.2 there in
    freed_isnt_denied second.1 again.served
    (freed_is_denied old run.0 one freed.actor handle call.1 (events_in r.before)
    (answers_in r.before) r.state r.next other second.0 second.1 freed.served
    (subst (λ e. Step old one e call.1 run.0) freed.asked step) r.run
    (ap handle_of again.asked) r.step)
not_both old (made ∷ more) new (suc at) zero one other call second handle run here there before
    freed again = absurd (omega arith)
not_both old (made ∷ more) new (suc at) (suc later) one other call second handle run here there
    before freed again =
    not_both run.0 more new at later one other call second handle run.2 here there (omega arith)
    freed again

pub freed_once : FreedOnce
freed_once policy words roles i j one other log more k l call second handle is first next apart at
    there freed again =
    let p =
    stood is.history one.worker k call
    (subst (λ (c : List Call). IsIn c k call) (sym (is.logs i one log first)) at) in
    let q =
    stood is.history other.worker l second
    (subst (λ (c : List Call). IsIn c l second) (sym (is.logs j other more next)) there) in
    ⊎_elim
    (λ (low : p.at < q.at).
    not_both (opening policy) is.history is.state p.at q.at one.worker other.worker call second
    handle is.run p.there q.there low freed again)
    (λ (far : q.at ≤ p.at). ⊎_elim
    (λ (less : q.at < p.at).
    not_both (opening policy) is.history is.state q.at p.at other.worker one.worker second call
    handle is.run q.there p.there less again freed)
    (λ (no_less : p.at ≤ q.at).
    let same : q.at ≡ p.at = omega arith in
    let worker : one.worker ≡ other.worker =
    ap (λ (m : ℕ × Call). m.0)
    (some-injective (one.worker, call) (other.worker, second)
    (sym p.there ∙ ap (get_elem? is.history) (sym same) ∙ q.there)) in
    apart worker
    (sym p.rank
    ∙ (λ i. length (log_of (worker i) (take (sym same i) is.history)))
    ∙ q.rank))
    (cases_lt q.at p.at))
    (cases_lt p.at q.at)
