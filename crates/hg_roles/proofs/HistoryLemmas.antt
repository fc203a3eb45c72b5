-- Histories as runs, and what is known at the end.
use Rattle.std.proofs.Common.{◌≡◌, inl, inr, ℕ, zero, suc, ◌==◌, ◌<◌, ◌≤◌, Bool, if◌then◌else◌}
use Rattle.std.proofs.Common.{List, [], ◌∷◌, refl, sym, ap, subst, ◌∙◌, arith}
use Rattle.std.specs.List.{All}
use Rattle.std.proofs.lemmas.Bool.{cases_Bool, cases_lt, eq-eqb}
use Rattle.hg_machine.specs.Policy.{Policy}
use Rattle.hg_machine.specs.State.{State, opening}
use Rattle.hg_machine.specs.Steps.{Step, Run}
use Rattle.hg_history.specs.History.{log_of, IsRun}
use Rattle.hg_history.proofs.OneRunLemmas.{ended, one_history}
use Rattle.hg_roles.specs.Names.{IsOf}
use Rattle.hg_roles.specs.Roles.{Call, Role, of_worker, of_remote, of_pool, of_segment}
use Rattle.hg_roles.specs.Roles.{name_of, calls_in}
use Rattle.hg_roles.specs.Served.{running}
use Rattle.hg_roles.specs.Histories.{events_in, answers_in, PartsKeepOneRun, HistoriesAreRuns}
use Rattle.hg_roles.specs.Histories.{EndsAreRuns}
use Rattle.hg_roles.proofs.NameLemmas.{names_are_apart}

runs : (old : State) (history : List (ℕ × Call)) (new : State)
    → IsRun (λ s who call t. Step s who call.0 call.1 t) old history new
    → Run old (events_in history) (answers_in history) new
runs old [] new run = run
runs old (made ∷ more) new run = (run.0, run.1, runs run.0 more new run.2)

pub histories_are_runs : HistoriesAreRuns
histories_are_runs policy history new run = runs (opening policy) history new run

pub parts_keep_one_run : PartsKeepOneRun
parts_keep_one_run policy = one_history State Call (List ℕ) Role (running policy)

-- the log of a name, by whether the first call is in it
abbrev by_first : ℕ × Call → List (ℕ × Call) → ℕ → Bool → List Call
by_first made more name is = if is then made.1 ∷ log_of name more else log_of name more

-- who has made no call of a history has made none of the rest of it
rest_none : (made : ℕ × Call) (more : List (ℕ × Call)) (name : ℕ)
    → log_of name (made ∷ more) ≡ [] → log_of name more ≡ []
rest_none made more name none =
    elim (cases_Bool (made.0 == name)) as (λ _. log_of name more ≡ []) [
      | inl t ↦
          let some : (made.1 ∷ log_of name more) ≡ [] =
          sym (ap (by_first made more name) t) ∙ none in
          absurd (cc)
      | inr f ↦ sym (ap (by_first made more name) f) ∙ none
    ]

-- where nobody from a number on has made a call, each call is of one below
all_below : (n : ℕ) (history : List (ℕ × Call))
    → ((name : ℕ) → n ≤ name → log_of name history ≡ [])
    → All (λ asked. asked.0 < n) (events_in history)
all_below n [] none k d below = absurd (omega arith)
all_below n (made ∷ more) none zero d below =
    elim (cases_lt made.0 n) as (λ _. made.0 < n) [
      | inl low ↦ low
      | inr far ↦
          let some : (made.1 ∷ log_of made.0 more) ≡ [] =
          sym (ap (by_first made more made.0) (eq-eqb made.0 made.0 refl)) ∙ none made.0 far in
          absurd (cc)
    ]
all_below n (made ∷ more) none (suc k) d below =
    all_below n more (λ name far. rest_none made more name (none name far)) k d (omega arith)

-- a part whose name is of no worker has logged nothing
unheard : (policy : Policy) (role : Role) → IsOf policy role
    → policy.workers ≤ name_of policy role → calls_in role ≡ []
unheard policy (of_worker has log) is far = absurd (omega arith)
unheard policy (of_remote g sent) is far = refl
unheard policy (of_pool p) is far = refl
unheard policy (of_segment g) is far = refl

pub ends_are_runs : EndsAreRuns
ends_are_runs policy words views i view r at all each =
    let whole = ended (running policy) words views i view r at all in record {
      history = whole.history;
      state = whole.state;
      run = histories_are_runs policy whole.history whole.state whole.legal;
      shown = whole.shown;
      agrees = whole.agrees;
      logs = λ j has log there. whole.logs j (of_worker has log) there;
      theirs = all_below policy.workers whole.history (λ name far.
          elim (cases_lt name (running policy).count) as (λ _. log_of name whole.history ≡ []) [
            | inl near ↦
                let part = all name near in
                let is = each part.0 part.1 part.2 in
                subst (λ n. log_of n whole.history ≡ []) part.3
                (whole.logs part.0 part.1 part.2
                ∙ unheard policy part.1 is (subst (λ n. policy.workers ≤ n) (sym part.3) far))
            | inr past ↦
                whole.no_other name (λ j role there named.
                let is = each j role there in
                let low = (names_are_apart policy role role is is).0 in
                absurd (omega arith))
          ]);
    }
