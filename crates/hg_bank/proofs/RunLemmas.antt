-- What a run of one worker's events leaves of a core.
use Rattle.std.proofs.Common.{◌≡◌, ◌≢◌, ℕ, ◌<◌, true, List, [], ◌∷◌, map, ap, sym, subst, ◌∙◌}
use Rattle.hg_machine.specs.declared.Answer.{Answer}
use Rattle.hg_machine.specs.declared.Event.{Event}
use Rattle.hg_machine.specs.Charge.{charge}
use Rattle.hg_machine.specs.Lists.{Kept}
use Rattle.hg_machine.specs.Soundness.{IsSound}
use Rattle.hg_machine.proofs.Preserves.{steps_keep_policy, steps_keep_sound}
use Rattle.hg_choice.specs.ChosenSteps.{Chosen}
use Rattle.hg_bank.specs.Charges.{AreSameCharges}
use Rattle.hg_bank.proofs.ChargeLemmas.{is_calm, calm_keeps, others_keep}

-- the events of a worker, one for each of these
abbrev pub events_of : {X : Type 0} → ℕ → (X → Event) → List X → List (ℕ × Event)
events_of worker event xs = map (λ x. (worker, event x)) xs

-- the policy stays
pub run_policy : {X : Type 0} (worker : ℕ) (event : X → Event) (xs : List X)
    (answers : List Answer) (old new : Kept) → Chosen old (events_of worker event xs) answers new
    → new.state.policy ≡ old.state.policy
run_policy worker event [] [] old new run = ap (λ k. k.state.policy) run
run_policy worker event [] (a ∷ answers) old new run = absurd run
run_policy worker event (x ∷ xs) [] old new run = absurd run
run_policy worker event (x ∷ xs) (a ∷ answers) old new run =
    run_policy worker event xs answers run.0 new run.2
    ∙ steps_keep_policy old.state worker (event x) a run.0.state run.1.step

-- no charge changes, where each event leaves them
pub calm_charges : {X : Type 0} (worker : ℕ) (event : X → Event) (xs : List X)
    (answers : List Answer) (old new : Kept) → ((x : X) → is_calm (event x) ≡ true)
    → Chosen old (events_of worker event xs) answers new → AreSameCharges old.state new.state
calm_charges worker event [] [] old new calm run w tenant = ap (λ k. charge k.state w tenant) run
calm_charges worker event [] (a ∷ answers) old new calm run w tenant = absurd run
calm_charges worker event (x ∷ xs) [] old new calm run w tenant = absurd run
calm_charges worker event (x ∷ xs) (a ∷ answers) old new calm run w tenant =
    calm_charges worker event xs answers run.0 new calm run.2 w tenant
    ∙ calm_keeps old.state worker (event x) a run.0.state (calm x) run.1.step w tenant

-- what is charged with another worker doesn't change
pub other_charges : {X : Type 0} (worker : ℕ) (event : X → Event) (xs : List X)
    (answers : List Answer) (old new : Kept) → IsSound old.state
    → worker < old.state.policy.workers → Chosen old (events_of worker event xs) answers new
    → (other tenant : ℕ) → other ≢ worker
    → charge new.state other tenant ≡ charge old.state other tenant
other_charges worker event [] [] old new sound below run other tenant ne =
    ap (λ k. charge k.state other tenant) run
other_charges worker event [] (a ∷ answers) old new sound below run other tenant ne = absurd run
other_charges worker event (x ∷ xs) [] old new sound below run other tenant ne = absurd run
other_charges worker event (x ∷ xs) (a ∷ answers) old new sound below run other tenant ne =
    let mid = run.0 in
    let step = run.1.step in
    other_charges worker event xs answers mid new
    (steps_keep_sound old.state worker (event x) a mid.state sound below step)
    (subst (λ p. worker < p.workers)
    (sym (steps_keep_policy old.state worker (event x) a mid.state step)) below) run.2 other
    tenant ne
    ∙ others_keep old.state worker (event x) a mid.state sound below step other tenant ne
