-- What has another role agrees still after a step that a worker decides alone.
use Rattle.std.proofs.Common.{◌≡◌, ◌≢◌, ℕ, ◌<◌, Bool, true, false, if◌then◌else◌, List, None}
use Rattle.std.proofs.Common.{refl, sym, ap, ◌∙◌, get_or}
use Rattle.std.proofs.lemmas.Bool.{true≢false}
use Rattle.hg_place.specs.Words.{bit_of}
use Rattle.hg_place.specs.declared.standing.Standing.{Standing}
use Rattle.hg_place.specs.declared.standing.Standing.TheVariants.{Home, Open}
use Rattle.hg_machine.specs.declared.Event.{Event}
use Rattle.hg_machine.specs.declared.Event.TheVariants as event
use Rattle.hg_machine.specs.declared.Answer.{Answer}
use Rattle.hg_machine.specs.Life.{Life, home, live, parted, Record, is_home, owner_of}
use Rattle.hg_machine.specs.State.{State, Holder, fresh, holder_at}
use Rattle.hg_machine.specs.Holders.{holds, is_fresh}
use Rattle.hg_machine.specs.Held.{IsAlike}
use Rattle.hg_machine.specs.Soundness.{IsSound}
use Rattle.hg_machine.specs.Steps.{Step}
use Rattle.hg_machine.proofs.Preserves.{steps_keep_policy}
use Rattle.hg_agreement.specs.Views.{View}
use Rattle.hg_agreement.specs.Agreement.{Agrees, standing_by, standing_of}
use Rattle.hg_frame.specs.Remotes.{moves_sent}
use Rattle.hg_frame.specs.Pool.{is_pooled, moves_segment}
use Rattle.hg_frame.proofs.WorkersLemmas.{others_stay}
use Rattle.hg_frame.proofs.RemotesLemmas.{remotes_stay}
use Rattle.hg_frame.proofs.PoolLemmas.{pool_stays}
use Rattle.hg_roles.specs.Roles.{Pooled, Role, of_worker, of_remote, of_pool, of_segment}
use Rattle.hg_roles.specs.Roles.{RemoteAgrees, PoolAgrees, RoleAgrees, name_of}
use Rattle.hg_roles.specs.Deciding.{is_own}

-- a standing is known by generation, home or not, and owner
abbrev stand : ℕ → Bool → ℕ → Standing
stand generation free owner = if free then Home generation else Open generation owner

stand_is : (generation : ℕ) (l : Life)
    → standing_by generation l ≡ stand generation (is_home l) (owner_of l)
stand_is generation home = refl
stand_is generation (live owner words) = refl
stand_is generation (parted owner words) = refl

pub alike_stand : (r q : Record) → IsAlike r q → standing_of r ≡ standing_of q
alike_stand r q alike =
    stand_is r.generation r.life
    ∙ ap (λ g. stand g (is_home r.life) (owner_of r.life)) alike.generation
    ∙ ap (λ b. stand q.generation b (owner_of r.life)) alike.free
    ∙ ap (stand q.generation (is_home q.life)) alike.owner
    ∙ sym (stand_is q.generation q.life)

-- the event moves nothing of what has the role
abbrev pub Quiet : State → ℕ → Event → Role → Type 0
Quiet m w e (of_worker view log) = Unit {0}
Quiet m w e (of_remote g sent) = moves_sent m w e g ≡ false
Quiet m w e (of_pool p) = moves_segment e ≡ false
Quiet m w e (of_segment g) = Unit {0}

own_unsent : (m : State) (w g : ℕ) (e : Event) → is_own e ≡ true → moves_sent m w e g ≡ false
own_unsent m w g event.Deliver own = absurd (true≢false (sym own))
own_unsent m w g (event.Take taken) own = absurd (true≢false (sym own))
own_unsent m w g e own = refl

own_unmoved : (e : Event) → is_own e ≡ true → moves_segment e ≡ false
own_unmoved (event.Abandon taken) own = absurd (true≢false (sym own))
own_unmoved (event.Refill arena) own = absurd (true≢false (sym own))
own_unmoved e own = refl

-- what a worker decides alone moves nothing that is sent, and no segment
pub own_quiet : (m : State) (w : ℕ) (e : Event) → is_own e ≡ true → (role : Role) → Quiet m w e role
own_quiet m w e own (of_worker view log) = tt
own_quiet m w e own (of_remote g sent) = own_unsent m w g e own
own_quiet m w e own (of_pool p) = own_unmoved e own
own_quiet m w e own (of_segment g) = tt

module _ (m : State) (w : ℕ) (e : Event) (a : Answer) (new : State) (sound : IsSound m)
    (step : Step m w e a new) where
  worker_stays : (view : View) → view.worker ≢ w → IsSound new → Agrees m view None
      → Agrees new view None
  worker_stays view differ later agreed =
      let stays = others_stay m w e a new view.worker sound differ step in
      let mine : (g : ℕ) → view.holds g ≡ true → holds m view.worker g ≡ true =
      λ g held. agreed.holding g ∙ held in
      record {
        sound = later;
        policy = steps_keep_policy m w e a new step ∙ agreed.policy;
        holding = λ g. stays.held.holding g ∙ agreed.holding g;
        classes = λ page held. stays.held.classes page (mine _ held) ∙ agreed.classes page held;
        standings = λ place held.
            alike_stand _ _ (stays.held.records place (mine _ held)) ∙ agreed.standings place held;
        blocks = λ place held.
            (stays.held.records place (mine _ held)).words ∙ agreed.blocks place held;
        hand = stays.hand ∙ agreed.hand;
        word = agreed.word;
      }

  remote_agrees : (g : ℕ) (sent : List ℕ) → w < m.policy.workers → moves_sent m w e g ≡ false
      → RemoteAgrees m g sent → RemoteAgrees new g sent
  remote_agrees g sent below quiet agreed place =
      agreed place
      ∙ ap bit_of (sym ((remotes_stay m w e a new g sound below quiet step).sent place))

  pool_agrees : (p : Pooled) → moves_segment e ≡ false → PoolAgrees m p → PoolAgrees new p
  pool_agrees p quiet agreed =
      let stays = pool_stays m w e a new sound quiet step in
      let same : (g : ℕ) → holder_at new g ≡ holder_at m g =
      λ g. ap (λ (hs : List Holder). get_or hs g fresh) stays.holders in
      let was : (g : ℕ) → is_pooled (holder_at new g) ≡ true → is_pooled (holder_at m g) ≡ true =
      λ g free. ap is_pooled (sym (same g)) ∙ free in
      record {
        orphans = stays.orphans ∙ agreed.orphans;
        fresh = λ g. ap is_fresh (same g) ∙ agreed.fresh g;
        classes = λ page free. stays.classes page (was _ free) ∙ agreed.classes page (was _ free);
        standings = λ place free.
            alike_stand _ _ (stays.records place (was _ free))
            ∙ agreed.standings place (was _ free);
        blocks = λ place free.
            (stays.records place (was _ free)).words ∙ agreed.blocks place (was _ free);
      }

  pub role_stays : (role : Role) → name_of m.policy role ≢ w → w < m.policy.workers → IsSound new
      → Quiet m w e role → RoleAgrees role m → RoleAgrees role new
  role_stays (of_worker view log) differ below later quiet agreed =
      worker_stays view differ later agreed
  role_stays (of_remote g sent) differ below later quiet agreed =
      remote_agrees g sent below quiet agreed
  role_stays (of_pool p) differ below later quiet agreed = pool_agrees p quiet agreed
  role_stays (of_segment g) differ below later quiet agreed = tt
