-- The pool stays at each step that moves no segment.
use Rattle.std.proofs.Common.{◌≡◌, inl, inr, ℕ, true, false}
use Rattle.std.proofs.Common.{List, [], Option, refl, sym, ap, subst, ◌∙◌}
use Rattle.std.proofs.lemmas.Bool.{true≢false}
use Rattle.hg_place.specs.Places.{segment_of, segment_of_page}
use Rattle.hg_machine.specs.declared.Event.{Event}
use Rattle.hg_machine.specs.declared.Event.TheVariants as event
use Rattle.hg_machine.specs.declared.Answer.{Answer}
use Rattle.hg_machine.specs.Policy.{Policy}
use Rattle.hg_machine.specs.State.{State, Holder, fresh, orphan, held, holder_at}
use Rattle.hg_machine.specs.Holders.{holds, is_held_by, next_of}
use Rattle.hg_machine.specs.Served.{IsServed}
use Rattle.hg_machine.specs.Steps.{successor, Step}
use Rattle.hg_machine.proofs.Cases.{step_cases}
use Rattle.hg_machine.proofs.Preserves.{steps_keep_policy}
use Rattle.hg_laws.proofs.MachineFacts.{free_cases}
use Rattle.hg_laws.proofs.WorkersLemmas.{workers_keep_apart}
use Rattle.hg_frame.specs.Pool.{is_pooled, moves_segment, PoolStays}
use Rattle.hg_frame.proofs.WorkersLemmas.{alike_away}

-- orphans and holders are as they were
abbrev Pooled : State → State → Type 0
Pooled s new = (new.orphans ≡ s.orphans) × (new.holders ≡ s.holders)

served_pool : (s : State) (w : ℕ) (e : Event) (a : Answer) → moves_segment e ≡ false
    → IsServed s w e a → Pooled s (successor s w e a)
served_pool s w (event.Alloc actor arena bytes) a none k =
    subst (λ z. Pooled s (successor s w (event.Alloc actor arena bytes) z)) (sym k.1) (refl, refl)
served_pool s w (event.Free actor handle) a none is =
    elim (free_cases (holds s w handle.place.segment) a is) as
    (λ _. Pooled s (successor s w (event.Free actor handle) a)) [
      | inl done ↦
          subst (λ z. Pooled s (successor s w (event.Free actor handle) z)) (sym done) (refl, refl)
      | inr away ↦
          subst (λ z. Pooled s (successor s w (event.Free actor handle) z)) (sym away) (refl, refl)
    ]
served_pool s w event.Deliver a none is =
    subst (λ z. Pooled s (successor s w event.Deliver z)) (sym is) (refl, refl)
served_pool s w (event.Take segment) a none is =
    subst (λ z. Pooled s (successor s w (event.Take segment) z)) (sym is) (refl, refl)
served_pool s w event.Collect a none is =
    subst (λ z. Pooled s (successor s w event.Collect z)) (sym is) (refl, refl)
served_pool s w (event.Read actor handle index) a none is =
    subst (λ z. Pooled s (successor s w (event.Read actor handle index) z)) (sym is) (refl, refl)
served_pool s w (event.Write actor handle index value) a none is =
    subst (λ z. Pooled s (successor s w (event.Write actor handle index value) z)) (sym is)
    (refl, refl)
served_pool s w (event.Look actor place) a none k =
    subst (λ z. Pooled s (successor s w (event.Look actor place) z)) (sym k.1) (refl, refl)
served_pool s w (event.Abandon segment) a none is = absurd (true≢false none)
served_pool s w (event.Refill arena) a none k = absurd (true≢false none)

step_pool : (s : State) (w : ℕ) (e : Event) (a : Answer) (new : State) → moves_segment e ≡ false
    → Step s w e a new → Pooled s new
step_pool s w e a new none h = elim (step_cases s w e a new h) as (λ _. Pooled s new) [
  | inl is ↦ subst (Pooled s) (sym is.after) (served_pool s w e a none is.serves)
  | inr is ↦ (ap (λ t. t.orphans) is.same, ap (λ t. t.holders) is.same)
]

unheld : (w : ℕ) (h : Holder) → is_pooled h ≡ true → is_held_by w h ≡ false
unheld w fresh e = refl
unheld w orphan e = refl
unheld w (held v) e = absurd (true≢false (sym e))

-- what a refill takes, by policy, orphans and holders
abbrev next_by : ℕ → Policy → List ℕ → List Holder → Option ℕ
next_by arena policy orphans holders =
    let s : State = record {
      policy = policy;
      records = [];
      classes = [];
      holders = holders;
      orphans = orphans;
      hands = [];
    } in
    next_of s arena

pub pool_stays : PoolStays
pool_stays s w e a new sound none h =
    let leaves = workers_keep_apart s w e a new sound h in
    let pool = step_pool s w e a new none h in record {
      orphans = pool.0;
      holders = pool.1;
      next = λ arena.
          ap (λ p. next_by arena p new.orphans new.holders) (steps_keep_policy s w e a new h)
          ∙ ap (λ os. next_by arena s.policy os new.holders) pool.0
          ∙ ap (next_by arena s.policy s.orphans) pool.1;
      records = λ q free.
          alike_away s w e a new q leaves (unheld w (holder_at s (segment_of q)) free);
      classes = λ page free.
          leaves.classes page (unheld w (holder_at s (segment_of_page page)) free);
    }
