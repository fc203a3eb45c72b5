-- Of records and hands there are five kinds of steps.
use Rattle.std.proofs.Common.{◌≡◌, ◌⊎◌, inl, inr, ℕ, ◌==◌, ◌&&◌, Bool, true, false, not, is_some}
use Rattle.std.proofs.Common.{if◌then◌else◌, set, map, replicate, Option, Some, None, refl, sym, ap}
use Rattle.std.proofs.Common.{subst, ◌∙◌}
use Rattle.std.proofs.lemmas.Bool.{cases_Bool, eq-eqb}
use Rattle.hg_place.specs.declared.Actor.{Actor}
use Rattle.hg_place.specs.declared.Handle.{Handle}
use Rattle.hg_place.specs.declared.Right.TheVariants as right
use Rattle.hg_place.specs.Places.{number_of}
use Rattle.hg_machine.specs.declared.Event.{Event}
use Rattle.hg_machine.specs.declared.Event.TheVariants as event
use Rattle.hg_machine.specs.declared.Answer.{Answer}
use Rattle.hg_machine.specs.declared.Answer.TheVariants as answer
use Rattle.hg_machine.specs.Life.{Life, home, live, Record, is_live, is_parted}
use Rattle.hg_machine.specs.State.{State, record_at, hand_of, places_in}
use Rattle.hg_machine.specs.Holders.{holds}
use Rattle.hg_machine.specs.Changes.{part, write}
use Rattle.hg_machine.specs.Request.{size_of}
use Rattle.hg_machine.specs.Refusal.{refusal}
use Rattle.hg_machine.specs.Served.{IsServed}
use Rattle.hg_machine.specs.Steps.{successor, Step}
use Rattle.hg_machine.specs.Sweeps.{settled}
use Rattle.hg_machine.proofs.Allowed.{step, allowed, no_denial}
use Rattle.hg_machine.proofs.Cases.{step_cases}
use Rattle.hg_machine.proofs.Keeps.{live_unparted, home_unparted}
use Rattle.hg_laws.proofs.LifeChanges.{write_live}
use Rattle.hg_laws.proofs.MachineFacts.{room_home}
use Rattle.hg_frame.specs.SlotWords.{changes_word}

-- the record with another life
abbrev pub living : Record → Life → Record
living r life = record { generation = r.generation; life = life }

-- an event sets the record of one place: it changes the word there, or writes into the block
abbrev pub Sets : State → Event → Answer → ℕ → Record → Type 0
Sets s e a p r =
    (changes_word e a p ≡ true)
    ⊎ ((index : ℕ) × (value : ℕ)
    × (r ≡ living (record_at s p) (write (record_at s p).life index value)))

-- all records stay and all hands do, or the worker's hand is emptied; one record is set, of a place
-- that isn't parted and isn't after it; a live block is parted, into the empty hand; what is sent
-- to a segment is taken in
pub data Kind (s : State) (w : ℕ) (e : Event) (a : Answer) (new : State) : Type 0 where
  quiet : new.records ≡ s.records → new.hands ≡ s.hands → Kind s w e a new
  delivers :
      new.records ≡ s.records → new.hands ≡ set s.hands w None → e ≡ event.Deliver
      → Kind s w e a new
  puts :
      (p : ℕ) (r : Record) → new.records ≡ set s.records p r → new.hands ≡ s.hands
      → is_parted (record_at s p).life ≡ false → is_parted r.life ≡ false → Sets s e a p r
      → Kind s w e a new
  parts :
      (p : ℕ) → new.records ≡ set s.records p (living (record_at s p) (part (record_at s p).life))
      → new.hands ≡ set s.hands w (Some p) → is_live (record_at s p).life ≡ true
      → hand_of s w ≡ None → changes_word e a p ≡ true → Kind s w e a new
  settles :
      (g : ℕ) → new.records ≡ map (settled s g) (places_in s) → new.hands ≡ s.hands
      → e ≡ event.Take g → Kind s w e a new

no_hand : (b : Bool) (o : Option ℕ) → b ≡ false → (not b && is_some o) ≡ false → o ≡ None
no_hand b None away free = refl
no_hand b (Some p) away free = absurd (let h : not b ≡ true = ap not away in cc)

here : (p : ℕ) → (p == p) ≡ true
here p = eq-eqb p p refl

live_stays : (l : Life) (index value : ℕ) → is_live l ≡ true
    → is_parted (write l index value) ≡ false
live_stays l index value alive =
    live_unparted (write l index value) (write_live l index value ∙ alive)

free_kind : (s : State) (w : ℕ) (actor : Actor) (handle : Handle) (a : Answer)
    → refusal s w (event.Free actor handle) ≡ None → IsServed s w (event.Free actor handle) a
    → Kind s w (event.Free actor handle) a (successor s w (event.Free actor handle) a)
free_kind s w actor handle a none is =
    let e = event.Free actor handle in
    let p = number_of handle.place in
    let free = no_denial _ _ none in
    let alive = (allowed s actor.0 right.Free handle.place handle.generation free.0).alive in
    elim (cases_Bool (holds s w handle.place.segment)) as (λ _. Kind s w e a (successor s w e a)) [
      | inl there ↦
          subst (λ z. Kind s w e z (successor s w e z))
          (sym (is ∙ ap (λ b. if b then answer.Done else answer.Parted) there))
          (puts p (living (record_at s p) home) refl refl (live_unparted _ alive) refl
          (inl (here p)))
      | inr away ↦
          let busy =
          (step
          (not (holds s w handle.place.segment)
          && is_some (hand_of s w)) answer.Busy None free.1).0 in
          subst (λ z. Kind s w e z (successor s w e z))
          (sym (is ∙ ap (λ b. if b then answer.Done else answer.Parted) away))
          (parts p refl refl alive (no_hand _ (hand_of s w) away busy) (here p))
    ]

served_kind : (s : State) (w : ℕ) (e : Event) (a : Answer) → refusal s w e ≡ None → IsServed s w e a
    → Kind s w e a (successor s w e a)
served_kind s w (event.Alloc actor arena bytes) a none k =
    let e = event.Alloc actor arena bytes in
    let p = number_of k.0.place in
    subst (λ z. Kind s w e z (successor s w e z)) (sym k.1)
    (puts p
    (record { generation = k.0.generation; life = live actor.0 (replicate (size_of bytes) 0) }) refl
    refl
    (home_unparted _ (room_home s w arena (size_of bytes) p k.2.room)) refl (inl (here p)))
served_kind s w (event.Free actor handle) a none is = free_kind s w actor handle a none is
served_kind s w event.Deliver a none is =
    subst (λ z. Kind s w event.Deliver z (successor s w event.Deliver z)) (sym is)
    (delivers refl refl refl)
served_kind s w (event.Take segment) a none is =
    subst (λ z. Kind s w (event.Take segment) z (successor s w (event.Take segment) z)) (sym is)
    (settles segment refl refl refl)
served_kind s w event.Collect a none is =
    subst (λ z. Kind s w event.Collect z (successor s w event.Collect z)) (sym is) (quiet refl refl)
served_kind s w (event.Read actor handle index) a none is =
    subst
    (λ z.
    Kind s w (event.Read actor handle index) z (successor s w (event.Read actor handle index) z))
    (sym is) (quiet refl refl)
served_kind s w (event.Write actor handle index value) a none is =
    let e = event.Write actor handle index value in
    let p = number_of handle.place in
    let alive =
    (allowed s actor.0 right.Write handle.place handle.generation (no_denial _ _ none).0).alive in
    subst (λ z. Kind s w e z (successor s w e z)) (sym is)
    (puts p (living (record_at s p) (write (record_at s p).life index value)) refl refl
    (live_unparted _ alive) (live_stays _ index value alive) (inr (index, value, refl)))
served_kind s w (event.Look actor place) a none k =
    subst (λ z. Kind s w (event.Look actor place) z (successor s w (event.Look actor place) z))
    (sym k.1) (quiet refl refl)
served_kind s w (event.Abandon segment) a none is =
    subst (λ z. Kind s w (event.Abandon segment) z (successor s w (event.Abandon segment) z))
    (sym is) (quiet refl refl)
served_kind s w (event.Refill arena) a none k =
    subst (λ z. Kind s w (event.Refill arena) z (successor s w (event.Refill arena) z)) (sym k.1)
    (quiet refl refl)

-- each step is of a kind
pub kind_of : (s : State) (w : ℕ) (e : Event) (a : Answer) (new : State) → Step s w e a new
    → Kind s w e a new
kind_of s w e a new h = elim (step_cases s w e a new h) as (λ _. Kind s w e a new) [
  | inl is ↦ subst (Kind s w e a) (sym is.after) (served_kind s w e a is.none is.serves)
  | inr is ↦ quiet (ap (λ t. t.records) is.same) (ap (λ t. t.hands) is.same)
]
