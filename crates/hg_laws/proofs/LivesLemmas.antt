-- Generations count allocations, and a handle that is served was answered.
use Rattle.std.proofs.Common.{◌⊎◌}
use Rattle.std.proofs.Common.{◌≡◌, ◌≢◌, inl, inr, ℕ, ◌+◌, ◌==◌, ◌*◌, ◌<◌, Bool, true}
use Rattle.std.proofs.Common.{false, cond, if◌then◌else◌, List, [], ◌∷◌, length, get_or, set}
use Rattle.std.proofs.Common.{replicate, Option, Some, None, refl, sym, ap, subst, ◌∙◌, arith, suc}
use Rattle.std.proofs.Common.{All}
use Rattle.std.specs.List.{count_by}
use Rattle.std.proofs.lemmas.Bool.{cases_eq, eq-eqb, ne_eqb, true≢false}
use Rattle.std.proofs.lemmas.List.{get_or-set_other}
use Rattle.std.proofs.lemmas.Grind.{get_or-set_at}
use Rattle.std.proofs.lemmas.List.Sums.{sum_by-append}
use Rattle.std.proofs.lemmas.Option.{same_Some}
use Rattle.hg_place.specs.declared.Right.TheVariants as right
use Rattle.hg_place.specs.declared.Handle.{Handle}
use Rattle.hg_place.specs.Places.{number_of}
use Rattle.hg_machine.specs.declared.Event.{Event}
use Rattle.hg_machine.specs.declared.Event.TheVariants as event
use Rattle.hg_machine.specs.declared.Answer.{Answer}
use Rattle.hg_machine.specs.declared.Answer.TheVariants as answer
use Rattle.hg_machine.specs.declared.Rule.{Rule}
use Rattle.hg_machine.specs.Life.{Life, home, live, Record, never_used, is_live}
use Rattle.hg_machine.specs.State.{State, record_at, opening}
use Rattle.hg_machine.specs.Soundness.{IsSound}
use Rattle.hg_machine.specs.Holders.{holds}
use Rattle.hg_machine.specs.Changes.{part, write}
use Rattle.hg_machine.specs.Denial.{denial}
use Rattle.hg_machine.specs.Request.{size_of}
use Rattle.hg_machine.specs.Refusal.{refusal, denial_or}
use Rattle.hg_machine.specs.Served.{IsServed}
use Rattle.hg_machine.specs.Steps.{successor, Step, Run}
use Rattle.hg_machine.specs.Sweeps.{is_sent_to}
use Rattle.hg_machine.proofs.Allowed.{allowed}
use Rattle.hg_machine.proofs.Cases.{step_cases, refused_changes_nothing}
use Rattle.hg_machine.proofs.Gives.{has_room_at}
use Rattle.hg_machine.proofs.Keeps.{set_cases}
use Rattle.hg_machine.proofs.Opening.{all_same, opening_is_sound}
use Rattle.hg_machine.proofs.Preserves.{steps_keep_sound, steps_keep_policy, runs_keep_sound}
use Rattle.hg_machine.proofs.Takes.{settled_at}
use Rattle.hg_place.specs.declared.Right.{Right}
use Rattle.hg_machine.proofs.Follows.{freed_is_gone}
use Rattle.hg_laws.specs.Asked.{handle_of, is_refusal, IsDenied}
use Rattle.hg_laws.specs.Lives.{gives_out, LivesAreCounted, LivesAreLimited, FreedIsDenied}
use Rattle.hg_laws.specs.Lives.{ForgedIsDenied}
use Rattle.hg_place.proofs.PlaceNumbers.{same_handle}
use Rattle.hg_laws.proofs.LifeChanges.{part_unlive, write_live}
use Rattle.hg_laws.proofs.MachineFacts.{free_cases, policy_kept}
use Rattle.hg_laws.proofs.Refusals.{refused_is, was_served}

abbrev once : Bool → ℕ
once b = cond b 1 0

count_cons : (f : Answer → Bool) (x : Answer) (xs : List Answer) → count_by f (x ∷ xs) ≡ once (f x) + count_by f xs
count_cons f x xs = sum_by-append (λ y. cond (f y) 1 0) (x ∷ []) xs ∙ (omega arith)

refusal_gives : (place : ℕ) (a : Answer) → is_refusal a ≡ true → gives_out place a ≡ false
refusal_gives place (answer.Block handle) e = absurd (cc)
refusal_gives place a e = refl

-- the generation after a step
abbrev Rises : ℕ → State → Answer → State → Type 0
Rises place s a new = (record_at new place).generation ≡ (record_at s place).generation + once (gives_out place a)

stays : (place : ℕ) (s : State) (a : Answer) (new : State) → gives_out place a ≡ false → (record_at new place).generation ≡ (record_at s place).generation → Rises place s a new
stays place s a new none same = let e : once (gives_out place a) ≡ 0 = ap once none in omega arith

-- another life at a place, of the same generation
same_generation : (rs : List Record) (p q : ℕ) (l : Life) → (get_or (set rs p (record { generation = (get_or rs p never_used).generation; life = l })) q never_used).generation ≡ (get_or rs q never_used).generation
same_generation rs p q l =
    let r : Record = record { generation = (get_or rs p never_used).generation; life = l } in
    elim (set_cases rs p q r never_used) as (λ _. (get_or (set rs p r) q never_used).generation ≡ (get_or rs q never_used).generation) [
      | inl here ↦ ap (λ x. x.generation) here.1 ∙ ap (λ n. (get_or rs n never_used).generation) (sym here.0)
      | inr other ↦ ap (λ x. x.generation) other
    ]

settled_generation : (b : Bool) (r : Record) → (if b then record { generation = r.generation; life = home } else r).generation ≡ r.generation
settled_generation true r = refl
settled_generation false r = refl

-- the state after an answer
abbrev after : State → ℕ → Event → Answer → State
after s w e a = successor s w e a

stays_at : (place : ℕ) (s : State) (w : ℕ) (e : Event) (a given : Answer) → a ≡ given → gives_out place given ≡ false
    → (record_at (successor s w e given) place).generation ≡ (record_at s place).generation → Rises place s a (successor s w e a)
stays_at place s w e a given is none same = subst (λ z. Rises place s z (successor s w e z)) (sym is) (stays place s given (successor s w e given) none same)

served_rises : (place : ℕ) (s : State) (w : ℕ) (e : Event) (a : Answer) → IsSound s → IsServed s w e a → Rises place s a (successor s w e a)
served_rises place s w (event.Alloc actor arena bytes) a sound k =
    let handle = k.0 in
    let p = number_of handle.place in
    let fresh : Record = record { generation = handle.generation; life = live actor.0 (replicate (size_of bytes) 0) } in
    let next = k.2.next in
    subst (λ z. Rises place s z (successor s w (event.Alloc actor arena bytes) z)) (sym k.1)
    (elim (cases_eq place p) as (λ _. (get_or (set s.records p fresh) place never_used).generation ≡ (record_at s place).generation + once (p == place)) [
      | inl e ↦
          let room = has_room_at s w arena (size_of bytes) p sound k.2.room in
          let now : (get_or (set s.records p fresh) place never_used).generation ≡ handle.generation = ap (λ x. x.generation) (get_or-set_at s.records p place fresh never_used e room.within) in
          let bit : once (p == place) ≡ 1 = ap once (eq-eqb p place (sym e)) in
          let was : (record_at s p).generation ≡ (record_at s place).generation = ap (λ n. (record_at s n).generation) (sym e) in
          omega arith
      | inr ne ↦
          let now : (get_or (set s.records p fresh) place never_used).generation ≡ (record_at s place).generation = ap (λ x. x.generation) (get_or-set_other s.records p place fresh never_used ne) in
          let bit : once (p == place) ≡ 0 = ap once (ne_eqb p place (λ e. ne (sym e))) in
          omega arith
    ])
served_rises place s w (event.Free actor handle) a sound is =
    let p = number_of handle.place in
    elim (free_cases (holds s w handle.place.segment) a is) as (λ _. Rises place s a (successor s w (event.Free actor handle) a)) [
      | inl done ↦ stays_at place s w (event.Free actor handle) a answer.Done done refl (same_generation s.records p place home)
      | inr away ↦ stays_at place s w (event.Free actor handle) a answer.Parted away refl (same_generation s.records p place (part (record_at s p).life))
    ]
served_rises place s w event.Deliver a sound is = stays_at place s w event.Deliver a answer.Done is refl refl
served_rises place s w (event.Take segment) a sound is =
    stays_at place s w (event.Take segment) a _ is refl (ap (λ r. r.generation) (settled_at s segment place) ∙ settled_generation (is_sent_to s segment place) (record_at s place))
served_rises place s w event.Collect a sound is = stays_at place s w event.Collect a _ is refl refl
served_rises place s w (event.Read actor handle index) a sound is = stays_at place s w (event.Read actor handle index) a _ is refl refl
served_rises place s w (event.Write actor handle index value) a sound is =
    stays_at place s w (event.Write actor handle index value) a answer.Done is refl (same_generation s.records (number_of handle.place) place (write (record_at s (number_of handle.place)).life index value))
served_rises place s w (event.Look actor at) a sound k = stays_at place s w (event.Look actor at) a _ k.1 refl refl
served_rises place s w (event.Abandon segment) a sound is = stays_at place s w (event.Abandon segment) a answer.Done is refl refl
served_rises place s w (event.Refill arena) a sound k = stays_at place s w (event.Refill arena) a _ k.1 refl refl

step_rises : (place : ℕ) (s : State) (w : ℕ) (e : Event) (a : Answer) (new : State) → IsSound s → Step s w e a new → Rises place s a new
step_rises place s w e a new sound h = elim (step_cases s w e a new h) as (λ _. Rises place s a new) [
  | inl is ↦ subst (Rises place s a) (sym is.after) (served_rises place s w e a sound is.serves)
  | inr is ↦ stays place s a new (refusal_gives place a (refused_is s w e a is.some)) (ap (λ t. (record_at t place).generation) is.same)
]

pub lives_are_counted : LivesAreCounted
lives_are_counted old [] [] new place sound below run = let e : (record_at new place).generation ≡ (record_at old place).generation = ap (λ t. (record_at t place).generation) run in omega arith
lives_are_counted old [] (a ∷ rest) new place sound below run = absurd run
lives_are_counted old (e ∷ es) [] new place sound below run = absurd run
lives_are_counted old (e ∷ es) (a ∷ rest) new place sound below run =
    let first = below 0 e (omega arith) in
    let here = step_rises place old e.0 e.1 a run.0 sound run.1 in
    let later = lives_are_counted run.0 es rest new place (steps_keep_sound old e.0 e.1 a run.0 sound first run.1)
    (λ k d h. subst (λ p. (get_or es k d).0 < p.workers) (sym (steps_keep_policy old e.0 e.1 a run.0 run.1)) (below (suc k) d (omega arith))) run.2 in
    let both = count_cons (gives_out place) a rest in
    omega arith

pub lives_are_limited : LivesAreLimited
lives_are_limited policy events answers new place fine below run =
    let start = opening_is_sound policy fine in
    let sound = runs_keep_sound (opening policy) events answers new start below run in
    let counted = lives_are_counted (opening policy) events answers new place start below run in
    let first : (record_at (opening policy) place).generation ≡ 0 = ap (λ r. r.generation) (all_same (length policy.segments * 8192) place never_used) in
    let most = (sound.places place).block.generation in
    let same : new.policy.max_generation ≡ policy.max_generation = ap (λ p. p.max_generation) (policy_kept (opening policy) events answers new run) in
    omega arith

-- this life of the place goes on
pub record Living (r : Record) (g : ℕ) : Type 0 where
  pub alive : is_live r.life ≡ true
  pub generation : r.generation ≡ g

-- it went on before, unless the answer gave it out
lived_set : (rs : List Record) (p q g : ℕ) (r : Record) → (q ≡ p → Living r g → Living (get_or rs q never_used) g) → Living (get_or (set rs p r) q never_used) g → Living (get_or rs q never_used) g
lived_set rs p q g r before living = elim (set_cases rs p q r never_used) as (λ _. Living (get_or rs q never_used) g) [
  | inl here ↦ before here.0 (subst (λ x. Living x g) here.1 living)
  | inr other ↦ subst (λ x. Living x g) other living
]

dead_living : (r : Record) (g : ℕ) (X : Type 0) → is_live r.life ≡ false → Living r g → X
dead_living r g X dead living = absurd (true≢false (sym living.alive ∙ dead))

lived_home : (b : Bool) (r : Record) (g : ℕ) → Living (if b then record { generation = r.generation; life = home } else r) g → Living r g
lived_home true r g living = dead_living (record { generation = r.generation; life = home }) g (Living r g) refl living
lived_home false r g living = living

lived : (s : State) (w : ℕ) (e : Event) (a : Answer) (handle : Handle) → a ≢ answer.Block handle → IsServed s w e a
    → Living (record_at (successor s w e a) (number_of handle.place)) handle.generation → Living (record_at s (number_of handle.place)) handle.generation
lived s w (event.Alloc actor arena bytes) a handle other k living =
    let q = number_of handle.place in
    lived_set s.records (number_of k.0.place) q handle.generation _
    (λ e now. absurd (other (k.1 ∙ ap answer.Block (same_handle k.0 handle (sym e) now.generation))))
    (subst (λ z. Living (record_at (successor s w (event.Alloc actor arena bytes) z) q) handle.generation) k.1 living)
lived s w (event.Free actor named) a handle other is living =
    let p = number_of named.place in
    let q = number_of handle.place in
    elim (free_cases (holds s w named.place.segment) a is) as (λ _. Living (record_at s q) handle.generation) [
      | inl done ↦ lived_set s.records p q handle.generation _ (λ e now. dead_living _ handle.generation _ refl now) (subst (λ z. Living (record_at (successor s w (event.Free actor named) z) q) handle.generation) done living)
      | inr away ↦ lived_set s.records p q handle.generation _ (λ e now. dead_living _ handle.generation _ (part_unlive (record_at s p).life) now) (subst (λ z. Living (record_at (successor s w (event.Free actor named) z) q) handle.generation) away living)
    ]
lived s w event.Deliver a handle other is living = subst (λ z. Living (record_at (successor s w event.Deliver z) (number_of handle.place)) handle.generation) is living
lived s w (event.Take segment) a handle other is living =
    let q = number_of handle.place in
    lived_home (is_sent_to s segment q) (record_at s q) handle.generation
    (subst (λ r. Living r handle.generation) (settled_at s segment q) (subst (λ z. Living (record_at (successor s w (event.Take segment) z) q) handle.generation) is living))
lived s w event.Collect a handle other is living = subst (λ z. Living (record_at (successor s w event.Collect z) (number_of handle.place)) handle.generation) is living
lived s w (event.Read actor named index) a handle other is living = subst (λ z. Living (record_at (successor s w (event.Read actor named index) z) (number_of handle.place)) handle.generation) is living
lived s w (event.Write actor named index value) a handle other is living =
    let p = number_of named.place in
    let q = number_of handle.place in
    lived_set s.records p q handle.generation _
    (λ e now. subst (λ n. Living (record_at s n) handle.generation) (sym e) (record { alive = sym (write_live (record_at s p).life index value) ∙ now.alive; generation = now.generation }))
    (subst (λ z. Living (record_at (successor s w (event.Write actor named index value) z) q) handle.generation) is living)
lived s w (event.Look actor at) a handle other k living = subst (λ z. Living (record_at (successor s w (event.Look actor at) z) (number_of handle.place)) handle.generation) k.1 living
lived s w (event.Abandon segment) a handle other is living = subst (λ z. Living (record_at (successor s w (event.Abandon segment) z) (number_of handle.place)) handle.generation) is living
lived s w (event.Refill arena) a handle other k living = subst (λ z. Living (record_at (successor s w (event.Refill arena) z) (number_of handle.place)) handle.generation) k.1 living

run_lived : (s : State) (events : List (ℕ × Event)) (answers : List Answer) (new : State) (handle : Handle) → All (λ a. a ≢ answer.Block handle) answers → Run s events answers new
    → Living (record_at new (number_of handle.place)) handle.generation → Living (record_at s (number_of handle.place)) handle.generation
run_lived s [] [] new handle other run living = subst (λ t. Living (record_at t (number_of handle.place)) handle.generation) run living
run_lived s [] (a ∷ rest) new handle other run living = absurd run
run_lived s (e ∷ es) [] new handle other run living = absurd run
run_lived s (e ∷ es) (a ∷ rest) new handle other run living =
    let mid = run_lived run.0 es rest new handle (λ k d h. other (suc k) d (omega arith)) run.2 living in
    elim (step_cases s e.0 e.1 a run.0 run.1) as (λ _. Living (record_at s (number_of handle.place)) handle.generation) [
      | inl is ↦ lived s e.0 e.1 a handle (other 0 a (omega arith)) is.serves (subst (λ t. Living (record_at t (number_of handle.place)) handle.generation) is.after mid)
      | inr is ↦ subst (λ t. Living (record_at t (number_of handle.place)) handle.generation) is.same mid
    ]

-- an event that some rule denies is answered so
pub denied_answer : (s : State) (w : ℕ) (e : Event) (a : Answer) (next : State) (o : Option Rule) (reasons : List (Bool × Answer))
    → refusal s w e ≡ denial_or o reasons → (o ≡ None → ⊥) → Step s w e a next → IsDenied a
denied_answer s w e a next None reasons is some h = absurd (some refl)
denied_answer s w e a next (Some rule) reasons is some h = (rule, (refused_changes_nothing s next w e a (answer.Denied rule) is h).0)

-- what every rule of every right denies is denied, whatever event names it
gone_denied : (s : State) (w : ℕ) (e : Event) (a : Answer) (next : State) (handle : Handle) → handle_of e ≡ Some handle → Step s w e a next
    → ((actor : ℕ) (right : Right) → denial s actor right handle.place handle.generation ≡ None → ⊥) → IsDenied a
gone_denied s w (event.Free actor named) a next handle is h gone =
    denied_answer s w (event.Free actor named) a next (denial s actor.0 right.Free named.place named.generation) _ refl
    (subst (λ k. denial s actor.0 right.Free k.place k.generation ≡ None → ⊥) (sym (same_Some _ _ is)) (gone actor.0 right.Free)) h
gone_denied s w (event.Read actor named index) a next handle is h gone =
    denied_answer s w (event.Read actor named index) a next (denial s actor.0 right.Read named.place named.generation) _ refl
    (subst (λ k. denial s actor.0 right.Read k.place k.generation ≡ None → ⊥) (sym (same_Some _ _ is)) (gone actor.0 right.Read)) h
gone_denied s w (event.Write actor named index value) a next handle is h gone =
    denied_answer s w (event.Write actor named index value) a next (denial s actor.0 right.Write named.place named.generation) _ refl
    (subst (λ k. denial s actor.0 right.Write k.place k.generation ≡ None → ⊥) (sym (same_Some _ _ is)) (gone actor.0 right.Write)) h
gone_denied s w (event.Alloc actor arena bytes) a next handle is h gone = absurd (cc)
gone_denied s w event.Deliver a next handle is h gone = absurd (cc)
gone_denied s w (event.Take segment) a next handle is h gone = absurd (cc)
gone_denied s w event.Collect a next handle is h gone = absurd (cc)
gone_denied s w (event.Look actor at) a next handle is h gone = absurd (cc)
gone_denied s w (event.Abandon segment) a next handle is h gone = absurd (cc)
gone_denied s w (event.Refill arena) a next handle is h gone = absurd (cc)

ends_plain : (a : Answer) → (a ≡ answer.Done) ⊎ (a ≡ answer.Parted) → is_refusal a ≡ false
ends_plain a o = elim o as (λ _. is_refusal a ≡ false) [ inl done ↦ ap is_refusal done | inr away ↦ ap is_refusal away ]

pub forged_is_denied : ForgedIsDenied
forged_is_denied policy events answers s next w e a handle run other is h =
    gone_denied s w e a next handle is h
    (λ who right none.
    let seen = allowed s who right handle.place handle.generation none in
    let first = run_lived (opening policy) events answers s handle other run (record { alive = seen.alive; generation = seen.generation }) in
    true≢false (sym first.alive ∙ ap (λ r. is_live r.life) (all_same (length policy.segments * 8192) (number_of handle.place) never_used)))

pub freed_is_denied : FreedIsDenied
freed_is_denied old mid w actor handle freed events answers s next other asked given plain h run is last =
    let served = was_served old w (event.Free actor handle) freed mid h (ends_plain freed plain) in
    gone_denied s other asked given next handle is last
    (λ who right. freed_is_gone old mid s w actor handle freed events answers who right served.none h run)
