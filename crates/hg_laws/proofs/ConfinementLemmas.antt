-- The words of a life are what was put there.
use Rattle.std.proofs.Common.{◌≡◌, ◌≢◌, ◌⊎◌, inl, inr, ℕ, ◌==◌, ◌&&◌, ◌<◌, Bool, true, false}
use Rattle.std.proofs.Common.{if◌then◌else◌, ◌*◌, List, [], ◌∷◌, length, get_or, set, replicate}
use Rattle.std.proofs.Common.{None, refl, sym, ap, subst, ◌∙◌, arith}
use Rattle.std.proofs.lemmas.Bool.{cases_Bool, cases_eq, and_right, and_parts, eq-eqb}
use Rattle.std.proofs.lemmas.Bool.{ne_eqb, true≢false, not-false, ltb-true}
use Rattle.std.proofs.lemmas.Bool.{cases_order}
use Rattle.std.proofs.lemmas.Grind.{get_or-set_at}
use Rattle.std.proofs.lemmas.List.{get_or-set_other}
use Rattle.hg_place.specs.declared.Right.TheVariants as right
use Rattle.hg_place.specs.declared.Handle.{Handle}
use Rattle.hg_place.specs.declared.Actor.{Actor}
use Rattle.hg_place.specs.Places.{number_of, segment_of}
use Rattle.hg_machine.specs.declared.Event.{Event}
use Rattle.hg_machine.specs.declared.Event.TheVariants as event
use Rattle.hg_machine.specs.declared.Answer.{Answer}
use Rattle.hg_machine.specs.declared.Answer.TheVariants as answer
use Rattle.hg_machine.specs.Life.{Life, home, live, Record, never_used, is_home, is_live}
use Rattle.hg_machine.specs.Life.{is_parted, contents_of}
use Rattle.hg_machine.specs.State.{State, record_at, opening}
use Rattle.hg_machine.specs.Holders.{holds}
use Rattle.hg_machine.specs.Changes.{given_out, part, write, with_life}
use Rattle.hg_machine.specs.Request.{size_of}
use Rattle.hg_machine.specs.Refusal.{refusal}
use Rattle.hg_machine.specs.Served.{IsServed}
use Rattle.hg_machine.specs.Steps.{successor, Step, Run}
use Rattle.hg_machine.specs.Sweeps.{is_sent_to}
use Rattle.hg_machine.specs.LifeLaws.{IsOver}
use Rattle.hg_machine.proofs.Allowed.{allowed, no_denial, step}
use Rattle.hg_machine.proofs.Cases.{step_cases}
use Rattle.hg_machine.proofs.Keeps.{set_cases}
use Rattle.hg_machine.proofs.Takes.{settled_at}
use Rattle.hg_machine.proofs.Opening.{all_same}
use Rattle.hg_machine.proofs.Follows.{over_stays_over}
use Rattle.hg_machine.proofs.Preserves.{live_within}
use Rattle.hg_machine.specs.First.{first_of}
use Rattle.hg_laws.specs.Asked.{is_refusal}
use Rattle.hg_laws.proofs.MachineFacts.{room_home, free_cases}
use Rattle.hg_laws.proofs.LifeChanges.{unlive, parted_unlive, part_unlive, write_live, write_words}
use Rattle.hg_laws.specs.Confinement.{Puts, NeverPut, IsLastPut, ReadsAreConfined}
use Rattle.hg_laws.proofs.Refusals.{refused_is, was_served}

-- the word at the index where the place has this life, and else zero
abbrev word_in : ℕ → ℕ → Record → ℕ
word_in g index r = if is_live r.life && r.generation == g then get_or (contents_of r.life) index 0 else 0

dead_word : (g index : ℕ) (r : Record) → is_live r.life ≡ false → word_in g index r ≡ 0
dead_word g index r e = ap (λ b. if b && r.generation == g then get_or (contents_of r.life) index 0 else 0) e

other_word : (g index : ℕ) (r : Record) → r.generation ≢ g → word_in g index r ≡ 0
other_word g index r ne = ap (λ b. if b then get_or (contents_of r.life) index 0 else 0) (and_right (is_live r.life) _ (ne_eqb _ _ ne))

live_word : (g index : ℕ) (r : Record) → is_live r.life ≡ true → r.generation ≡ g → word_in g index r ≡ get_or (contents_of r.life) index 0
live_word g index r alive same =
    ap (λ b. if b && r.generation == g then get_or (contents_of r.life) index 0 else 0) alive
    ∙ ap (λ b. if b then get_or (contents_of r.life) index 0 else 0) (eq-eqb _ _ same)

zero_if : (b : Bool) (n : ℕ) → n ≡ 0 → (if b then n else 0) ≡ 0
zero_if true n e = e
zero_if false n e = refl

zero_word : (g index n generation owner : ℕ) → word_in g index (record { generation = generation; life = live owner (replicate n 0) }) ≡ 0
zero_word g index n generation owner = zero_if (generation == g) _ (all_same n index 0)

-- this life isn't over
abbrev IsDue : ℕ → Record → Type 0
IsDue g r = (r.generation < g) ⊎ ((r.generation ≡ g) × (is_live r.life ≡ true))

over_or_due : (s : State) (place g : ℕ) → IsOver s place g ⊎ IsDue g (record_at s place)
over_or_due s place g =
    let r = record_at s place in
    elim (cases_order r.generation g) as (λ _. IsOver s place g ⊎ IsDue g r) [
      | inl same ↦ elim (cases_Bool (is_live r.life)) as (λ _. IsOver s place g ⊎ IsDue g r) [
        | inl t ↦ inr (inr (same, t))
        | inr f ↦ inl (record { reached = omega arith; past = λ t. absurd (true≢false (sym t ∙ f)) })
      ]
      | inr o ↦ elim o as (λ _. IsOver s place g ⊎ IsDue g r) [
        | inl less ↦ inr (inl less)
        | inr more ↦ inl (record { reached = omega arith; past = λ t. omega arith })
      ]
    ]

not_both : (s : State) (place g : ℕ) → IsOver s place g → IsDue g (record_at s place) → ⊥
not_both s place g over due = elim due as (λ _. ⊥) [
  | inl less ↦ let h = over.reached in omega arith
  | inr is ↦ let h = over.past is.1 in let e = is.0 in omega arith
]

due_before : (s : State) (events : List (ℕ × Event)) (answers : List Answer) (new : State) (place g : ℕ) → Run s events answers new → IsDue g (record_at new place) → IsDue g (record_at s place)
due_before s events answers new place g run due = elim (over_or_due s place g) as (λ _. IsDue g (record_at s place)) [
  | inl over ↦ absurd (not_both new place g (over_stays_over s events answers new place g over run) due)
  | inr is ↦ is
]

-- a served event puts a value there, or leaves the word
abbrev Goes : ℕ → ℕ → ℕ → Event → Answer → Record → Record → Type 0
Goes place g index e a was now =
    ((x : ℕ) × Puts place g index x e a × (word_in g index now ≡ x))
    ⊎ (((x : ℕ) → Puts place g index x e a → ⊥) × (word_in g index now ≡ word_in g index was))

-- a place that ends this life only if the life isn't due any more
ends : (g index : ℕ) (r : Record) (l : Life) → is_live l ≡ false → IsDue g (record { generation = r.generation; life = l }) → word_in g index (record { generation = r.generation; life = l }) ≡ word_in g index r
ends g index r l dead due =
    dead_word g index (record { generation = r.generation; life = l }) dead
    ∙ elim due as (λ _. 0 ≡ word_in g index r) [
      | inl less ↦ sym (other_word g index r (λ e. omega arith))
      | inr is ↦ absurd (true≢false (sym is.1 ∙ dead))
    ]

ends_at : (g index p q : ℕ) (rs : List Record) (l : Life) → is_live l ≡ false
    → IsDue g (get_or (set rs p (record { generation = (get_or rs p never_used).generation; life = l })) q never_used)
    → word_in g index (get_or (set rs p (record { generation = (get_or rs p never_used).generation; life = l })) q never_used) ≡ word_in g index (get_or rs q never_used)
ends_at g index p q rs l dead due =
    let r : Record = record { generation = (get_or rs p never_used).generation; life = l } in
    elim (set_cases rs p q r never_used) as (λ _. word_in g index (get_or (set rs p r) q never_used) ≡ word_in g index (get_or rs q never_used)) [
      | inl here ↦ ap (word_in g index) here.1 ∙ ends g index (get_or rs p never_used) l dead (subst (IsDue g) here.1 due) ∙ ap (λ n. word_in g index (get_or rs n never_used)) (sym here.0)
      | inr other ↦ ap (word_in g index) other
    ]

settled_word : (b : Bool) (g index : ℕ) (r : Record) → (b ≡ true → is_live r.life ≡ false)
    → word_in g index (if b then record { generation = r.generation; life = home } else r) ≡ word_in g index r
settled_word true g index r dead = sym (dead_word g index r (dead refl))
settled_word false g index r dead = refl

-- a served Write
write_goes : (s : State) (place g index : ℕ) (actor : Actor) (handle : Handle) (at value : ℕ)
    → is_live (record_at s (number_of handle.place)).life ≡ true → (record_at s (number_of handle.place)).generation ≡ handle.generation
    → at < length (contents_of (record_at s (number_of handle.place)).life)
    → Goes place g index (event.Write actor handle at value) answer.Done (record_at s place) (record_at (with_life s (number_of handle.place) (write (record_at s (number_of handle.place)).life at value)) place)
write_goes s place g index actor handle at value alive same below =
    let p = number_of handle.place in
    let r = record_at s p in
    let changed : Record = record { generation = r.generation; life = write r.life at value } in
    let now : Record = get_or (set s.records p changed) place never_used in
    let still : is_live changed.life ≡ true = write_live r.life at value ∙ alive in
    elim (cases_eq place p) as (λ _. Goes place g index (event.Write actor handle at value) answer.Done (record_at s place) now) [
      | inr ne ↦ inr (λ x t. ne (sym t.0.place_is), ap (word_in g index) (get_or-set_other s.records p place changed never_used ne))
      | inl here ↦
          let is : now ≡ changed = get_or-set_at s.records p place changed never_used here (live_within s p alive) in
          let back : word_in g index r ≡ word_in g index (record_at s place) = ap (λ n. word_in g index (record_at s n)) (sym here) in
          elim (cases_eq handle.generation g) as (λ _. Goes place g index (event.Write actor handle at value) answer.Done (record_at s place) now) [
            | inr ne ↦ inr (λ x t. ne t.0.life_is, ap (word_in g index) is ∙ other_word g index changed (λ e. ne (sym same ∙ e)) ∙ sym (other_word g index r (λ e. ne (sym same ∙ e))) ∙ back)
            | inl life ↦
                let word : word_in g index now ≡ get_or (set (contents_of r.life) at value) index 0 =
                ap (word_in g index) is ∙ live_word g index changed still (same ∙ life) ∙ ap (λ ws. get_or ws index 0) (write_words r.life at value alive)
                in
                elim (cases_eq at index) as (λ _. Goes place g index (event.Write actor handle at value) answer.Done (record_at s place) now) [
                  | inl there ↦ inl (value, (record { place_is = sym here; life_is = life }, there, refl, refl), word ∙ get_or-set_at (contents_of r.life) at index value 0 (sym there) below)
                  | inr away ↦ inr (λ x t. away t.1, word ∙ get_or-set_other (contents_of r.life) at index value 0 (λ k. away (sym k)) ∙ sym (live_word g index r alive (same ∙ life)) ∙ back)
                ]
          ]
    ]

-- a served Alloc opens with zero words
alloc_word : (s : State) (place g index actor size : ℕ) (handle : Handle) → is_home (record_at s (number_of handle.place)).life ≡ true
    → word_in g index (record_at (given_out s actor handle size) place) ≡ word_in g index (record_at s place)
alloc_word s place g index actor size handle vacant =
    let p = number_of handle.place in
    let fresh : Record = record { generation = handle.generation; life = live actor (replicate size 0) } in
    elim (set_cases s.records p place fresh never_used) as (λ _. word_in g index (get_or (set s.records p fresh) place never_used) ≡ word_in g index (record_at s place)) [
      | inr other ↦ ap (word_in g index) other
      | inl here ↦
          ap (word_in g index) here.1
          ∙ zero_word g index size handle.generation actor
          ∙ sym (dead_word g index (record_at s p) (unlive _ vacant))
          ∙ ap (λ n. word_in g index (record_at s n)) (sym here.0)
    ]

no_index : (b c : Bool) (x y : Answer) → first_of ((b, x) ∷ (c, y) ∷ []) ≡ None → c ≡ false
no_index b c x y e = (step c y None (step b x (first_of ((c, y) ∷ [])) e).1).0

served_goes : (s : State) (w : ℕ) (e : Event) (a : Answer) (place g index : ℕ) → refusal s w e ≡ None → IsServed s w e a
    → IsDue g (record_at (successor s w e a) place) → Goes place g index e a (record_at s place) (record_at (successor s w e a) place)
served_goes s w (event.Alloc actor arena bytes) a place g index none k due =
    inr (
      λ x t. t,
      ap (λ z. word_in g index (record_at (successor s w (event.Alloc actor arena bytes) z) place)) k.1
          ∙ alloc_word s place g index actor.0 (size_of bytes) k.0 (room_home s w arena (size_of bytes) (number_of k.0.place) k.2.room),
    )
served_goes s w (event.Free actor handle) a place g index none is due =
    let p = number_of handle.place in
    elim (free_cases (holds s w handle.place.segment) a is) as (λ _. Goes place g index (event.Free actor handle) a (record_at s place) (record_at (successor s w (event.Free actor handle) a) place)) [
      | inl done ↦ inr (
        λ x t. t,
        ap (λ z. word_in g index (record_at (successor s w (event.Free actor handle) z) place)) done
            ∙ ends_at g index p place s.records home refl (subst (λ z. IsDue g (record_at (successor s w (event.Free actor handle) z) place)) done due),
      )
      | inr away ↦ inr (
        λ x t. t,
        ap (λ z. word_in g index (record_at (successor s w (event.Free actor handle) z) place)) away
            ∙ ends_at g index p place s.records (part (record_at s p).life) (part_unlive (record_at s p).life) (subst (λ z. IsDue g (record_at (successor s w (event.Free actor handle) z) place)) away due),
      )
    ]
served_goes s w event.Deliver a place g index none is due = inr (λ x t. t, ap (λ z. word_in g index (record_at (successor s w event.Deliver z) place)) is)
served_goes s w (event.Take segment) a place g index none is due =
    inr (
      λ x t. t,
      ap (λ z. word_in g index (record_at (successor s w (event.Take segment) z) place)) is
          ∙ ap (word_in g index) (settled_at s segment place)
          ∙ settled_word (is_sent_to s segment place) g index (record_at s place)
          (λ t. parted_unlive _ (and_parts (is_parted (record_at s place).life) _ (and_parts (segment_of place == segment) _ t).1).0),
    )
served_goes s w event.Collect a place g index none is due = inr (λ x t. t, ap (λ z. word_in g index (record_at (successor s w event.Collect z) place)) is)
served_goes s w (event.Read actor handle at) a place g index none is due = inr (λ x t. t, ap (λ z. word_in g index (record_at (successor s w (event.Read actor handle at) z) place)) is)
served_goes s w (event.Write actor handle at value) a place g index none is due =
    let free = no_denial _ _ none in
    let seen = allowed s actor.0 right.Write handle.place handle.generation free.0 in
    let below = ltb-true _ _ (not-false _ (no_index _ _ answer.Elsewhere answer.OutOfBlock free.1)) in
    subst (λ z. Goes place g index (event.Write actor handle at value) z (record_at s place) (record_at (successor s w (event.Write actor handle at value) z) place)) (sym is)
    (write_goes s place g index actor handle at value seen.alive seen.generation below)
served_goes s w (event.Look actor at) a place g index none k due = inr (λ x t. t, ap (λ z. word_in g index (record_at (successor s w (event.Look actor at) z) place)) k.1)
served_goes s w (event.Abandon segment) a place g index none is due = inr (λ x t. t, ap (λ z. word_in g index (record_at (successor s w (event.Abandon segment) z) place)) is)
served_goes s w (event.Refill arena) a place g index none k due = inr (λ x t. t, ap (λ z. word_in g index (record_at (successor s w (event.Refill arena) z) place)) k.1)

-- what is refused puts nothing
refused_puts : (place g index : ℕ) (e : Event) (a : Answer) → is_refusal a ≡ true → (x : ℕ) → Puts place g index x e a → ⊥
refused_puts place g index (event.Write actor handle at value) a shut x t = true≢false (sym shut ∙ ap is_refusal t.3)
refused_puts place g index (event.Alloc actor arena bytes) a shut x t = t
refused_puts place g index (event.Free actor handle) a shut x t = t
refused_puts place g index event.Deliver a shut x t = t
refused_puts place g index (event.Take segment) a shut x t = t
refused_puts place g index event.Collect a shut x t = t
refused_puts place g index (event.Read actor handle at) a shut x t = t
refused_puts place g index (event.Look actor at) a shut x t = t
refused_puts place g index (event.Abandon segment) a shut x t = t
refused_puts place g index (event.Refill arena) a shut x t = t

step_goes : (s : State) (w : ℕ) (e : Event) (a : Answer) (new : State) (place g index : ℕ) → Step s w e a new → IsDue g (record_at new place)
    → Goes place g index e a (record_at s place) (record_at new place)
step_goes s w e a new place g index h due = elim (step_cases s w e a new h) as (λ _. Goes place g index e a (record_at s place) (record_at new place)) [
  | inl is ↦ subst (λ t. Goes place g index e a (record_at s place) (record_at t place)) (sym is.after) (served_goes s w e a place g index is.none is.serves (subst (λ t. IsDue g (record_at t place)) is.after due))
  | inr is ↦ inr (refused_puts place g index e a (refused_is s w e a is.some), ap (λ t. word_in g index (record_at t place)) is.same)
]

-- so along a run the word is the last that was put there, or as it was
abbrev Confined : ℕ → ℕ → ℕ → List (ℕ × Event) → List Answer → ℕ → ℕ → Type 0
Confined place g index events answers was now = ((now ≡ was) × NeverPut place g index events answers) ⊎ IsLastPut place g index now events answers

run_goes : (s : State) (events : List (ℕ × Event)) (answers : List Answer) (new : State) (place g index : ℕ) → Run s events answers new → IsDue g (record_at new place)
    → Confined place g index events answers (word_in g index (record_at s place)) (word_in g index (record_at new place))
run_goes s [] [] new place g index run due = inl (ap (λ t. word_in g index (record_at t place)) run, tt)
run_goes s [] (a ∷ rest) new place g index run due = absurd run
run_goes s (e ∷ es) [] new place g index run due = absurd run
run_goes s (e ∷ es) (a ∷ rest) new place g index run due =
    let mid = run.0 in
    let was = word_in g index (record_at s place) in
    let now = word_in g index (record_at new place) in
    elim (step_goes s e.0 e.1 a mid place g index run.1 (due_before mid es rest new place g run.2 due)) as (λ _. Confined place g index (e ∷ es) (a ∷ rest) was now) [
      | inl put ↦ elim (run_goes mid es rest new place g index run.2 due) as (λ _. Confined place g index (e ∷ es) (a ∷ rest) was now) [
        | inl kept ↦ inr (inl (subst (λ x. Puts place g index x e.1 a) (sym (kept.0 ∙ put.2)) put.1, kept.1))
        | inr later ↦ inr (inr later)
      ]
      | inr idle ↦ elim (run_goes mid es rest new place g index run.2 due) as (λ _. Confined place g index (e ∷ es) (a ∷ rest) was now) [
        | inl kept ↦ inl (kept.0 ∙ idle.1, (idle.0, kept.1))
        | inr later ↦ inr (inr later)
      ]
    ]

value_same : (x y : ℕ) → answer.Value x ≡ answer.Value y → x ≡ y
value_same x y e = cc

pub reads_are_confined : ReadsAreConfined
reads_are_confined policy events answers s next w actor handle index value run h =
    let p = number_of handle.place in
    let is = was_served s w (event.Read actor handle index) (answer.Value value) next h refl in
    let seen = allowed s actor.0 right.Read handle.place handle.generation (no_denial _ _ is.none).0 in
    let word : word_in handle.generation index (record_at s p) ≡ value = live_word handle.generation index (record_at s p) seen.alive seen.generation ∙ sym (value_same value _ is.serves) in
    let start : word_in handle.generation index (record_at (opening policy) p) ≡ 0 = ap (word_in handle.generation index) (all_same (length policy.segments * 8192) p never_used) in
    elim (run_goes (opening policy) events answers s p handle.generation index run (inr (seen.generation, seen.alive))) as (λ _. Confined p handle.generation index events answers 0 value) [
      | inl kept ↦ inl (sym word ∙ kept.0 ∙ start, kept.1)
      | inr last ↦ inr (subst (λ x. IsLastPut p handle.generation index x events answers) word last)
    ]
