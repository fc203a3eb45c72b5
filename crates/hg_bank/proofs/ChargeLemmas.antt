-- What a step does to the charges.
use Rattle.std.proofs.Common.{◌≡◌, ◌≢◌, inl, inr, ℕ, ◌*◌, ◌^◌, ◌==◌, ◌&&◌, ◌<◌, ◌≤◌, Bool, true}
use Rattle.std.proofs.Common.{false, not, if◌then◌else◌, List, length, get_or, set, replicate}
use Rattle.std.proofs.Common.{refl, sym, ap, ◌∙◌, arith, All}
use Rattle.std.specs.List.{range_with_len, sum_by}
use Rattle.std.proofs.lemmas.Bool.{ne_eqb, true≢false}
use Rattle.std.proofs.lemmas.List.{length-set}
use Rattle.std.proofs.lemmas.List.FromFn.{length-range_with_len}
use Rattle.std.proofs.lemmas.List.Sums.{sum_by-le}
use Rattle.hg_size.proofs.Table.{size_bounds}
use Rattle.hg_place.specs.declared.Handle.{Handle}
use Rattle.hg_place.specs.Places.{number_of, segment_of, page_of}
use Rattle.hg_machine.specs.declared.Event.{Event}
use Rattle.hg_machine.specs.declared.Event.TheVariants as event
use Rattle.hg_machine.specs.declared.Answer.{Answer}
use Rattle.hg_machine.specs.declared.Answer.TheVariants as answer
use Rattle.hg_machine.specs.Life.{Life, home, live, parted, Record, never_used, is_home, owner_of}
use Rattle.hg_machine.specs.Life.{bytes_of, contents_of}
use Rattle.hg_machine.specs.State.{State, record_at, holder_at, places_in}
use Rattle.hg_machine.specs.Soundness.{IsSound}
use Rattle.hg_machine.specs.Holders.{holds, is_held_by}
use Rattle.hg_machine.specs.Changes.{given_out, part, write, with_life}
use Rattle.hg_machine.specs.Charge.{share, charge}
use Rattle.hg_machine.specs.Served.{IsNext}
use Rattle.hg_machine.specs.Steps.{Step, successor}
use Rattle.hg_machine.specs.Held.{IsAlike}
use Rattle.hg_machine.proofs.Cases.{step_cases}
use Rattle.hg_machine.proofs.Enough.{sums, held_is_enough}
use Rattle.hg_machine.proofs.Keeps.{set_cases}
use Rattle.hg_machine.proofs.Preserves.{held_is, steps_keep_sound, steps_keep_policy}
use Rattle.hg_laws.specs.Workers.{IsParting}
use Rattle.hg_laws.proofs.MachineFacts.{room_home}
use Rattle.hg_laws.proofs.ReadingLemmas.{reading_changes_nothing}
use Rattle.hg_laws.proofs.WorkersLemmas.{workers_keep_apart}
use Rattle.hg_bank.specs.Charges.{AreSameCharges}

-- what a record adds to a charge where its place is held, or isn't
abbrev pub share_of : ℕ → Bool → Life → ℕ
share_of tenant b l = if b && (not (is_home l) && owner_of l == tenant) then bytes_of l else 0

-- a charge is the same where each share is
same_shares : (s t : State) (worker tenant : ℕ) → length t.records ≡ length s.records
    → ((q : ℕ) → share t worker tenant q ≡ share s worker tenant q)
    → charge t worker tenant ≡ charge s worker tenant
same_shares s t worker tenant same each =
    sums (share t worker tenant) (share s worker tenant) (places_in t) each
    ∙ ap (λ n. sum_by (share s worker tenant) (range_with_len 0 n)) same

-- no place adds more than a segment has
share_small : (s : State) (worker tenant place : ℕ) → IsSound s
    → share s worker tenant place ≤ 65536
share_small s worker tenant place sound =
    let life = (record_at s place).life in
    let block = (sound.places place).block in
    least (holds s worker (segment_of place)) life (λ used.
    (size_bounds (length (contents_of life))
    (sound.classes (page_of place) (length (contents_of life)) (block.same_class used))).1)
  where
    least : (b : Bool) (l : Life) → (is_home l ≡ false → length (contents_of l) ≤ 8192)
        → share_of tenant b l ≤ 65536
    least false l h = omega arith
    least true home h = omega arith
    least true (live owner words) h = chosen (owner == tenant) (length words) (h refl)
      where
        chosen : (b : Bool) (n : ℕ) → n ≤ 8192 → (if b then 8 * n else 0) ≤ 65536
        chosen true n h = omega arith
        chosen false n h = omega arith
    least true (parted owner words) h = chosen (owner == tenant) (length words) (h refl)
      where
        chosen : (b : Bool) (n : ℕ) → n ≤ 8192 → (if b then 8 * n else 0) ≤ 65536
        chosen true n h = omega arith
        chosen false n h = omega arith

pub charge_small : (s : State) (worker tenant : ℕ) → IsSound s → charge s worker tenant ≤ 2 ^ 35
charge_small s worker tenant sound =
    let all : All (λ place. share s worker tenant place ≤ 65536) (places_in s) =
    λ k d below. share_small s worker tenant _ sound in
    let sum = sum_by-le (share s worker tenant) 65536 (places_in s) all in
    let long = length-range_with_len 0 (length s.records) in
    let whole = sound.whole.records in
    let few = sound.policy.few_segments in
    omega arith

-- a part of a block is charged as it was
parted_alike : (r q : Record) → r.generation ≡ q.generation → r.life ≡ part q.life → IsAlike r q
parted_alike r q g l = record {
  generation = g;
  free = ap is_home l ∙ same_home q.life;
  owner = ap owner_of l ∙ same_owner q.life;
  words = ap contents_of l ∙ same_words q.life;
}
  where
    same_home : (l : Life) → is_home (part l) ≡ is_home l
    same_home home = refl
    same_home (live owner words) = refl
    same_home (parted owner words) = refl

    same_owner : (l : Life) → owner_of (part l) ≡ owner_of l
    same_owner home = refl
    same_owner (live owner words) = refl
    same_owner (parted owner words) = refl

    same_words : (l : Life) → contents_of (part l) ≡ contents_of l
    same_words home = refl
    same_words (live owner words) = refl
    same_words (parted owner words) = refl

alike : (r q : Record) → r ≡ q → IsAlike r q
alike r q e = record {
  generation = ap (λ x. x.generation) e;
  free = ap (λ x. is_home x.life) e;
  owner = ap (λ x. owner_of x.life) e;
  words = ap (λ x. contents_of x.life) e;
}

pub parting_alike : (s : State) (place : ℕ) (e : Event) (a : Answer) (new : State)
    → IsParting s place e a new → IsAlike (record_at new place) (record_at s place)
parting_alike s place (event.Free actor handle) a new p = parted_alike _ _ p.2 p.3
parting_alike s place (event.Alloc actor arena bytes) a new p = absurd p
parting_alike s place event.Deliver a new p = absurd p
parting_alike s place (event.Take segment) a new p = absurd p
parting_alike s place event.Collect a new p = absurd p
parting_alike s place (event.Read actor handle index) a new p = absurd p
parting_alike s place (event.Write actor handle index value) a new p = absurd p
parting_alike s place (event.Look actor at) a new p = absurd p
parting_alike s place (event.Abandon segment) a new p = absurd p
parting_alike s place (event.Refill arena) a new p = absurd p

-- a step of a worker leaves what is charged with another
pub others_keep : (s : State) (w : ℕ) (e : Event) (a : Answer) (new : State) → IsSound s
    → w < s.policy.workers → Step s w e a new → (other tenant : ℕ) → other ≢ w
    → charge new other tenant ≡ charge s other tenant
others_keep s w e a new sound below step other tenant ne =
    let apart = workers_keep_apart s w e a new sound step in
    let after = steps_keep_sound s w e a new sound below step in
    let policy : new.policy ≡ s.policy = steps_keep_policy s w e a new step in
    let long : length new.records ≡ length s.records =
    after.whole.records ∙ ap (λ p. length p.segments * 8192) policy ∙ sym sound.whole.records in
    let unheld : (segment : ℕ) → holds s other segment ≡ true → holds s w segment ≡ false =
    λ segment h. ap (is_held_by w) (held_is other (holder_at s segment) h) ∙ ne_eqb other w ne in
    (held_is_enough s new other (record {
      policy = policy;
      places = ap (range_with_len 0) long;
      holding = λ segment. apart.holding other segment ne;
      records = λ place h.
          elim (apart.records place (unheld (segment_of place) h)) as
          (λ _. IsAlike (record_at new place) (record_at s place)) [
            | inl same ↦ alike _ _ same
            | inr parting ↦ parting_alike s place e a new parting
          ];
      classes = λ page h. apart.classes page (unheld _ h);
    })).charged tenant

-- a write changes no charge
write_share : (tenant : ℕ) (b : Bool) (index value : ℕ) (l : Life)
    → share_of tenant b (write l index value) ≡ share_of tenant b l
write_share tenant b index value home = refl
write_share tenant b index value (live owner words) =
    ap (λ n. if b && (true && owner == tenant) then 8 * n else 0) (length-set words index value)
write_share tenant b index value (parted owner words) = refl

written : (s : State) (p index value : ℕ)
    → AreSameCharges s (with_life s p (write (record_at s p).life index value))
written s p index value worker tenant =
    let r : Record = record {
      generation = (record_at s p).generation;
      life = write (record_at s p).life index value;
    } in
    same_shares s (with_life s p (write (record_at s p).life index value)) worker tenant
    (length-set s.records p r) (λ q.
    let b = holds s worker (segment_of q) in
    elim (set_cases s.records p q r never_used) as
    (λ _. share_of tenant b (get_or (set s.records p r) q never_used).life
    ≡ share_of tenant b (record_at s q).life) [
      | inl here ↦
          ap (λ x. share_of tenant b x.life) here.1
          ∙ write_share tenant b index value (record_at s p).life
          ∙ ap (λ n. share_of tenant b (record_at s n).life) (sym here.0)
      | inr other ↦ ap (λ x. share_of tenant b x.life) other
    ])

-- the events that leave each charge as it is
abbrev pub is_calm : Event → Bool
is_calm event.Deliver = true
is_calm event.Collect = true
is_calm (event.Read actor handle index) = true
is_calm (event.Write actor handle index value) = true
is_calm (event.Look actor place) = true
is_calm event = false

same_state : (s new : State) → new ≡ s → AreSameCharges s new
same_state s new e worker tenant = ap (λ t. charge t worker tenant) e

after_answer : (s : State) (w : ℕ) (e : Event) (a given : Answer) (new : State)
    → new ≡ successor s w e a → a ≡ given → AreSameCharges s (successor s w e given)
    → AreSameCharges s new
after_answer s w e a given new after is h worker tenant =
    ap (λ t. charge t worker tenant) (after ∙ ap (successor s w e) is) ∙ h worker tenant

pub calm_keeps : (s : State) (w : ℕ) (e : Event) (a : Answer) (new : State) → is_calm e ≡ true
    → Step s w e a new → AreSameCharges s new
calm_keeps s w event.Deliver a new calm h =
    elim (step_cases s w event.Deliver a new h) as (λ _. AreSameCharges s new) [
      | inl is ↦ after_answer s w event.Deliver a answer.Done new is.after is.serves
          (λ worker tenant. refl)
      | inr is ↦ same_state s new is.same
    ]
calm_keeps s w event.Collect a new calm h =
    elim (step_cases s w event.Collect a new h) as (λ _. AreSameCharges s new) [
      | inl is ↦ after_answer s w event.Collect a _ new is.after is.serves (λ worker tenant. refl)
      | inr is ↦ same_state s new is.same
    ]
calm_keeps s w (event.Read actor handle index) a new calm h =
    same_state s new (reading_changes_nothing s w (event.Read actor handle index) a new refl h)
calm_keeps s w (event.Write actor handle index value) a new calm h =
    elim (step_cases s w (event.Write actor handle index value) a new h) as
    (λ _. AreSameCharges s new) [
      | inl is ↦ after_answer s w (event.Write actor handle index value) a answer.Done new is.after
          is.serves (written s (number_of handle.place) index value)
      | inr is ↦ same_state s new is.same
    ]
calm_keeps s w (event.Look actor place) a new calm h =
    same_state s new (reading_changes_nothing s w (event.Look actor place) a new refl h)
calm_keeps s w (event.Alloc actor arena bytes) a new calm h = absurd (true≢false (sym calm))
calm_keeps s w (event.Free actor handle) a new calm h = absurd (true≢false (sym calm))
calm_keeps s w (event.Take segment) a new calm h = absurd (true≢false (sym calm))
calm_keeps s w (event.Abandon segment) a new calm h = absurd (true≢false (sym calm))
calm_keeps s w (event.Refill arena) a new calm h = absurd (true≢false (sym calm))

pub home_share : (tenant : ℕ) (b : Bool) (l : Life) → is_home l ≡ true → share_of tenant b l ≡ 0
home_share tenant true l e =
    ap (λ h. if not h && owner_of l == tenant then bytes_of l else 0) e
home_share tenant false l e = refl

other_share : (tenant owner : ℕ) (b : Bool) (words : List ℕ) → owner ≢ tenant
    → share_of tenant b (live owner words) ≡ 0
other_share tenant owner true words ne =
    ap (λ h. if h then bytes_of (live owner words) else 0) (ne_eqb owner tenant ne)
other_share tenant owner false words ne = refl

-- what is given out is charged to its owner alone
pub given_keeps : (s : State) (w arena actor size : ℕ) (handle : Handle) → IsSound s
    → IsNext s w arena size handle → (worker tenant : ℕ) → tenant ≢ actor
    → charge (given_out s actor handle size) worker tenant ≡ charge s worker tenant
given_keeps s w arena actor size handle sound next worker tenant ne =
    let p = number_of handle.place in
    let r : Record = record {
      generation = handle.generation;
      life = live actor (replicate size 0);
    } in
    same_shares s (given_out s actor handle size) worker tenant (length-set s.records p r) (λ q.
    let b = holds s worker (segment_of q) in
    elim (set_cases s.records p q r never_used) as
    (λ _. share_of tenant b (get_or (set s.records p r) q never_used).life
    ≡ share_of tenant b (record_at s q).life) [
      | inl here ↦
          ap (λ x. share_of tenant b x.life) here.1
          ∙ other_share tenant actor b (replicate size 0) (λ e. ne (sym e))
          ∙ sym (home_share tenant b (record_at s p).life (room_home s w arena size p next.room))
          ∙ ap (λ n. share_of tenant b (record_at s n).life) (sym here.0)
      | inr other ↦ ap (λ x. share_of tenant b x.life) other
    ])
