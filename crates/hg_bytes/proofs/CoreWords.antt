-- What a Read or a Write of a word does to the block of a core.
use Rattle.std.proofs.Common.{◌≡◌, ◌≢◌, ◌⊎◌, ℕ, ◌<◌, ◌≤◌, Bool, true, false, not, nat_lt, List, length, Option, Some, None, arith, refl, sym, ap, subst, inl, inr, ◌∙◌, slice_index, slice_set}
use Rattle.std.proofs.lemmas.Bool.{cases_lt, ltb-true, not-false}
use Rattle.std.proofs.lemmas.List.{get_or-set_same, get_or_past, set-get_or, set-set}
use Rattle.hg_place.specs.declared.Handle.{Handle}
use Rattle.hg_place.specs.declared.Right.TheVariants as right
use Rattle.hg_place.specs.Places.{number_of, page_of}
use Rattle.hg_machine.specs.declared.Answer.{Answer}
use Rattle.hg_machine.specs.declared.Answer.TheVariants as answer
use Rattle.hg_machine.specs.declared.Event.{Event}
use Rattle.hg_machine.specs.declared.Event.TheVariants as event
use Rattle.hg_machine.specs.Changes.{write}
use Rattle.hg_machine.specs.Denial.{denial, slot_at}
use Rattle.hg_machine.specs.Holders.{holds}
use Rattle.hg_machine.specs.Life.{Life, Record, home, live, parted, never_used, is_home, is_live, owner_of, contents_of}
use Rattle.hg_machine.specs.Lists.{Lists, Kept}
use Rattle.hg_machine.specs.State.{State, record_at, with_record}
use Rattle.hg_machine.specs.Soundness.{IsSound}
use Rattle.hg_machine.proofs.Allowed.{allowed, no_denial, step}
use Rattle.hg_machine.proofs.Cases.{Refused, step_cases}
use Rattle.hg_choice.specs.ChosenSteps.{ChosenStep}
use Rattle.hg_choice.proofs.Refusing.{refusal_leaves}
use Rattle.hg_laws.proofs.LifeChanges.{write_live, write_words}
use Rattle.hg_laws.proofs.Refusals.{refused_is, was_served}
use Rattle.hg_size.proofs.Table.{size_bounds}
use Rattle.hg_bytes.specs.Blocks.{IsSameBeside, block_words}
use Rattle.hg_bytes.specs.OfCore.{core_reads, core_writes}
use Rattle.hg_bytes.specs.declared.of_core.CoreBlock.{CoreBlock}

same_kept : (k m : Kept) → m.state ≡ k.state → m.lists ≡ k.lists → m.queues ≡ k.queues → m ≡ k
same_kept k m states lists queues =
    ap (λ (s : State). record { state = s; lists = m.lists; queues = m.queues }) states
    ∙ ap (λ (l : Lists). record { state = k.state; lists = l; queues = m.queues }) lists
    ∙ ap (λ (q : List (List (List ℕ))). record { state = k.state; lists = k.lists; queues = q }) queues

-- a refused event leaves all
pub refused_leaves : (old new : Kept) (worker : ℕ) (e : Event) (a : Answer) → ChosenStep old worker e a new
    → Refused old.state worker e a new.state → new ≡ old
refused_leaves old new worker e a did refused =
    let leaves = refusal_leaves old worker e a (refused_is old.state worker e a refused.some) in
    same_kept old new refused.same (did.lists ∙ leaves.0) (did.queues ∙ leaves.1)

-- a Read that shows no word is refused
pub unread : (by : CoreBlock) (index : ℕ) (said : Answer) (old new : Kept) → core_reads by index said old new
    → ((word : ℕ) → said ≢ answer.Value word) → new ≡ old
unread by index said old new did none =
    elim (step_cases old.state by.worker (event.Read by.actor by.handle index) said new.state did.step) as (λ _. new ≡ old) [
      | inl is ↦ absurd (none _ is.serves)
      | inr is ↦ refused_leaves old new by.worker (event.Read by.actor by.handle index) said did is
    ]

-- a Write that isn't done is refused
pub unwritten : (by : CoreBlock) (index value : ℕ) (said : Answer) (old new : Kept)
    → core_writes by index value said old new → said ≢ answer.Done → new ≡ old
unwritten by index value said old new did none =
    elim (step_cases old.state by.worker (event.Write by.actor by.handle index value) said new.state did.step) as (λ _. new ≡ old) [
      | inl is ↦ absurd (none is.serves)
      | inr is ↦ refused_leaves old new by.worker (event.Write by.actor by.handle index value) said did is
    ]

-- a Read that shows a word shows the block's
pub read_is : (by : CoreBlock) (index word : ℕ) (old new : Kept) → core_reads by index (answer.Value word) old new
    → (new ≡ old) × (index < length (block_words old by.handle)) × (word ≡ slice_index (block_words old by.handle) index)
read_is by index word old new did =
    let e = event.Read by.actor by.handle index in
    let served = was_served old.state by.worker e (answer.Value word) new.state did.step refl in
    let value : answer.Value word ≡ answer.Value (slice_index (block_words old by.handle) index) = served.serves in
    let reach = no_denial (denial old.state by.actor.0 right.Read by.handle.place by.handle.generation) _ served.none in
    let held = step (not (holds old.state by.worker by.handle.place.segment)) answer.Elsewhere _ reach.1 in
    let within = step (not (nat_lt index (length (block_words old by.handle)))) answer.OutOfBlock _ held.1 in
    let below = ltb-true index (length (block_words old by.handle)) (not-false _ within.0) in
    (same_kept old new served.after did.lists did.queues, below, cc)

-- a live place is one of the state's
there : (s : State) (place : ℕ) → is_live (record_at s place).life ≡ true → place < length s.records
there s place alive =
    elim (cases_lt place (length s.records)) as (λ _. place < length s.records) [
      | inl below ↦ below
      | inr past ↦
          let none : record_at s place ≡ never_used = get_or_past s.records place never_used past in
          let dead : is_live (record_at s place).life ≡ false = ap (λ (r : Record). is_live r.life) none in
          absurd (cc)
    ]

write_owner : (l : Life) (index value : ℕ) → owner_of (write l index value) ≡ owner_of l
write_owner home index value = refl
write_owner (live owner words) index value = refl
write_owner (parted owner words) index value = refl

-- a Write that is done sets the block's word, and nothing else changes
pub write_is : (by : CoreBlock) (index value : ℕ) (old new : Kept) → core_writes by index value answer.Done old new
    → (index < length (block_words old by.handle))
    × (block_words new by.handle ≡ slice_set (block_words old by.handle) index value)
    × IsSameBeside (number_of by.handle.place) old new
write_is by index value old new did =
    let e = event.Write by.actor by.handle index value in
    let place = number_of by.handle.place in
    let served = was_served old.state by.worker e answer.Done new.state did.step refl in
    let reach = no_denial (denial old.state by.actor.0 right.Write by.handle.place by.handle.generation) _ served.none in
    let held = step (not (holds old.state by.worker by.handle.place.segment)) answer.Elsewhere _ reach.1 in
    let within = step (not (nat_lt index (length (block_words old by.handle)))) answer.OutOfBlock _ held.1 in
    let below = ltb-true index (length (block_words old by.handle)) (not-false _ within.0) in
    let alive = (allowed old.state by.actor.0 right.Write by.handle.place by.handle.generation reach.0).alive in
    let was = record_at old.state place in
    let next : Record = record { generation = was.generation; life = write was.life index value } in
    let is : record_at new.state place ≡ next =
    ap (λ s. record_at s place) served.after
    ∙ get_or-set_same old.state.records place next never_used (there old.state place alive) in (
      below,
      ap (λ (r : Record). contents_of r.life) is ∙ write_words was.life index value alive,
      record {
        slot = ap (λ (r : Record). record { generation = r.generation; owner = owner_of r.life; live = is_live r.life }) is
            ∙ ap (λ n. record { generation = was.generation; owner = n; live = is_live next.life }) (write_owner was.life index value)
            ∙ ap (λ b. record { generation = was.generation; owner = owner_of was.life; live = b }) (write_live was.life index value);
        state = served.after ∙ ap (with_record old.state place) (sym is);
        lists = did.lists;
        queues = did.queues;
      },
    )

-- nothing changes where nothing is done, nor where both do it
pub same_beside : (place : ℕ) (k : Kept) → IsSameBeside place k k
same_beside place k = record {
  slot = refl;
  state = sym (ap (λ rs. record k.state { records = rs }) (set-get_or k.state.records place never_used));
  lists = refl;
  queues = refl;
}

pub beside_both : (place : ℕ) (k m n : Kept) → IsSameBeside place k m → IsSameBeside place m n → IsSameBeside place k n
beside_both place k m n one two = record {
  slot = two.slot ∙ one.slot;
  state = two.state
      ∙ ap (λ s. with_record s place (record_at n.state place)) one.state
      ∙ ap (λ rs. record k.state { records = rs })
      (set-set k.state.records place (record_at m.state place) (record_at n.state place));
  lists = two.lists ∙ one.lists;
  queues = two.queues ∙ one.queues;
}

few_of : (s : State) (place : ℕ) (l : Life) → (record_at s place).life ≡ l → IsSound s → is_home l ≡ false
    → length (contents_of l) ≤ 4294967295
few_of s place l is sound out =
    let block = (sound.places place).block in
    let at_page = block.same_class (ap is_home is ∙ out) in
    let size = (size_bounds _ (sound.classes (page_of place) _ at_page)).1 in
    let same : length (contents_of (record_at s place).life) ≡ length (contents_of l) = ap (λ x. length (contents_of x)) is in
    omega (arith, size, same)

-- a block of a sound core has no more words than 32 bits count
few_words : (s : State) (place : ℕ) (l : Life) → (record_at s place).life ≡ l → IsSound s
    → length (contents_of l) ≤ 4294967295
few_words s place home is sound = omega arith
few_words s place (live owner words) is sound = few_of s place (live owner words) is sound refl
few_words s place (parted owner words) is sound = few_of s place (parted owner words) is sound refl

pub few : (k : Kept) (handle : Handle) → IsSound k.state → length (block_words k handle) ≤ 4294967295
few k handle sound = few_words k.state (number_of handle.place) _ refl sound
