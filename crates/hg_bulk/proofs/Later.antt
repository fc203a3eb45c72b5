-- A Free changes the record of its place, and of the others nothing that a Look goes by.
use Rattle.std.proofs.Common.{◌≡◌, ◌≢◌, ℕ, ◌+◌, ◌≤◌, inl, inr, Bool, true, false, if◌then◌else◌, refl, sym, ap, subst, ◌∙◌, arith}
use Rattle.std.proofs.lemmas.List.{length-set, get_or-set_other}
use Rattle.hg_place.specs.declared.Actor.{Actor}
use Rattle.hg_place.specs.declared.Handle.{Handle}
use Rattle.hg_place.specs.Places.{number_of}
use Rattle.hg_machine.specs.declared.Answer.{Answer}
use Rattle.hg_machine.specs.declared.Answer.TheVariants as answer
use Rattle.hg_machine.specs.declared.Event.TheVariants as event
use Rattle.hg_machine.specs.Life.{Life, Record, home, never_used}
use Rattle.hg_machine.specs.State.{State, record_at}
use Rattle.hg_machine.specs.Holders.{holds}
use Rattle.hg_machine.specs.Changes.{part, with_life}
use Rattle.hg_machine.specs.Listing.{is_listed, line_at}
use Rattle.hg_machine.specs.Steps.{Step, successor}
use Rattle.hg_machine.proofs.Cases.{step_cases}
use Rattle.hg_bulk.specs.Later.{IsSameFrom}

pub same_all : (s : State) (first : ℕ) → IsSameFrom s s first
same_all s first = record { policy = refl; holders = refl; places = refl; records = λ place after. refl }

-- past another life at the place before
past : (s : State) (at : ℕ) (life : Life) → IsSameFrom s (with_life s at life) (at + 1)
past s at life =
    let now : Record = record { generation = (record_at s at).generation; life = life } in
    record {
      policy = refl;
      holders = refl;
      places = length-set s.records at now;
      records = λ place after. let other : place ≢ at = omega arith in get_or-set_other s.records at place now never_used other;
    }

freed : (s : State) (worker : ℕ) (actor : Actor) (handle : Handle) (b : Bool)
    → IsSameFrom s (successor s worker (event.Free actor handle) (if b then answer.Done else answer.Parted)) (number_of handle.place + 1)
freed s worker actor handle true = past s (number_of handle.place) home
freed s worker actor handle false =
    let life = part (record_at s (number_of handle.place)).life in
    let mid = past s (number_of handle.place) life in
    record { policy = mid.policy; holders = mid.holders; places = mid.places; records = mid.records }

-- past the place of a Free, whatever it was answered
pub past_free : (s t : State) (worker : ℕ) (actor : Actor) (handle : Handle) (a : Answer) → Step s worker (event.Free actor handle) a t
    → IsSameFrom s t (number_of handle.place + 1)
past_free s t worker actor handle a free =
    elim (step_cases s worker (event.Free actor handle) a t free) as (λ _. IsSameFrom s t (number_of handle.place + 1)) [
      | inl is ↦
          let next : t ≡ successor s worker (event.Free actor handle) (if holds s worker handle.place.segment then answer.Done else answer.Parted) =
          is.after ∙ ap (successor s worker (event.Free actor handle)) is.serves in
          subst (λ n. IsSameFrom s n (number_of handle.place + 1)) (sym next) (freed s worker actor handle (holds s worker handle.place.segment))
      | inr is ↦ subst (λ n. IsSameFrom s n (number_of handle.place + 1)) (sym is.same) (same_all s (number_of handle.place + 1))
    ]

pub same_then : {s t u : State} {first next : ℕ} → IsSameFrom s t first → IsSameFrom t u next → first ≤ next → IsSameFrom s u next
same_then one two low = record {
  policy = two.policy ∙ one.policy;
  holders = two.holders ∙ one.holders;
  places = two.places ∙ one.places;
  records = λ place after. two.records place after ∙ one.records place (omega arith);
}

-- further on too
pub same_past : {s t : State} {first next : ℕ} → IsSameFrom s t first → first ≤ next → IsSameFrom s
    t next
same_past same low = record {
  policy = same.policy;
  holders = same.holders;
  places = same.places;
  records = λ place after. same.records place (omega arith);
}

module _ {s t : State} {first : ℕ} (same : IsSameFrom s t first) (worker owner place : ℕ) (after : first ≤ place) where
  pub listed_same : is_listed t worker owner place ≡ is_listed s worker owner place
  listed_same = rw (same.policy, same.holders, same.records place after) refl

  pub line_same : line_at t place ≡ line_at s place
  line_same = rw (same.records place after) refl
