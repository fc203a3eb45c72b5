-- Lives that begin and end in a worker's own heap: an Alloc, and a Free of a block that it holds.
use Rattle.std.proofs.Common.{◌≡◌, ℕ, true, slice_index_or, refl, sym, ap, ◌∙◌, subst}
use Rattle.std.specs.Prelude.{Some, None}
use Rattle.std.proofs.lemmas.Option.{slice_get-get_or}
use Rattle.hg_place.specs.declared.Place.{Place}
use Rattle.hg_place.specs.declared.Actor.{Actor}
use Rattle.hg_place.specs.declared.plain.PlainWords.{PlainWords}
use Rattle.hg_place.specs.Lives.{live_word}
use Rattle.hg_place.specs.Places.{number_of}
use Rattle.hg_place.specs.Standings.{slot_of, is_home as is_at_home}
use Rattle.hg_machine.specs.declared.Event.{Event}
use Rattle.hg_machine.specs.declared.Answer.{Answer}
use Rattle.hg_machine.specs.Life.{Record, home, is_home, is_live}
use Rattle.hg_machine.specs.Request.{size_of}
use Rattle.hg_machine.specs.SoundPolicy.{IsSoundPolicy}
use Rattle.hg_machine.specs.State.{State, record_at}
use Rattle.hg_machine.specs.Steps.{Step, successor}
use Rattle.hg_heap.specs.declared.refused.Refused.{Refused}
use Rattle.hg_heap.specs.Answers.{refused_answer}
use Rattle.hg_heap.specs.Held.{Held}
use Rattle.hg_agreement.specs.Parts.{Plain, plain_from, record_by, state_of}
use Rattle.hg_parts.specs.Spots.{in_heap}
use Rattle.hg_parts.specs.Tidy.{IsTidy}
use Rattle.hg_parts.proofs.Links.{lives_told}
use Rattle.hg_parts.proofs.SpotChanges.{gone_out, come_home}
use Rattle.hg_events.specs.Core.{Core, parts_of, heap_of}
use Rattle.hg_events.specs.Own.{IsOwnCall, IsServedBy, with_heap}
use Rattle.hg_events.specs.OwnLives.{HeapIsOfPolicy, AllocIsServed, AllocIsRefused, FreeIsServed}
use Rattle.hg_events.proofs.CoreHeaps.{one_right, is_worker, heap_agrees}
use Rattle.hg_events.proofs.ChangedAt.{IsChangedAt, life_changed, given_changed}
use Rattle.hg_events.proofs.OwnStepped.{agrees_before}
use Rattle.hg_events.proofs.OwnCall.{put, one_record, now_record, served}
use Rattle.hg_events.proofs.TakenHome.{live_read}
use Rattle.hg_machine.specs.declared.Event.TheVariants as event
use Rattle.hg_machine.specs.declared.Answer.TheVariants as answer
use Rattle.hg_heap.specs.declared.refused.Refused.TheVariants as refused

pub heap_is_of_policy : HeapIsOfPolicy
heap_is_of_policy core worker t below =
    let old = (heap_of core worker).segments in
    record {
      arena = λ k c. (one_right core worker t below c.0 k
          (slice_get-get_or old c.0 k c.1 ∙ ap Some c.2)).arena;
      greatest = λ k c. (one_right core worker t below c.0 k
          (slice_get-get_or old c.0 k c.1 ∙ ap Some c.2)).greatest;
    }

-- a call that begins a life, or ends one
module _ {core : Core} {worker : ℕ} {place : Place} {word left : ℕ} {e : Event} {a : Answer}
    {heap : Held PlainWords} {entry : Record} (policy : IsSoundPolicy core.policy)
    (t : IsTidy (parts_of core)) (own : IsOwnCall core worker place word left e a heap)
    (changed :
    IsChangedAt (state_of (parts_of core)) (successor (state_of (parts_of core)) worker e a)
    place entry) where
  abbrev one : Plain
  one = plain_from own.stepped.before

  abbrev now : Plain
  now = plain_from own.stepped.after

  abbrev at : ℕ
  at = slot_of place

  -- the place was home, and lives
  begins : is_home (record_by (Some one) at).life ≡ true → is_live entry.life ≡ true
      → IsServedBy core worker e a (with_heap core worker heap)
  begins was_home lives =
      served policy t own changed
      (gone_out (parts_of core) (in_heap worker own.stepped.found) one now at t
      (put policy t own changed) was_home
      (ap (λ (r : Record). is_live r.life) (now_record policy t own changed) ∙ lives))

  -- it lived, and is home
  ends : is_live (record_at (state_of (parts_of core)) (number_of place)).life ≡ true
      → is_home entry.life ≡ true → IsServedBy core worker e a (with_heap core worker heap)
  ends lived goes_home =
      served policy t own changed
      (come_home (parts_of core) (in_heap worker own.stepped.found) one now at t
      (put policy t own changed)
      (ap (λ (r : Record). is_live r.life) (one_record policy t own changed) ∙ lived)
      (ap (λ (r : Record). is_home r.life) (now_record policy t own changed) ∙ goes_home))

pub alloc_is_served : AllocIsServed
alloc_is_served core worker actor arena bytes handle heap policy t done =
    let left = live_word handle.generation actor.0 in
    let own : IsOwnCall core worker handle.place done.given.word left
    (event.Alloc actor arena bytes) (answer.Block handle) heap =
    record {
      below = done.below;
      stepped = done.given.stepped;
      ties = done.ties;
      settled = done.settled;
    } in
    begins policy t own (given_changed (state_of (parts_of core)) actor.0 handle (size_of bytes))
    ((lives_told (plain_from done.given.stepped.before) (slot_of handle.place)).home
    (ap is_at_home done.given.home))
    refl

pub free_is_served : FreeIsServed
free_is_served core worker actor handle word heap lives policy t own =
    ends policy t own (life_changed (state_of (parts_of core)) handle.place home)
    (sym (agrees_before policy t own).word.live ∙ live_read word lives.0 lives.1) refl

-- a refused one leaves the state as it is

unchanged : (m : State) (worker : ℕ) (actor : Actor) (arena bytes : ℕ) (refused : Refused)
    → successor m worker (event.Alloc actor arena bytes) (refused_answer refused) ≡ m
unchanged m worker actor arena bytes (refused.Denied rule) = refl
unchanged m worker actor arena bytes _ = refl

pub alloc_is_refused : AllocIsRefused
alloc_is_refused core worker actor arena bytes refused policy t below ties =
    let m = state_of (parts_of core) in
    let follows =
    ties None worker (slice_index_or core.hands worker None) 0
    (is_worker core worker t below) m (heap_agrees core worker t below policy None tt) in
    subst (Step m worker (event.Alloc actor arena bytes) (refused_answer refused))
    (unchanged m worker actor arena bytes refused) follows.step
