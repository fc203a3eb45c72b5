-- Places are taken in one after the other.
use Rattle.std.proofs.Common.{◌≡◌, ◌⊎◌, ℕ, ◌+◌, ◌<◌, ◌≤◌, true, List, [], ◌∷◌, length, inl, inr}
use Rattle.std.proofs.Common.{refl, sym, ap, subst, ◌∙◌, arith}
use Rattle.hg_place.specs.declared.geometry.TheConstants.{SEGMENT_PAGES, PAGE_PLACES}
use Rattle.hg_place.specs.declared.geometry.TheConstants.{SEGMENT_PLACES}
use Rattle.hg_place.specs.declared.standing.Standing.{Standing}
use Rattle.hg_place.specs.Places.{page_of, index_of}
use Rattle.hg_lists.specs.Inserts.{Inserts}
use Rattle.hg_lists.proofs.InsertsLemmas.{length-Inserts}
use Rattle.hg_remote.specs.Remote.{Remote, IsRight, contents, slot}
use Rattle.hg_remote.specs.Sends.{Drains}
use Rattle.hg_remote.specs.Order.{drained}
use Rattle.hg_remote.proofs.OrderLemmas.{drain_head, drained_none, contents_few}
use Rattle.hg_segment.specs.Kept.{Kept}
use Rattle.hg_heap.specs.Held.{Held, is_held}
use Rattle.hg_heap.specs.Taking.{IsAnother, IsTaken, IsPassed, Takes}
use Rattle.hg_heap.proofs.Founds.{held_same}

-- a place that was drained, and what it left
pub record Comes (page index : ℕ) (now after : Remote) : Type 0 where
  pub low : page < SEGMENT_PAGES
  pub small : index < PAGE_PLACES
  pub drains : Drains now after page index
  pub removed : Inserts (slot page index) (contents after) (contents now)
  pub right : IsRight after

module _ {S : Type 0} (number : S → ℕ) where
  -- the same segments are held
  another_held : (segment : ℕ) (old new : List (Kept S)) → IsAnother number segment old new
      → (other : ℕ) → is_held number new other ≡ is_held number old other
  another_held segment old new a other =
      ap (λ (ks : List (Kept S)). is_held number ks other) a.now
      ∙ held_same number old a.found a.before a.after a.at (a.number_kept ∙ sym a.number_is) other

module _ {S : Type 0} (number : S → ℕ) (records : S → List Standing) (shows : S → ℕ → ℕ → Type 0)
    (steps : S → ℕ → ℕ → ℕ → S → Type 0) where
  -- what is left to take in completes what was taken in so far
  pub record AreTaken (segment : ℕ) (first now : Remote) (old mid : Held S) (count : ℕ)
      : Type 0 where
    pub held : is_held number mid.segments segment ≡ true
    pub right : IsRight now
    pub few : count + length (contents now) ≤ SEGMENT_PLACES
    pub rest : (new : Held S) (n : ℕ)
        → Takes number records shows steps segment (drained now) mid new n
        → Takes number records shows steps segment (drained first) old new (count + n)

  pub none_taken : (segment : ℕ) (first : Remote) (old : Held S)
      → is_held number old.segments segment ≡ true → IsRight first
      → AreTaken segment first first old old 0
  none_taken segment first old held right = record {
    held = held;
    right = right;
    few = (let few = contents_few first right in omega (arith, few));
    rest = λ new n t. subst (Takes number records shows steps segment (drained first) old new)
        (let e : n ≡ 0 + n = omega arith in e) t;
  }

  module _ {segment page index count : ℕ} {first now after : Remote} {old mid : Held S}
      (h : AreTaken segment first now old mid count) (comes : Comes page index now after) where
    abbrev place : ℕ
    place = slot page index

    head : drained now ≡ place ∷ drained after
    head = drain_head now after page index h.right comes.drains

    left : length (contents now) ≡ length (contents after) + 1
    left = length-Inserts place (contents after) (contents now) comes.removed

    -- the measure, and room for one more
    pub shorter : length (contents after) < length (contents now)
    shorter = (let l = left in omega (arith, l))

    pub room : count < SEGMENT_PLACES
    room = (let l = left in let few = h.few in omega (arith, l, few))

    in_page : page ≡ page_of place
    in_page = let small = comes.small in omega (arith, small)

    in_index : index ≡ index_of place
    in_index = let small = comes.small in omega (arith, small)

    goes_on : {last : Held S} (m : ℕ) → ((n : ℕ) → (
        (IsTaken number records shows steps segment (page_of place) (index_of place) mid last
        × (n + m ≡ n + 1))
        ⊎ (IsPassed number records shows steps segment (page_of place) (index_of place) mid last
        × (n + m ≡ n))))
        → (new : Held S) (n : ℕ)
        → Takes number records shows steps segment (drained after) last new n
        → Takes number records shows steps segment (drained first) old new (count + m + n)
    goes_on {last = last} m step new n t =
        subst (Takes number records shows steps segment (drained first) old new)
        (let e : count + (n + m) ≡ count + m + n = omega arith in e)
        (h.rest new (n + m) (subst
        (λ (places : List ℕ). Takes number records shows steps segment places mid new (n + m))
        (sym head) (last, n, t, step n)))

    -- one that came home
    pub one_taken : {last : Held S}
        → IsTaken number records shows steps segment page index mid last
        → AreTaken segment first after old last (count + 1)
    one_taken {last = last} taken = record {
      held = another_held number segment mid.segments last.segments taken.another segment ∙ h.held;
      right = comes.right;
      few = (let l = left in let few = h.few in omega (arith, l, few));
      rest = goes_on 1 (λ n. inl (
        subst (λ (p : ℕ). IsTaken number records shows steps segment p (index_of place) mid last)
            in_page
            (subst (λ (i : ℕ). IsTaken number records shows steps segment page i mid last)
            in_index taken),
        refl,
      ));
    }

    -- one that was passed over
    pub one_passed : {last : Held S}
        → IsPassed number records shows steps segment page index mid last
        → AreTaken segment first after old last count
    one_passed {last = last} passed = record {
      held = another_held number segment mid.segments last.segments passed.another segment ∙ h.held;
      right = comes.right;
      few = (let l = left in let few = h.few in omega (arith, l, few));
      rest = λ new n t. subst (Takes number records shows steps segment (drained first) old new)
          (let e : count + 0 + n ≡ count + n = omega arith in e)
          (goes_on 0 (λ n. inr (
            subst
                (λ (p : ℕ). IsPassed number records shows steps segment p (index_of place) mid last)
                in_page
                (subst (λ (i : ℕ). IsPassed number records shows steps segment page i mid last)
                in_index passed),
            let e : n + 0 ≡ n = omega arith in e,
          )) new n t);
    }

  -- nothing is left
  pub all_taken : {segment count : ℕ} {first now : Remote} {old new : Held S}
      → AreTaken segment first now old new count → contents now ≡ []
      → Takes number records shows steps segment (drained first) old new count
  all_taken {segment = segment} {count = count} {first = first} {now = now} {old = old} {new = new}
      h none =
      subst (Takes number records shows steps segment (drained first) old new)
      (let e : count + 0 ≡ count = omega arith in e)
      (h.rest new 0 (subst
      (λ (places : List ℕ). Takes number records shows steps segment places new new 0)
      (sym (drained_none now none)) (refl, refl)))
