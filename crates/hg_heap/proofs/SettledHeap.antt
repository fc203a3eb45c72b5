-- What a heap keeps, for its callers to know; and a heap without segments.
use Rattle.std.proofs.Common.{◌≡◌, ℕ, ◌%◌, ◌<◌, ◌↔◌, true, ◌∷◌, [], List}
use Rattle.std.proofs.Common.{length, replicate, Option, Some, None, refl, sym, subst}
use Rattle.std.proofs.Common.{arith, slice_index}
use Rattle.std.specs.Prelude.{Contains}
use Rattle.std.proofs.lemmas.Bool.{true≢false}
use Rattle.std.proofs.lemmas.List.{get_or-replicate}
use Rattle.hg_place.specs.declared.standing.Standing.{Standing}
use Rattle.hg_place.specs.Places.{segment_of_page}
use Rattle.hg_page.specs.PageLists.{listed}
use Rattle.hg_queue.specs.Queues.{queue_of, AreQueues}
use Rattle.hg_segment.specs.Kept.{Kept, class_at, lists_at}
use Rattle.hg_segment.specs.Right.{AreListsRight, IsBlockPlace}
use Rattle.hg_heap.specs.Held.{segment_in, lists_by, lists_on, has_place, is_some_place}
use Rattle.hg_heap.specs.Queues.{HasVacantIn, HasVacantBy, HasVacant}
use Rattle.hg_heap.specs.Settled.{IsSettled}
use Rattle.hg_heap.specs.Table.{IsAt}
use Rattle.hg_heap.specs.Right.{IsRight}
use Rattle.hg_heap.proofs.Founds.{segment_contained}

-- a list with a place has a first
pub some_first : (xs : List ℕ) → is_some_place xs ≡ true → (x : ℕ) × Contains xs x
some_first [] e = absurd (true≢false (sym e))
some_first (x ∷ xs) e = (x, (0, omega arith, refl))

pub some_place : (xs : List ℕ) (x : ℕ) → Contains xs x → is_some_place xs ≡ true
some_place [] x c = absurd (let lt = c.1 in omega (arith, lt))
some_place (y ∷ ys) x c = refl

module _ {S : Type 0} (number : S → ℕ) (records : S → List Standing) where
  vacant_in : (k : Kept S) (page : ℕ) (class : Option ℕ) → class_at k.classes page ≡ class
      → IsSettled records k → page < 16 → has_place (lists_at k.lists page) ≡ true
      → HasVacantIn number records k page class
  vacant_in k page None is s low has =
      let first = some_first (listed (lists_at k.lists page)) has in
      subst (λ (c : Option ℕ). IsBlockPlace c first.0) is (s.listed page first.0 low first.1)
  vacant_in k page (Some size) is s low has =
      let first = some_first (listed (lists_at k.lists page)) has in (
        first.0,
        subst (λ (c : Option ℕ). IsBlockPlace c first.0) is
            (s.listed page first.0 low first.1),
        ((s.lists page low).vacant first.0 first.1).vacant,
      )

  place_in : (k : Kept S) (page : ℕ) (class : Option ℕ) → class_at k.classes page ≡ class
      → IsSettled records k → page < 16 → HasVacantIn number records k page class
      → has_place (lists_at k.lists page) ≡ true
  place_in k page None is s low vacant = absurd vacant
  place_in k page (Some size) is s low vacant =
      let right = subst (λ (c : Option ℕ). AreListsRight k.greatest (records k.slots) page c
      (lists_at k.lists page)) is (s.lists page low) in
      some_place (listed (lists_at k.lists page)) vacant.0 (right.all vacant.0 vacant.1 vacant.2)

  vacant_by : (o : Option (Kept S)) (page : ℕ) → page < 16
      → ((k : Kept S) → o ≡ Some k → IsSettled records k)
      → (has_place (lists_by number o page) ≡ true) ↔ HasVacantBy number records o page
  vacant_by None page low s = (λ e. true≢false (sym e), λ v. absurd v)
  vacant_by (Some k) page low s = (
    vacant_in k page (class_at k.classes page) refl (s k refl) low,
    place_in k page
        (class_at k.classes page) refl (s k refl) low,
  )

  -- a page has a place to give out where a block place of it is home and not worn
  pub vacant_on : (segments : List (Kept S))
      → ((k : Kept S) → Contains segments k → IsSettled records k) → (page : ℕ)
      → (has_place (lists_on number segments page) ≡ true) ↔ HasVacant number records segments page
  vacant_on segments settled page = vacant_by (segment_in number segments (segment_of_page page))
      (page % 16) (omega arith) (λ k e. settled k
      (segment_contained number segments (segment_of_page page) k e))

  -- no segments, and so nothing in any queue
  pub right_new : (charges : List ℕ) (capacity : ℕ) (queues : List (List ℕ)) → capacity ≡ 64
      → AreQueues queues → ((key : ℕ) → queue_of queues key ≡ []) → length charges ≡ 64
      → ((tenant : ℕ) → slice_index charges tenant ≡ 0)
      → IsRight number records (replicate 64 None) charges capacity
      (record { segments = []; queues = queues })
  right_new charges capacity queues room q empty all none = record {
    tabled = record {
      all = refl;
      each =
          λ segment below. subst (IsAt number [] segment)
          (sym (get_or-replicate {A = Option ℕ} 64 segment None None below)) refl;
      many = refl;
      once =
          tt;
    };
    room = room;
    settled = λ k c. absurd (let lt = c.1 in omega (arith, lt));
    arenas = λ k c. absurd (let lt = c.1 in omega (arith, lt));
    queued = record {
      queues = q;
      there = λ page has. absurd (true≢false (sym has));
      only = λ key page c. absurd
          (let lt = subst (λ (xs : List ℕ). c.0 < length xs) (empty key) c.1 in omega (arith, lt));
    };
    counted = all;
    charged = λ tenant below. none tenant;
  }
