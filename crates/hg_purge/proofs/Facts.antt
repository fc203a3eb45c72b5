-- Facts of places, ranges and lists that several proofs use.
use Rattle.std.proofs.Common.{◌≡◌, ℕ, ◌+◌, ◌<◌, ◌≤◌, ◌&&◌, inl, inr, Bool, true}
use Rattle.std.proofs.Common.{not, List, [], ◌∷◌, ◌++◌, length, filter, find, cond, Option, Some}
use Rattle.std.proofs.Common.{None}
use Rattle.std.proofs.Common.{zero, suc, refl, sym, ap, ◌∙◌, arith}
use Rattle.std.specs.List.{AllByRecursion, list_all, range_with_len}
use Rattle.std.specs.Option.{option_or}
use Rattle.std.proofs.lemmas.Bool.{cases_Bool, and_parts, or_cases}
use Rattle.std.proofs.lemmas.Option.{same_Some, none-some}
use Rattle.hg_place.specs.declared.Place.{Place}
use Rattle.hg_place.specs.Places.{page_number, page_of, segment_of}
use Rattle.hg_place.specs.Places.{segment_of_page}
use Rattle.hg_machine.specs.State.{State, holder_at}
use Rattle.hg_machine.specs.Holders.{holds, is_in_arena, is_fresh, next_of}
use Rattle.hg_machine.specs.Room.{is_open_to, has_open, is_room}

-- the segment of a place is that of its page
pub segment_of_paged : (place : ℕ) → segment_of_page (page_of place) ≡ segment_of place
segment_of_paged place = omega arith

pub page_segment : (place : Place) → segment_of_page (page_number place) ≡ place.segment
page_segment place = let a = place.page_below in omega arith

-- a place with room is in a segment that the worker holds
pub room_held : (s : State) (w arena size place : ℕ) → is_room s w arena size place ≡ true
    → holds s w (segment_of place) ≡ true
room_held s w arena size place e =
    elim (or_cases (is_open_to s w arena size (Some size) place) _ e) as
    (λ _. holds s w (segment_of place) ≡ true) [
      | inl o ↦ (and_parts (holds s w (segment_of place)) _ o).0
      | inr o ↦
          (and_parts (holds s w (segment_of place)) _
          (and_parts (not (has_open s w arena size (Some size))) _ o).1).0
    ]

-- what was found passes
pub found : (f : ℕ → Bool) (xs : List ℕ) (x : ℕ) → find f xs ≡ Some x → f x ≡ true
found f [] x e = absurd (none-some x e)
found f (y ∷ ys) x e =
    elim (cases_Bool (f y)) as (λ _. f x ≡ true) [
      | inl t ↦
          ap f (sym (same_Some _ _ (sym (ap (λ b. cond b (Some y) (find f ys)) t) ∙ e))) ∙ t
      | inr n ↦ found f ys x (sym (ap (λ b. cond b (Some y) (find f ys)) n) ∙ e)
    ]

-- a refill takes a segment of its arena
pub next_in : (s : State) (arena segment : ℕ) → next_of s arena ≡ Some segment
    → is_in_arena s arena segment ≡ true
next_in s arena segment e =
    first (find (is_in_arena s arena) s.orphans) refl e
  where
    lowest : ℕ → Bool
    lowest g = is_in_arena s arena g && is_fresh (holder_at s g)

    first : (o : Option ℕ) → find (is_in_arena s arena) s.orphans ≡ o
        → option_or o (find lowest (range_with_len 0 (length s.holders))) ≡ Some segment
        → is_in_arena s arena segment ≡ true
    first (Some g) is h = found (is_in_arena s arena) s.orphans segment (is ∙ h)
    first None is h =
        (and_parts (is_in_arena s arena segment) _
        (found lowest (range_with_len 0 (length s.holders)) segment h)).0

-- what follows of each element
pub all_then : (P Q : ℕ → Type 0) → ((x : ℕ) → P x → Q x) → (xs : List ℕ) → AllByRecursion P xs
    → AllByRecursion Q xs
all_then P Q each [] h = tt
all_then P Q each (x ∷ xs) h = (each x h.0, all_then P Q each xs h.1)

pub all_append : (P : ℕ → Type 0) (xs ys : List ℕ) → AllByRecursion P xs → AllByRecursion P ys
    → AllByRecursion P (xs ++ ys)
all_append P [] ys h k = k
all_append P (x ∷ xs) ys h k = (h.0, all_append P xs ys h.1 k)

-- tests that are the same in a range
pub all_in_range : (f g : ℕ → Bool) (a n : ℕ)
    → ((x : ℕ) → a ≤ x → x < a + n → g x ≡ f x)
    → list_all g (range_with_len a n) ≡ list_all f (range_with_len a n)
all_in_range f g a zero same = refl
all_in_range f g a (suc n) same =
    ap (λ b. b && list_all g (range_with_len (a + 1) n)) (same a (omega arith) (omega arith))
    ∙ ap (λ b. f a && b)
    (all_in_range f g (a + 1) n (λ x low high. same x (omega arith) (omega arith)))

pub filter_in_range : (f g : ℕ → Bool) (a n : ℕ)
    → ((x : ℕ) → a ≤ x → x < a + n → g x ≡ f x)
    → filter g (range_with_len a n) ≡ filter f (range_with_len a n)
filter_in_range f g a zero same = refl
filter_in_range f g a (suc n) same =
    let xs = filter g (range_with_len (a + 1) n) in
    ap (λ b. cond b (a ∷ xs) xs) (same a (omega arith) (omega arith))
    ∙ ap (λ ys. cond (f a) (a ∷ ys) ys)
    (filter_in_range f g (a + 1) n (λ x low high. same x (omega arith) (omega arith)))
