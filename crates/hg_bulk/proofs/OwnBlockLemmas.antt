-- What a Look by an owner tells of its own blocks.
use Rattle.std.proofs.Common.{◌≡◌, ℕ, ◌+◌, ◌*◌, ◌<◌, ◌≤◌, ◌==◌, zero, suc, inl, inr, Bool, true}
use Rattle.std.proofs.Common.{false, cond, not, List, [], ◌∷◌, ◌++◌, Option, Some, None, map}
use Rattle.std.proofs.Common.{filter, is_none, max, refl, sym, ap, ◌∙◌, arith}
use Rattle.std.specs.List.{range_with_len}
use Rattle.std.proofs.lemmas.Bool.{true≢false, and_left, and_right}
use Rattle.std.proofs.lemmas.Option.{none-some}
use Rattle.std.proofs.lemmas.List.{map-append}
use Rattle.std.proofs.lemmas.List.Elements.{filter-append}
use Rattle.hg_place.specs.declared.Actor.{Actor}
use Rattle.hg_place.specs.declared.Right.TheVariants as right
use Rattle.hg_place.specs.Places.{place_at, number_of, segment_of}
use Rattle.hg_machine.specs.Life.{home, is_live}
use Rattle.hg_machine.specs.State.{State, record_at}
use Rattle.hg_machine.specs.Holders.{holds}
use Rattle.hg_machine.specs.Denial.{denial, denial_on, slot_at}
use Rattle.hg_machine.specs.Refusal.{denial_or, refusal}
use Rattle.hg_machine.specs.Listing.{line_of, line_at, is_listed}
use Rattle.hg_machine.specs.Soundness.{IsSound}
use Rattle.hg_machine.specs.Steps.{Step}
use Rattle.hg_machine.specs.declared.Event.TheVariants as event
use Rattle.hg_machine.specs.declared.Row.{Row}
use Rattle.hg_machine.specs.declared.Rule.{Rule}
use Rattle.hg_machine.specs.declared.Answer.{Answer}
use Rattle.hg_machine.specs.declared.Answer.TheVariants as answer
use Rattle.hg_machine.proofs.Allowed.{parts}
use Rattle.hg_machine.proofs.Cases.{step_cases}
use Rattle.hg_machine.proofs.Looks.{looks_are_listed}
use Rattle.hg_bulk.specs.Later.{IsSameFrom}
use Rattle.hg_bulk.specs.OwnBlocks.{own_lines, life_of_line, IsOwnBlock}
use Rattle.hg_bulk.proofs.Later.{same_past, listed_same, line_same}

abbrev pub is_row : Answer → Bool
is_row (answer.Listed row) = true
is_row other = false

unlisted : (d : Option Rule) (far : Bool) (a : Answer) → denial_or d ((far, answer.Elsewhere) ∷ []) ≡ Some a → is_row a ≡ false
unlisted (Some rule) far a e = let same : answer.Denied rule ≡ a = cc in ap is_row (sym same)
unlisted None true a e = let same : answer.Elsewhere ≡ a = cc in ap is_row (sym same)
unlisted None false a e = absurd (none-some a e)

number_at : (n : ℕ) → n < 64 * 8192 → number_of (place_at n) ≡ n
number_at n below = omega arith

module _ (s new : State) (worker owner n : ℕ) (sound : IsSound s) (below : n < 64 * 8192) where
  abbrev who : Actor
  who = record { 0 = owner }

  listed : is_listed s worker owner n ≡ is_none (refusal s worker (event.Look who (place_at n)))
  listed = sym (looks_are_listed s worker who (place_at n) sound ∙ ap (is_listed s worker owner) (number_at n below))

  -- one that isn't told isn't its own
  pub not_told : (a : Answer) → is_row a ≡ false → Step s worker (event.Look who (place_at n)) a new → IsOwnBlock s worker owner n None
  not_told a no_row look =
      elim (step_cases s worker (event.Look who (place_at n)) a new look) as (λ _. IsOwnBlock s worker owner n None) [
        | inl is ↦ absurd (true≢false (ap is_row (sym is.serves.1) ∙ no_row))
        | inr is ↦ rw (listed, is.some) refl
      ]

  -- what is told is the line of the place
  pub told : (row : Row) → Step s worker (event.Look who (place_at n)) (answer.Listed row) new
      → (is_listed s worker owner n ≡ true) × (line_of row ≡ line_at s n)
  told row look =
      elim (step_cases s worker (event.Look who (place_at n)) (answer.Listed row) new look) as
      (λ _. (is_listed s worker owner n ≡ true) × (line_of row ≡ line_at s n)) [
        | inl is ↦
            let place = place_at n in
            let same : row ≡ is.serves.0 = let e = is.serves.1 in cc in
            let tells = is.serves.2 in (
              listed ∙ ap is_none is.none,
              ap line_of same
                  ∙ ap (λ p. record { place = number_of p; generation = is.serves.0.handle.generation; owner = is.serves.0.owner; bytes = is.serves.0.bytes }) tells.stands
                  ∙ ap (λ g. record { place = number_of place; generation = g; owner = is.serves.0.owner; bytes = is.serves.0.bytes }) tells.generation
                  ∙ ap (λ o. record { place = number_of place; generation = (record_at s (number_of place)).generation; owner = o; bytes = is.serves.0.bytes }) tells.owner
                  ∙ ap (λ b. record { place = number_of place; generation = (line_at s (number_of place)).generation; owner = (line_at s (number_of place)).owner; bytes = b }) tells.bytes
                  ∙ ap (line_at s) (number_at n below),
            )
        | inr is ↦
            absurd (true≢false (unlisted (denial s owner right.List (place_at n) (max 1 (record_at s (number_of (place_at n))).generation)) (not (holds s worker (place_at n).segment)) (answer.Listed row) is.some))
      ]

  -- its own block, by its row, and another's
  pub is_own : (row : Row) → (row.owner == owner) ≡ true → Step s worker (event.Look who (place_at n)) (answer.Listed row) new
      → IsOwnBlock s worker owner n (Some row.handle)
  is_own row mine look =
      let t = told row look in
      let own : ((line_at s n).owner == owner) ≡ true = ap (λ l. l.owner == owner) (sym t.1) ∙ mine in
      (ap (λ l. l.place) t.1, rw (t.0, own) (ap (λ l. life_of_line l ∷ []) (sym t.1)))

  pub not_own : (row : Row) → (row.owner == owner) ≡ false → Step s worker (event.Look who (place_at n)) (answer.Listed row) new
      → IsOwnBlock s worker owner n None
  not_own row other look =
      let t = told row look in
      let own : ((line_at s n).owner == owner) ≡ false = ap (λ l. l.owner == owner) (sym t.1) ∙ other in
      rw (t.0, own) refl

pub own_lines-append : (s : State) (worker owner : ℕ) (one other : List ℕ)
    → own_lines s worker owner (one ++ other) ≡ own_lines s worker owner one ++ own_lines s worker owner other
own_lines-append s worker owner one other =
    ap (λ places. filter (λ line. line.owner == owner) (map (line_at s) places)) (filter-append (is_listed s worker owner) one other)
    ∙ ap (filter (λ line. line.owner == owner)) (map-append (line_at s) (filter (is_listed s worker owner) one) (filter (is_listed s worker owner) other))
    ∙ filter-append (λ line. line.owner == owner) (map (line_at s) (filter (is_listed s worker owner) one)) (map (line_at s) (filter (is_listed s worker owner) other))

one_line : (s t : State) (owner place : ℕ) (b : Bool) → line_at t place ≡ line_at s place
    → filter (λ line. line.owner == owner) (map (line_at t) (cond b (place ∷ []) [])) ≡ filter (λ line. line.owner == owner) (map (line_at s) (cond b (place ∷ []) []))
one_line s t owner place true e = ap (λ l. filter (λ line. line.owner == owner) (l ∷ [])) e
one_line s t owner place false e = refl

-- what is to come is the same after the Frees of lower places
pub own_lines_same : (s t : State) (worker owner place : ℕ) → IsSameFrom s t place
    → own_lines t worker owner (place ∷ []) ≡ own_lines s worker owner (place ∷ [])
own_lines_same s t worker owner place same =
    ap (λ b. filter (λ line. line.owner == owner) (map (line_at t) (cond b (place ∷ []) []))) (listed_same same worker owner place (omega arith))
    ∙ one_line s t owner place (is_listed s worker owner place) (line_same same worker owner place (omega arith))

pub own_lines_range : (s t : State) (worker owner a n : ℕ) → IsSameFrom s t a
    → own_lines t worker owner (range_with_len a n) ≡ own_lines s worker owner (range_with_len a n)
own_lines_range s t worker owner a zero same = refl
own_lines_range s t worker owner a (suc n) same =
    let rest = range_with_len (a + 1) n in
    own_lines-append t worker owner (a ∷ []) rest
    ∙ ap (λ l. l ++ own_lines t worker owner rest) (own_lines_same s t worker owner a same)
    ∙ ap (λ l. own_lines s worker owner (a ∷ []) ++ l)
    (own_lines_range s t worker owner (a + 1) n (same_past same (omega arith)))
    ∙ sym (own_lines-append s worker owner (a ∷ []) rest)

pub range_then : (a m n : ℕ) → range_with_len a (m + n) ≡ range_with_len a m ++ range_with_len
    (a + m) n
range_then a zero n = let d : 0 + n ≡ n = omega arith in let e : a + 0 ≡ a = omega arith in rw
    (d, e) refl
range_then a (suc m) n =
    let d : suc m + n ≡ suc (m + n) = omega arith in
    let e : a + suc m ≡ (a + 1) + m = omega arith in
    rw (d, e) (ap (λ l. a ∷ l) (range_then (a + 1) m n))

some_is : (o : Option Rule) → (o ≡ None → ⊥) → is_none o ≡ false
some_is None denied = absurd (denied refl)
some_is (Some rule) denied = refl

filter_passed : (p : ℕ → Bool) (a n : ℕ) → ((k : ℕ) → a ≤ k → k < a + n → p k ≡ false) → filter p
    (range_with_len a n) ≡ []
filter_passed p a zero none = refl
filter_passed p a (suc n) none =
    rw (none a (omega arith) (omega arith)) (filter_passed p (a + 1) n
    (λ k from below. none k (omega arith) (omega arith)))

module _ (s : State) (worker owner : ℕ) where
  -- places that aren't listed have no lines
  pub no_lines : (a n : ℕ) → ((k : ℕ) → a ≤ k → k < a + n → is_listed s worker owner k ≡ false)
      → own_lines s worker owner (range_with_len a n) ≡ []
  no_lines a n none =
      ap (λ places. filter (λ line. line.owner == owner) (map (line_at s) places))
      (filter_passed (is_listed s worker owner) a n none)

  -- one that is home isn't listed, nor is one that the worker doesn't hold
  pub home_unlisted : (place : ℕ) → (record_at s place).life ≡ home → is_listed s worker owner place
      ≡ false
  home_unlisted place is =
      let r = record_at s place in
      let denied = denial_on s.policy owner right.List (segment_of place) r.generation
      (slot_at s place) in
      and_right (holds s worker (segment_of place)) (is_none denied)
      (some_is denied
      (λ none.
      let p = parts s.policy owner right.List (segment_of place) r.generation (slot_at s place)
      none in
      true≢false (sym p.2 ∙ ap is_live is)))

  pub away_unlisted : (segment : ℕ) → holds s worker segment ≡ false → own_lines s worker owner
      (range_with_len (segment * 8192) 8192) ≡ []
  away_unlisted segment away =
      no_lines (segment * 8192) 8192
      (λ k from below.
      let in_it : segment_of k ≡ segment = omega arith in
      and_left (holds s worker (segment_of k)) _ (ap (holds s worker) in_it ∙ away))
