-- The state of the parts of a core agrees with each heap.
use Rattle.std.proofs.Common.{◌≡◌, ℕ, ◌+◌, ◌/◌, ◌%◌, ◌==◌, ◌<◌, ◌≤◌, inl, inr, Bool, true, false}
use Rattle.std.proofs.Common.{cond, not, ◌∷◌, [], List, map, length, Option, Some, None, IfSome}
use Rattle.std.proofs.Common.{refl, sym, ap, subst, ◌∙◌, arith, zero, suc, find, is_some}
use Rattle.std.proofs.Common.{slice_index_or}
use Rattle.std.specs.List.{range_with_len, list_any}
use Rattle.std.proofs.lemmas.Bool.{cases_lt, cases_Bool, eq-eqb, ne_eqb, true≢false}
use Rattle.std.proofs.lemmas.List.{get_or_past}
use Rattle.std.proofs.lemmas.List.FromFn.{length-map-range_with_len}
use Rattle.std.proofs.lemmas.Option.{same_Some, none-some}
use Rattle.hg_place.specs.Places.{segment_of, segment_of_page}
use Rattle.hg_place.specs.Slots.{slot_in}
use Rattle.hg_place.specs.Standings.{standing_at, is_home as at_home}
use Rattle.hg_machine.specs.Life.{contents_of}
use Rattle.hg_machine.specs.State.{fresh, record_at, class_at, holder_at}
use Rattle.hg_machine.specs.Holders.{is_held_by, holds}
use Rattle.hg_agreement.specs.Views.{Shown}
use Rattle.hg_agreement.specs.Agreement.{standing_of}
use Rattle.hg_machine.specs.Shown.{IsShownBy}
use Rattle.hg_agreement.specs.Holdings.{Holding, block_of, holding_of, has, class_told}
use Rattle.hg_agreement.specs.Holdings.{standing_told, block_told}
use Rattle.hg_agreement.specs.Parts.{Plain, Parts, is_of, heap_at, holdings, plain_by, plain_of}
use Rattle.hg_agreement.specs.Parts.{record_by, class_by, worker_of, holder_by, holder_of, state_of}
use Rattle.hg_agreement.specs.Parts.{IsSorted, IsWordIn, HeapsAgree}
use Rattle.hg_segment.specs.Blocks.{block_at}
use Rattle.hg_agreement.proofs.Blocks.{block_home}
use Rattle.hg_agreement.proofs.Told.{record_is, class_is, holder_is}
use Rattle.hg_agreement.proofs.FitWords.{IsFit, fit_word}
use Rattle.hg_agreement.proofs.HeldLives.{twice, held_home, held_words, held_owner, held_standing}
use Rattle.hg_agreement.proofs.HeldLives.{held_live, held_dead}

-- a segment found in a heap
found_in : (heap : List Plain) (segment : ℕ) → has (holdings heap) segment ≡ true
    → (one : Plain) × (find (is_of segment) heap ≡ Some one)
    × (holding_of (holdings heap) segment ≡ Some one.holding)
found_in [] segment e = absurd (true≢false (sym e))
found_in (x ∷ xs) segment e =
    elim (cases_Bool (x.holding.number == segment)) [
      | inl t ↦ (
        x,
        ap (λ b. cond b (Some x) (find (is_of segment) xs)) t,
        ap (λ b. cond b (Some x.holding) (holding_of (holdings xs) segment)) t,
      )
      | inr f ↦
          let rest = found_in xs segment
          (sym (ap (λ b. is_some (cond b (Some x.holding) (holding_of (holdings xs) segment))) f)
          ∙ e) in (
            rest.0,
            ap (λ b. cond b (Some x) (find (is_of segment) xs)) f ∙ rest.1,
            ap (λ b. cond b (Some x.holding) (holding_of (holdings xs) segment)) f ∙ rest.2,
          )
    ]

-- the first of a range that passes
pub first_passes : (p : ℕ → Bool) (a n u : ℕ) → find p (range_with_len a n) ≡ Some u → p u ≡ true
first_passes p a zero u e = absurd (none-some u e)
first_passes p a (suc n) u e = elim (cases_Bool (p a)) [
  | inl t ↦
      let same : a ≡ u =
      same_Some a u (sym (ap (λ b. cond b (Some a) (find p (range_with_len (a + 1) n))) t)
      ∙ e) in
      ap p (sym same) ∙ t
  | inr f ↦ first_passes p (a + 1) n u
      (sym (ap (λ b. cond b (Some a) (find p (range_with_len (a + 1) n))) f) ∙ e)
]

pub some_passes : (p : ℕ → Bool) (a n k : ℕ) → a ≤ k → k < a + n → p k ≡ true
    → (u : ℕ) × (find p (range_with_len a n) ≡ Some u)
some_passes p a zero k low high e = absurd (omega arith)
some_passes p a (suc n) k low high e =
    elim (cases_Bool (p a)) [
      | inl t ↦ (a, ap (λ b. cond b (Some a) (find p (range_with_len (a + 1) n))) t)
      | inr f ↦
          let above : a ≡ k → ⊥ = λ same. true≢false (sym e ∙ ap p (sym same) ∙ f) in
          let rest = some_passes p (a + 1) n k (omega arith) (omega arith) e in
          (rest.0, ap (λ b. cond b (Some a) (find p (range_with_len (a + 1) n))) f ∙ rest.1)
    ]

not_held : (w : ℕ) (b : Bool) → is_held_by w (holder_by None b) ≡ false
not_held w true = refl
not_held w false = refl

-- the record of a place, by its standing and its slot word
fit_shown : (one : Plain) (at word : ℕ) → word ≡ slice_index_or one.slots at 0
    → IsFit (standing_at one.holding.standings at) word → IsShownBy (record_by (Some one) at) word
fit_shown one at word is fit =
    let st = standing_at one.holding.standings at in
    let ws = block_of one.holding at in
    let b = not (slot_in (slice_index_or one.slots at 0)).live in
    let same : (slot_in word).live ≡ not b =
    ap (λ w. (slot_in w).live) is ∙ sym (twice (slot_in (slice_index_or one.slots at 0)).live)
    in
    record {
      generation = fit.generation;
      live = elim (cases_Bool (at_home st)) [
        | inr given ↦ same ∙ sym (held_live b st ws given)
        | inl free ↦ fit.freed free ∙ sym (held_dead b st ws free)
      ];
      owner = λ used. fit.owner (sym (held_home b st ws) ∙ used) ∙ sym (held_owner b st ws);
    }

module _ (parts : Parts) (w : ℕ) (sorted : IsSorted parts) (below : w < length parts.heaps) where
  heap : List Holding
  heap = holdings (heap_at parts w)

  holder_past : (segment : ℕ) → length parts.policy.segments ≤ segment
      → holder_at (state_of parts) segment ≡ fresh
  holder_past segment past =
      get_or_past (map (holder_of parts) (range_with_len 0 (length parts.policy.segments))) segment
      fresh (let l = length-map-range_with_len (holder_of parts) 0 (length parts.policy.segments)
      in omega arith)

  is_there : ℕ → ℕ → Bool
  is_there segment worker = has (holdings (heap_at parts worker)) segment

  left : ℕ → Bool
  left segment = list_any (is_of segment) parts.orphans

  worker_is : (segment : ℕ) → has heap segment ≡ true → worker_of parts segment ≡ Some w
  unfolding is_there heap
  worker_is segment e =
      let some = some_passes (is_there segment) 0 (length parts.heaps) w (omega arith) (omega arith)
      e in
      let u = some.0 in
      let same : u ≡ w =
      sorted.one_heap u w segment (first_passes (is_there segment) 0 (length parts.heaps) u
      some.1) e in
      some.1 ∙ ap Some same

  plain_is : (segment : ℕ) (one : Plain) → has heap segment ≡ true
      → find (is_of segment) (heap_at parts w) ≡ Some one → plain_of parts segment ≡ Some one
  unfolding heap
  plain_is segment one e is = ap (plain_by parts segment) (worker_is segment e) ∙ is

  holder_held : (segment : ℕ) → has heap segment ≡ true → is_held_by w (holder_of parts segment)
      ≡ true
  unfolding is_there left heap
  holder_held segment e = ap (λ o. is_held_by w (holder_by o (left segment))) (worker_is segment e)
      ∙ eq-eqb w w refl

  holder_other : (segment : ℕ) (o : Option ℕ) → worker_of parts segment ≡ o
      → has heap segment ≡ false → is_held_by w (holder_by o (left segment)) ≡ false
  unfolding is_there left heap
  holder_other segment None is e = not_held w (left segment)
  holder_other segment (Some u) is e =
      let there = first_passes (is_there segment) 0 (length parts.heaps) u is in
      ne_eqb u w (λ same. true≢false (sym there ∙ ap (is_there segment) same ∙ e))

  holding_is : (segment : ℕ) → holds (state_of parts) w segment ≡ has heap segment
  unfolding heap left
  holding_is segment =
      elim (cases_Bool (has heap segment)) [
        | inl t ↦ ap (is_held_by w) (holder_is parts segment (sorted.below w segment t))
            ∙ holder_held segment t ∙ sym t
        | inr f ↦ elim (cases_lt segment (length parts.policy.segments)) [
          | inl inside ↦ ap (is_held_by w) (holder_is parts segment inside)
              ∙ holder_other segment (worker_of parts segment) refl f ∙ sym f
          | inr past ↦ ap (is_held_by w) (holder_past segment past) ∙ sym f
        ]
      ]

  class_same : (page : ℕ) → has heap (segment_of_page page) ≡ true → class_at (state_of parts) page
      ≡ class_told (holding_of heap (segment_of_page page)) (page % 16)
  unfolding heap
  class_same page t =
      let one = found_in (heap_at parts w) (segment_of_page page) t in
      let inside = sorted.below w (segment_of_page page) t in
      class_is parts page (omega arith)
      ∙ ap (λ o. class_by o (page % 16)) (plain_is (segment_of_page page) one.0 t one.1)
      ∙ sym (ap (λ o. class_told o (page % 16)) one.2)

  record_same : (q : ℕ) (one : Plain) → has heap (segment_of q) ≡ true
      → find (is_of (segment_of q)) (heap_at parts w) ≡ Some one → record_at (state_of parts) q
      ≡ record_by (Some one) (q % 8192)
  unfolding heap
  record_same q one t is =
      let inside = sorted.below w (segment_of q) t in
      record_is parts q (omega arith)
      ∙ ap (λ o. record_by o (q % 8192)) (plain_is (segment_of q) one t is)

  standing_same : (q : ℕ) → has heap (segment_of q) ≡ true
      → standing_of (record_at (state_of parts) q) ≡ standing_told (holding_of heap (segment_of q))
      (q % 8192)
  unfolding heap
  standing_same q t =
      let one = found_in (heap_at parts w) (segment_of q) t in
      let at = q % 8192 in
      ap standing_of (record_same q one.0 t one.1)
      ∙ held_standing (not (slot_in (slice_index_or one.0.slots at 0)).live)
      (standing_at one.0.holding.standings at) (block_of one.0.holding at)
      ∙ sym (ap (λ o. standing_told o at) one.2)

  block_same : (q : ℕ) → has heap (segment_of q) ≡ true
      → contents_of (record_at (state_of parts) q).life ≡ block_told
      (holding_of heap (segment_of q)) (q % 8192)
  unfolding heap
  block_same q t =
      let one = found_in (heap_at parts w) (segment_of q) t in
      let at = q % 8192 in
      ap (λ r. contents_of r.life) (record_same q one.0 t one.1)
      ∙ held_words (not (slot_in (slice_index_or one.0.slots at 0)).live)
      (standing_at one.0.holding.standings at) (block_of one.0.holding at)
      (block_home (standing_at one.0.holding.standings at)
      (block_at one.0.holding.words one.0.holding.classes (at / 512) (at % 512)))
      ∙ sym (ap (λ o. block_told o at) one.2)

-- the worker of a held segment
pub worker_held : (parts : Parts) (w : ℕ) → IsSorted parts → w < length parts.heaps → (segment : ℕ)
    → has (holdings (heap_at parts w)) segment ≡ true → worker_of parts segment ≡ Some w
unfolding heap
worker_held parts w sorted below segment e = worker_is parts w sorted below segment e

-- the worker holds in the state what its heap has
pub holds_had : (parts : Parts) (w : ℕ) → IsSorted parts → w < length parts.heaps → (segment : ℕ)
    → holds (state_of parts) w segment ≡ has (holdings (heap_at parts w)) segment
unfolding heap
holds_had parts w sorted below segment = holding_is parts w sorted below segment

pub heaps_agree : HeapsAgree
unfolding heap
heaps_agree parts w generation shown sound sorted below word = record {
  sound = sound;
  policy = refl;
  holding = holding_is parts w sorted below;
  classes = class_same parts w sorted below;
  standings = standing_same parts w sorted below;
  blocks = block_same parts w sorted below;
  hand = refl;
  word = word_is shown word;
} where
  word_is : (o : Option Shown) → IfSome o (IsWordIn parts)
      → IfSome o (λ s. IsShownBy (record_at (state_of parts) s.place) s.word)
  word_is None x = tt
  word_is (Some s) x =
      let at = s.place % 8192 in
      let same : record_at (state_of parts) s.place ≡ record_by (Some x.one) at =
      record_is parts s.place x.within ∙ ap (λ o. record_by o at) x.there in
      subst (λ r. IsShownBy r s.word) (sym same)
      (fit_shown x.one at s.word x.word
      (fit_word (standing_at x.one.holding.standings at) s.word x.fits))
