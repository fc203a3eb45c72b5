-- The charge of a heap's view is what its segments' places count.
use Rattle.std.proofs.Common.{◌≡◌, ℕ, zero, suc, ◌+◌, ◌*◌, ◌/◌, ◌%◌, ◌<◌, ◌==◌, ◌&&◌, Bool, false}
use Rattle.std.proofs.Common.{not, cond, ◌∷◌, [], List, map, length, Option, Some, None, refl, sym}
use Rattle.std.proofs.Common.{ap, ◌∙◌, arith, is_some, option_map, Contains}
use Rattle.std.specs.List.{sum_by, range_with_len}
use Rattle.std.proofs.lemmas.Bool.{eq-eqb, ne_eqb}
use Rattle.std.proofs.lemmas.List.{map-id}
use Rattle.std.proofs.lemmas.List.FromFn.{sum_by-map-range_with_len_more}
use Rattle.std.proofs.lemmas.List.Sums.{sum_by-cons}
use Rattle.hg_lists.specs.Repeats.{Lacks, HasNoRepeats}
use Rattle.hg_place.specs.declared.standing.Standing.{Standing}
use Rattle.hg_place.specs.declared.standing.Standing.TheVariants.{Home, Open}
use Rattle.hg_place.specs.Places.{segment_of}
use Rattle.hg_place.specs.Standings.{standing_at, is_home, standing_owner}
use Rattle.hg_machine.specs.Policy.{Policy}
use Rattle.hg_segment.specs.Kept.{Kept, slot, class_at}
use Rattle.hg_segment.specs.Blocks.{block_at, block_of_class}
use Rattle.hg_segment.specs.Charges.{block_bytes, share_of, share, charge_of}
use Rattle.hg_segment.proofs.Sums.{sum_same, sum_other, sum_zero}
use Rattle.hg_agreement.specs.Holdings.{Holding, standing_told, block_told, block_by}
use Rattle.hg_agreement.specs.Seen.{share_in}
use Rattle.hg_agreement.specs.Seen as seen
use Rattle.hg_heap.specs.Held.{segment_in}
use Rattle.hg_heap.specs.Charges.{charge_in}
use Rattle.hg_heap.specs.Policies.{AreOf}
use Rattle.hg_heap.specs.Settled.{IsSettled}
use Rattle.hg_heap.specs.Ties.{holding, heap_view}
use Rattle.hg_heap.proofs.Founds.{inside_of}
use Rattle.hg_heap.proofs.ViewRoom.{holding_in, found_one}

-- one more number adds its own term
pub sum_next : (f : ℕ → ℕ) (a n : ℕ) → sum_by f (range_with_len a (suc n)) ≡ sum_by f
    (range_with_len a n) + f (a + n)
sum_next f a n =
    let e : suc n ≡ n + 1 = omega arith in
    ap (λ (m : ℕ). sum_by f (range_with_len a m)) e
    ∙ ap (sum_by f) (sym (map-id (range_with_len a (n + 1))))
    ∙ sum_by-map-range_with_len_more f (λ k. k) a n (a + n) refl
    ∙ ap (λ xs. sum_by f xs + f (a + n)) (map-id (range_with_len a n))

-- a sum from a number on is one from 0
sum_from : (f g : ℕ → ℕ) (a n : ℕ) → ((k : ℕ) → k < n → f (a + k) ≡ g k)
    → sum_by f (range_with_len a n) ≡ sum_by g (range_with_len 0 n)
sum_from f g a zero h = refl
sum_from f g a (suc n) h =
    let rest = sum_from f g a n (λ k lt. h k (omega (arith, lt))) in
    let z : 0 + n ≡ n = omega arith in
    let last = ap g z in
    omega (arith, sum_next f a n, sum_next g 0 n, h n (omega arith), rest, last)

-- two sums, where the one goes on from the other
sum_two : (f : ℕ → ℕ) (m n : ℕ) → sum_by f (range_with_len 0 (m + n)) ≡ sum_by f
    (range_with_len 0 m) + sum_by f (range_with_len m n)
sum_two f m zero = let e : m + 0 ≡ m = omega arith in let s =
    ap (λ (k : ℕ). sum_by f (range_with_len 0 k)) e in omega (arith, s)
sum_two f m (suc n) =
    let e : m + suc n ≡ suc (m + n) = omega arith in
    let s = ap (λ (k : ℕ). sum_by f (range_with_len 0 k)) e in
    let z : 0 + (m + n) ≡ m + n = omega arith in
    let last = ap f z in
    omega (arith, s, last, sum_next f 0 (m + n), sum_next f m n, sum_two f m n)

-- a sum by parts of equal length
sum_parts : (f g : ℕ → ℕ) (part n : ℕ)
    → ((k : ℕ) → k < n → sum_by f (range_with_len (k * part) part) ≡ g k)
    → sum_by f (range_with_len 0 (n * part)) ≡ sum_by g (range_with_len 0 n)
sum_parts f g part zero h = let e : 0 * part ≡ 0 =
    omega arith in ap (λ (m : ℕ). sum_by f (range_with_len 0 m)) e
sum_parts f g part (suc n) h =
    let rest = sum_parts f g part n (λ k lt. h k (omega (arith, lt))) in
    let e : suc n * part ≡ n * part + part = omega arith in
    let s = ap (λ (m : ℕ). sum_by f (range_with_len 0 m)) e in
    let z : 0 + n ≡ n = omega arith in
    let last = ap g z in
    omega (arith, rest, s, last, h n (omega arith), sum_next g 0 n, sum_two f (n * part) part)

-- what a place counts, by its record and its block
abbrev told_by : Standing → List ℕ → ℕ → ℕ
told_by st words tenant =
    cond (not (is_home st) && (standing_owner st == tenant)) (8 * length words) 0

told_share : (st : Standing) (words : List ℕ) (bytes tenant : ℕ)
    → (is_home st ≡ false → 8 * length words ≡ bytes) → told_by st (block_by st words) tenant
    ≡ share_of st bytes tenant
told_share (Home g) words bytes tenant h = refl
told_share (Open g o) words bytes tenant h = ap (λ (n : ℕ). cond (o == tenant) n 0) (h refl)

bytes_is : (words : List ℕ) (page index : ℕ) (class : Option ℕ)
    → ((size : ℕ) → class ≡ Some size → length (block_of_class words page index class) ≡ size)
    → 8 * length (block_of_class words page index class) ≡ block_bytes class
bytes_is words page index None h = refl
bytes_is words page index (Some size) h = ap (λ (n : ℕ). 8 * n) (h size refl)

module _ {S : Type 0} (number : S → ℕ) (records : S → List Standing) where
  abbrev told : Option Holding → ℕ → ℕ → ℕ
  told o tenant at =
      cond (is_some o && (not (is_home (standing_told o at)) && (standing_owner
      (standing_told o at) == tenant))) (8 * length (block_told o at)) 0

  -- a place of a segment
  told_here : (k : Kept S) (tenant at : ℕ) → IsSettled records k → at < 8192
      → told (Some (holding number records k)) tenant at ≡ share (records k.slots) k.classes tenant
      at
  told_here k tenant at s low =
      let page : at / 512 < 16 = omega (arith, low) in
      let index : at % 512 < 512 = omega arith in
      let same : slot (at / 512) (at % 512) ≡ at = omega arith in
      told_share (standing_at (records k.slots) at)
      (block_at k.words k.classes (at / 512) (at % 512))
      (block_bytes (class_at k.classes (at / 512))) tenant
      (λ out. bytes_is k.words (at / 512) (at % 512) (class_at k.classes (at / 512))
      (λ size e. s.blocks (at / 512) (at % 512) size page index
      (ap (λ (n : ℕ). is_home (standing_at (records k.slots) n)) same ∙ out) e))

  abbrev charge_by : Option (Kept S) → ℕ → ℕ
  charge_by None tenant = 0
  charge_by (Some k) tenant = charge_of (records k.slots) k.classes tenant

  -- the places of a number's segment
  sum_told : ((s : S) → length (records s) ≡ 8192) → (o : Option (Kept S))
      → ((k : Kept S) → o ≡ Some k → IsSettled records k) → (tenant n : ℕ) → n ≡ 8192
      → sum_by (told (option_map (holding number records) o) tenant) (range_with_len 0 n)
      ≡ charge_by o tenant
  sum_told long None settled tenant n e = sum_zero (λ at. 0) n (λ k lt. refl)
  sum_told long (Some k) settled tenant n e =
      sum_same (told (Some (holding number records k)) tenant)
      (share (records k.slots) k.classes tenant) n
      (λ at lt. told_here k tenant at (settled k refl) (omega (arith, lt, e)))
      ∙ ap (λ (m : ℕ). sum_by (share (records k.slots) k.classes tenant) (range_with_len 0 m)) (e
      ∙ sym (long k.slots))

  none_of : (segments : List (Kept S)) (segment : ℕ)
      → Lacks segment (map (λ (k : Kept S). number k.slots) segments)
      → segment_in number segments segment ≡ None
  none_of [] segment l = refl
  none_of (x ∷ xs) segment l =
      ap (λ (b : Bool). cond b (Some x) (segment_in number xs segment))
      (ne_eqb (number x.slots) segment (λ e. l.0 (sym e))) ∙ none_of xs segment l.1

  -- each segment counts at its own number
  sum_segments : (segments : List (Kept S)) (tenant n : ℕ)
      → ((k : Kept S) → Contains segments k → number k.slots < n)
      → HasNoRepeats (map (λ (k : Kept S). number k.slots) segments)
      → sum_by (λ segment. charge_by (segment_in number segments segment) tenant)
      (range_with_len 0 n) ≡ charge_in records segments tenant
  sum_segments [] tenant n below once = sum_zero (λ segment. 0) n (λ k lt. refl)
  sum_segments (x ∷ xs) tenant n below once =
      let at = number x.slots in
      let f = λ (segment : ℕ). charge_by (segment_in number (x ∷ xs) segment) tenant in
      let g = λ (segment : ℕ). charge_by (segment_in number xs segment) tenant in
      let here : f at ≡ charge_of (records x.slots) x.classes tenant =
      ap (λ (b : Bool). charge_by (cond b (Some x) (segment_in number xs at)) tenant)
      (eq-eqb at at refl) in
      let gone : g at ≡ 0 =
      ap (λ (o : Option (Kept S)). charge_by o tenant) (none_of xs at once.0) in
      let lt : at < n = below x (0, omega arith, refl) in
      let others = sum_other f g n at lt
      (λ segment ne. ap
      (λ (b : Bool). charge_by (cond b (Some x) (segment_in number xs segment)) tenant)
      (ne_eqb at segment (λ e. ne (sym e)))) in
      let rest : sum_by g (range_with_len 0 n) ≡ charge_in records xs tenant =
      sum_segments xs tenant n (λ k c. below k (suc c.0, omega (arith, c.1), c.2)) once.1 in
      let all : charge_in records (x ∷ xs) tenant ≡ charge_of (records x.slots) x.classes
      tenant + charge_in records xs tenant =
      sum_by-cons (λ (k : Kept S). charge_of (records k.slots) k.classes tenant) x xs in
      omega (arith, here, gone, others, rest, all)

  -- what a place of the view counts, by its segment
  share_told : (policy : Policy) (worker : ℕ) (hand : Option ℕ) (generation : ℕ)
      (segments : List (Kept S)) (tenant place : ℕ)
      → share_in (heap_view number records policy worker hand generation segments) tenant place
      ≡ told (option_map (holding number records) (segment_in number segments (segment_of place)))
      tenant (place % 8192)
  share_told policy worker hand generation segments tenant place =
      ap (λ (o : Option Holding). told o tenant (place % 8192))
      (holding_in number records segments (segment_of place))

  -- the view's charge is that of the segments
  pub view_charge : ((s : S) → length (records s) ≡ 8192) → (policy : Policy) (worker : ℕ)
      (hand : Option ℕ) (generation : ℕ) (segments : List (Kept S)) (tenant : ℕ)
      → HasNoRepeats (map (λ (k : Kept S). number k.slots) segments)
      → ((k : Kept S) → Contains segments k → IsSettled records k) → AreOf number policy segments
      → seen.charge_in (heap_view number records policy worker hand generation segments) tenant
      ≡ charge_in records segments tenant
  view_charge long policy worker hand generation segments tenant once settled of =
      go 8192 refl
    where
      go : (n : ℕ) → n ≡ 8192
          → sum_by (share_in (heap_view number records policy worker hand generation segments)
          tenant) (range_with_len 0 (length policy.segments * n)) ≡ charge_in records segments
          tenant
      go n e =
          let f = share_in (heap_view number records policy worker hand generation segments) tenant
          in
          sum_parts f (λ segment. charge_by (segment_in number segments segment) tenant) n
          (length policy.segments) (λ segment lt.
          sum_from f (told
          (option_map (holding number records) (segment_in number segments segment)) tenant)
          (segment * n) n (λ k low.
          let b : k < 8192 = omega (arith, low, e) in
          let times : segment * n ≡ segment * 8192 = ap (λ (m : ℕ). segment * m) e in
          let s : segment_of (segment * n + k) ≡ segment = omega (arith, b, times) in
          let r : (segment * n + k) % 8192 ≡ k = omega (arith, b, times) in
          share_told policy worker hand generation segments tenant (segment * n + k)
          ∙ ap (λ (m : ℕ). told (option_map (holding number records) (segment_in number segments m))
          tenant ((segment * n + k) % 8192)) s
          ∙ ap (λ (m : ℕ). told
          (option_map (holding number records) (segment_in number segments segment)) tenant m) r)
          ∙ sum_told long (segment_in number segments segment)
          (λ k is. settled k (found_one number records segments segment k is).0) tenant n e)
          ∙ sum_segments segments tenant (length policy.segments)
          (λ k c. inside_of policy.segments (number k.slots) k.arena (of.arena k c)) once
