-- A worker that leaves: what it gives up, one segment after the other, and that nothing is left.
use Rattle.std.proofs.Common.{◌≡◌, ◌≢◌, ℕ, zero, suc, ◌==◌, ◌+◌, ◌<◌, ◌≤◌, true, false, cond, List, [], ◌∷◌, ◌++◌}
use Rattle.std.proofs.Common.{Some, None, length, is_some, refl, sym, ap, subst, ◌∙◌}
use Rattle.std.proofs.Common.{arith, inl, inr}
use Rattle.std.proofs.lemmas.Bool.{cases_Bool, eqb-true, eq-eqb}
use Rattle.std.proofs.lemmas.Option.{none-some}
use Rattle.std.specs.Prelude.{option_map}
use Rattle.std.specs.List.{range_with_len}
use Rattle.hg_machine.specs.declared.Answer.{Answer}
use Rattle.hg_machine.specs.Policy.{Policy}
use Rattle.hg_segment.specs.Kept.{Kept}
use Rattle.hg_heap.specs.Held.{Held, is_held, segment_in}
use Rattle.hg_heap.specs.Policies.{AreOf}
use Rattle.hg_table.specs.declared.view.Part.{Part}
use Rattle.hg_worker.specs.Had.{Had}
use Rattle.hg_worker.specs.Seen.{EndsNothing, part_of_segment}
use Rattle.hg_service.specs.Behind.{Abandons}
use Rattle.hg_service.specs.Leaving.{AbandonsEach, all_segments}
use Rattle.hg_service.proofs.Behind.{held_within}

-- a range with one number more
range_then : (from n : ℕ) → range_with_len from (suc n) ≡ range_with_len from n ++ (from + n) ∷ []
range_then from zero = ap (λ k. k ∷ []) (omega arith)
range_then from (suc n) =
    ap (λ range. from ∷ range)
    (range_then (from + 1) n
    ∙ ap (λ k. range_with_len (from + 1) n ++ k ∷ []) (omega arith))

range_more : (n : ℕ) → range_with_len 0 (n + 1) ≡ range_with_len 0 n ++ n ∷ []
range_more n =
    let one_more : n + 1 ≡ suc n = omega arith in
    let last : 0 + n ≡ n = omega arith in
    ap (range_with_len 0) one_more ∙ range_then 0 n ∙ ap (λ k. range_with_len 0 n ++ k ∷ []) last

module _ {S : Type 0} (number : S → ℕ) where
  -- one segment more
  abandons_then : (segments : List ℕ) (segment : ℕ) (result : Answer) (heap mid heap' : Held S)
      → AbandonsEach number segments heap mid → Abandons number segment result mid heap'
      → AbandonsEach number (segments ++ segment ∷ []) heap heap'
  abandons_then [] segment result heap mid heap' so_far one =
      (result, heap', subst (λ (h : Held S). Abandons number segment result h heap') so_far one, refl)
  abandons_then (s ∷ segments) segment result heap mid heap' so_far one = (
    so_far.0,
    so_far.1,
    so_far.2,
    abandons_then segments segment result so_far.1 mid heap' so_far.3 one,
  )

  pub abandons_more : (n : ℕ) (result : Answer) (heap mid heap' : Held S)
      → AbandonsEach number (range_with_len 0 n) heap mid → Abandons number n result mid heap'
      → AbandonsEach number (range_with_len 0 (n + 1)) heap heap'
  abandons_more n result heap mid heap' so_far one =
      subst (λ segments. AbandonsEach number segments heap heap')
      (sym (range_more n))
      (abandons_then (range_with_len 0 n) n result heap mid heap' so_far one)

  pub abandons_all : (n : ℕ) (heap heap' : Held S) → n ≡ 64
      → AbandonsEach number (range_with_len 0 n) heap heap'
      → AbandonsEach number all_segments heap heap'
  unfolding all_segments
  abandons_all n heap heap' all each =
      subst (λ k. AbandonsEach number (range_with_len 0 k) heap heap') all each

  -- of the segments so far none is held
  pub gone_more : (n : ℕ) (old new : List (Kept S))
      → ((k : ℕ) → k < n → is_held number old k ≡ false) → is_held number new n ≡ false
      → ((other : ℕ) → other ≢ n → segment_in number new other ≡ segment_in number old other)
      → (k : ℕ) → k < n + 1 → is_held number new k ≡ false
  gone_more n old new so_far gone others k below =
      elim (cases_Bool (k == n)) as (λ _. is_held number new k ≡ false) [
        | inl same ↦ subst (λ j. is_held number new j ≡ false) (sym (eqb-true k n same)) gone
        | inr differs ↦
            let apart : k ≢ n = λ same.
            let bad : true ≡ false = sym (eq-eqb k n same) ∙ differs in absurd (cc) in
            ap is_some (others k apart) ∙ so_far k (omega (arith, below, apart))
      ]

  first_held : (one : Kept S) (segments : List (Kept S))
      → is_held number (one ∷ segments) (number one.slots) ≡ true
  first_held one segments =
      ap (λ b. is_some (cond b (Some one) (segment_in number segments (number one.slots))))
      (eq-eqb (number one.slots) (number one.slots) refl)

  -- what holds none of the policy's segments holds nothing
  pub holds_nothing : (policy : Policy) (segments : List (Kept S)) (most : ℕ)
      → length policy.segments ≤ most → AreOf number policy segments
      → ((k : ℕ) → k < most → is_held number segments k ≡ false) → segments ≡ []
  holds_nothing policy [] most few of gone = refl
  holds_nothing policy (one ∷ segments) most few of gone =
      let held = first_held one segments in
      let low = held_within number policy (one ∷ segments) (number one.slots) held of in
      let away = gone (number one.slots) (omega (arith, low, few)) in
      absurd (cc)

  module _ (part : S → Part) where
    -- who holds nothing any more has ended no life that its own seat hasn't
    pub ends_nothing : (old new : Had S) → new.own.ended ≡ old.own.ended
        → new.heap.segments ≡ [] → EndsNothing number part old new
    ends_nothing old new ended nothing = record {
      own = ended;
      segments = λ segment a b was is.
          let none : part_of_segment number part new segment ≡ None =
          ap (λ segments. option_map (λ k. part k.slots) (segment_in number segments segment))
          nothing in
          absurd (none-some b (sym none ∙ is));
    }
