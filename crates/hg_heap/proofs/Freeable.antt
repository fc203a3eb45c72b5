-- Of the words that fit an open place, one alone may be freed.
use Rattle.std.proofs.Common.{◌≡◌, ℕ, ◌/◌, ◌%◌, ◌==◌, true, false, if◌then◌else◌, inl, inr}
use Rattle.std.proofs.Common.{Some, None, refl, sym, ap, ◌∙◌, arith}
use Rattle.std.proofs.lemmas.Bool.{cases_Bool, eqb-true, true≢false}
use Rattle.hg_place.specs.declared.Handle.{Handle}
use Rattle.hg_place.specs.declared.Right.TheVariants as right
use Rattle.hg_place.specs.declared.standing.Standing.TheVariants.{Open}
use Rattle.hg_place.specs.Lives.{IsSlotWord}
use Rattle.hg_place.specs.Slots.{slot_in, is_foreign, unused_slot}
use Rattle.hg_place.specs.Standings.{Fits}
use Rattle.hg_place.specs.Words.{word_of}
use Rattle.hg_machine.specs.declared.Rule.{Rule}
use Rattle.hg_machine.specs.declared.Verdict.TheVariants as verdict
use Rattle.hg_machine.specs.Policy.{Policy}
use Rattle.hg_machine.specs.Denial.{verdict_of}
use Rattle.hg_machine.proofs.Allowed.{parts}
use Rattle.hg_heap.specs.Freeing.{free_denial}
use Rattle.hg_heap.proofs.Reached.{denied_by}

-- a word whose slot is live is odd
pub live_odd : (word : ℕ) → (slot_in word).live ≡ true → word % 2 ≡ 1
live_odd word e = elim (cases_Bool (is_foreign word)) as (λ _. word % 2 ≡ 1) [
  | inl foreign ↦
      let f : false ≡ true = ap (λ b. (if b then unused_slot else record {
        generation = word / 4294967296;
        owner = word % 4294967296 / 2;
        live = word % 2 == 1;
      }).live) (sym foreign) ∙ e in
      absurd (true≢false (sym f))
  | inr own ↦
      let f : (word % 2 == 1) ≡ true = ap (λ b. (if b then unused_slot else record {
        generation = word / 4294967296;
        owner = word % 4294967296 / 2;
        live = word % 2 == 1;
      }).live) (sym own) ∙ e in
      eqb-true _ _ f
]

-- so where that word is denied, no word may be freed
pub one_may_be_freed : (policy : Policy) (actor : ℕ) (handle : Handle)
    (generation owner expected word : ℕ) (rule : Rule)
    → expected ≡ word_of generation owner true
    → verdict.Denied rule ≡ verdict_of (free_denial policy actor handle expected)
    → IsSlotWord word → Fits (Open generation owner) word
    → free_denial policy actor handle word ≡ None → ⊥
one_may_be_freed policy actor handle generation owner expected word rule packed denied slot fits
    none =
    let p = parts policy actor right.Free handle.place.segment handle.generation (slot_in word) none
    in
    let odd = live_odd word p.2 in
    let g = fits.generation in
    let o = fits.owner refl in
    let same : word ≡ expected = omega (arith, packed, odd, g, o) in
    let d = denied_by (free_denial policy actor handle expected) rule denied in
    let f : Some rule ≡ None = sym d ∙ ap (free_denial policy actor handle) (sym same) ∙ none in
    absurd (cc)
