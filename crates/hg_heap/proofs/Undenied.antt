-- Words of a place under which no rule denies a use of a block.
use Rattle.std.proofs.Common.{◌≡◌, ℕ, ◌%◌, true, false, None, is_some, sym, ap, ◌∙◌, arith}
use Rattle.std.proofs.lemmas.Bool.{eqb-true}
use Rattle.hg_place.specs.declared.Handle.{Handle}
use Rattle.hg_place.specs.declared.Right.{Right}
use Rattle.hg_place.specs.Lives.{IsAtOrBefore, IsLiveWord, IsSlotWord, word_generation, word_life}
use Rattle.hg_place.specs.Slots.{slot_in}
use Rattle.hg_place.proofs.LifeOrders.{ordered}
use Rattle.hg_machine.specs.Policy.{Policy, arena_of}
use Rattle.hg_machine.proofs.Allowed.{parts}
use Rattle.hg_agreement.proofs.Closes.{native, read_as}
use Rattle.hg_heap.specs.Reading.{use_denial}

module _ (policy : Policy) (actor : ℕ) (right : Right) (handle : Handle) where
  -- it is a live word of the handle's generation, of a segment of the policy
  pub undenied_live : (word : ℕ) → IsSlotWord word
      → use_denial policy actor right handle word ≡ None
      → IsLiveWord word × (word_generation word ≡ handle.generation)
      × (is_some (arena_of policy handle.place.segment) ≡ true)
  undenied_live word slot e =
      let p = parts policy actor right handle.place.segment handle.generation (slot_in word) e in
      let as_is : slot_in word ≡ read_as word false = ap (read_as word) (native word p.2) in (
        (slot, eqb-true (word % 2) 1 (ap (λ s. s.live) (sym as_is) ∙ p.2)),
        ap (λ s. s.generation) (sym as_is) ∙ p.1,
        p.0,
      )

  -- and no word after it is another such word
  pub undenied_once : (word found : ℕ) → IsSlotWord word → IsSlotWord found
      → use_denial policy actor right handle word ≡ None
      → use_denial policy actor right handle found ≡ None → IsAtOrBefore word found → found ≡ word
  undenied_once word found slot slot_found none none_found order =
      let a = undenied_live word slot none in
      let b = undenied_live found slot_found none_found in
      let same : word_generation word ≡ word_generation found = a.1 ∙ sym b.1 in
      let alive : word_life word ≡ 1 = a.0.1 in
      let lives : word_life found ≡ 1 = b.0.1 in
      let owners = (order.1 same).0 in
      let back : IsAtOrBefore found word =
      (omega (arith, same), λ _. (sym owners, omega (arith, alive, lives))) in
      sym (ordered.apart word found slot slot_found order back)
