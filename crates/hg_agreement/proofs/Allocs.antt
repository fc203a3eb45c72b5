-- An Alloc, tied.
use Rattle.std.proofs.Common.{◌≡◌, ℕ, ◌-◌, ◌<◌, ◌≤◌, inl, inr, true, length, replicate, Some, None}
use Rattle.std.proofs.Common.{refl, sym, ap, subst, ◌∙◌, arith}
use Rattle.std.proofs.lemmas.Bool.{cases_eq, ltb-true}
use Rattle.std.proofs.lemmas.Grind.{get_or-set_at}
use Rattle.std.proofs.lemmas.List.{get_or-set_other}
use Rattle.hg_place.specs.Places.{number_of, page_number, page_of, segment_of}
use Rattle.hg_place.specs.Slots.{slot_in}
use Rattle.hg_place.specs.Words.{word_of}
use Rattle.hg_place.specs.Standings.{standing_generation}
use Rattle.hg_machine.specs.Policy.{is_tenant}
use Rattle.hg_machine.specs.Life.{live, Record, never_used, contents_of}
use Rattle.hg_machine.specs.State.{record_at}
use Rattle.hg_machine.specs.Request.{words_for, size_of, alloc_verdict}
use Rattle.hg_machine.specs.Served.{IsNext}
use Rattle.hg_machine.proofs.Gives.{HasRoom, has_room_at, page_is}
use Rattle.hg_machine.proofs.Serves.{fits_parts}
use Rattle.hg_machine.proofs.Looks.{words_are_read}
use Rattle.hg_place.specs.declared.standing.Standing.TheVariants.{Open}
use Rattle.hg_agreement.specs.Views.{Shown}
use Rattle.hg_agreement.specs.Agreement.{standing_of}
use Rattle.hg_machine.specs.Shown.{IsShownBy}
use Rattle.hg_agreement.specs.Seen.{charge_in}
use Rattle.hg_agreement.specs.Changed.{opened}
use Rattle.hg_agreement.specs.Ties.{AllocIsTied}
use Rattle.hg_agreement.proofs.Answers.{roomy}
use Rattle.hg_agreement.proofs.Rooms.{same_room, generation_by}
use Rattle.hg_agreement.proofs.Frames.{served_follows}
use Rattle.hg_agreement.proofs.Puts.{at_place, off_place}
use Rattle.hg_machine.specs.declared.Event.TheVariants as event
use Rattle.hg_machine.specs.declared.Answer.TheVariants as answer

-- the live word says what it was made of
live_slot : (generation owner : ℕ) → 1 ≤ generation → owner < 64
    → slot_in (word_of generation owner true)
    ≡ record { generation = generation; owner = owner; live = true }
live_slot generation owner some few = words_are_read generation owner true (record {
  owner_below = few;
  no_owner = λ z. absurd (omega arith);
  no_life = λ z. absurd (omega arith);
})

pub alloc_is_tied : AllocIsTied
alloc_is_tied view shown actor arena bytes handle below none room stands m agrees =
    let w = view.worker in
    let p = number_of handle.place in
    let page = page_number handle.place in
    let size = size_of bytes in
    let fit = roomy view arena (alloc_verdict view.policy actor.0 arena (words_for bytes)
    (charge_in view actor.0)) none in
    let tenant : is_tenant view.policy actor.0 ≡ true =
    (fits_parts view.policy actor.0 arena (words_for bytes) (charge_in view actor.0) fit.0
    fit.1).0 in
    let few : actor.0 < 64 =
    (let t : actor.0 < length view.policy.tenants = ltb-true _ _ tenant in let n : length
    m.policy.tenants ≤ 64 =
    agrees.sound.policy.few_tenants in let s : length m.policy.tenants
    ≡ length view.policy.tenants =
    ap (λ q. length q.tenants) agrees.policy in omega arith) in
    let is_room = same_room m view shown arena size p agrees ∙ room in
    let has : HasRoom m w arena size p = has_room_at m w arena size p agrees.sound is_room in
    let r = record_at m p in
    let held : view.holds (segment_of p) ≡ true = sym (agrees.holding (segment_of p)) ∙ has.holds in
    let before : r.generation ≡ handle.generation - 1 =
    sym (generation_by r.generation r.life) ∙ ap standing_generation (agrees.standings p held
    ∙ stands) in
    let next : IsNext m w arena size handle =
    record { room = is_room; next = (let g = handle.given_out in omega arith) } in
    let now : Record =
    record { generation = handle.generation; life = live actor.0 (replicate size 0) } in
    let on_page : page_of p ≡ page = page_is handle.place in
    let inside : page < length m.classes =
    omega (arith, has.within, agrees.sound.whole.records, agrees.sound.whole.classes, on_page)
    in
    let left : Shown = record { place = p; word = word_of handle.generation actor.0 true } in
    let slot = live_slot handle.generation actor.0 handle.given_out few in
    served_follows m view (opened view p handle.generation actor.0 size) shown (Some left)
    (event.Alloc actor arena bytes) (answer.Block handle) below agrees (tt) none
    (handle, refl, next)
    (λ sound. record {
      sound = sound;
      policy = agrees.policy;
      holding = agrees.holding;
      classes = λ q h. elim (cases_eq q (page_of p)) [
        | inl e ↦ get_or-set_at m.classes page q (Some size) None (e ∙ on_page) inside
            ∙ at_place view.class (Some size) q (page_of p) e
        | inr ne ↦ get_or-set_other m.classes page q (Some size) None
            (λ e. ne (e ∙ sym on_page))
            ∙ agrees.classes q h ∙ off_place view.class (Some size) q (page_of p) ne
      ];
      standings = λ q h. elim (cases_eq q p) [
        | inl e ↦ ap standing_of (get_or-set_at m.records p q now never_used e has.within)
            ∙ at_place view.standing (Open handle.generation actor.0) q p e
        | inr ne ↦ ap standing_of (get_or-set_other m.records p q now never_used ne)
            ∙ agrees.standings q h ∙ off_place view.standing (Open handle.generation actor.0) q
            p
            ne
      ];
      blocks = λ q h. elim (cases_eq q p) [
        | inl e ↦ ap (λ x. contents_of x.life)
            (get_or-set_at m.records p q now never_used e has.within)
            ∙ at_place view.block (replicate size 0) q p e
        | inr ne ↦ ap (λ x. contents_of x.life)
            (get_or-set_other m.records p q now never_used ne)
            ∙ agrees.blocks q h ∙ off_place view.block (replicate size 0) q p ne
      ];
      hand = agrees.hand;
      word = subst (λ x. IsShownBy x left.word)
          (sym (get_or-set_at m.records p p now never_used refl has.within)) (record {
            generation = ap (λ s. s.generation) slot;
            live = ap (λ s. s.live) slot;
            owner = λ used. ap (λ s. s.owner) slot;
          });
    })
