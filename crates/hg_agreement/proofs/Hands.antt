-- The hand of a worker that freed a block away.
use Rattle.std.proofs.Common.{◌≡◌, ℕ, ◌-◌, ◌*◌, ◌<◌, true, Some, refl, sym, ap, ◌∙◌, arith, is_some}
use Rattle.std.proofs.Common.{length, Option, None}
use Rattle.std.proofs.lemmas.Option.{same_Some, slice_get_within}
use Rattle.std.proofs.lemmas.Bool.{true≢false}
use Rattle.hg_place.specs.declared.geometry.TheConstants.{SEGMENT_PLACES}
use Rattle.hg_place.specs.Places.{number_of, segment_of}
use Rattle.hg_place.specs.Slots.{slot_in}
use Rattle.hg_machine.specs.Denial.{denial_on}
use Rattle.hg_machine.proofs.Allowed.{parts, no_denial}
use Rattle.hg_agreement.specs.Ties.{FreedHandIsUsual}
use Rattle.hg_agreement.proofs.Closes.{closed}
use Rattle.hg_agreement.proofs.Sees.{segment_is}
use Rattle.hg_place.specs.declared.Right.TheVariants as right

some_is : (o : Option ℕ) → is_some o ≡ true → (n : ℕ) × (o ≡ Some n)
some_is None e = absurd (cc)
some_is (Some n) e = (n, refl)

pub freed_hand_is_usual : FreedHandIsUsual
freed_hand_is_usual view word actor handle none away most =
    let p = number_of handle.place in
    let d = no_denial (denial_on view.policy actor.0 right.Free handle.place.segment
    handle.generation (slot_in word)) _ none in
    let ok = parts view.policy actor.0 right.Free handle.place.segment handle.generation
    (slot_in word) d.0 in
    let arena = some_is _ ok.0 in
    let inside : handle.place.segment < length view.policy.segments =
    slice_get_within view.policy.segments handle.place.segment arena.0 arena.1 in
    let c = closed word ok.2 in
    let over = ap (λ s. s.generation) c ∙ ok.1 in
    let within : p < length view.policy.segments * SEGMENT_PLACES =
    (let a = handle.place.page_below in let b = handle.place.index_below in omega arith) in (
      record {
        within = λ q e. (let same : p ≡ q = same_Some p q e in omega arith);
        given_out = λ q e. handle.given_out;
      },
      record {
        within = within;
        fits = λ h. absurd (true≢false (sym h ∙ ap view.holds (segment_is handle.place) ∙ away));
        seen = λ e. ((let same = over in omega arith), λ same. ap (λ s. s.live) c);
      },
      record {
        word = λ s e. (let same : word - 1 ≡ s.word = ap (λ x. x.word) (same_Some _ s e) in let g =
            ap (λ w. (slot_in w).generation) same in omega arith);
        hand = λ q e. most;
        recorded = λ q e h. absurd
            (true≢false (sym h ∙ ap (λ n. view.holds (segment_of n)) (sym (same_Some p q e))
            ∙ ap view.holds (segment_is handle.place) ∙ away));
        unpassed = λ q s e f at. (let same = ap (λ x. (slot_in x.word).generation)
            (sym (same_Some _ s f)) ∙ over in omega arith);
      },
    )
