-- Which words a worker finds, and which workers are usual.
use Rattle.std.proofs.Common.{◌≡◌, ◌%◌, ◌≤◌, false, Some, None, refl, sym, ap, subst, ◌∙◌, arith}
use Rattle.std.proofs.lemmas.Option.{same_Some, none-some}
use Rattle.std.proofs.lemmas.Bool.{true≢false, ne_eqb}
use Rattle.hg_place.specs.Slots.{slot_in}
use Rattle.hg_place.specs.Words.{word_of}
use Rattle.hg_place.specs.Lives.{word_generation, word_life}
use Rattle.hg_agreement.specs.Views.{View, Shown}
use Rattle.hg_agreement.specs.Witness.{IsUsual}
use Rattle.hg_agreement.specs.Usual.{FittingWordsAreFound, WordsAreUsual, IsHandElsewhere}
use Rattle.hg_agreement.proofs.FitWords.{fit_word, slot_read}
use Rattle.hg_agreement.proofs.Sees.{segment_is}

pub fitting_words_are_found : FittingWordsAreFound
fitting_words_are_found view place word owner below inside slot fits after = record {
  within = (let a = place.page_below in let b = place.index_below in omega arith);
  fits = λ h. fits (sym (ap view.holds (segment_is place)) ∙ h);
  seen = λ e.
      let later = after e in
      let read = slot_read word slot in
      let generation : (slot_in word).generation ≡ word_generation word =
      ap (λ s. s.generation) read in
      let least = later.0 in
      let first : word_generation (word_of view.hand_generation owner false)
      ≡ view.hand_generation = omega arith in
      let over : word_life (word_of view.hand_generation owner false) ≡ 0 = omega arith in (
        (omega arith),
        λ same. ap (λ s. s.live) read
            ∙ (let dead = (later.1 (first ∙ sym same ∙ generation)).1 in
            ne_eqb (word % 2) 1 (λ odd. omega arith)),
      );
}

unshown : (view : View) → IsHandElsewhere view → IsUsual view None
unshown view hand = record {
  word = λ s e. absurd (none-some s e);
  hand = hand.generation;
  recorded = λ place e h. absurd (true≢false (sym h ∙ hand.unheld place e));
  unpassed = λ place s e f at. absurd (none-some s f);
}

others : (view : View) (s : Shown) → IsUsual view None
    → (slot_in s.word).generation ≤ view.policy.max_generation
    → (view.hand ≡ Some s.place → (slot_in s.word).generation ≤ view.hand_generation)
    → IsUsual view (Some s)
others view s usual most unpassed = record {
  word = λ t f. subst (λ x. (slot_in x.word).generation ≤ view.policy.max_generation)
      (same_Some s t f) most;
  hand = usual.hand;
  recorded = usual.recorded;
  unpassed = λ place t e f at.
      subst (λ x. (slot_in x.word).generation ≤ view.hand_generation) (same_Some s t f)
      (unpassed (e ∙ ap Some (sym (ap (λ x. x.place) (same_Some s t f) ∙ at))));
}

pub words_are_usual : WordsAreUsual
words_are_usual = record {
  unshown = unshown;
  held = λ view s heap hand found h.
      let fit = (fit_word (view.standing s.place) s.word (found.fits h)).generation in
      let most = heap.generations s.place h in
      others view s (unshown view hand) (omega arith)
      (λ e. absurd (true≢false (sym h ∙ hand.unheld s.place e)));
  others = others;
  passed = λ view s e past usual. (let most = usual.unpassed s.place s e refl refl in omega arith);
}
