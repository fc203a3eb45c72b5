-- The segment that stands first has its words copied, and then comes over.
use Rattle.std.proofs.Common.{◌≡◌, ℕ, List, Some, sym, ap, subst, ◌∙◌}
use Rattle.std.specs.Option.{option_map}
use Rattle.std.proofs.lemmas.Option.{same_Some}
use Rattle.hg_place.specs.declared.plain.PlainWords.{PlainWords}
use Rattle.hg_place.specs.declared.standing.Standing.{Standing}
use Rattle.hg_place.specs.Plain.{plain_records}
use Rattle.hg_segment.specs.Copies.{Copies, IsRewrapped}
use Rattle.hg_segment.specs.Kept.{Kept}
use Rattle.hg_segment.specs.Parted.{plain_number}
use Rattle.hg_pool.specs.Moving.{CopiedIn, AreForFirst, IsMoved}
use Rattle.hg_pool.specs.Pooled.{Pooled, IsPooled, IsRight, first_in, without_segment}
use Rattle.hg_close.specs.Moved.{HasMoved}
use Rattle.hg_close.proofs.First.{first_of, first_then, none_replaced, some_replaced, without_then}
use Rattle.hg_close.proofs.Founds.{mapped_some}

module _ {S : Type 0} (number : S → ℕ) where
  -- it is there
  pub first_pooled : (pool : Pooled S) (n : ℕ)
      → option_map (λ (one : Kept S). number one.slots) (first_in pool) ≡ Some n
      → IsPooled number pool n
  first_pooled pool n first =
      let m = mapped_some (λ (one : Kept S). number one.slots) (first_in pool) n first in
      (m.0, first_of number pool m.0 n m.1 m.2)

  module _ (records : S → List Standing) {shows : S → ℕ → ℕ → Type 0}
      {steps : S → ℕ → ℕ → ℕ → S → Type 0} (n : ℕ) (old mid : Pooled S)
      (words copy : PlainWords)
      (first : option_map (λ (one : Kept S). number one.slots) (first_in old) ≡ Some n)
      (ready : words.segment ≡ n)
      (copied : CopiedIn number records shows steps n old mid words copy)
      (same_number : number copied.after.slots ≡ number copied.before.slots) where
    abbrev before : Kept S
    before = copied.before

    one_first : (one : Kept S) × (first_in old ≡ Some one) × (number one.slots ≡ n)
    one_first = mapped_some (λ (one : Kept S). number one.slots) (first_in old) n first

    same_one : one_first.0 ≡ before
    same_one =
        same_Some one_first.0 before
        (sym (first_of number old one_first.0 n one_first.1 one_first.2) ∙ copied.there)

    before_first : first_in old ≡ Some before
    before_first = one_first.1 ∙ ap Some same_one

    before_numbered : number before.slots ≡ n
    before_numbered = ap (λ (k : Kept S). number k.slots) (sym same_one) ∙ one_first.2

    after_numbered : number copied.after.slots ≡ n
    after_numbered = same_number ∙ before_numbered

    after_first : first_in mid ≡ Some copied.after
    after_first =
        ap first_in copied.now ∙ first_then number old before copied.after n before_first
        before_numbered

    -- the words are for it
    pub copy_numbered : plain_number copy ≡ n
    copy_numbered = copied.number_is ∙ ready

    pub for_first : AreForFirst number records plain_number plain_records mid copy
    for_first = record {
      one = copied.after;
      first = after_first;
      number_is = copy_numbered ∙ sym after_numbered;
      records_are = copied.records_are ∙ sym copied.same;
    }

    -- nothing but its slot words is another
    rest_of : (now : Kept PlainWords) → IsRewrapped copied.after now → IsRewrapped before now
    rest_of now rest = record {
      arena = rest.arena ∙ ap (λ (k : Kept S). k.arena) copied.rest;
      greatest = rest.greatest ∙ ap (λ (k : Kept S). k.greatest) copied.rest;
      words = rest.words ∙ ap (λ (k : Kept S). k.words) copied.rest;
      classes = rest.classes ∙ ap (λ (k : Kept S). k.classes) copied.rest;
      lists = rest.lists ∙ ap (λ (k : Kept S). k.lists) copied.rest;
    }

    pub has_moved : (new : Pooled S) (to to' : Pooled PlainWords) → IsRight number old
        → IsMoved number copy mid new to to' → HasMoved number records shows steps n old new to to'
    has_moved new to to' right moved =
        let same : moved.one ≡ copied.after =
        same_Some moved.one copied.after (sym moved.first ∙ after_first) in
        let slots = moved.slots_are in
        record {
          one = before;
          now = moved.now;
          right = right;
          first = before_first;
          numbered = before_numbered;
          plain = record {
            number_is = ap plain_number slots ∙ copy_numbered ∙ sym before_numbered;
            records_are = ap plain_records slots ∙ copied.records_are;
            words_before = words;
            seat_after = copied.after.slots;
            copied = subst (λ (to : PlainWords).
                Copies records shows steps 8192 before.slots words copied.after.slots to)
                (sym slots) copied.copied;
            rest = rest_of moved.now (subst (λ k. IsRewrapped k moved.now) same moved.rest);
          };
          left = moved.left
              ∙ ap (without_segment number mid)
              (ap (λ (k : Kept S). number k.slots) same ∙ after_numbered)
              ∙ ap (λ p. without_segment number p n) copied.now
              ∙ without_then number old copied.after n after_numbered;
          orphan = λ some. moved.orphan (λ none. some_replaced number old.orphans copied.after n some
              (sym (ap (λ (p : Pooled S). p.orphans) copied.now) ∙ none));
          fresh = λ none. moved.fresh (ap (λ (p : Pooled S). p.orphans) copied.now
              ∙ none_replaced number old.orphans copied.after n none);
        }
