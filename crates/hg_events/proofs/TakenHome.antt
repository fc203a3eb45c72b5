-- A place of a segment over plain words that is parted comes home.
use Rattle.std.proofs.Common.{◌≡◌, ℕ, ◌/◌, ◌%◌, ◌==◌, ◌<◌, Bool, true, false, not, ◌||◌, List, []}
use Rattle.std.proofs.Common.{◌∷◌, slice_index_or, refl, sym, ap, ◌∙◌, arith, inl, inr, ⊎_elim}
use Rattle.std.proofs.Common.{Some}
use Rattle.std.specs.List.{list_any}
use Rattle.std.proofs.lemmas.Bool.{cases_eq, eq-eqb, ne_eqb, true≢false}
use Rattle.std.proofs.lemmas.List.{get_or-set_other, get_or-set_same}
use Rattle.hg_place.specs.declared.plain.PlainWords.{PlainWords}
use Rattle.hg_place.specs.declared.standing.Standing.{Standing}
use Rattle.hg_place.specs.declared.standing.Standing.TheVariants.{Home, Open}
use Rattle.hg_place.specs.Plain.{plain_records, plain_words}
use Rattle.hg_place.specs.Slots.{slot_in}
use Rattle.hg_place.specs.Lives.{IsSlotWord, word_life}
use Rattle.hg_place.specs.Standings.{standing_at, standing_generation, is_home as is_at_home}
use Rattle.hg_segment.specs.Kept.{Kept, IsFixed, slot}
use Rattle.hg_segment.specs.Blocks.{block_at}
use Rattle.hg_segment.specs.Parted.{plain_number}
use Rattle.hg_heap.specs.Taking.{WentHome, StayedAway}
use Rattle.hg_machine.specs.Life.{Record, is_parted}
use Rattle.hg_agreement.specs.Witness.{held_life}
use Rattle.hg_agreement.specs.Holdings.{block_by}
use Rattle.hg_agreement.specs.Parts.{plain_from, record_by}
use Rattle.hg_agreement.specs.TakenIn.{taken_in}
use Rattle.hg_agreement.proofs.Closes.{read_as, from_parts}
use Rattle.hg_parts.specs.Links.{IsPlainPut}
use Rattle.hg_parts.proofs.Links.{put_others}
use Rattle.hg_events.specs.Take.{plain_shows, plain_steps}

-- the block of the place is parted
abbrev pub IsPartedAt : Kept PlainWords → ℕ → Type 0
IsPartedAt one at = is_parted (record_by (Some (plain_from one)) at).life ≡ true

-- the same segment, in which these places are home in their generation, and the others as before
pub record AreHome (places : List ℕ) (one now : Kept PlainWords) : Type 0 where
  pub number : plain_number now.slots ≡ plain_number one.slots
  pub fixed : IsFixed one now
  pub records : (at : ℕ) → at < 8192 → record_by (Some (plain_from now)) at
      ≡ taken_in (list_any (λ n. n == at) places) (record_by (Some (plain_from one)) at)

-- a parted place is open, with a freed word
parted_by : (freed : Bool) (st : Standing) (words : List ℕ)
    → is_parted (held_life freed st words) ≡ true → (is_at_home st ≡ false) × (freed ≡ true)
parted_by freed (Home g) words e = absurd (cc)
parted_by true (Open g o) words e = (refl, refl)
parted_by false (Open g o) words e = absurd (cc)

freed_not : (b : Bool) → not b ≡ true → b ≡ false
freed_not true e = absurd (cc)
freed_not false e = refl

-- a live slot word is read so
pub live_read : (word : ℕ) → IsSlotWord word → word_life word ≡ 1 → (slot_in word).live ≡ true
live_read word is lives =
    ap (λ s. s.live) (ap (read_as word) (from_parts word (record {
      low = (let bits = is.1 in omega arith);
      unused = λ z. (let only = is.2 in let big = is.0 in let e = only (omega arith) in omega
          arith);
    })))
    ∙ eq-eqb (word % 2) 1 lives

-- it isn't passed over
pub not_away : (one now : Kept PlainWords) (page index : ℕ) → slot page index < 8192
    → IsPartedAt one (slot page index)
    → StayedAway plain_records plain_shows plain_steps page index one now → ⊥
not_away one now page index low parted away =
    let at = slot page index in
    let st = standing_at (plain_records one.slots) at in
    let word = slice_index_or (plain_words one.slots) at 0 in
    let both = parted_by (not (slot_in word).live) st
    (block_by st (block_at one.words one.classes (at / 512) (at % 512))) parted in
    ⊎_elim (λ still. true≢false (sym still.0 ∙ both.0))
    (λ live. true≢false (sym (live_read word (one.slots.fit at low).0
    (ap word_life (sym live.2) ∙ live.1)) ∙ freed_not (slot_in word).live both.1))
    away.passed

-- what is told of a place, by what it stands for
abbrev told : Standing → ℕ → List ℕ → Record
told st word words = record {
  generation = standing_generation st;
  life = held_life (not (slot_in word).live) st (block_by st words);
}

module _ (one now : Kept PlainWords) (page index : ℕ) (low : slot page index < 8192)
    (went : WentHome plain_records plain_shows plain_steps page index one now) where
  abbrev at : ℕ
  at = slot page index

  abbrev generation : ℕ
  generation = standing_generation (standing_at (plain_records one.slots) at)

  stands : standing_at (plain_records now.slots) at ≡ Home generation
  stands =
      ap (λ rs. standing_at rs at) went.took.home
      ∙ get_or-set_same (plain_records one.slots) at (Home generation) (Home 0)
      (let all = one.slots.all_records in omega (arith, low, all))

  here : record_by (Some (plain_from now)) at ≡ taken_in true (record_by (Some (plain_from one)) at)
  here =
      ap (λ st. told st (slice_index_or (plain_words now.slots) at 0)
      (block_at now.words now.classes (at / 512) (at % 512))) stands

  put : IsPlainPut one now at
  put = record {
    standings = λ other below ne. ap (λ rs. standing_at rs other) went.took.home
        ∙ get_or-set_other (plain_records one.slots) at other (Home generation) (Home 0) ne;
    word = went.took.word;
    words = went.took.step;
    blocks = λ p i low_p low_i ne out. ap (λ cs. block_at now.words cs p i) went.fixed.classes
        ∙ went.blocks p i low_p low_i out;
  }

  pub came_home : plain_number now.slots ≡ plain_number one.slots → AreHome (at ∷ []) one now
  came_home number = record {
    number = number;
    fixed = went.fixed;
    records = λ other below. elim (cases_eq at other) [
      | inl e ↦
          ap (record_by (Some (plain_from now))) (sym e) ∙ here
          ∙ ap (λ k. taken_in true (record_by (Some (plain_from one)) k)) e
          ∙ sym (ap (λ b. taken_in (b || false) (record_by (Some (plain_from one)) other))
          (eq-eqb at other e))
      | inr ne ↦
          put_others one now at put other below (λ e. ne (sym e))
          ∙ sym (ap (λ b. taken_in (b || false) (record_by (Some (plain_from one)) other))
          (ne_eqb at other ne))
    ];
  }
