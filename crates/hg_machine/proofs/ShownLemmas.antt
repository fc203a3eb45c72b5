-- What a word shows: where a slot isn't live its owner doesn't count.
use Rattle.std.proofs.Common.{◌≡◌, ℕ, inl, inr, Bool, true, false, Option, refl, sym, ap, ◌∙◌}
use Rattle.std.proofs.lemmas.Bool.{cases_Bool}
use Rattle.hg_place.specs.declared.Right.{Right}
use Rattle.hg_place.specs.Places.{number_of}
use Rattle.hg_place.specs.Slots.{Slot, slot_in}
use Rattle.hg_machine.specs.declared.Rule.{Rule}
use Rattle.hg_machine.specs.Policy.{Policy}
use Rattle.hg_machine.specs.Life.{Life, home, live, parted, Record, is_home, is_live, owner_of}
use Rattle.hg_machine.specs.State.{record_at}
use Rattle.hg_machine.specs.Denial.{denial_on}
use Rattle.hg_machine.specs.Shown.{Shows, WordsDecide, ShownRecordsDecide, OwnWordsShow, OneWordOneBlock}
use Rattle.hg_machine.proofs.Looks.{words_are_read}

-- the verdict by the parts of a slot
abbrev verdict_by : Policy → ℕ → Right → ℕ → ℕ → ℕ → ℕ → Bool → Option Rule
verdict_by p actor right segment expected g owner alive = denial_on p actor right segment expected (record { generation = g; owner = owner; live = alive })

dead_owner : (p : Policy) (actor : ℕ) (right : Right) (segment expected g owner other : ℕ) → verdict_by p actor right segment expected g owner false ≡ verdict_by p actor right segment expected g other false
dead_owner p actor right segment expected g owner other = refl

shown : (p : Policy) (actor : ℕ) (right : Right) (segment expected : ℕ) (slot : Slot) (r : Record) → Shows slot r
    → verdict_by p actor right segment expected slot.generation slot.owner slot.live ≡ verdict_by p actor right segment expected r.generation (owner_of r.life) (is_live r.life)
shown p actor right segment expected slot r h =
    ap (λ g. verdict_by p actor right segment expected g slot.owner slot.live) h.generation
    ∙ ap (λ b. verdict_by p actor right segment expected r.generation slot.owner b) h.live
    ∙ elim (cases_Bool (is_live r.life)) as (λ _. verdict_by p actor right segment expected r.generation slot.owner (is_live r.life) ≡ verdict_by p actor right segment expected r.generation (owner_of r.life) (is_live r.life)) [
      | inl t ↦ ap (λ o. verdict_by p actor right segment expected r.generation o (is_live r.life)) (h.owner t)
      | inr f ↦
          ap (λ b. verdict_by p actor right segment expected r.generation slot.owner b) f
          ∙ dead_owner p actor right segment expected r.generation slot.owner (owner_of r.life)
          ∙ sym (ap (λ b. verdict_by p actor right segment expected r.generation (owner_of r.life) b) f)
    ]

pub words_decide : WordsDecide
words_decide s actor right place expected word h = shown s.policy actor right place.segment expected (slot_in word) (record_at s (number_of place)) h

unhome : (l : Life) → is_live l ≡ true → is_home l ≡ false
unhome home e = absurd (cc)
unhome (live owner words) e = refl
unhome (parted owner words) e = refl

pub shown_records_decide : ShownRecordsDecide
shown_records_decide r word h = record { generation = h.generation; live = h.live; owner = λ alive. h.owner (unhome r.life alive) }

pub own_words_show : OwnWordsShow
own_words_show r owner own fits =
    let slot = words_are_read r.generation owner (is_live r.life) fits in
    record {
      generation = ap (λ x. x.generation) slot;
      live = ap (λ x. x.live) slot;
      owner = λ block. ap (λ x. x.owner) slot ∙ own block;
    }

pub one_word_one_block : OneWordOneBlock
one_word_one_block r q word some other a b = record {
  generation = sym a.generation ∙ b.generation;
  live = sym a.live ∙ b.live;
  owner = sym (a.owner some) ∙ b.owner other;
}
