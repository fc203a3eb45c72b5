-- What a slot word shows stays through each kind of step.
use Rattle.std.proofs.Common.{◌≡◌, inl, inr, ℕ, true, false, get_or, set, if◌then◌else◌}
use Rattle.std.proofs.Common.{refl, sym, ap, subst, ◌∙◌, ◌==◌}
use Rattle.std.proofs.lemmas.Bool.{cases_Bool, and_parts, true≢false}
use Rattle.hg_place.specs.Places.{segment_of}
use Rattle.hg_machine.specs.declared.Event.{Event}
use Rattle.hg_machine.specs.declared.Answer.{Answer}
use Rattle.hg_machine.specs.Life.{Life, home, live, parted, Record, never_used}
use Rattle.hg_machine.specs.Life.{is_parted, owner_of}
use Rattle.hg_machine.specs.State.{State, record_at}
use Rattle.hg_machine.specs.Changes.{write}
use Rattle.hg_machine.specs.Shown.{IsShownBy}
use Rattle.hg_machine.specs.Sweeps.{is_sent_to, settled}
use Rattle.hg_machine.proofs.Keeps.{set_cases}
use Rattle.hg_machine.proofs.Preserves.{write_home}
use Rattle.hg_machine.proofs.Takes.{settled_at}
use Rattle.hg_laws.proofs.LifeChanges.{write_live, parted_unlive}
use Rattle.hg_frame.specs.SlotWords.{changes_word, WordsStay}
use Rattle.hg_frame.proofs.StepKinds.{living, Sets, Kind, quiet, delivers, puts, parts, settles}
use Rattle.hg_frame.proofs.StepKinds.{kind_of}

write_owner : (l : Life) (index value : ℕ) → owner_of (write l index value) ≡ owner_of l
write_owner home index value = refl
write_owner (live owner words) index value = refl
write_owner (parted owner words) index value = refl

written_shows : (r : Record) (index value word : ℕ) → IsShownBy r word
    → IsShownBy (living r (write r.life index value)) word
written_shows r index value word h = record {
  generation = h.generation;
  live = h.live ∙ sym (write_live r.life index value);
  owner = λ used.
      h.owner (sym (write_home r.life index value) ∙ used) ∙ sym (write_owner r.life index value);
}

home_shows : (r : Record) (word : ℕ) → is_parted r.life ≡ true → IsShownBy r word
    → IsShownBy (living r home) word
home_shows r word away h = record {
  generation = h.generation;
  live = h.live ∙ parted_unlive r.life away;
  owner = λ used. absurd (true≢false used);
}

settled_shows : (s : State) (g q word : ℕ) → IsShownBy (record_at s q) word
    → IsShownBy (settled s g q) word
settled_shows s g q word h =
    elim (cases_Bool (is_sent_to s g q)) as (λ _. IsShownBy (settled s g q) word) [
      | inl sent ↦
          let away =
          (and_parts (is_parted (record_at s q).life) _
          (and_parts (segment_of q == g) _ sent).1).0 in
          subst (λ b. IsShownBy (if b then living (record_at s q) home else record_at s q) word)
          (sym sent) (home_shows (record_at s q) word away h)
      | inr kept ↦
          subst (λ b. IsShownBy (if b then living (record_at s q) home else record_at s q) word)
          (sym kept) h
    ]

-- a record that was set at a place whose word the event doesn't change was written into
set_shows : (s : State) (e : Event) (a : Answer) (p q word : ℕ) (r : Record) → Sets s e a p r
    → changes_word e a q ≡ false
    → IsShownBy (record_at s q) word → IsShownBy (get_or (set s.records p r) q never_used) word
set_shows s e a p q word r sets other h =
    elim (set_cases s.records p q r never_used) as
    (λ _. IsShownBy (get_or (set s.records p r) q never_used) word) [
      | inl at ↦ elim sets as (λ _. IsShownBy (get_or (set s.records p r) q never_used) word) [
        | inl changed ↦ absurd (true≢false (sym changed ∙ ap (changes_word e a) (sym at.0) ∙ other))
        | inr wrote ↦
            subst (λ x. IsShownBy x word) (sym (at.1 ∙ wrote.2))
            (written_shows (record_at s p) wrote.0 wrote.1 word
            (subst (λ n. IsShownBy (record_at s n) word) at.0 h))
      ]
      | inr same ↦ subst (λ x. IsShownBy x word) (sym same) h
    ]

kind_shows : (s : State) (w : ℕ) (e : Event) (a : Answer) (new : State) (q word : ℕ)
    → changes_word e a q ≡ false → IsShownBy (record_at s q) word → Kind s w e a new
    → IsShownBy (record_at new q) word
kind_shows s w e a new q word other h (quiet same hands) =
    subst (λ rs. IsShownBy (get_or rs q never_used) word) (sym same) h
kind_shows s w e a new q word other h (delivers same hands is) =
    subst (λ rs. IsShownBy (get_or rs q never_used) word) (sym same) h
kind_shows s w e a new q word other h (puts p r now hands was is sets) =
    subst (λ rs. IsShownBy (get_or rs q never_used) word) (sym now)
    (set_shows s e a p q word r sets other h)
kind_shows s w e a new q word other h (parts p now hands alive empty changed) =
    subst (λ rs. IsShownBy (get_or rs q never_used) word) (sym now)
    (set_shows s e a p q word _ (inl changed) other h)
kind_shows s w e a new q word other h (settles g now hands is) =
    subst (λ rs. IsShownBy (get_or rs q never_used) word) (sym now)
    (subst (λ x. IsShownBy x word) (sym (settled_at s g q)) (settled_shows s g q word h))

pub words_stay : WordsStay
words_stay s w e a new q word other h shown =
    kind_shows s w e a new q word other shown (kind_of s w e a new h)
