-- A record by what is told of its place, and a state with another record at one place.
use Rattle.std.proofs.Common.{◌≡◌, ℕ, Bool, not, List, slice_set, refl, sym, ap, ◌∙◌}
use Rattle.std.specs.Prelude.{Option, Some, None, replicate}
use Rattle.std.proofs.lemmas.List.{set-get_or}
use Rattle.hg_place.specs.declared.Place.{Place}
use Rattle.hg_place.specs.declared.Handle.{Handle}
use Rattle.hg_place.specs.declared.standing.Standing.{Standing}
use Rattle.hg_place.specs.declared.standing.Standing.TheVariants.{Open}
use Rattle.hg_place.specs.Places.{number_of, page_number}
use Rattle.hg_place.specs.Slots.{slot_in}
use Rattle.hg_place.specs.Standings.{standing_generation}
use Rattle.hg_machine.specs.Changes.{with_life, given_out}
use Rattle.hg_machine.specs.Life.{Life, home, live, parted, Record, never_used, is_live}
use Rattle.hg_machine.specs.Life.{contents_of}
use Rattle.hg_machine.specs.State.{State, record_at, class_at}
use Rattle.hg_agreement.specs.Agreement.{standing_by, standing_of}
use Rattle.hg_agreement.specs.Holdings.{has}
use Rattle.hg_agreement.specs.Witness.{held_life}

-- what is told of a place that stands so, with this word and these words in its block
abbrev pub told : Standing → ℕ → List ℕ → Record
told st word words = record {
  generation = standing_generation st;
  life = held_life (not (slot_in word).live) st words;
}

pub told_alike : {st other : Standing} {word seen : ℕ} {words blocks : List ℕ} → st ≡ other
    → word ≡ seen → words ≡ blocks → told st word words ≡ told other seen blocks
told_alike e f g = rw (e, f, g)

-- a record is told by its standing, its words and whether it lives

told_by : (g : ℕ) (l : Life) (alive : Bool) → alive ≡ is_live l
    → held_life (not alive) (standing_by g l) (contents_of l) ≡ l
told_by g home alive e = refl
told_by g (live o ws) alive e = ap (λ b. held_life (not b) (Open g o) ws) e
told_by g (parted o ws) alive e = ap (λ b. held_life (not b) (Open g o) ws) e

told_generation : (g : ℕ) (l : Life) → standing_generation (standing_by g l) ≡ g
told_generation g home = refl
told_generation g _ = refl

pub told_is : (r : Record) (st : Standing) (word : ℕ) (words : List ℕ) → standing_of r ≡ st
    → contents_of r.life ≡ words → (slot_in word).live ≡ is_live r.life → told st word words ≡ r
told_is r st word words stands has alive =
    ap (λ s. told s word words) (sym stands)
    ∙ ap (told (standing_of r) word) (sym has)
    ∙ ap (λ l. record { generation = standing_generation (standing_of r); life = l })
    (told_by r.generation r.life (slot_in word).live alive)
    ∙ ap (λ g. record { generation = g; life = r.life }) (told_generation r.generation r.life)

-- one state is another but for the record of a place, which is this one, and the class of its page
pub record IsChangedAt (m now : State) (place : Place) (entry : Record) : Type 0 where
  pub class : Option ℕ
  pub is :
      now
      ≡ record m {
        records = slice_set m.records (number_of place) entry;
        classes = slice_set m.classes (page_number place) class;
      }

-- as it is, with another life at the place, and with a place given out

pub same_changed : (m : State) (place : Place)
    → IsChangedAt m m place (record_at m (number_of place))
same_changed m place = record {
  class = class_at m (page_number place);
  is =
      let r = set-get_or m.records (number_of place) never_used in
      let c = set-get_or m.classes (page_number place) None in
      let s : record m { records = m.records } ≡ record m {
        records = slice_set m.records (number_of place) (record_at m (number_of place));
        classes = slice_set m.classes (page_number place) (class_at m (page_number place));
      } = cc in
      s;
}

pub life_changed : (m : State) (place : Place) (life : Life)
    → IsChangedAt m (with_life m (number_of place) life) place
    (record { generation = (record_at m (number_of place)).generation; life = life })
life_changed m place life = record {
  class = class_at m (page_number place);
  is = let c = set-get_or m.classes (page_number place) None in cc;
}

pub given_changed : (m : State) (actor : ℕ) (handle : Handle) (size : ℕ)
    → IsChangedAt m (given_out m actor handle size) handle.place
    (record { generation = handle.generation; life = live actor (replicate size 0) })
given_changed m actor handle size = record { class = Some size; is = refl }
