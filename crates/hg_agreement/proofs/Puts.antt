-- Another record at one place, in the state and in what a worker has.
use Rattle.std.proofs.Common.{◌≡◌, ℕ, ◌==◌, ◌<◌, inl, inr, true, if◌then◌else◌, List, length, set}
use Rattle.std.proofs.Common.{Option, Some, None, IfSome, refl, sym, ap, subst, ◌∙◌}
use Rattle.std.proofs.lemmas.Bool.{cases_eq, eq-eqb, ne_eqb}
use Rattle.std.proofs.lemmas.Grind.{get_or-set_at}
use Rattle.std.proofs.lemmas.List.{get_or-set_other}
use Rattle.hg_place.specs.declared.Place.{Place}
use Rattle.hg_place.specs.Places.{number_of}
use Rattle.hg_machine.specs.Life.{Life, home, live, parted, Record, never_used, is_live, owner_of}
use Rattle.hg_machine.specs.Life.{contents_of}
use Rattle.hg_machine.specs.State.{State, record_at, with_record}
use Rattle.hg_machine.specs.Soundness.{IsSound}
use Rattle.hg_machine.specs.Changes.{write, with_life}
use Rattle.hg_machine.proofs.Allowed.{IsAllowed, allowed}
use Rattle.hg_machine.proofs.Preserves.{live_within, write_home}
use Rattle.hg_place.specs.declared.standing.Standing.{Standing}
use Rattle.hg_agreement.specs.Views.{View, Shown, slot_shown}
use Rattle.hg_agreement.specs.Agreement.{standing_by, standing_of, Agrees}
use Rattle.hg_machine.specs.Shown.{IsShownBy}
use Rattle.hg_agreement.specs.Seen.{IsShownAt}
use Rattle.hg_agreement.specs.Changed.{put, written}
use Rattle.hg_agreement.specs.Ties.{WriteIsTied}
use Rattle.hg_agreement.proofs.Sees.{same_denial}
use Rattle.hg_agreement.proofs.Frames.{served_follows}
use Rattle.hg_agreement.proofs.Reading.{reached}
use Rattle.hg_place.specs.declared.Right.TheVariants as right
use Rattle.hg_machine.specs.declared.Event.TheVariants as event
use Rattle.hg_machine.specs.declared.Answer.TheVariants as answer

pub at_place : {X : Type 0} (f : ℕ → X) (x : X) (q p : ℕ) → q ≡ p → x ≡ (if q == p then x else f q)
at_place f x q p e = sym (ap (λ b. if b then x else f q) (eq-eqb q p e))

pub off_place : {X : Type 0} (f : ℕ → X) (x : X) (q p : ℕ) → (q ≡ p → ⊥)
    → f q ≡ (if q == p then x else f q)
off_place f x q p ne = sym (ap (λ b. if b then x else f q) (ne_eqb q p ne))

pub record_here : (m : State) (p q : ℕ) (r : Record) → p < length m.records → q ≡ p
    → record_at (with_record m p r) q ≡ r
record_here m p q r below e = get_or-set_at m.records p q r never_used e below

pub record_there : (m : State) (p q : ℕ) (r : Record) → (q ≡ p → ⊥)
    → record_at (with_record m p r) q ≡ record_at m q
record_there m p q r ne = get_or-set_other m.records p q r never_used ne

-- with the record that the view puts there, the state agrees
pub put_agrees : (m : State) (view : View) (shown left : Option Shown) (p : ℕ) (r : Record)
    (standing : Standing) (words : List ℕ) → Agrees m view shown → p < length m.records
    → IsSound (with_record m p r) → standing_of r ≡ standing → contents_of r.life ≡ words
    → IfSome left (λ s. IsShownBy (record_at (with_record m p r) s.place) s.word)
    → Agrees (with_record m p r) (put view p standing words) left
put_agrees m view shown left p r standing words agrees below sound stands has word = record {
  sound = sound;
  policy = agrees.policy;
  holding = agrees.holding;
  classes = agrees.classes;
  standings = λ q h. elim (cases_eq q p) [
    | inl e ↦ ap standing_of (record_here m p q r below e) ∙ stands
        ∙ at_place view.standing standing q p e
    | inr ne ↦ ap standing_of (record_there m p q r ne) ∙ agrees.standings q h
        ∙ off_place view.standing standing q p ne
  ];
  blocks = λ q h. elim (cases_eq q p) [
    | inl e ↦ ap (λ x. contents_of x.life) (record_here m p q r below e) ∙ has
        ∙ at_place view.block words q p e
    | inr ne ↦ ap (λ x. contents_of x.life) (record_there m p q r ne) ∙ agrees.blocks q h
        ∙ off_place view.block words q p ne
  ];
  hand = agrees.hand;
  word = word;
}

written_standing : (g : ℕ) (l : Life) (index value : ℕ) → standing_by g (write l index value)
    ≡ standing_by g l
written_standing g home index value = refl
written_standing g (live owner words) index value = refl
written_standing g (parted owner words) index value = refl

written_words : (l : Life) (index value : ℕ) → is_live l ≡ true → contents_of (write l index value)
    ≡ set (contents_of l) index value
written_words home index value e = absurd (cc)
written_words (live owner words) index value e = refl
written_words (parted owner words) index value e = absurd (cc)

written_live : (l : Life) (index value : ℕ) → is_live (write l index value) ≡ is_live l
written_live home index value = refl
written_live (live owner words) index value = refl
written_live (parted owner words) index value = refl

written_owner : (l : Life) (index value : ℕ) → owner_of (write l index value) ≡ owner_of l
written_owner home index value = refl
written_owner (live owner words) index value = refl
written_owner (parted owner words) index value = refl

written_shown : (m : State) (view : View) (shown : Option Shown) (place : Place) (index value : ℕ)
    → Agrees m view shown → IsShownAt view place shown → number_of place < length m.records
    → IfSome shown (λ s. IsShownBy
    (record_at (with_life m (number_of place)
    (write (record_at m (number_of place)).life index value)) s.place) s.word)
written_shown m view None place index value agrees at below = agrees.word
written_shown m view (Some shown) place index value agrees at below =
    let p = number_of place in
    let r = record_at m p in
    let now : Record = record { generation = r.generation; life = write r.life index value } in
    let here : IsShownBy r shown.word =
    subst (λ n. IsShownBy (record_at m n) shown.word) at agrees.word in
    subst (λ x. IsShownBy x shown.word) (sym (record_here m p shown.place now below at)) (record {
      generation = here.generation;
      live = here.live ∙ sym (written_live r.life index value);
      owner = λ used. here.owner (sym (write_home r.life index value) ∙ used)
          ∙ sym (written_owner r.life index value);
    })

pub write_is_tied : WriteIsTied
write_is_tied view shown actor handle index value below at none m agrees =
    let p = number_of handle.place in
    let life = (record_at m p).life in
    let g = (record_at m p).generation in
    let r = reached view (slot_shown shown) actor.0 right.Write handle index none in
    let ok : IsAllowed m handle.place handle.generation =
    allowed m actor.0 right.Write handle.place handle.generation
    (same_denial m view shown actor.0 right.Write handle.place handle.generation agrees at
    ∙ r.undenied) in
    let inside = live_within m p ok.alive in
    let now : Record = record { generation = g; life = write life index value } in
    served_follows m view (written view p index value) shown shown
    (event.Write actor handle index value) answer.Done below agrees at none refl
    (λ sound. put_agrees m view shown shown p now (view.standing p) (set (view.block p) index value)
    agrees inside sound
    (written_standing g life index value ∙ agrees.standings p r.held)
    (written_words life index value ok.alive
    ∙ ap (λ ws. set ws index value) (agrees.blocks p r.held))
    (written_shown m view shown handle.place index value agrees at inside))
