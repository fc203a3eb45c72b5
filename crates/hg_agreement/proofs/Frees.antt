-- A Free, tied.
use Rattle.std.proofs.Common.{◌≡◌, ℕ, ◌-◌, ◌<◌, true, false, [], if◌then◌else◌, length, Option}
use Rattle.std.proofs.Common.{Some, None, refl, sym, ap, subst, ◌∙◌}
use Rattle.std.proofs.lemmas.Bool.{true≢false}
use Rattle.std.proofs.lemmas.Grind.{get_or-set_at}
use Rattle.hg_place.specs.Places.{number_of, segment_of}
use Rattle.hg_place.specs.Slots.{slot_in}
use Rattle.hg_machine.specs.Life.{Life, home, live, parted, Record, is_home, is_live, owner_of}
use Rattle.hg_machine.specs.Life.{contents_of}
use Rattle.hg_machine.specs.State.{record_at}
use Rattle.hg_machine.specs.Denial.{denial_on}
use Rattle.hg_machine.specs.Changes.{part}
use Rattle.hg_machine.proofs.Allowed.{IsAllowed, allowed, no_denial}
use Rattle.hg_machine.proofs.Preserves.{live_within}
use Rattle.hg_place.specs.declared.standing.Standing.TheVariants.{Home}
use Rattle.hg_agreement.specs.Views.{Shown}
use Rattle.hg_agreement.specs.Agreement.{standing_of}
use Rattle.hg_machine.specs.Shown.{IsShownBy}
use Rattle.hg_agreement.specs.Changed.{freed, taken_in_hand}
use Rattle.hg_agreement.specs.Ties.{FreeHereIsTied, FreeAwayIsTied}
use Rattle.hg_agreement.proofs.Sees.{segment_is, same_denial}
use Rattle.hg_machine.proofs.Looks.{live_used}
use Rattle.hg_agreement.proofs.Frames.{served_follows}
use Rattle.hg_agreement.proofs.Puts.{put_agrees, record_here, record_there}
use Rattle.hg_agreement.proofs.Closes.{closed}
use Rattle.hg_place.specs.declared.Right.TheVariants as right
use Rattle.hg_machine.specs.declared.Event.TheVariants as event
use Rattle.hg_machine.specs.declared.Answer.TheVariants as answer

-- a record of that generation and owner that isn't live is shown by the word before
ended_shown : (r now : Record) (word : ℕ) → IsShownBy r word → is_live r.life ≡ true
    → now.generation ≡ r.generation → is_live now.life ≡ false
    → (is_home now.life ≡ false → owner_of now.life ≡ owner_of r.life)
    → IsShownBy now (word - 1)
ended_shown r now word here alive g dead same =
    let c = closed word (here.live ∙ alive) in
    record {
      generation = ap (λ s. s.generation) c ∙ here.generation ∙ sym g;
      live = ap (λ s. s.live) c ∙ sym dead;
      owner = λ used. ap (λ s. s.owner) c ∙ here.owner (live_used r.life alive) ∙ sym (same used);
    }

pub free_here_is_tied : FreeHereIsTied
free_here_is_tied view word actor handle below none held m agrees =
    let p = number_of handle.place in
    let r = record_at m p in
    let shown : Option Shown = Some (record { place = p; word = word }) in
    let d = no_denial (denial_on view.policy actor.0 right.Free handle.place.segment
    handle.generation (slot_in word)) _ none in
    let ok : IsAllowed m handle.place handle.generation =
    allowed m actor.0 right.Free handle.place handle.generation
    (same_denial m view shown actor.0 right.Free handle.place handle.generation agrees refl
    ∙ d.0) in
    let inside = live_within m p ok.alive in
    let now : Record = record { generation = r.generation; life = home } in
    served_follows m view (freed view p handle.generation) shown
    (Some (record { place = p; word = word - 1 })) (event.Free actor handle) answer.Done below
    agrees refl none
    (sym (ap (λ b. if b then answer.Done else answer.Parted) (agrees.holding handle.place.segment
    ∙ held)))
    (λ sound. put_agrees m view shown (Some (record { place = p; word = word - 1 })) p now
    (Home handle.generation) [] agrees inside sound
    (ap Home ok.generation) refl
    (subst (λ x. IsShownBy x (word - 1)) (sym (record_here m p p now inside refl))
    (ended_shown r now word agrees.word ok.alive refl refl (λ used. absurd (true≢false used)))))

part_live : (l : Life) → is_live (part l) ≡ false
part_live home = refl
part_live (live owner words) = refl
part_live (parted owner words) = refl

part_owner : (l : Life) → owner_of (part l) ≡ owner_of l
part_owner home = refl
part_owner (live owner words) = refl
part_owner (parted owner words) = refl

pub free_away_is_tied : FreeAwayIsTied
free_away_is_tied view word actor handle below none away m agrees =
    let p = number_of handle.place in
    let w = view.worker in
    let r = record_at m p in
    let shown : Option Shown = Some (record { place = p; word = word }) in
    let d = no_denial (denial_on view.policy actor.0 right.Free handle.place.segment
    handle.generation (slot_in word)) _ none in
    let ok : IsAllowed m handle.place handle.generation =
    allowed m actor.0 right.Free handle.place handle.generation
    (same_denial m view shown actor.0 right.Free handle.place handle.generation agrees refl
    ∙ d.0) in
    let inside = live_within m p ok.alive in
    let now : Record = record { generation = r.generation; life = part r.life } in
    let apart : (q : ℕ) → view.holds (segment_of q) ≡ true → q ≡ p → ⊥ = λ q h e.
    true≢false (sym h ∙ ap (λ n. view.holds (segment_of n)) e
    ∙ ap view.holds (segment_is handle.place) ∙ away) in
    let hands : w < length m.hands =
    subst (λ n. w < n) (sym (agrees.sound.whole.hands ∙ ap (λ t. t.workers) agrees.policy))
    below in
    served_follows m view (taken_in_hand view p handle.generation) shown
    (Some (record { place = p; word = word - 1 })) (event.Free actor handle) answer.Parted below
    agrees refl none
    (sym (ap (λ b. if b then answer.Done else answer.Parted) (agrees.holding handle.place.segment
    ∙ away)))
    (λ sound. record {
      sound = sound;
      policy = agrees.policy;
      holding = agrees.holding;
      classes = agrees.classes;
      standings = λ q h. ap standing_of (record_there m p q now (apart q h)) ∙ agrees.standings q h;
      blocks = λ q h. ap (λ x. contents_of x.life) (record_there m p q now (apart q h))
          ∙ agrees.blocks q h;
      hand = get_or-set_at m.hands w w (Some p) None refl hands;
      word = subst (λ x. IsShownBy x (word - 1)) (sym (record_here m p p now inside refl))
          (ended_shown r now word agrees.word ok.alive refl (part_live r.life)
          (λ used. part_owner r.life));
    })
