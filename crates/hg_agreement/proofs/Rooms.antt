-- Charge and room of a state that agrees.
use Rattle.std.proofs.Common.{◌≡◌, ℕ, ◌*◌, ◌==◌, inl, inr, Bool, true, false, not, ◌&&◌, ◌||◌}
use Rattle.std.proofs.Common.{if◌then◌else◌, List, length, Option, Some, None, refl, sym, ap, ◌∙◌}
use Rattle.std.proofs.Common.{arith, nat_lt}
use Rattle.std.specs.List.{list_any, sum_by, range_with_len}
use Rattle.std.proofs.lemmas.Bool.{cases_Bool}
use Rattle.hg_size.specs.Sizes.{places_of}
use Rattle.hg_place.specs.Places.{page_of, index_of, segment_of, segment_of_page}
use Rattle.hg_place.specs.Standings.{is_home as at_home, standing_generation, standing_owner}
use Rattle.hg_machine.specs.Life.{Life, home, live, parted, is_home, owner_of, contents_of}
use Rattle.hg_machine.specs.State.{State, record_at, class_at, places_in}
use Rattle.hg_machine.specs.Holders.{is_number}
use Rattle.hg_machine.specs.Policy.{Policy, arena_of}
use Rattle.hg_machine.specs.Charge.{share, charge}
use Rattle.hg_machine.proofs.Suits.{suits_alike}
use Rattle.hg_machine.proofs.Enough.{sums, anys}
use Rattle.hg_machine.specs.Room.{suits, is_open_to, has_open, is_room, has_room}
use Rattle.hg_agreement.specs.Views.{View, Shown}
use Rattle.hg_agreement.specs.Agreement.{standing_by, Agrees}
use Rattle.hg_agreement.specs.Seen.{share_in, charge_in, places_of_view, is_open_to_in, has_open_in}
use Rattle.hg_agreement.specs.Seen.{is_room_in, has_room_in}

-- what a standing tells of the record
pub home_by : (g : ℕ) (l : Life) → at_home (standing_by g l) ≡ is_home l
home_by g home = refl
home_by g (live owner words) = refl
home_by g (parted owner words) = refl

pub owner_by : (g : ℕ) (l : Life) → standing_owner (standing_by g l) ≡ owner_of l
owner_by g home = refl
owner_by g (live owner words) = refl
owner_by g (parted owner words) = refl

pub generation_by : (g : ℕ) (l : Life) → standing_generation (standing_by g l) ≡ g
generation_by g home = refl
generation_by g (live owner words) = refl
generation_by g (parted owner words) = refl

pub same_places : (m : State) (view : View) (shown : Option Shown) → Agrees m view shown
    → places_in m ≡ places_of_view view
same_places m view shown agrees =
    ap (range_with_len 0) (agrees.sound.whole.records
    ∙ ap (λ p. length p.segments * 8192) agrees.policy)

abbrev share_of : ℕ → Bool → Bool → ℕ → List ℕ → ℕ
share_of tenant held used owner words =
    if held && (used && owner == tenant) then 8 * length words else 0

shares : (m : State) (view : View) (shown : Option Shown) (tenant place : ℕ) → Agrees m view shown
    → share m view.worker tenant place ≡ share_in view tenant place
shares m view shown tenant place agrees =
    let r = record_at m place in
    ap (λ b. share_of tenant b (not (is_home r.life)) (owner_of r.life) (contents_of r.life))
    (agrees.holding (segment_of place))
    ∙ elim (cases_Bool (view.holds (segment_of place))) [
      | inl h ↦
          let b = view.holds (segment_of place) in
          let st = agrees.standings place h in
          ap (λ u. share_of tenant b u (owner_of r.life) (contents_of r.life))
          (ap not (sym (home_by r.generation r.life) ∙ ap at_home st))
          ∙ ap (λ o. share_of tenant b (not (at_home (view.standing place))) o (contents_of r.life))
          (sym (owner_by r.generation r.life) ∙ ap standing_owner st)
          ∙ ap (share_of tenant b (not (at_home (view.standing place)))
          (standing_owner (view.standing place))) (agrees.blocks place h)
      | inr f ↦
          ap (λ b. share_of tenant b (not (is_home r.life)) (owner_of r.life) (contents_of r.life))
          f
          ∙ sym (ap (λ b. share_of tenant b (not (at_home (view.standing place)))
          (standing_owner (view.standing place)) (view.block place)) f)
    ]

pub same_charge : (m : State) (view : View) (shown : Option Shown) (tenant : ℕ)
    → Agrees m view shown → charge m view.worker tenant ≡ charge_in view tenant
same_charge m view shown tenant agrees =
    sums (share m view.worker tenant) (share_in view tenant) (places_in m)
    (λ n. shares m view shown tenant n agrees)
    ∙ ap (sum_by (share_in view tenant)) (same_places m view shown agrees)

abbrev open_of : ℕ → ℕ → ℕ → Bool → Policy → Bool → Bool → ℕ → Bool
open_of arena size place held policy suited free generation =
    held
    && (is_number arena (arena_of policy (segment_of place))
    && (suited
    && (nat_lt (index_of place) (places_of size)
    && (free && not (free && generation == policy.max_generation)))))

once : (b c : Bool) → (b && not (b && c)) ≡ (b && not c)
once true c = refl
once false c = refl

abbrev open_now : ℕ → ℕ → ℕ → Bool → Policy → Bool → Bool → ℕ → Bool
open_now arena size place held policy suited free generation =
    held
    && (is_number arena (arena_of policy (segment_of place))
    && (suited
    && (nat_lt (index_of place) (places_of size)
    && (free && not (generation == policy.max_generation)))))

pub opens : (m : State) (view : View) (shown : Option Shown) (arena size : ℕ) (wanted : Option ℕ)
    (place : ℕ) → Agrees m view shown
    → is_open_to m view.worker arena size wanted place ≡ is_open_to_in view arena size wanted place
opens m view shown arena size wanted place agrees =
    let r = record_at m place in
    let b = view.holds (segment_of place) in
    let at : segment_of_page (page_of place) ≡ segment_of place = omega arith in
    ap (λ x. open_of arena size place x m.policy (suits (class_at m) size wanted (page_of place))
    (is_home r.life) r.generation) (agrees.holding (segment_of place))
    ∙ ap (λ p. open_of arena size place b p (suits (class_at m) size wanted (page_of place)) (is_home r.life)
    r.generation) agrees.policy
    ∙ ap (λ z. b && (is_number arena (arena_of view.policy (segment_of place)) && (suits
    (class_at m) size wanted (page_of place) && (nat_lt (index_of place) (places_of size) && z))))
    (once (is_home r.life) (r.generation == view.policy.max_generation))
    ∙ elim (cases_Bool b) [
      | inl h ↦
          let st = agrees.standings place h in
          ap (λ c. open_now arena size place b view.policy c (is_home r.life) r.generation)
          (sym (suits_alike (class_at m) view.class size wanted (page_of place)
          (λ q e. sym (agrees.classes q (ap view.holds (e ∙ at) ∙ h)))))
          ∙ ap (λ f. open_now arena size place b view.policy (suits view.class size wanted (page_of place)) f
          r.generation) (sym (home_by r.generation r.life) ∙ ap at_home st)
          ∙ ap (open_now arena size place b view.policy (suits view.class size wanted (page_of place))
          (at_home (view.standing place))) (sym (generation_by r.generation r.life)
          ∙ ap standing_generation st)
      | inr f ↦
          ap (λ x. open_now arena size place x view.policy (suits (class_at m) size wanted (page_of place))
          (is_home r.life) r.generation) f
          ∙ sym (ap (λ x. open_now arena size place x view.policy
          (suits view.class size wanted (page_of place)) (at_home (view.standing place))
          (standing_generation (view.standing place))) f)
    ]

has_opens : (m : State) (view : View) (shown : Option Shown) (arena size : ℕ) (wanted : Option ℕ)
    → Agrees m view shown → has_open m view.worker arena size wanted ≡ has_open_in view arena size
    wanted
has_opens m view shown arena size wanted agrees =
    anys (is_open_to m view.worker arena size wanted) (is_open_to_in view arena size wanted)
    (places_in m) (λ n. opens m view shown arena size wanted n agrees)
    ∙ ap (list_any (is_open_to_in view arena size wanted)) (same_places m view shown agrees)

pub same_room : (m : State) (view : View) (shown : Option Shown) (arena size place : ℕ)
    → Agrees m view shown → is_room m view.worker arena size place ≡ is_room_in view arena size
    place
same_room m view shown arena size place agrees =
    ap (λ b. b || (not (has_open m view.worker arena size (Some size)) && is_open_to m view.worker
    arena size None place)) (opens m view shown arena size (Some size) place agrees)
    ∙ ap (λ b. is_open_to_in view arena size (Some size) place || (not b && is_open_to m view.worker
    arena size None place)) (has_opens m view shown arena size (Some size) agrees)
    ∙ ap (λ b. is_open_to_in view arena size (Some size)
    place || (not (has_open_in view arena size (Some size)) && b))
    (opens m view shown arena size None place agrees)

pub same_some_room : (m : State) (view : View) (shown : Option Shown) (arena size : ℕ)
    → Agrees m view shown → has_room m view.worker arena size ≡ has_room_in view arena size
same_some_room m view shown arena size agrees =
    ap (λ b. b || has_open m view.worker arena size None)
    (has_opens m view shown arena size (Some size) agrees)
    ∙ ap (λ b. has_open_in view arena size (Some size) || b)
    (has_opens m view shown arena size None agrees)
