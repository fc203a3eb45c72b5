-- What a state that agrees says of a block, by the word shown.
use Rattle.std.proofs.Common.{◌≡◌, ℕ, ◌==◌, Bool, true, false, not, ◌∷◌, [], Option, Some, None}
use Rattle.std.proofs.Common.{refl, sym, ap, subst, ◌∙◌, arith, is_some, max}
use Rattle.hg_machine.proofs.Allowed.{parts}
use Rattle.hg_agreement.specs.Ties.{UndeniedIsLive}
use Rattle.hg_place.specs.declared.Place.{Place}
use Rattle.hg_place.specs.declared.Right.{Right}
use Rattle.hg_place.specs.Places.{number_of, segment_of}
use Rattle.hg_place.specs.Slots.{Slot, slot_in, unused_slot}
use Rattle.hg_machine.specs.declared.Rule.{Rule}
use Rattle.hg_machine.specs.First.{first_of}
use Rattle.hg_machine.specs.Policy.{Policy, is_tenant, arena_of, grants, forbids}
use Rattle.hg_machine.specs.Life.{is_live, owner_of}
use Rattle.hg_machine.specs.State.{State, record_at}
use Rattle.hg_machine.specs.Denial.{denial_on, denial, slot_at, is_admitted}
use Rattle.hg_agreement.specs.Views.{View, Shown, slot_shown}
use Rattle.hg_agreement.specs.Agreement.{Agrees}
use Rattle.hg_machine.proofs.Looks.{live_used}
use Rattle.hg_machine.specs.Shown.{IsShownBy}
use Rattle.hg_agreement.specs.Seen.{IsShownAt}
use Rattle.hg_machine.specs.declared.Rule.TheVariants as rule

-- a verdict by the arena of the segment and the parts of a slot
abbrev on : Policy → ℕ → Right → ℕ → Option ℕ → ℕ → ℕ → Bool → Option Rule
on policy actor right expected arena generation owner alive =
    first_of
    ((not (is_tenant policy actor), rule.Stranger)
    ∷ (not (is_some arena), rule.Stale 0)
    ∷ (not (generation == expected), rule.Stale generation)
    ∷ (not alive, rule.AlreadyFreed)
    ∷ (not (is_admitted policy arena actor), rule.ForeignArena)
    ∷ (forbids policy owner actor right, rule.Forbidden)
    ∷ (not (grants policy owner actor right), rule.NotGranted)
    ∷ [])

owners : (policy : Policy) (actor : ℕ) (right : Right) (expected : ℕ) (arena : Option ℕ)
    (generation owner other : ℕ) (alive : Bool) → (alive ≡ true → owner ≡ other)
    → on policy actor right expected arena generation owner alive ≡ on policy actor right expected
    arena generation other alive
owners policy actor right expected arena generation owner other true same =
    ap (λ o. on policy actor right expected arena generation o true) (same refl)
owners policy actor right expected arena generation owner other false same = refl

nowhere : (policy : Policy) (actor : ℕ) (right : Right) (expected expected' : ℕ) (arena : Option ℕ)
    (slot other : Slot) → arena ≡ None
    → on policy actor right expected arena slot.generation slot.owner slot.live ≡ on policy actor
    right expected' arena other.generation other.owner other.live
nowhere policy actor right expected expected' None slot other e = refl
nowhere policy actor right expected expected' (Some arena) slot other e = absurd (cc)

-- by a word that shows the record
by_word : (s : State) (policy : Policy) (actor : ℕ) (right : Right) (segment p expected word : ℕ)
    → IsShownBy (record_at s p) word
    → denial_on policy actor right segment expected (slot_at s p) ≡ denial_on policy actor right
    segment expected (slot_in word)
by_word s policy actor right segment p expected word shown =
    let r = record_at s p in
    let slot = slot_in word in
    owners policy actor right expected (arena_of policy segment) r.generation (owner_of r.life)
    slot.owner (is_live r.life) (λ t. sym (shown.owner (live_used r.life t)))
    ∙ ap (λ g. on policy actor right expected (arena_of policy segment) g slot.owner
    (is_live r.life)) (sym shown.generation)
    ∙ ap (λ l. on policy actor right expected (arena_of policy segment) slot.generation slot.owner
    l) (sym shown.live)

-- a state that agrees denies what the word shown denies
pub same_denial : (m : State) (view : View) (shown : Option Shown) (actor : ℕ) (right : Right)
    (place : Place) (expected : ℕ) → Agrees m view shown → IsShownAt view place shown
    → denial m actor right place expected ≡ denial_on view.policy actor right place.segment expected
    (slot_shown shown)
same_denial m view None actor right place expected agrees at =
    ap (λ p. denial_on p actor right place.segment expected (slot_at m (number_of place)))
    agrees.policy
    ∙ nowhere view.policy actor right expected expected (arena_of view.policy place.segment)
    (slot_at m (number_of place)) unused_slot at
same_denial m view (Some shown) actor right place expected agrees at =
    ap (λ p. denial_on p actor right place.segment expected (slot_at m (number_of place)))
    agrees.policy
    ∙ by_word m view.policy actor right place.segment (number_of place) expected shown.word
    (subst (λ n. IsShownBy (record_at m n) shown.word) at agrees.word)

-- and of a place, for the generation that it has
pub same_look : (m : State) (view : View) (shown : Option Shown) (actor : ℕ) (right : Right)
    (place : Place) → Agrees m view shown → IsShownAt view place shown
    → denial m actor right place (max 1 (record_at m (number_of place)).generation)
    ≡ denial_on view.policy actor right place.segment (max 1 (slot_shown shown).generation)
    (slot_shown shown)
same_look m view None actor right place agrees at =
    let g = (record_at m (number_of place)).generation in
    ap (λ p. denial_on p actor right place.segment (max 1 g) (slot_at m (number_of place)))
    agrees.policy
    ∙ nowhere view.policy actor right (max 1 g) (max 1 0) (arena_of view.policy place.segment)
    (slot_at m (number_of place)) unused_slot at
same_look m view (Some shown) actor right place agrees at =
    let here : IsShownBy (record_at m (number_of place)) shown.word =
    subst (λ n. IsShownBy (record_at m n) shown.word) at agrees.word in
    same_denial m view (Some shown) actor right place
    (max 1 (record_at m (number_of place)).generation) agrees at
    ∙ ap (λ g. denial_on view.policy actor right place.segment (max 1 g) (slot_in shown.word))
    (sym here.generation)

-- the segment of a place, by its number
pub segment_is : (place : Place) → segment_of (number_of place) ≡ place.segment
segment_is place = let a = place.page_below in let b = place.index_below in omega arith

pub undenied_is_live : UndeniedIsLive
undenied_is_live view slot actor right handle e =
    let p = parts view.policy actor right handle.place.segment handle.generation slot e
    in (p.1, p.2)
