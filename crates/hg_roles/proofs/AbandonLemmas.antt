-- An Abandon by the joined seats of worker and pool.
use Rattle.std.proofs.Common.{◌≡◌, ◌≢◌, ℕ, ◌==◌, ◌&&◌, ◌<◌, inl, inr, Bool, true, false, not}
use Rattle.std.proofs.Common.{if◌then◌else◌}
use Rattle.std.proofs.Common.{List, [], ◌∷◌, ◌++◌, length, get_or, set, None, refl, sym, ap, ◌∙◌}
use Rattle.std.proofs.Common.{arith}
use Rattle.std.proofs.lemmas.Bool.{cases_eq, cases_lt, eq-eqb, ne_eqb, true≢false, and_parts}
use Rattle.std.proofs.lemmas.Grind.{get_or-set_at}
use Rattle.std.proofs.lemmas.List.{get_or-set_other, get_or_past}
use Rattle.hg_place.specs.Places.{segment_of, segment_of_page}
use Rattle.hg_machine.specs.declared.Event.TheVariants as event
use Rattle.hg_machine.specs.declared.Answer.TheVariants as answer
use Rattle.hg_machine.specs.First.{first_of}
use Rattle.hg_machine.specs.Life.{contents_of}
use Rattle.hg_machine.specs.State.{State, Holder, fresh, orphan, held, record_at, class_at}
use Rattle.hg_machine.specs.State.{holder_at}
use Rattle.hg_machine.specs.Holders.{holds, is_held_by, is_fresh}
use Rattle.hg_machine.specs.Policy.{Policy}
use Rattle.hg_machine.specs.Changes.{abandoned}
use Rattle.hg_machine.proofs.Preserves.{held_is}
use Rattle.hg_machine.proofs.Serves.{served_step}
use Rattle.hg_agreement.specs.Views.{View}
use Rattle.hg_agreement.specs.Agreement.{Agrees, standing_of}
use Rattle.hg_frame.specs.Pool.{is_pooled}
use Rattle.hg_roles.specs.Roles.{Pooled, Role, of_worker, of_remote, of_pool, of_segment}
use Rattle.hg_roles.specs.Roles.{PoolAgrees, name_of}
use Rattle.hg_roles.specs.Pooling.{let_go, put_back, AbandonsDecide}
use Rattle.hg_roles.proofs.RoleFrames.{Quiet}
use Rattle.hg_roles.proofs.Both.{Leaves, both_decide}

-- what isn't fresh is a segment of the policy
pub within : (m : State) (g : ℕ) → is_fresh (holder_at m g) ≡ false → g < length m.holders
within m g used = elim (cases_lt g (length m.holders)) as (λ _. g < length m.holders) [
  | inl below ↦ below
  | inr past ↦ absurd (true≢false (sym (ap is_fresh (get_or_past m.holders g fresh past)) ∙ used))
]

-- the holder of a segment after that of one has changed
pub changed_holder : (m : State) (g s : ℕ) (h : Holder) → g < length m.holders → s ≡ g
    → get_or (set m.holders g h) s fresh ≡ h
changed_holder m g s h below e = get_or-set_at m.holders g s h fresh e below

pub other_holder : (m : State) (g s : ℕ) (h : Holder) → s ≢ g
    → get_or (set m.holders g h) s fresh ≡ holder_at m s
other_holder m g s h ne = get_or-set_other m.holders g s h fresh ne

-- a choice by segment
pub chosen : {A : Type 0} (s g : ℕ) (a b : A) → s ≡ g → (if s == g then a else b) ≡ a
chosen {A} s g a b e = ap (λ (t : Bool). if t then a else b) (eq-eqb s g e)

pub unchosen : {A : Type 0} (s g : ℕ) (a b : A) → s ≢ g → (if s == g then a else b) ≡ b
unchosen {A} s g a b ne = ap (λ (t : Bool). if t then a else b) (ne_eqb s g ne)

module _ (m : State) (before : View) (p : Pooled) (g : ℕ) (agreed : Agrees m before None)
    (pooled : PoolAgrees m p) (mine : before.holds g ≡ true) where
  abbrev w : ℕ
  w = before.worker

  abbrev after : State
  after = abandoned m g

  holder : holder_at m g ≡ held w
  holder = held_is w (holder_at m g) (agreed.holding g ∙ mine)

  low : g < length m.holders
  low = within m g (ap is_fresh holder)

  now_holds : (s : ℕ) → holds after w s ≡ (let_go before g).holds s
  now_holds s = elim (cases_eq s g) as (λ _. holds after w s ≡ (let_go before g).holds s) [
    | inl e ↦
        ap (is_held_by w) (changed_holder m g s orphan low e)
        ∙ sym (ap (λ b. not b && before.holds s) (eq-eqb s g e))
    | inr ne ↦
        ap (is_held_by w) (other_holder m g s orphan ne) ∙ agreed.holding s
        ∙ sym (ap (λ b. not b && before.holds s) (ne_eqb s g ne))
  ]

  was_held : (s : ℕ) → (let_go before g).holds s ≡ true → before.holds s ≡ true
  was_held s now = (and_parts (not (s == g)) _ now).1

  now_fresh : (s : ℕ) → is_fresh (holder_at after s) ≡ p.fresh s
  now_fresh s = elim (cases_eq s g) as (λ _. is_fresh (holder_at after s) ≡ p.fresh s) [
    | inl e ↦
        ap is_fresh (changed_holder m g s orphan low e)
        ∙ sym (ap is_fresh (ap (holder_at m) e ∙ holder)) ∙ pooled.fresh s
    | inr ne ↦ ap is_fresh (other_holder m g s orphan ne) ∙ pooled.fresh s
  ]

  -- of another segment that nobody holds
  was_pooled : (s : ℕ) → s ≢ g → is_pooled (holder_at after s) ≡ true
      → is_pooled (holder_at m s) ≡ true
  was_pooled s ne free = ap is_pooled (sym (other_holder m g s orphan ne)) ∙ free

  held_at : (s : ℕ) → s ≡ g → before.holds s ≡ true
  held_at s e = ap before.holds e ∙ mine

  -- what the pool has of a segment: of this one what the worker had
  has : {A : Type 0} (s : ℕ) (real own theirs : A) → is_pooled (holder_at after s) ≡ true
      → (before.holds s ≡ true → real ≡ own) → (is_pooled (holder_at m s) ≡ true → real ≡ theirs)
      → real ≡ (if s == g then own else theirs)
  has s real own theirs free was_own was_theirs =
      elim (cases_eq s g) as (λ _. real ≡ (if s == g then own else theirs)) [
        | inl e ↦ was_own (held_at s e) ∙ sym (chosen s g own theirs e)
        | inr ne ↦ was_theirs (was_pooled s ne free) ∙ sym (unchosen s g own theirs ne)
      ]

  abandon_leaves : Leaves m before (let_go before g) (of_pool (put_back p before g))
      (event.Abandon g) answer.Done
  abandon_leaves = record {
    step =
        served_step m w (event.Abandon g) answer.Done _
        (ap (λ b. first_of ((not b, answer.NotHeld) ∷ [])) (agreed.holding g ∙ mine)) refl refl;
    agrees = λ sound. record {
      sound = sound;
      policy = agreed.policy;
      holding = now_holds;
      classes = λ page here. agreed.classes page (was_held _ here);
      standings = λ place here. agreed.standings place (was_held _ here);
      blocks = λ place here. agreed.blocks place (was_held _ here);
      hand = agreed.hand;
      word = tt;
    };
    leaves = λ sound. record {
      orphans = ap (λ (xs : List ℕ). xs ++ g ∷ []) pooled.orphans;
      fresh = now_fresh;
      classes = λ page free.
          has (segment_of_page page) (class_at m page) (before.class page) (p.class page) free
          (agreed.classes page) (pooled.classes page);
      standings = λ place free.
          has (segment_of place) (standing_of (record_at m place)) (before.standing place)
          (p.standing place) free (agreed.standings place) (pooled.standings place);
      blocks = λ place free.
          has (segment_of place) (contents_of (record_at m place).life) (before.block place)
          (p.block place) free (agreed.blocks place) (pooled.blocks place);
    };
  }

-- the pool is one
pub abandon_quiet : (m : State) (w g : ℕ) (policy : Policy) (p : Pooled) (role : Role)
    → name_of policy role ≢ name_of policy (of_pool p) → Quiet m w (event.Abandon g) role
abandon_quiet m w g policy p (of_worker view log) differ = tt
abandon_quiet m w g policy p (of_remote h others) differ = refl
abandon_quiet m w g policy p (of_pool other) differ = absurd (differ refl)
abandon_quiet m w g policy p (of_segment h) differ = tt

pub abandons_decide : AbandonsDecide
abandons_decide policy words parts log before p g seat below mine =
    both_decide policy words parts log before (let_go before g) (event.Abandon g) answer.Done
    (of_pool p) (of_pool (put_back p before g)) seat below refl refl
    (λ e. absurd (omega arith)) refl refl refl
    (λ q. refl)
    (λ m shows agreed pooled. abandon_leaves m before p g agreed pooled mine)
    (λ m shows agreed role differ. abandon_quiet m before.worker g policy p role differ)
