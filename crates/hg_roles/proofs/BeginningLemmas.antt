-- The start agrees with what each role has first.
use Rattle.std.proofs.Common.{◌≡◌, ℕ, ◌+◌, ◌*◌, false, List, [], length, replicate, None}
use Rattle.std.proofs.Common.{refl, sym, ap, subst, ◌∙◌, ◌==◌, ◌&&◌, not}
use Rattle.std.specs.List.{list_any, count_by}
use Rattle.std.proofs.lemmas.Bool.{true≢false, and_right}
use Rattle.std.proofs.lemmas.List.{length-replicate}
use Rattle.hg_place.specs.Places.{segment_of}
use Rattle.hg_place.specs.Words.{bit_of}
use Rattle.hg_machine.specs.Policy.{Policy}
use Rattle.hg_machine.specs.SoundPolicy.{IsSoundPolicy}
use Rattle.hg_machine.specs.Life.{never_used, is_parted, contents_of}
use Rattle.hg_machine.specs.Shown.{IsShownBy}
use Rattle.hg_machine.specs.State.{State, fresh, opening, record_at, holder_at}
use Rattle.hg_machine.specs.Holders.{is_number, is_held_by, is_fresh}
use Rattle.hg_machine.specs.Sweeps.{is_sent_to}
use Rattle.hg_machine.proofs.Opening.{all_same, opening_is_sound}
use Rattle.hg_agreement.specs.Views.{View}
use Rattle.hg_agreement.specs.Agreement.{Agrees, standing_of}
use Rattle.hg_roles.specs.Roles.{Pooled, Role, of_worker, of_remote, of_pool, of_segment}
use Rattle.hg_roles.specs.Roles.{PoolAgrees, RoleAgrees, calls_in}
use Rattle.hg_roles.specs.Served.{WordsShow, places_of_policy}
use Rattle.hg_roles.specs.Beginning.{IsIdle, IsFull, IsFirst, OpenedIsNew}

module _ (policy : Policy) (good : IsSoundPolicy policy) where
  abbrev start : State
  start = opening policy

  unused : (q : ℕ) → record_at start q ≡ never_used
  unused q = all_same (length policy.segments * 8192) q never_used

  nobody : (g : ℕ) → holder_at start g ≡ fresh
  nobody g = all_same (length policy.segments) g fresh

  zero_shows : IsShownBy never_used 0
  zero_shows = record { generation = refl; live = refl; owner = λ used. absurd (true≢false used) }

  words_show : WordsShow policy (replicate (places_of_policy policy + 1) 0) start
  words_show = record {
    sound = opening_is_sound policy good;
    same = refl;
    all_words = length-replicate (places_of_policy policy + 1) 0;
    each = λ place below.
        subst (IsShownBy (record_at start place))
        (sym (all_same (places_of_policy policy + 1) (place + 1) 0))
        (subst (λ r. IsShownBy r 0) (sym (unused place)) zero_shows);
  }

  idle_agrees : (view : View) → IsIdle policy view → Agrees start view None
  idle_agrees view idle = record {
    sound = opening_is_sound policy good;
    policy = sym idle.same;
    holding = λ g. ap (is_held_by view.worker) (nobody g) ∙ sym (idle.holds g);
    classes = λ page held. absurd (true≢false (sym held ∙ idle.holds _));
    standings = λ place held. absurd (true≢false (sym held ∙ idle.holds _));
    blocks = λ place held. absurd (true≢false (sym held ∙ idle.holds _));
    hand = all_same policy.workers view.worker None ∙ sym idle.hand;
    word = tt;
  }

  unsent : (g q : ℕ) → is_sent_to start g q ≡ false
  unsent g q =
      ap (λ r. segment_of q == g && (is_parted r.life && not (list_any (is_number q) start.hands)))
      (unused q)
      ∙ and_right (segment_of q == g) false refl

  full_agrees : (p : Pooled) → IsFull p → PoolAgrees start p
  full_agrees p full = record {
    orphans = sym full.orphans;
    fresh = λ g. ap is_fresh (nobody g) ∙ sym (full.fresh g);
    classes = λ page free. all_same (length policy.segments * 16) page None ∙ sym (full.class page);
    standings = λ place free. ap standing_of (unused place) ∙ sym (full.standing place);
    blocks = λ place free. ap (λ r. contents_of r.life) (unused place) ∙ sym (full.block place);
  }

  first_agrees : (role : Role) → IsFirst policy role → RoleAgrees role start
  first_agrees (of_worker view log) first = idle_agrees view first.0
  first_agrees (of_remote g sent) first = λ q.
      ap (λ (xs : List ℕ). count_by (λ other. other == q) xs) first ∙ ap bit_of (sym (unsent g q))
  first_agrees (of_pool p) first = full_agrees p first
  first_agrees (of_segment g) first = tt

no_call_at_first : (policy : Policy) (role : Role) → IsFirst policy role → calls_in role ≡ []
no_call_at_first policy (of_worker view log) first = first.1
no_call_at_first policy (of_remote g sent) first = refl
no_call_at_first policy (of_pool p) first = refl
no_call_at_first policy (of_segment g) first = refl

pub opened_is_new : OpenedIsNew
opened_is_new policy views good first = record {
  shown = words_show policy good;
  agrees = λ i j role has. first_agrees policy good role (first.first i j role has);
  no_call = λ i j role has. no_call_at_first policy role (first.first i j role has);
  one_part = first.one_part;
  below = first.below;
}
