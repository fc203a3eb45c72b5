-- Who has come to their service.
use Rattle.std.proofs.Common.{◌≡◌, ℕ, zero, suc, List, [], ◌∷◌, ◌++◌, Option, None, Some, Box, Global, length, option_to_list, slice_get, refl, sym, ap, subst, ◌∙◌}
use Rattle.std.proofs.lemmas.List.{append-nil, append_assoc}
use Rattle.std.proofs.lemmas.Option.{none-some, same_Some}
use Rattle.atomic_table.specs.Seated.{TableId}
use Rattle.hg_machine.specs.Policy.{Policy}
use Rattle.hg_service.proofs.Opened.{each_more}
use Rattle.hg_worker.specs.States.{IsNamed}
use Rattle.hg_worker.specs.declared.state.WorkerState.{WorkerState}
use Rattle.hg_hosted.specs.Coming.{AreNoted, Comers, HaveLeft, IsMissing, StayCome}
use Rattle.hg_hosted.specs.Leaving.{IsIdle}
use Rattle.hg_hosted.specs.Parking.{HasTaken}
use Rattle.hg_hosted.specs.declared.parts.Left.{Left}

-- what stands in a list stands there where more comes behind
still_at : {X : Type 0} (xs ys : List X) (k : ℕ) (x : X) → slice_get xs k ≡ Some x → slice_get (xs ++ ys) k ≡ Some x
still_at [] ys k x e = absurd (none-some x e)
still_at (y ∷ xs) ys zero x e = e
still_at (y ∷ xs) ys (suc k) x e = still_at xs ys k x e

at_end : {X : Type 0} (xs : List X) (x : X) → slice_get (xs ++ x ∷ []) (length xs) ≡ Some x
at_end [] x = refl
at_end (y ∷ xs) x = at_end xs x

-- one that has left comes to others
pub left_more :
    {policy : Policy} {table : TableId} (came : Comers) (own : Box WorkerState Global)
    → HaveLeft policy table came → IsNamed policy table own.value × IsIdle own.value
    → HaveLeft policy table (came ++ own ∷ [])
left_more {policy = policy} {table = table} came own left one = record {
  named = each_more (λ k one. IsNamed policy table one.value) came own left.named one.0;
  idle = each_more (λ k one. IsIdle one.value) came own left.idle one.1;
}

-- those that are noted are so where others have come
pub noted_still :
    (taken : List Left) (old new : Comers) → StayCome old new → AreNoted taken old
    → AreNoted taken new
noted_still taken old new stay noted k left own at is =
    λ missing. noted k left own at is (λ place there.
    missing place
    (subst (λ came. slice_get came place ≡ Some own) (sym stay.goes_on)
    (still_at old stay.more place own there)))

noted_one :
    (taken : List Left) (came : Comers) (part : Left)
    → ((own : Box WorkerState Global) → part.state ≡ Some own → ¬ (IsMissing came own))
    → AreNoted taken came → AreNoted (part ∷ taken) came
noted_one taken came part one noted zero left own at is =
    one own (ap (λ p. p.state) (same_Some part left at) ∙ is)
noted_one taken came part one noted (suc k) left own at is = noted k left own at is

-- what is taken is noted with those that were
pub noted_more :
    (result kept : Option Left) (old new : List Left) (came : Comers)
    → HasTaken result kept old new
    → ((part : Left) (own : Box WorkerState Global) → result ≡ Some part → part.state ≡ Some own
    → ¬ (IsMissing came own))
    → AreNoted old came → AreNoted new came
noted_more result (Some one) old new came taken each noted =
    subst (λ all. AreNoted all came) (sym taken.1) noted
noted_more None None old new came taken each noted =
    subst (λ all. AreNoted all came) (sym taken) noted
noted_more (Some part) None old new came taken each noted =
    subst (λ all. AreNoted all came) (sym taken)
    (noted_one old came part (λ own is. each part own refl is) noted)

-- nobody has come, or was taken
pub none_left :
    {policy : Policy} {table : TableId} (came : Comers) → came ≡ [] → HaveLeft policy table came
none_left came empty = record {
  named = λ k own at.
      absurd (none-some own (subst (λ xs. slice_get xs k ≡ Some own) empty at));
  idle = λ k own at.
      absurd (none-some own (subst (λ xs. slice_get xs k ≡ Some own) empty at));
}

pub none_noted : (taken : List Left) (came : Comers) → taken ≡ [] → AreNoted taken came
none_noted taken came empty k left own at is =
    absurd (none-some left (subst (λ xs. slice_get xs k ≡ Some left) empty at))

-- where one comes, if it is a worker: who has come is there still, all have left, and that one is there
pub come_with :
    (came : Comers) (state : Option (Box WorkerState Global))
    → StayCome came (came ++ option_to_list state)
come_with came state = record { more = option_to_list state; goes_on = refl }

-- and where one comes to who came to others
pub come_then :
    (old came : Comers) (state : Option (Box WorkerState Global)) → StayCome old came
    → StayCome old (came ++ option_to_list state)
come_then old came state stay = record {
  more = stay.more ++ option_to_list state;
  goes_on = ap (λ xs. xs ++ option_to_list state) stay.goes_on
      ∙ append_assoc old stay.more (option_to_list state);
}

pub left_with :
    {policy : Policy} {table : TableId} (came : Comers) (state : Option (Box WorkerState Global))
    → HaveLeft policy table came
    → ((own : Box WorkerState Global) → state ≡ Some own
    → IsNamed policy table own.value × IsIdle own.value)
    → HaveLeft policy table (came ++ option_to_list state)
left_with {policy = policy} {table = table} came None left one =
    subst (HaveLeft policy table) (sym (append-nil came)) left
left_with came (Some own) left one = left_more came own left (one own refl)

pub there_with :
    (came : Comers) (state : Option (Box WorkerState Global)) (own : Box WorkerState Global)
    → state ≡ Some own → ¬ (IsMissing (came ++ option_to_list state) own)
there_with came None own is = absurd (none-some own is)
there_with came (Some one) own is = λ missing.
    missing (length came)
    (subst (λ o. slice_get (came ++ one ∷ []) (length came) ≡ Some o) (same_Some one own is)
    (at_end came one))
