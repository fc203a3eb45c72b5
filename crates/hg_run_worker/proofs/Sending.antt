-- What is sent to a remote list.
use Rattle.std.proofs.Common.{◌≡◌, ℕ, zero, suc, ◌+◌, ◌==◌, Bool, false, List, [], ◌∷◌, ◌++◌}
use Rattle.std.proofs.Common.{map, Some, refl, sym, ap, subst, ◌∙◌, arith, Contains, inl, inr, ⊎_elim}
use Rattle.std.specs.List.{count_by}
use Rattle.std.proofs.lemmas.Bool.{eq-eqb, and_right, not_from_true}
use mathlib.Core.Option.{some-injective, some-ne-none}
use Rattle.hg_place.specs.Places.{segment_of}
use Rattle.hg_place.specs.Words.{bit_of}
use Rattle.hg_lists.specs.Inserts.{Inserts}
use Rattle.hg_lists.specs.Repeats as repeats
use Rattle.hg_lists.proofs.RepeatsLemmas.{in_contains}
use Rattle.hg_machine.specs.Life.{is_parted}
use Rattle.hg_machine.specs.State.{State, hand_of, record_at}
use Rattle.hg_machine.specs.Sweeps.{is_sent_to}
use Rattle.hg_machine.proofs.Keeps.{hand_any}
use Rattle.hg_agreement.proofs.Firsts.{count_cons}
use Rattle.hg_history.specs.Service.{IsIn}
use Rattle.hg_roles.specs.Roles.{Role, of_remote, RemoteAgrees}
use Rattle.hg_run_table.specs.declared.part.Part.{Part}
use Rattle.hg_run_table.specs.Seated.{HasRole, HaveRoles}

-- how often a place stands on a list with one more
pub count_inserted : (f : ℕ → ℕ) (p : ℕ → Bool) (x : ℕ) (old new : List ℕ) → Inserts x old new
    → count_by p (map f new) ≡ count_by p (f x ∷ map f old)
count_inserted f p x old new put =
    ap (λ xs. count_by p (map f xs)) put.3
    ∙ (go put.0 put.1
    ∙ (sym (count_cons p (f x) (map f (put.0 ++ put.1)))
    ∙ ap (λ xs. count_by p (f x ∷ map f xs)) (sym put.2)))
  where
    go : (front back : List ℕ)
        → count_by p (map f (front ++ x ∷ back))
        ≡ bit_of (p (f x)) + count_by p (map f (front ++ back))
    go [] back = count_cons p (f x) (map f back)
    go (y ∷ front) back =
        let a = count_cons p (f y) (map f (front ++ x ∷ back)) in
        let b = count_cons p (f y) (map f (front ++ back)) in
        let rest = go front back in
        omega arith

-- a part that has these places has those that stand as often
pub list_like : (run : List Part) (segment : ℕ) (one other : List ℕ)
    → ((place : ℕ)
    → count_by (λ k. k == place) other ≡ count_by (λ k. k == place) one)
    → HaveRoles run (of_remote segment one ∷ []) → HaveRoles run (of_remote segment other ∷ [])
list_like run segment one other same has = record { count = has.count; each = each }
  where
    each : (j : ℕ) (part : Part) (role : Role) → IsIn run j part
        → IsIn (of_remote segment other ∷ []) j role → HasRole part role
    each zero part role at is =
        let was = has.each 0 part (of_remote segment one) at refl in
        subst (HasRole part) (some-injective (of_remote segment other) role is)
        (record {
          named = was.named;
          log = was.log;
          agrees = λ place. same place ∙ was.agrees place;
        })
    each (suc j) part role at is = absurd (some-ne-none role (sym is))

-- one that stands there is counted
pub counted : (q : ℕ) (xs : List ℕ) → repeats.IsIn q xs → count_by (λ k. k == q) xs ≡ 0 → ⊥
counted q [] there none = there
counted q (x ∷ xs) there none =
    let c = count_cons (λ k. k == q) x xs in
    ⊎_elim
    (λ (e : q ≡ x).
    let one : bit_of (x == q) ≡ 1 = ap bit_of (eq-eqb x q (sym e)) in
    absurd (omega (arith, c, one, none)))
    (λ (r : repeats.IsIn q xs). counted q xs r (omega (arith, c, none))) there

pub on_map : (f : ℕ → ℕ) (x : ℕ) (xs : List ℕ) → repeats.IsIn x xs → repeats.IsIn (f x) (map f xs)
on_map f x [] there = there
on_map f x (y ∷ ys) there =
    ⊎_elim (λ (e : x ≡ y). inl (ap f e)) (λ (r : repeats.IsIn x ys). inr (on_map f x ys r)) there

-- what is in a hand is sent to no list
pub not_sent : (m : State) (worker segment : ℕ) (f : ℕ → ℕ) (slot : ℕ) (slots : List ℕ)
    → hand_of m worker ≡ Some (f slot) → RemoteAgrees m segment (map f slots) → ¬ Contains slots slot
not_sent m worker segment f slot slots hand agrees there =
    let place = f slot in
    let was : is_sent_to m segment place ≡ false =
    and_right (segment_of place == segment) _
    (and_right (is_parted (record_at m place).life) _ (not_from_true _ (hand_any m worker place hand))) in
    counted place (map f slots) (on_map f slot slots (in_contains slot slots there))
    (agrees place ∙ ap bit_of was)
