-- Seats are counted, and where views stand that were changed, added or taken in.
use Rattle.std.proofs.Common.{◌≡◌, ℕ, zero, suc, ◌+◌, ◌<◌, List, [], ◌∷◌, ◌++◌, map, length, set}
use Rattle.std.proofs.Common.{sym, refl, ap, ◌∙◌, arith}
use mathlib.Core.Option.{some, some-injective, some-ne-none}
use lib.ListN.{get_elem?}
use Rattle.hg_table.specs.declared.view.Part.{Part}
use Rattle.hg_table.specs.View.{View, seats_of, all_seats}

pub map_at :
    {A B : Type 0} (f : A → B) (l : List A) (j : ℕ) (b : B) → get_elem? (map f l) j ≡ some b
    → (a : A) × (get_elem? l j ≡ some a) × (f a ≡ b)
map_at f [] j b e = absurd (some-ne-none b (sym e))
map_at f (x ∷ xs) zero b e = (x, refl, some-injective (f x) b e)
map_at f (x ∷ xs) (suc j) b e = map_at f xs j b e

-- where one stood, the other stands that was put there
pub set_hit :
    {A : Type 0} (l : List A) (i : ℕ) (a b : A) → get_elem? l i ≡ some a
    → get_elem? (set l i b) i ≡ some b
set_hit [] i a b e = absurd (some-ne-none a (sym e))
set_hit (x ∷ xs) zero a b e = refl
set_hit (x ∷ xs) (suc i) a b e = set_hit xs i a b e

-- as many parts, each of which may give as many seats as the one that stood there
pub same_seats :
    (old new : View)
    → ((j : ℕ) (b : Part) → get_elem? new j ≡ some b
    → (a : Part) × (get_elem? old j ≡ some a) × (b.may_give ≡ a.may_give))
    → ((j : ℕ) (a : Part) → get_elem? old j ≡ some a
    → (b : Part) × (get_elem? new j ≡ some b))
    → seats_of new ≡ seats_of old
same_seats [] [] from to = refl
same_seats [] (b ∷ new) from to = let was = from 0 b refl in absurd (some-ne-none was.0 (sym was.1))
same_seats (a ∷ old) [] from to = let is = to 0 a refl in absurd (some-ne-none is.0 (sym is.1))
same_seats (a ∷ old) (b ∷ new) from to =
    let was = from 0 b refl in
    let here : b.may_give ≡ a.may_give = was.2 ∙ ap (λ (c : Part). c.may_give) (sym (some-injective a was.0 was.1)) in
    let there = same_seats old new (λ j. from (suc j)) (λ j. to (suc j)) in
    omega arith

-- one view is another from now on
pub seats_set :
    (views : List View) (i : ℕ) (old new : View) → get_elem? views i ≡ some old
    → all_seats (set views i new) + seats_of old ≡ all_seats views + seats_of new
seats_set [] i old new e = absurd (some-ne-none old (sym e))
seats_set (x ∷ xs) zero old new e =
    let is : seats_of x ≡ seats_of old = ap seats_of (some-injective x old e) in omega arith
seats_set (x ∷ xs) (suc i) old new e = let there = seats_set xs i old new e in omega arith

pub seats_kept :
    (views : List View) (i : ℕ) (old new : View) → get_elem? views i ≡ some old
    → seats_of new ≡ seats_of old → all_seats (set views i new) ≡ all_seats views
seats_kept views i old new e same = let put = seats_set views i old new e in omega arith

pub seats_more :
    (views : List View) (new : View)
    → all_seats (views ++ new ∷ []) ≡ all_seats views + seats_of new
seats_more [] new = omega arith
seats_more (x ∷ xs) new = let there = seats_more xs new in omega arith
