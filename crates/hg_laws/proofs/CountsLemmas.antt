-- What Take and Collect count is what they change.
use Rattle.std.proofs.Common.{◌≡◌, ℕ, ◌+◌, ◌==◌, ◌&&◌, inl, inr, Bool, true, false, cond}
use Rattle.std.proofs.Common.{if◌then◌else◌, List, [], ◌∷◌, length, Option, Some, None}
use Rattle.std.proofs.Common.{is_some, is_none, refl, sym, ap, ◌∙◌, arith}
use Rattle.std.specs.List.{count_by}
use Rattle.std.proofs.lemmas.Bool.{cases_lt, and_parts, and_right}
use Rattle.std.proofs.lemmas.List.{get_or_past}
use Rattle.std.proofs.lemmas.List.Sums.{sum_by-cons}
use Rattle.hg_place.specs.Places.{segment_of, segment_of_page}
use Rattle.hg_machine.specs.declared.Event.TheVariants as event
use Rattle.hg_machine.specs.declared.Answer.TheVariants as answer
use Rattle.hg_machine.specs.Life.{Life, home, live, parted, Record, is_home, is_parted}
use Rattle.hg_machine.specs.State.{record_at, class_at, places_in, pages_in}
use Rattle.hg_machine.specs.Holders.{holds}
use Rattle.hg_machine.specs.Sweeps.{is_sent_to, is_idle}
use Rattle.hg_machine.proofs.Takes.{settled_at, cleared_at}
use Rattle.hg_laws.specs.Counts.{came_home, lost_class, TakenIsCounted, PagesAreCounted}
use Rattle.hg_laws.proofs.Refusals.{was_served}

abbrev once : Bool → ℕ
once b = cond b 1 0

-- tests that agree count the same
counts : (f g : ℕ → Bool) (xs : List ℕ) → ((n : ℕ) → f n ≡ g n) → count_by f xs ≡ count_by g xs
counts f g [] e = refl
counts f g (x ∷ xs) e =
    let a : count_by f (x ∷ xs) ≡ once (f x) + count_by f xs = sum_by-cons (λ y. cond (f y) 1 0) x xs in
    let b : count_by g (x ∷ xs) ≡ once (g x) + count_by g xs = sum_by-cons (λ y. cond (g y) 1 0) x xs in
    let here : once (f x) ≡ once (g x) = ap once (e x) in
    let rest = counts f g xs e in
    omega arith

one_life : (l : Life) → (is_parted l && is_home l) ≡ false
one_life home = refl
one_life (live owner words) = refl
one_life (parted owner words) = refl

came : (b : Bool) (r : Record) → (b ≡ true → is_parted r.life ≡ true) → b ≡ (is_parted r.life && is_home (if b then record { generation = r.generation; life = home } else r).life)
came true r h = sym (ap (λ x. x && true) (h refl))
came false r h = sym (one_life r.life)

taken_same : (n m : ℕ) → answer.Taken n ≡ answer.Taken m → n ≡ m
taken_same n m e = cc

pub taken_is_counted : TakenIsCounted
taken_is_counted s w segment n new h =
    let is = was_served s w (event.Take segment) (answer.Taken n) new h refl in
    taken_same _ _ is.serves
    ∙ counts (is_sent_to s segment) (came_home s new) (places_in s)
    (λ q. came (is_sent_to s segment q) (record_at s q) (λ t. (and_parts (is_parted (record_at s q).life) _ (and_parts (segment_of q == segment) _ t).1).0)
    ∙ ap (λ r. is_parted (record_at s q).life && is_home r.life) (sym (settled_at s segment q))
    ∙ ap (λ t. is_parted (record_at s q).life && is_home (record_at t q).life) (sym is.after))

no_class : (c : Option ℕ) → (is_some c && is_none c) ≡ false
no_class None = refl
no_class (Some n) = refl

lost : (b d : Bool) (c : Option ℕ) → (b && (d && is_some c)) ≡ (is_some c && is_none (if b && d then None else c))
lost true true None = refl
lost true true (Some n) = refl
lost true false None = refl
lost true false (Some n) = refl
lost false d None = refl
lost false d (Some n) = refl

pages_same : (n m : ℕ) → answer.Pages n ≡ answer.Pages m → n ≡ m
pages_same n m e = cc

pub pages_are_counted : PagesAreCounted
pages_are_counted s w n new h =
    let is = was_served s w event.Collect (answer.Pages n) new h refl in
    pages_same _ _ is.serves
    ∙ counts (λ page. holds s w (segment_of_page page) && (is_idle s page && is_some (class_at s page))) (lost_class s new) (pages_in s)
    (λ page. elim (cases_lt page (length s.classes)) as (λ _. (holds s w (segment_of_page page) && (is_idle s page && is_some (class_at s page))) ≡ lost_class s new page) [
      | inl below ↦
          lost (holds s w (segment_of_page page)) (is_idle s page) (class_at s page)
          ∙ ap (λ c. is_some (class_at s page) && is_none c) (sym (cleared_at s w page below))
          ∙ ap (λ t. is_some (class_at s page) && is_none (class_at t page)) (sym is.after)
      | inr past ↦
          let none : is_some (class_at s page) ≡ false = ap is_some (get_or_past s.classes page None past) in
          and_right (holds s w (segment_of_page page)) _ (and_right (is_idle s page) _ none)
          ∙ sym (ap (λ b. b && is_none (class_at new page)) none)
    ])
