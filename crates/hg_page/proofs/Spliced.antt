-- What `splice` leaves, and when a page is idle.
use Rattle.std.proofs.Common.{◌≡◌, ◌≢◌, ℕ, zero, suc, ◌-◌, ◌<◌, Bool, true, false, cond, List, [], ◌∷◌, ◌++◌, slice_index_or, slice_set, count_by, refl, sym, arith, subst}
use Rattle.std.specs.Prelude.{Contains}
use Rattle.std.proofs.lemmas.List.{append-nil}
use Rattle.std.proofs.lemmas.List.Sums.{sum_by-cons}
use Rattle.std.proofs.lemmas.List.Elements.{Contains-append_left}
use Rattle.hg_lists.specs.Chains.{chain}
use Rattle.hg_page.specs.Links.{last_of}
use Rattle.hg_page.specs.Shapes.{shape_of, start_of}
use Rattle.hg_page.specs.PageLists.{PageLists, listed}
use Rattle.hg_page.specs.Links.{link_at, lists_of, Links, IsLinked, IsSpare}
use Rattle.hg_page.specs.Others.{KeepsOthers}
use Rattle.hg_page.specs.declared.page.Page.{Page}
use Rattle.hg_lists.proofs.RepeatsLemmas.{Each-left}
use Rattle.hg_page.proofs.Chained.{chain-cons, chain-nil, last_each}
use Rattle.hg_page.proofs.Linked.{free-is, local-is, linked, joins, swaps}
use Rattle.hg_page.proofs.Pushed.{others_set}

-- the clauses of `splice`
pub record Spliced (p q : Page) (words new : List ℕ) : Type 0 where
  pub linked : IsLinked q new
  pub shown : lists_of q new ≡ record { free = (lists_of p words).free ++ (lists_of p words).local_free; local_free = []; used = p.used }
  pub others : KeepsOthers (shape_of q) (listed (lists_of q new)) words new

pub spliced_none : (p : Page) (words : List ℕ) → IsLinked p words → p.local ≡ 0 → Spliced p p words words
spliced_none p words h e =
    let none = chain-nil 511 (link_at p words) p.local e in record {
      linked = h;
      shown = rw (none, append-nil) refl;
      others = λ at apart. refl;
    }

abbrev pub swapped_page : Page → Page
swapped_page p = record p { free = p.local; free_end = p.local_end; local = 0 }

pub spliced_swap : (p : Page) (words : List ℕ) → IsLinked p words → p.free ≡ 0 → Spliced p (swapped_page p) words words
spliced_swap p words h e =
    let local : List ℕ = chain 512 (link_at p words) p.local in
    let none = chain-nil 511 (link_at p words) p.free e in
    let l = swaps p words (chain 512 (link_at p words) p.local) (rw none at h) in record {
      linked = linked (swapped_page p) words _ _ l;
      shown = rw (none, local-is (swapped_page p) words _ _ l) refl;
      others = λ at apart. refl;
    }

Contains-cons : (x y : ℕ) (xs : List ℕ) → Contains xs y → Contains (x ∷ xs) y
Contains-cons x y xs c = (suc c.0, omega (arith, c.1), c.2)

Contains-last : (x : ℕ) (xs : List ℕ) → Contains (x ∷ xs) (last_of x xs)
Contains-last x [] = (0, omega arith, refl)
Contains-last x (y ∷ xs) = Contains-cons x (last_of y xs) (y ∷ xs) (Contains-last y xs)

abbrev pub joined_page : Page → Page
joined_page p = record p { free_end = p.local_end; local = 0 }

abbrev pub joined_words : Page → List ℕ → List ℕ
joined_words p words = slice_set words (start_of (shape_of p) p.free_end) p.local

-- the same page, where neither list is empty
abbrev pub tail_of : Page → List ℕ → ℕ → List ℕ
tail_of p words link = chain 511 (link_at p words) (link_at p words (link - 1))

both : (p : Page) (words : List ℕ) → IsLinked p words → p.free ≢ 0 → p.local ≢ 0 → Links p words ((p.free - 1) ∷ tail_of p words p.free) ((p.local - 1) ∷ tail_of p words p.local)
both p words h f l = rw (chain-cons 511 (link_at p words) p.free f, chain-cons 511 (link_at p words) p.local l) at h

joined : (p : Page) (words : List ℕ) → IsLinked p words → p.free ≢ 0 → p.local ≢ 0 → Links (joined_page p) (joined_words p words) (((p.free - 1) ∷ tail_of p words p.free) ++ ((p.local - 1) ∷ tail_of p words p.local)) []
joined p words h f l = joins p words (tail_of p words p.free) (tail_of p words p.local) (p.free - 1) (p.local - 1) (both p words h f l)

joined-shown : (p : Page) (words : List ℕ) → IsLinked p words → p.free ≢ 0 → p.local ≢ 0 → lists_of (joined_page p) (joined_words p words) ≡ record { free = (lists_of p words).free ++ (lists_of p words).local_free; local_free = []; used = p.used }
joined-shown p words h f l = rw (free-is (joined_page p) (joined_words p words) _ _ (joined p words h f l), local-is (joined_page p) (joined_words p words) _ _ (joined p words h f l), chain-cons 511 (link_at p words) p.free f, chain-cons 511 (link_at p words) p.local l) refl

pub end_below : (p : Page) (words : List ℕ) → IsLinked p words → p.free ≢ 0 → p.free_end < p.places
end_below p words h f =
    let k : Links p words ((p.free - 1) ∷ tail_of p words p.free) (chain 512 (link_at p words) p.local) = rw (chain-cons 511 (link_at p words) p.free f) at h in
    let s : IsSpare p p.free_end = subst (IsSpare p) k.free_end (last_each (IsSpare p) (p.free - 1) (tail_of p words p.free) (Each-left (IsSpare p) ((p.free - 1) ∷ tail_of p words p.free) (chain 512 (link_at p words) p.local) k.spare)) in s.0

contains_end : (p : Page) (words : List ℕ) → IsLinked p words → p.free ≢ 0 → Contains (chain 512 (link_at p words) p.free) p.free_end
contains_end p words h f =
    let e = chain-cons 511 (link_at p words) p.free f in
    let k : Links p words ((p.free - 1) ∷ tail_of p words p.free) (chain 512 (link_at p words) p.local) = rw e at h in
    subst (λ (xs : List ℕ). Contains xs p.free_end) (sym e) (subst (Contains ((p.free - 1) ∷ tail_of p words p.free)) k.free_end (Contains-last (p.free - 1) (tail_of p words p.free)))

pub spliced_join : (p : Page) (words new : List ℕ) (start : ℕ) → IsLinked p words → p.free ≢ 0 → p.local ≢ 0 → start ≡ start_of (shape_of p) p.free_end → new ≡ slice_set words start p.local → Spliced p (joined_page p) words new
spliced_join p words new start h f l s n =
    let on : Contains (chain 512 (link_at p words) p.free) p.free_end = contains_end p words h f in
    rw (n, s) (record {
      linked = linked (joined_page p) (joined_words p words) _ _ (joined p words h f l);
      shown = joined-shown p words h f l;
      others = subst (λ (lists : PageLists). KeepsOthers (shape_of (joined_page p)) (listed lists) words (joined_words p words)) (sym (joined-shown p words h f l)) (others_set p words ((chain 512 (link_at p words) p.free ++ chain 512 (link_at p words) p.local) ++ []) p.free_end p.local (Contains-append_left (chain 512 (link_at p words) p.free ++ chain 512 (link_at p words) p.local) [] p.free_end (Contains-append_left (chain 512 (link_at p words) p.free) (chain 512 (link_at p words) p.local) p.free_end on)));
    })

-- no flag is set exactly where none is counted
pub count_none : (xs : List Bool) → count_by (λ b. b) xs ≡ 0 → (i : ℕ) → slice_index_or xs i false ≡ false
count_none [] e i = refl
count_none (true ∷ xs) e i = absurd (omega (arith, sum_by-cons (λ b. cond b 1 0) true xs, e))
count_none (false ∷ xs) e zero = refl
count_none (false ∷ xs) e (suc i) = count_none xs (let h : count_by (λ b. b) xs ≡ 0 = e in h) i

pub none_counted : (xs : List Bool) → ((i : ℕ) → slice_index_or xs i false ≡ false) → count_by (λ b. b) xs ≡ 0
none_counted [] f = refl
none_counted (true ∷ xs) f = let e : true ≡ false = f 0 in cc
none_counted (false ∷ xs) f = omega (arith, none_counted xs (λ i. f (suc i)))
