-- The first number of a range of which something holds, page by page.
use Rattle.std.proofs.Common.{◌≡◌, ℕ, zero, suc, ◌+◌, ◌-◌, ◌*◌, ◌<◌, inl, inr, Bool, true, false}
use Rattle.std.proofs.Common.{cond, ◌∷◌, ◌++◌, List, Option, Some, None, refl, sym, ap, ◌∙◌, arith}
use Rattle.std.proofs.Common.{find}
use Rattle.std.specs.List.{range_with_len}
use Rattle.std.specs.Option.{option_or}
use Rattle.std.proofs.lemmas.Bool.{cases_Bool}
use Rattle.std.proofs.lemmas.List.Folds.{find-append}
use Rattle.hg_heap.specs.Held.{all_pages, pages_in}

-- a search that ends
pub find_here : (p : ℕ → Bool) (a n count : ℕ) → find p (range_with_len a n) ≡ None
    → p (a + n) ≡ true → n < count → find p (range_with_len a count) ≡ Some (a + n)
find_here p a m zero e t lt = absurd (omega (arith, lt))
find_here p a zero (suc c) e t lt =
    (let z : a + 0 ≡ a = omega arith in ap
    (λ (b : Bool). cond b (Some a) (find p (range_with_len (a + 1) c))) (ap p (sym z) ∙ t)
    ∙ ap Some (sym z))
find_here p a (suc m) (suc c) e t lt = elim (cases_Bool (p a)) [
  | inl y ↦ absurd
      (let s : Some a ≡ None = sym
      (ap (λ (b : Bool). cond b (Some a) (find p (range_with_len (a + 1) m))) y) ∙ e in cc)
  | inr off ↦ (let s : a + 1 + m ≡ a + suc m = omega arith in
      ap (λ (b : Bool). cond b (Some a) (find p (range_with_len (a + 1) c))) off
      ∙ find_here p (a + 1) m c
      (sym (ap (λ (b : Bool). cond b (Some a) (find p (range_with_len (a + 1) m))) off) ∙ e)
      (ap p s ∙ t) (omega (arith, lt))
      ∙ ap Some s)
]

-- nothing is found where nothing does
pub find_none : (p : ℕ → Bool) (a n : ℕ) → ((x : ℕ) → x < n → p (a + x) ≡ false)
    → find p (range_with_len a n) ≡ None
find_none p a zero none = refl
find_none p a (suc n) none =
    (let z : a + 0 ≡ a = omega arith in ap
    (λ (b : Bool). cond b (Some a) (find p (range_with_len (a + 1) n))) (ap p (sym z)
    ∙ none 0 (omega arith))
    ∙ find_none p (a + 1) n (λ x lt. let s : a + 1 + x ≡ a + suc x = omega arith in ap p s
    ∙ none (suc x) (omega (arith, lt))))

-- a range is one, and one behind it
joined : (a n m : ℕ) → range_with_len a (n + m) ≡ range_with_len a n ++ range_with_len (a + n) m
joined a zero m =
    (let z : 0 + m ≡ m = omega arith in let same : a + 0 ≡ a = omega arith in
    ap (range_with_len a) z ∙ ap (λ (b : ℕ). range_with_len b m) (sym same))
joined a (suc n) m =
    (let s : suc n + m ≡ suc (n + m) = omega arith in let t : a + 1 + n ≡ a + suc n = omega arith in
    ap (range_with_len a) s
    ∙ ap (λ (xs : List ℕ). a ∷ xs) (joined (a + 1) n m
    ∙ ap (λ (b : ℕ). range_with_len (a + 1) n ++ range_with_len b m) t))

find_behind : (p : ℕ → Bool) (n m : ℕ) (r : Option ℕ) → find p (range_with_len 0 n) ≡ None
    → find p (range_with_len n m) ≡ r → find p (range_with_len 0 (n + m)) ≡ r
find_behind p n m r none e =
    (let z : 0 + n ≡ n = omega arith in ap (find p) (joined 0 n m)
    ∙ find-append p (range_with_len 0 n) (range_with_len (0 + n) m)
    ∙ ap (λ (o : Option ℕ). option_or o (find p (range_with_len (0 + n) m))) none
    ∙ ap (λ (b : ℕ). find p (range_with_len b m)) z ∙ e)

find_before : (p : ℕ → Bool) (n m x : ℕ) → find p (range_with_len 0 n) ≡ Some x
    → find p (range_with_len 0 (n + m)) ≡ Some x
find_before p n m x e = ap (find p) (joined 0 n m)
    ∙ find-append p (range_with_len 0 n) (range_with_len (0 + n) m)
    ∙ ap (λ (o : Option ℕ). option_or o (find p (range_with_len (0 + n) m))) e

-- over the pages of a segment
pub first_in_segment : (p : ℕ → Bool) (segment page : ℕ)
    → find p (range_with_len (segment * 16) page) ≡ None → p (segment * 16 + page) ≡ true
    → page < 16 → find p (pages_in segment) ≡ Some (segment * 16 + page)
unfolding pages_in
first_in_segment p segment page none on lt = find_here p (segment * 16) page 16 none on lt

-- over all pages, a segment behind another
pub none_so_far : (p : ℕ → Bool) (segment : ℕ) → find p (range_with_len 0 (segment * 16)) ≡ None
    → find p (pages_in segment) ≡ None → find p (range_with_len 0 ((segment + 1) * 16)) ≡ None
unfolding pages_in
none_so_far p segment none here =
    (let more : (segment + 1) * 16 ≡ segment * 16 + 16 = omega arith in
    ap (λ (m : ℕ). find p (range_with_len 0 m)) more
    ∙ find_behind p (segment * 16) 16 None none here)

pub first_in_all : (p : ℕ → Bool) (segment page : ℕ)
    → find p (range_with_len 0 (segment * 16)) ≡ None → find p (pages_in segment) ≡ Some page
    → segment < 64 → find p all_pages ≡ Some page
unfolding all_pages pages_in
first_in_all p segment page none here lt =
    (let rest : 1024 ≡ segment * 16 + 16 + (1024 - (segment * 16 + 16)) = omega (arith, lt) in
    ap (λ (m : ℕ). find p (range_with_len 0 m)) rest
    ∙ find_before p (segment * 16 + 16) (1024 - (segment * 16 + 16)) page
    (find_behind p (segment * 16) 16 (Some page) none here))

pub none_in_all : (p : ℕ → Bool) (segment : ℕ) → find p (range_with_len 0 (segment * 16)) ≡ None
    → segment ≡ 64 → find p all_pages ≡ None
unfolding all_pages
none_in_all p segment none e =
    (let all : 1024 ≡ segment * 16 = omega (arith, e) in
    ap (λ (m : ℕ). find p (range_with_len 0 m)) all ∙ none)
