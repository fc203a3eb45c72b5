-- Numbers that are kept or counted, and texts one after another.
use Rattle.std.proofs.Common.{◌≡◌, ℕ, ◌+◌, ◌<◌, Bool, true, false, ◌||◌, min, cond, List, [], ◌∷◌, ◌++◌, length, count_by, filter, take, get_or, sym, ap, ◌∙◌, arith}
use Rattle.std.specs.Prelude.{if◌then◌else◌}
use Rattle.std.specs.List.{flat_map, list_any, range_with_len, sum_by}
use Rattle.std.proofs.lemmas.List.{append-nil, take_more}
use Rattle.std.proofs.lemmas.List.Folds.{list_any-append, list_any_at}
use Rattle.std.proofs.lemmas.List.FromFn.{get_or-range_with_len, length-range_with_len}
use Rattle.std.proofs.lemmas.List.Elements.{filter-append}
use Rattle.std.proofs.lemmas.List.Sums.{sum_by-append, sum_by-cons}
use Rattle.hg_replay.proofs.Looking.{range_then}
use Rattle.hg_text.proofs.Texts.{joined, one_more, flat_one}

-- the next number, where it passes
pub filtered_more : (p : ℕ → Bool) (i : ℕ) (keeps : Bool) (now next : List ℕ) → now ≡ filter p (range_with_len 0 i) → keeps ≡ p i
    → next ≡ now ++ (if keeps then i ∷ [] else []) → next ≡ filter p (range_with_len 0 (i + 1))
filtered_more p i keeps now next so_far is more =
    more
    ∙ ap (λ ns. ns ++ (if keeps then i ∷ [] else [])) so_far
    ∙ ap (λ b. filter p (range_with_len 0 i) ++ (if b then i ∷ [] else [])) is
    ∙ sym (filter-append p (range_with_len 0 i) (i ∷ []))
    ∙ ap (filter p) (sym (one_more i))

-- the text of the next of some numbers
pub words_more : (f : ℕ → List ℕ) (ns : List ℕ) (i n : ℕ) (old now next : List ℕ) → i < length ns → n ≡ get_or ns i n → now ≡ old ++ flat_map f (take i ns)
    → next ≡ now ++ f n → next ≡ old ++ flat_map f (take (i + 1) ns)
words_more f ns i n old now next within is so_far more =
    let taken : take (i + 1) ns ≡ take i ns ++ n ∷ [] = take_more ns i n within ∙ ap (λ m. take i ns ++ m ∷ []) (sym is) in
    joined old (flat_map f (take i ns)) (f n) now next so_far more
    ∙ ap (λ t. old ++ t) (sym (ap (flat_map f) taken ∙ flat_one f (take i ns) n))

-- the next number is counted, where it passes
pub counted_more : (p : ℕ → Bool) (first at count more : ℕ) (b : Bool) → count ≡ count_by p (range_with_len first at) → b ≡ p (first + at) → more ≡ cond b 1 0
    → count + more ≡ count_by p (range_with_len first (at + 1))
counted_more p first at count more b counted is one =
    let bit : ℕ → ℕ = λ k. cond (p k) 1 0 in
    let here : more ≡ bit (first + at) = one ∙ ap (λ (c : Bool). cond c 1 0) is in
    let all = ap (count_by p) (range_then first at 1) ∙ sum_by-append bit (range_with_len first at) ((first + at) ∷ []) in
    let last = sum_by-cons bit (first + at) [] in
    omega (arith, counted, here, all, last)

-- one of some numbers passes, and the next one doesn't
pub any_found : (p : ℕ → Bool) (a i n : ℕ) → i < n → p (a + i) ≡ true → list_any p (range_with_len a n) ≡ true
any_found p a i n below passes =
    list_any_at p (range_with_len a n) i 0 (omega (arith, below, length-range_with_len a n)) (ap p (get_or-range_with_len a n i 0 below) ∙ passes)

pub none_more : (p : ℕ → Bool) (a i : ℕ) (b : Bool) → list_any p (range_with_len a i) ≡ false → b ≡ p (a + i) → b ≡ false
    → list_any p (range_with_len a (i + 1)) ≡ false
none_more p a i b so_far is fails =
    ap (list_any p) (range_then a i 1)
    ∙ list_any-append p (range_with_len a i) ((a + i) ∷ [])
    ∙ ap (λ c. c || list_any p ((a + i) ∷ [])) so_far
    ∙ ap (λ c. c || false) (sym is ∙ fails)

-- the bytes of the next item, of which as many are counted as 64 bits hold
capped : (m a b : ℕ) → min (min a m + b) m ≡ min (a + b) m
capped m a b = omega arith

pub summed_more : {X : Type 0} (f : X → ℕ) (ns : List X) (i : ℕ) (n : X) (m now next : ℕ) → i < length ns → n ≡ get_or ns i n → now ≡ min (sum_by f (take i ns)) m
    → next ≡ min (now + f n) m → next ≡ min (sum_by f (take (i + 1) ns)) m
summed_more f ns i n m now next within is so_far next_is =
    let taken : take (i + 1) ns ≡ take i ns ++ n ∷ [] = take_more ns i n within ∙ ap (λ k. take i ns ++ k ∷ []) (sym is) in
    let one : sum_by f (n ∷ []) ≡ f n = sum_by-cons f n [] ∙ omega arith in
    next_is
    ∙ ap (λ s. min (s + f n) m) so_far
    ∙ capped m (sum_by f (take i ns)) (f n)
    ∙ ap (λ s. min s m) (sym (ap (sum_by f) taken ∙ sum_by-append f (take i ns) (n ∷ []) ∙ ap (λ s. sum_by f (take i ns) + s) one))

-- the next item is counted, where it passes
pub tallied_more : {X : Type 0} (p : X → Bool) (ns : List X) (i : ℕ) (n : X) (count more : ℕ) (b : Bool) → i < length ns → n ≡ get_or ns i n → count ≡ count_by p (take i ns)
    → b ≡ p n → more ≡ cond b 1 0 → count + more ≡ count_by p (take (i + 1) ns)
tallied_more {X = X} p ns i n count more b within is counted passes one =
    let bit : X → ℕ = λ k. cond (p k) 1 0 in
    let here : more ≡ bit n = one ∙ ap (λ (c : Bool). cond c 1 0) passes in
    let taken : take (i + 1) ns ≡ take i ns ++ n ∷ [] = take_more ns i n within ∙ ap (λ k. take i ns ++ k ∷ []) (sym is) in
    let all = ap (count_by p) taken ∙ sum_by-append bit (take i ns) (n ∷ []) in
    let last = sum_by-cons bit n [] in
    omega (arith, counted, here, all, last)

-- of the items so far those that pass, where the next one does, and where it doesn't
pub passes_more : {X : Type 0} (p : X → Bool) (xs : List X) (i : ℕ) (x : X) (now next : List X) → i < length xs → x ≡ get_or xs i x → now ≡ filter p (take i xs)
    → p x ≡ true → next ≡ now ++ x ∷ [] → next ≡ filter p (take (i + 1) xs)
passes_more p xs i x now next within is so_far passes more =
    let taken : take (i + 1) xs ≡ take i xs ++ x ∷ [] = take_more xs i x within ∙ ap (λ y. take i xs ++ y ∷ []) (sym is) in
    more
    ∙ ap (λ ys. ys ++ x ∷ []) so_far
    ∙ ap (λ (b : Bool). filter p (take i xs) ++ (if b then x ∷ [] else [])) (sym passes)
    ∙ sym (filter-append p (take i xs) (x ∷ []))
    ∙ ap (filter p) (sym taken)

pub fails_more : {X : Type 0} (p : X → Bool) (xs : List X) (i : ℕ) (x : X) (now : List X) → i < length xs → x ≡ get_or xs i x → now ≡ filter p (take i xs)
    → p x ≡ false → now ≡ filter p (take (i + 1) xs)
fails_more p xs i x now within is so_far fails =
    let taken : take (i + 1) xs ≡ take i xs ++ x ∷ [] = take_more xs i x within ∙ ap (λ y. take i xs ++ y ∷ []) (sym is) in
    so_far
    ∙ sym (append-nil (filter p (take i xs)))
    ∙ ap (λ (b : Bool). filter p (take i xs) ++ (if b then x ∷ [] else [])) (sym fails)
    ∙ sym (filter-append p (take i xs) (x ∷ []))
    ∙ ap (filter p) (sym taken)
