-- Handles are in the order of their words.
use Rattle.std.proofs.Common.{◌≡◌, ℕ, ◌+◌, ◌*◌, ◌<◌, ◌^◌, refl, ap, ◌∙◌, arith}
use Rattle.std.proofs.lemmas.Bool.Decides.{nat_tests}
use Rattle.std.specs.declared.cmp.Ordering.{Ordering}
use Rattle.std.specs.declared.cmp.Ordering.TheVariants.{Less, Equal, Greater}
use Rattle.std.specs.Ordering.{nat_cmp, ordering_then}
use Rattle.hg_place.specs.HandleLaws.{HandlesAreInTheOrderOfWords}

-- numbers are in the order of their digits, the first first
pages : (a x b y : ℕ) → x < 16 → y < 16 → ordering_then (nat_cmp a b) (nat_cmp x y) ≡ nat_cmp (a * 16 + x) (b * 16 + y)
pages a x b y xs ys = grind (arith, nat_tests)

places : (a x b y : ℕ) → x < 512 → y < 512 → ordering_then (nat_cmp a b) (nat_cmp x y) ≡ nat_cmp (a * 512 + x) (b * 512 + y)
places a x b y xs ys = grind (arith, nat_tests)

words : (a x b y : ℕ) → x < 2 ^ 32 → y < 2 ^ 32 → ordering_then (nat_cmp a b) (nat_cmp x y) ≡ nat_cmp (a * 2 ^ 32 + x) (b * 2 ^ 32 + y)
words a x b y xs ys = grind (arith, nat_tests)

then_then : (r s t : Ordering) → ordering_then r (ordering_then s t) ≡ ordering_then (ordering_then r s) t
then_then Less s t = refl
then_then Equal s t = refl
then_then Greater s t = refl

pub in_order : HandlesAreInTheOrderOfWords
in_order one other os ts =
    ap (λ r. ordering_then r (nat_cmp one.generation other.generation))
    (then_then (nat_cmp one.place.segment other.place.segment) (nat_cmp one.place.page other.place.page) (nat_cmp one.place.index other.place.index)
    ∙ ap (λ r. ordering_then r (nat_cmp one.place.index other.place.index)) (pages one.place.segment one.place.page other.place.segment other.place.page one.place.page_below other.place.page_below)
    ∙ places _ one.place.index _ other.place.index one.place.index_below other.place.index_below)
    ∙ words _ one.generation _ other.generation os ts
