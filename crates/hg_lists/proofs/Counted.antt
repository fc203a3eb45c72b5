-- How often an entry stands on all lists together.
use Rattle.std.proofs.Common.{slice_index_or, ◌≡◌, ℕ, zero, suc, ◌+◌, nat_eq, List, [], ◌∷◌, ◌++◌, count_by, refl, arith, cond}
use Rattle.std.specs.Prelude.{Contains}
use Rattle.std.specs.List.{concat}
use Rattle.std.proofs.lemmas.List.Sums.{sum_by-append}
use Rattle.hg_lists.specs.Repeats.{HasNoRepeats}
use Rattle.hg_lists.specs.Lists.{Lists, AreApart, IsSomewhere, IsNowhere}
use Rattle.hg_lists.proofs.RepeatsLemmas.{in_contains, lacks_contains, count_by-lacks, count_by-in}

abbrev pub times : ℕ → List ℕ → ℕ
times entry xs = count_by (λ other. nat_eq other entry) xs

pub times-append : (entry : ℕ) (xs ys : List ℕ) → times entry (xs ++ ys) ≡ times entry xs + times entry ys
times-append entry xs ys = sum_by-append (λ other. cond {A = ℕ} (nat_eq other entry) 1 0) xs ys

nowhere : (entry : ℕ) (lists : List (List ℕ)) → ((key : ℕ) → ¬ Contains (slice_index_or lists key []) entry) → times entry (concat lists) ≡ 0
nowhere entry [] f = refl
nowhere entry (xs ∷ lists) f = omega (arith, times-append entry xs (concat lists), count_by-lacks entry xs (lacks_contains entry xs (f 0)), nowhere entry lists (λ key. f (suc key)))

somewhere : (entry : ℕ) (lists : List (List ℕ)) (key : ℕ) → ((k : ℕ) → HasNoRepeats (slice_index_or lists k []))
    → ((k other : ℕ) → Contains (slice_index_or lists k []) entry → Contains (slice_index_or lists other []) entry → k ≡ other) → Contains (slice_index_or lists key []) entry → times entry (concat lists) ≡ 1
somewhere entry [] key once alone c = absurd (omega (arith, c.1))
somewhere entry (xs ∷ lists) zero once alone c = omega (
  arith,
  times-append entry xs (concat lists),
  count_by-in entry xs (once 0) (in_contains entry xs c),
  nowhere entry lists (λ key d. omega (arith, alone 0 (suc key) c d)),
)
somewhere entry (xs ∷ lists) (suc key) once alone c = omega (
  arith,
  times-append entry xs (concat lists),
  count_by-lacks entry xs (lacks_contains entry xs (λ d. omega (arith, alone 0 (suc key) d c))),
  somewhere entry lists key (λ k. once (suc k)) (λ k other d e. omega (arith, alone (suc k) (suc other) d e)) c,
)

pub times-concat_somewhere : (m : Lists) (entry : ℕ) → AreApart m → IsSomewhere m entry → times entry (concat m.by_key) ≡ 1
times-concat_somewhere m entry h s = somewhere entry m.by_key s.0 h.once (λ k other c d. h.alone entry k other c d) s.1

pub times-concat_nowhere : (m : Lists) (entry : ℕ) → IsNowhere m entry → times entry (concat m.by_key) ≡ 0
times-concat_nowhere m entry away = nowhere entry m.by_key away
