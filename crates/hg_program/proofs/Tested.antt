-- Traces of files are tested one after another.
use Rattle.std.proofs.Common.{◌≡◌, ◌∙◌, ◌<◌, ℕ, ◌+◌, List, [], ◌∷◌, ◌++◌, length, get_or, map, take}
use Rattle.std.proofs.Common.{All, Option, Bor, sym, ap, subst, arith}
use Rattle.std.proofs.lemmas.List.{take_more, map_push}
use Rattle.std.proofs.lemmas.List.Elements.{All-push, All-take, All-drop}
use Rattle.std.proofs.Math.Seq.{take-append_seam, drop-append_seam}
use Rattle.hg_expect.specs.declared.source.Source.{Source}
use Rattle.hg_expect.specs.Tests.{IsUnwarned, Progress, Stands}
use Rattle.hg_program.specs.Ends.{IsOf, StandOf}

abbrev pub texts : List (Bor (List ℕ)) → List (List ℕ)
texts names = map (λ name. name.now) names

-- what holds of each of more holds of the first, and of the last
fronts : {X : Type 0} (P : X → Type 0) (xs : List X) (x : X) → All P (xs ++ x ∷ []) → All P xs
fronts P xs x all =
    subst (λ ys. All P ys) (take-append_seam xs (x ∷ []))
    (All-take P (length xs) (xs ++ x ∷ []) all)

last : {X : Type 0} (P : X → Type 0) (xs : List X) (x : X) → All P (xs ++ x ∷ []) → P x
last P xs x all =
    subst (λ ys. All P ys) (drop-append_seam xs (x ∷ []))
    (All-drop P (length xs) (xs ++ x ∷ []) all) 0 x (omega arith)

module _ (holds : List ℕ → Option (List ℕ)) (policy : List ℕ) where
  -- a trace of a further name
  pub stand_more : {Q R : Type 0} (names : List (Bor (List ℕ))) (i : ℕ) (d : Bor (List ℕ))
      (source : Source) (old new : Progress) → i < length names → source.name ≡ get_or names i d
      → IsOf (holds (get_or names i d).now) source.bytes.items
      → ((sources : List Source) → Stands policy sources old
      → Stands policy (sources ++ source ∷ []) new)
      → (IsUnwarned policy source → Q → R)
      → StandOf holds policy (texts (take i names)) old Q
      → StandOf holds policy (texts (take (i + 1) names)) new R
  stand_more names i d source old new lt is of adds quiet (sources, (same, each), so_far, before) = (
    sources ++ source ∷ [],
    (
      map_push (λ (s : Source). s.name.now) sources source
          ∙ ap (λ ns. ns ++ source.name.now ∷ []) same
          ∙ ap (λ (name : Bor (List ℕ)). texts (take i names) ++ name.now ∷ []) is
          ∙ sym (ap texts (take_more names i d lt)
          ∙ map_push (λ (name : Bor (List ℕ)). name.now) (take i names) (get_or names i d)),
      All-push (λ (s : Source). IsOf (holds s.name.now) s.bytes.items) sources source each
          (subst (λ (name : Bor (List ℕ)). IsOf (holds name.now) source.bytes.items) (sym is) of),
    ),
    adds sources so_far,
    λ all. quiet (last (IsUnwarned policy) sources source all)
        (before (fronts (IsUnwarned policy) sources source all)),
  )
