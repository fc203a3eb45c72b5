-- How many hands have a place.
use Rattle.std.proofs.Common.{◌≡◌, ℕ, ◌+◌, ◌<◌, List, [], ◌∷◌, ◌++◌, length, take}
use Rattle.std.proofs.Common.{get_or, slice_index, Option, Some, None, sym, ap, ◌∙◌, arith}
use Rattle.std.proofs.Common.{subst, inl, inr}
use Rattle.std.specs.Prelude.{option_map}
use Rattle.std.proofs.lemmas.Bool.{cases_eq, eq-eqb}
use Rattle.std.proofs.lemmas.List.{take_more, map-append, length-set}
use Rattle.std.proofs.lemmas.List.{get_or-set_other}
use Rattle.std.proofs.lemmas.Grind.{get_or-set_at}
use Rattle.hg_place.specs.declared.Place.{Place}
use Rattle.hg_place.specs.Places.{number_of}
use Rattle.hg_place.specs.Words.{bit_of}
use Rattle.hg_audit.specs.Handed.{hands_in}
use Rattle.hg_audit.specs.HandCounts.{AreHandCounts, with_hand}
use Rattle.hg_audit.proofs.LowestLemmas.{one_more, away}

-- one hand more
with_one : (hands : List (Option ℕ)) (hand : Option ℕ) (segments : ℕ) (counts : List ℕ)
    → AreHandCounts hands segments counts
    → AreHandCounts (hands ++ hand ∷ []) segments (with_hand counts hand)
with_one hands None segments counts are = record {
  all = are.all;
  each = λ place lt. omega (arith, are.each place lt, one_more hands None place);
}
with_one hands (Some n) segments counts are = record {
  all = length-set counts n (slice_index counts n + 1) ∙ are.all;
  each = λ place lt. elim (cases_eq n place) [
    | inl e ↦ omega (
      arith,
      get_or-set_at counts n place (slice_index counts n + 1) 0 (sym e)
          (omega (arith, lt, e, are.all)),
      ap (slice_index counts) e,
      are.each place lt,
      one_more hands (Some n) place,
      ap bit_of (eq-eqb n place e),
    )
    | inr ne ↦ omega (
      arith,
      get_or-set_other counts n place (slice_index counts n + 1) 0 (λ e. ne (sym e)),
      are.each place lt,
      one_more hands (Some n) place,
      away n place ne,
    )
  ];
}

-- the next hand of a list
pub next_counted : (hands : List (Option Place)) (i : ℕ) (hand : Option Place) (segments : ℕ)
    (counts : List ℕ) → i < length hands → hand ≡ get_or hands i hand
    → AreHandCounts (hands_in (take i hands)) segments counts
    → AreHandCounts (hands_in (take (i + 1) hands)) segments
    (with_hand counts (option_map number_of hand))
next_counted hands i hand segments counts lt is are =
    let next : take (i + 1) hands ≡ take i hands ++ hand ∷ [] =
    take_more hands i hand lt ∙ ap (λ x. take i hands ++ x ∷ []) (sym is) in
    subst (λ hs. AreHandCounts hs segments (with_hand counts (option_map number_of hand)))
    (sym (ap hands_in next ∙ map-append (option_map number_of) (take i hands) (hand ∷ [])))
    (with_one (hands_in (take i hands)) (option_map number_of hand) segments counts are)
