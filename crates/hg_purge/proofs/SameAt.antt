-- Lists that are the same at some indexes.
use Rattle.std.proofs.Common.{◌≡◌, ℕ, inl, inr, Bool, true, false, List, length}
use Rattle.std.proofs.Common.{get_or, set, map, refl, sym, ap, subst, ◌∙◌, arith}
use Rattle.std.specs.List.{range_with_len}
use Rattle.std.proofs.lemmas.Bool.{cases_eq, cases_lt, true≢false}
use Rattle.std.proofs.lemmas.Grind.{get_or-set_at}
use Rattle.std.proofs.lemmas.List.{length-set, get_or-set_other, get_or_past, set_past}
use Rattle.std.proofs.lemmas.List.FromFn.{length-map-range_with_len, get_or-map-range_with_len}

-- as long, and the same at each index that passes
pub record SameAt {X : Type 0} (on : ℕ → Bool) (d : X) (xs ys : List X) : Type 0 where
  pub long : length ys ≡ length xs
  pub at : (i : ℕ) → on i ≡ true → get_or ys i d ≡ get_or xs i d

module _ {X : Type 0} {on : ℕ → Bool} {d : X} where
  pub same_itself : (xs : List X) → SameAt on d xs xs
  same_itself xs = record { long = refl; at = λ i o. refl }

  pub same_after : {xs ys zs : List X} → SameAt on d xs ys → SameAt on d ys zs → SameAt on d xs zs
  same_after h k = record { long = k.long ∙ h.long; at = λ i o. k.at i o ∙ h.at i o }

  pub same_before : {xs ys : List X} → SameAt on d xs ys → SameAt on d ys xs
  same_before h = record { long = sym h.long; at = λ i o. sym (h.at i o) }

  -- one value written to both
  set_one : (xs ys : List X) (i : ℕ) (v : X) → SameAt on d xs ys
      → SameAt on d (set xs i v) (set ys i v)
  set_one xs ys i v h = record {
    long = length-set ys i v ∙ h.long ∙ sym (length-set xs i v);
    at = λ j o.
        elim (cases_eq j i) as (λ _. get_or (set ys i v) j d ≡ get_or (set xs i v) j d) [
          | inr ne ↦
              get_or-set_other ys i j v d ne ∙ h.at j o ∙ sym (get_or-set_other xs i j v d ne)
          | inl e ↦
              elim (cases_lt i (length xs)) as
              (λ _. get_or (set ys i v) j d ≡ get_or (set xs i v) j d) [
                | inl below ↦
                    get_or-set_at ys i j v d e (let l = h.long in omega arith)
                    ∙ sym (get_or-set_at xs i j v d e below)
                | inr past ↦
                    ap (λ zs. get_or zs j d) (set_past ys i v (let l = h.long in omega arith))
                    ∙ h.at j o
                    ∙ sym (ap (λ zs. get_or zs j d) (set_past xs i v past))
              ]
        ];
  }

  pub set_both : {xs ys : List X} {u v : X} (i : ℕ) → SameAt on d xs ys → v ≡ u
      → SameAt on d (set xs i u) (set ys i v)
  set_both {xs} {ys} {u} {v} i h e =
      subst (λ x. SameAt on d (set xs i u) (set ys i x)) (sym e) (set_one xs ys i u h)

  -- a value written where it doesn't count
  pub set_off : {xs : List X} (i : ℕ) (v : X) → on i ≡ false → SameAt on d xs (set xs i v)
  set_off {xs} i v off = record {
    long = length-set xs i v;
    at = λ j o. get_or-set_other xs i j v d (λ e. true≢false (sym o ∙ ap on e ∙ off));
  }

  -- lists made by two functions that are the same at these indexes
  pub maps_both : (f g : ℕ → X) (n m : ℕ) → m ≡ n → ((i : ℕ) → on i ≡ true → g i ≡ f i)
      → SameAt on d (map f (range_with_len 0 n)) (map g (range_with_len 0 m))
  maps_both f g n m e same = record {
    long = length-map-range_with_len g 0 m ∙ e ∙ sym (length-map-range_with_len f 0 n);
    at = λ i o.
        elim (cases_lt i n) as
        (λ _. get_or (map g (range_with_len 0 m)) i d ≡ get_or (map f (range_with_len 0 n)) i d) [
          | inl below ↦
              get_or-map-range_with_len g 0 m i i d (omega arith) (omega arith) ∙ same i o
              ∙ sym (get_or-map-range_with_len f 0 n i i d below (omega arith))
          | inr past ↦
              get_or_past _ i d (let l = length-map-range_with_len g 0 m in omega arith)
              ∙ sym (get_or_past _ i d (let l = length-map-range_with_len f 0 n in omega arith))
        ];
  }

  -- a list made anew, of the old values
  pub map_off : {xs : List X} (f : ℕ → X) (n : ℕ) → length xs ≡ n
      → ((i : ℕ) → on i ≡ true → f i ≡ get_or xs i d)
      → SameAt on d xs (map f (range_with_len 0 n))
  map_off {xs} f n e same = record {
    long = length-map-range_with_len f 0 n ∙ sym e;
    at = λ i o.
        elim (cases_lt i n) as
        (λ _. get_or (map f (range_with_len 0 n)) i d ≡ get_or xs i d) [
          | inl below ↦ get_or-map-range_with_len f 0 n i i d below (omega arith) ∙ same i o
          | inr past ↦
              get_or_past _ i d (let l = length-map-range_with_len f 0 n in omega arith)
              ∙ sym (get_or_past xs i d (omega arith))
        ];
  }
