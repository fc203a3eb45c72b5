-- Remote lists that are given back, one after the other.
use Rattle.std.proofs.Common.{◌≡◌, ℕ, ◌+◌, ◌<◌, ◌≤◌, ◌==◌, cond, List, [], ◌∷◌, ◌++◌, length, reverse}
use Rattle.std.proofs.Common.{find, take, drop, get_or, set, Some, sym, ap, ◌∙◌, arith}
use Rattle.std.proofs.Common.{subst, inl, inr}
use Rattle.std.proofs.lemmas.Bool.{cases_eq, eq-eqb, ne_eqb}
use Rattle.std.proofs.lemmas.List.{take_more, reverse-append, length-set}
use Rattle.std.proofs.lemmas.List.{drop-set-lt, drop-drop, get_or-drop, set_past}
use Rattle.std.proofs.lemmas.List.{get_or-set_same, get_or-set_other}
use Rattle.hg_remote.specs.Remote.{Remote, nothing_sent}
use Rattle.hg_service.specs.declared.kept_list.KeptList.{KeptList}
use Rattle.hg_service.specs.GivenBack.{list_or, list_of, AreListsOf}

module _ {N : _} where
  -- the last is looked at first
  last_first : (lists : List (KeptList N)) (kept : KeptList N) (segment : ℕ)
      → list_of (lists ++ kept ∷ []) segment
      ≡ list_or (cond (kept.segment == segment) (Some kept)
      (find (λ one. one.segment == segment) (reverse lists)))
  last_first lists kept segment =
      ap (λ ks. list_or (find (λ one. one.segment == segment) ks))
      (reverse-append lists (kept ∷ []))

  one_more : (lists : List (KeptList N)) (kept : KeptList N) (count : ℕ) (remotes : List Remote)
      → AreListsOf lists count remotes
      → AreListsOf (lists ++ kept ∷ []) count (set remotes kept.segment kept.list)
  one_more lists kept count remotes back = record {
    all = length-set remotes kept.segment kept.list ∙ back.all;
    each = λ segment lt. elim (cases_eq kept.segment segment) [
      | inl e ↦
          ap (λ n. get_or (set remotes n kept.list) segment nothing_sent) e
          ∙ get_or-set_same remotes segment kept.list nothing_sent (omega (arith, lt, back.all))
          ∙ sym (last_first lists kept segment
          ∙ ap (λ b. list_or (cond b (Some kept) (find (λ one. one.segment == segment)
          (reverse lists)))) (eq-eqb kept.segment segment e))
      | inr ne ↦
          get_or-set_other remotes kept.segment segment kept.list nothing_sent (λ e. ne (sym e))
          ∙ back.each segment lt
          ∙ sym (last_first lists kept segment
          ∙ ap (λ b. list_or (cond b (Some kept) (find (λ one. one.segment == segment)
          (reverse lists)))) (ne_eqb kept.segment segment ne))
    ];
  }

  -- the next one is given back
  pub next_back : (lists : List (KeptList N)) (i : ℕ) (kept : KeptList N) (count : ℕ)
      (remotes : List Remote) → i < length lists → kept ≡ get_or lists i kept
      → AreListsOf (take i lists) count remotes
      → AreListsOf (take (i + 1) lists) count (set remotes kept.segment kept.list)
  next_back lists i kept count remotes lt is back =
      let next : take (i + 1) lists ≡ take i lists ++ kept ∷ [] =
      take_more lists i kept lt ∙ ap (λ one. take i lists ++ one ∷ []) (sym is) in
      subst (λ ks. AreListsOf ks count (set remotes kept.segment kept.list)) (sym next)
      (one_more (take i lists) kept count remotes back)

  -- those that come later are as they were
  pub later_on : (now lists : List (KeptList N)) (i : ℕ) (kept : KeptList N)
      → drop i now ≡ drop i lists → drop (i + 1) (set now i kept) ≡ drop (i + 1) lists
  later_on now lists i kept later =
      drop-set-lt (i + 1) now i kept (omega arith) ∙ sym (drop-drop 1 i now)
      ∙ ap (drop 1) later ∙ drop-drop 1 i lists

  pub later_here : (now lists : List (KeptList N)) (i : ℕ) (kept : KeptList N)
      → drop i now ≡ drop i lists → get_or now i kept ≡ get_or lists i kept
  later_here now lists i kept later =
      let here : i + 0 ≡ i = omega arith in
      ap (λ k. get_or now k kept) (sym here) ∙ sym (get_or-drop i now 0 kept)
      ∙ ap (λ ks. get_or ks 0 kept) later ∙ get_or-drop i lists 0 kept
      ∙ ap (λ k. get_or lists k kept) here

  -- one of no segment of these goes nowhere
  pub goes_nowhere : (remotes : List Remote) (kept : KeptList N) → length remotes ≤ kept.segment
      → set remotes kept.segment kept.list ≡ remotes
  goes_nowhere remotes kept past = set_past remotes kept.segment kept.list past
