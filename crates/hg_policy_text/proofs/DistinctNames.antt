-- Names that are read are distinct, and of a name's form.
use Rattle.std.proofs.Common.{◌≡◌, ◌≢◌, ℕ, true, false, List, [], ◌∷◌, ◌++◌, get_or, Ok, Err, sym, ◌∙◌, inl, inr, arith}
use Rattle.std.specs.Str.{bytes_eq}
use Rattle.std.proofs.lemmas.Bool.{cases_Bool, true≢false}
use Rattle.std.proofs.lemmas.List.Elements.{All-push, All-nil}
use Rattle.std.proofs.lemmas.List.Folds.{list_any_at}
use Rattle.std.proofs.lemmas.List.Quantifiers.{all_pairs_push}
use Rattle.std.proofs.lemmas.Slice.Eq.{bytes_eq-Decides}
use Rattle.toml.specs.Data.{Data, Members, string, integer, float, boolean, datetime, array, table}
use Rattle.hg_policy_text.specs.declared.key.Key.{Key}
use Rattle.hg_policy_text.specs.Faults.{kind}
use Rattle.hg_policy_text.specs.Values.{value_at}
use Rattle.hg_policy_text.specs.NameForm.{is_name, name_in, name_at}
use Rattle.hg_policy.specs.Names.{is_among}
use Rattle.hg_policy_text.specs.DocumentLaws.{AreNames}
use Rattle.hg_policy_text.proofs.Chains.{bind_at}

name_in-formed : (k : Key) (d : Data) (name : List ℕ) → name_in k d ≡ Ok name → is_name name ≡ true
name_in-formed k (string text) name e =
    elim (cases_Bool (is_name text)) [
      | inl formed ↦
          let f : Ok text ≡ Ok name = rw formed at e in
          let same : text ≡ name = cc in
          rw (← same) formed
      | inr other ↦ let f : Err (kind k) ≡ Ok name = rw other at e in cc
    ]
name_in-formed k (integer z) name e = cc
name_in-formed k (float x) name e = cc
name_in-formed k (boolean b) name e = cc
name_in-formed k (datetime t) name e = cc
name_in-formed k (array a) name e = cc
name_in-formed k (table m) name e = cc

pub name_at-formed : (k : Key) (members : Members) (name : List ℕ) → name_at k members ≡ Ok name → is_name name ≡ true
unfolding name_at
name_at-formed k members name e =
    let (d, at, rest) = bind_at (value_at k members) (name_in k) name e in
    name_in-formed k d name rest

pub AreNames-nil : AreNames []
AreNames-nil = record {
  distinct = λ i j d below within. absurd (omega arith);
  formed = All-nil (λ name. is_name name ≡ true);
}

-- one more name, that is not among those before it
pub AreNames-push : (names : List (List ℕ)) (name : List ℕ) → AreNames names → is_among name names ≡ false → is_name name ≡ true → AreNames (names ++ name ∷ [])
AreNames-push names name kept new formed = record {
  distinct = all_pairs_push (λ name other. name ≢ other) names name kept.distinct (λ k d within same.
      true≢false (sym (list_any_at (λ other. bytes_eq name other) names k d within ((bytes_eq-Decides name (get_or names k d)).1 (sym same))) ∙ new));
  formed = All-push (λ name. is_name name ≡ true) names name kept.formed formed;
}
