-- What is told of bytes, by what is read of them.
use Rattle.std.proofs.Common.{◌≡◌, ◌<◌, ◌++◌, ℕ, List, [], Option, Some, None, Ok, Err, true, refl, sym, ap, subst, ◌∙◌, inl, inr}
use Rattle.std.proofs.lemmas.Bool.{cases_Bool}
use Rattle.std.proofs.lemmas.Str.{IsUtf8-from_is_utf8, is_utf8-from_IsUtf8}
use Rattle.std.specs.Prelude.{IfOk, IfSome, Result, is_some}
use Rattle.std.specs.Option.{option_and_then}
use Rattle.std.specs.Str.{is_utf8, IsUtf8}
use Rattle.toml.specs.Data.{Members}
use Rattle.toml.specs.Parse.{parse_document}
use Rattle.hg_machine.specs.Policy.{Policy}
use Rattle.hg_policy_text.specs.Document.{document_of, policy_at, tree_of}
use Rattle.hg_policy_text.specs.Faults.{Fault, FailsAs}
use Rattle.hg_policy_text.specs.FaultyRow.{faulty_row, row_at}
use Rattle.hg_policy_text.specs.declared.row.Row.{Row}
use Rattle.hg_policy_laws.proofs.FaultyRows.{faulty_rows_are_rows}
use Rattle.hg_hints.specs.Hints.{IsHint, IsHintOf, IsRefused, hint_line, place_text, told_of}
use Rattle.hg_hints.specs.Reasons.{reason}

-- where there is a value, of which both hold
pub if_both : {T E : Type 0} {P Q R : T → Type 0} (r : Result T E) → ((x : T) → P x → Q x → R x) → IfOk r P → IfOk r Q → IfOk r R
if_both (Ok x) joined p q = joined x p q
if_both (Err e) joined p q = p

module _ (bytes hint : List ℕ) where
  -- bytes that are a tree
  module _ (t : Members) (tree : tree_of bytes ≡ Some t) where
    document_is : document_of bytes ≡ policy_at t
    unfolding document_of
    document_is = rw tree refl

    hinted : hint ≡ told_of t (policy_at t) → IsHint bytes hint
    hinted is = subst (λ it. IsHintOf bytes it hint) (sym tree) is

    -- a policy
    pub nothing_told : (policy : Policy) → document_of bytes ≡ Ok policy → hint ≡ [] → IsHint bytes hint
    nothing_told policy means none = hinted (none ∙ ap (told_of t) (sym means ∙ document_is))

    -- a fault, which isn't want of memory
    pub fault_told : (fault : Option Fault) (row : Option Row) → row ≡ faulty_row bytes → FailsAs fault (document_of bytes)
        → IfSome fault (λ f. hint ≡ hint_line (place_text row ++ reason t f)) → is_some fault ≡ true → IsHint bytes hint
    fault_told None row is fails told some = absurd (cc)
    fault_told (Some f) row is fails told some =
        let there : row ≡ row_at t = is ∙ ap (option_and_then row_at) tree in
        hinted (told ∙ ap (λ r. hint_line (place_text r ++ reason t f)) there ∙ ap (told_of t) (sym fails ∙ document_is))

  -- bytes that are none
  pub refusal_told : tree_of bytes ≡ None → IsRefused bytes hint → IsHint bytes hint
  refusal_told tree refused = subst (λ it. IsHintOf bytes it hint) (sym tree) refused

-- a row is one of its table
pub row_below : (bytes : List ℕ) (row : Option Row) → row ≡ faulty_row bytes → IfSome row (λ r. r.number < r.rows)
row_below bytes None is = tt
row_below bytes (Some row) is = (faulty_rows_are_rows bytes row (sym is)).2

-- the tree of text that is read, and of text that isn't
pub tree_read : (bytes : List ℕ) (t : Members) → IsUtf8 bytes → parse_document bytes ≡ Some t → tree_of bytes ≡ Some t
tree_read bytes t text parsed = rw (is_utf8-from_IsUtf8 bytes text, parsed) refl

pub tree_refused : (bytes : List ℕ) → (IsUtf8 bytes → parse_document bytes ≡ None) → tree_of bytes ≡ None
tree_refused bytes refused =
    elim (cases_Bool (is_utf8 bytes)) [
      | inl text ↦ rw (text, refused (IsUtf8-from_is_utf8 bytes text)) refl
      | inr other ↦ rw other refl
    ]
