-- Operands that are places, blocks and labels, in the words of a line.
use Rattle.std.proofs.Common.{◌≡◌, ℕ, true, List, [], ◌∷◌, Option, Some, None, Ok, codes, refl, ap, subst, ◌∙◌, inl, inr}
use Rattle.std.specs.Prelude.{bytes_eq, IfSome}
use Rattle.hg_place.specs.declared.Place.{Place}
use Rattle.hg_policy_text.specs.NameForm.{is_name}
use Rattle.hg_trace.specs.declared.line.BlockName.{BlockName}
use Rattle.hg_trace.specs.declared.fault.LineFault.TheVariants as fault
use Rattle.hg_trace.specs.Operands.{name_operand, label_operand, no_operand}
use Rattle.hg_trace.specs.Handles.{place_of, place_operand}
use Rattle.hg_trace.specs.Blocks.{block_of, block_operand}
use Rattle.hg_trace.specs.Commands.{known}
use Rattle.hg_trace.specs.Printed.{place_text, block_text, label_words}
use Rattle.hg_trace.specs.Plain.{AreLabels, IsPlainBlock, IsNewLabel}
use Rattle.hg_trace.proofs.Binds.{well, bind_ok, ok_is, some_is, if_ok, bytes_eq-true}
use Rattle.hg_trace.proofs.PlainOperands.{name_operand-plain, name_operand-is, no_operand-is}
use Rattle.hg_trace.proofs.PlainPlaces.{place_of-plain, place_of-is}
use Rattle.hg_trace.proofs.PlainBlocks.{block_of-plain, block_of-is}

pub place_operand-plain : (place : Place) (words : List (List ℕ)) → place_operand (place_text place ∷ words) ≡ Ok (place, words)
unfolding place_operand
place_operand-plain place words = rw (place_of-plain place) refl

pub place_operand-is : (words : List (List ℕ)) (x : Place × List (List ℕ)) → place_operand words ≡ Ok x → words ≡ place_text x.0 ∷ x.1
unfolding place_operand
place_operand-is [] x h = absurd (cc)
place_operand-is (word ∷ words) x h =
    let (place, read, is) = bind_ok (place_of word) _ x h in
    subst (λ y. word ∷ words ≡ place_text y.0 ∷ y.1) (ok_is (place, words) x is) (ap (λ w. w ∷ words) (place_of-is word place read))

pub block_operand-plain : (labels : List (List ℕ)) (block : BlockName) (words : List (List ℕ)) → AreLabels labels → IsPlainBlock labels block
    → block_operand labels (block_text labels block ∷ words) ≡ Ok (Some block, words)
unfolding block_operand
block_operand-plain labels block words are plain = rw (block_of-plain labels block are plain) refl

pub block_operand-is : (labels words : List (List ℕ)) (x : Option BlockName × List (List ℕ)) (block : BlockName) → block_operand labels words ≡ Ok x → known x.0 ≡ Ok block
    → (words ≡ block_text labels block ∷ x.1) × IsPlainBlock labels block
unfolding block_operand
block_operand-is labels [] x block h found = absurd (cc)
block_operand-is labels (word ∷ words) x block h found =
    let (o, read, is) = bind_ok (block_of labels word) _ x h in
    let same : (o, words) ≡ x = ok_is (o, words) x is in
    let here : o ≡ Some block = ap (λ y. y.0) same ∙ some_is x.0 fault.UnknownLabel block found in
    let (text, plain) = block_of-is labels word block (read ∙ ap (λ p. Ok p) here) in
    (ap (λ w. w ∷ words) text ∙ ap (λ y. block_text labels block ∷ y.1) same, plain)

pub label_operand-plain : (labels : List (List ℕ)) (label : Option (List ℕ)) → IsNewLabel labels label → label_operand (label_words label) ≡ Ok label
unfolding label_operand
label_operand-plain labels None fresh = refl
label_operand-plain labels (Some label) fresh = rw (name_operand-plain label [] fresh.0) refl

pub label_operand-is : (words : List (List ℕ)) (label : Option (List ℕ)) → label_operand words ≡ Ok label → (words ≡ label_words label) × IfSome label (λ text. is_name text ≡ true)
unfolding label_operand
label_operand-is [] label h = subst (λ k. ([] ≡ label_words k) × IfSome k (λ text. is_name text ≡ true)) (ok_is None label h) (refl, tt)
label_operand-is (word ∷ words) label h =
    elim (if_ok (bytes_eq word (codes "as")) _ _ label h) [
      | inl (marked, h1) ↦
          let (name, e1, h2) = bind_ok (name_operand words) _ label h1 in
          let (end, e2, is) = bind_ok _ _ label h2 in
          made name end (bytes_eq-true word (codes "as") marked) e1 e2 is
      | inr (unlike, h1) ↦ absurd (cc)
    ]
  where
    made : (name : List ℕ × List (List ℕ)) (end : Unit {0}) → word ≡ codes "as" → name_operand words ≡ Ok name → no_operand name.1 ≡ Ok end → well (Some name.0) ≡ Ok label
        → (word ∷ words ≡ label_words label) × IfSome label (λ text. is_name text ≡ true)
    made name end as_is e1 e2 is =
        let (w1, named) = name_operand-is words name e1 in
        let w2 = no_operand-is name.1 end e2 in
        let all : word ∷ words ≡ codes "as" ∷ name.0 ∷ [] = cc in
        subst (λ k. (word ∷ words ≡ label_words k) × IfSome k (λ text. is_name text ≡ true)) (ok_is (Some name.0) label is) (all, named)
