-- Blocks are read from how they are written, and from nothing else.
use Rattle.std.proofs.Common.{◌≡◌, ℕ, ◌+◌, ◌<◌, ◌^◌, ◌==◌, suc, true, false, List, [], ◌∷◌, Option, Some, None, Ok, Err, length, get_or, refl, sym, ap, subst, ◌∙◌, inl, inr, arith}
use Rattle.std.specs.Prelude.{position, bytes_eq, option_map}
use Rattle.std.specs.List.{position_or_len}
use Rattle.std.proofs.lemmas.Bool.{cases_Bool, lt-ltb}
use Rattle.std.proofs.lemmas.Bool.Decides.{nat_tests}
use Rattle.std.proofs.lemmas.List.Sums.{position_or_len_is}
use Rattle.hg_place.specs.declared.Handle.{Handle}
use Rattle.hg_policy_text.specs.NameForm.{is_name, is_lower}
use Rattle.hg_trace.specs.declared.line.BlockName.{BlockName}
use Rattle.hg_trace.specs.declared.line.BlockName.TheVariants as block_name
use Rattle.hg_trace.specs.declared.fault.LineFault.TheVariants as fault
use Rattle.hg_trace.specs.Handles.{handle_of}
use Rattle.hg_trace.specs.Blocks.{label_of, block_of}
use Rattle.hg_trace.specs.Printed.{handle_text, block_text}
use Rattle.hg_trace.specs.Plain.{AreLabels, IsPlainBlock}
use Rattle.hg_trace.specs.PlainLaws.{HandlesAreTheirTexts}
use Rattle.hg_trace.proofs.Binds.{well, bind_ok, ok_is, if_ok, bytes_eq-true, bytes_eq-same, bytes_eq-other}
use Rattle.hg_trace.proofs.Firsts.{position_some}
use Rattle.hg_trace.proofs.PlainPlaces.{behind_at, handle_text-dots, handle_of-plain, handle_of-is}

one_more : (n : ℕ) → 1 + n ≡ suc n
one_more n = omega arith

-- what stands where a text was found
found_at : (text : List ℕ) (labels : List (List ℕ)) → position_or_len (λ label. bytes_eq text label) labels < length labels
    → get_or labels (position_or_len (λ label. bytes_eq text label) labels) [] ≡ text
found_at text [] h = absurd (omega arith)
found_at text (label ∷ labels) h =
    let rest = found_at text labels in
    elim (cases_Bool (bytes_eq text label)) [
      | inl e ↦ rw e (sym (bytes_eq-true text label e))
      | inr e ↦
          let within = rw e at h in
          rw (e, one_more (position_or_len (λ label. bytes_eq text label) labels)) (rest (omega arith))
    ]

-- each label is found where it stands
position-label : (labels : List (List ℕ)) (n : ℕ) → AreLabels labels → n < length labels → position (λ label. bytes_eq (get_or labels n []) label) labels ≡ Some n
position-label labels n are within =
    let first : position_or_len (λ label. bytes_eq (get_or labels n []) label) labels ≡ n =
    position_or_len_is (λ label. bytes_eq (get_or labels n []) label) labels n [] (omega arith)
    (λ k below. bytes_eq-other (get_or labels n []) (get_or labels k []) (λ same. are.once k n [] below within (sym same)))
    (λ h. bytes_eq-same (get_or labels n []) (get_or labels n []) refl) in
    rw (first, lt-ltb n (length labels) within) refl

-- a name doesn't begin with an `@`
no_at : (b : ℕ) (bs : List ℕ) → is_name (b ∷ bs) ≡ true → (b == 64) ≡ false
no_at b bs h = elim (cases_Bool (is_lower b)) [
  | inl e ↦ lower b e
  | inr e ↦ let no = rw e at h in absurd (cc)
]
  where
    lower : (b : ℕ) → is_lower b ≡ true → (b == 64) ≡ false
    lower b e = grind (arith, nat_tests)

named : (labels : List (List ℕ)) (word : List ℕ) (n : ℕ) → is_name word ≡ true → position (λ label. bytes_eq word label) labels ≡ Some n → block_of labels word ≡ Ok (Some (block_name.Label n))
unfolding block_of
named labels [] n name found = absurd (cc)
named labels (b ∷ bs) n name found = rw (no_at b bs name, name, found) refl

at_handle : (labels : List (List ℕ)) (bs : List ℕ) (handle : Handle) → handle_of bs ≡ Ok handle → block_of labels (64 ∷ bs) ≡ Ok (Some (block_name.Handle handle))
unfolding block_of
at_handle labels bs handle read = rw read refl

pub block_of-handle : (labels : List (List ℕ)) (handle : Handle) → handle.generation < 2 ^ 32 → block_of labels (handle_text handle) ≡ Ok (Some (block_name.Handle handle))
block_of-handle labels handle plain =
    let read : handle_of (behind_at handle) ≡ Ok handle = handle_of-plain handle (behind_at handle) plain (sym (handle_text-dots handle)) in
    ap (block_of labels) (handle_text-dots handle) ∙ at_handle labels (behind_at handle) handle read

pub block_of-plain : (labels : List (List ℕ)) (block : BlockName) → AreLabels labels → IsPlainBlock labels block → block_of labels (block_text labels block) ≡ Ok (Some block)
block_of-plain labels (block_name.Handle handle) are plain = block_of-handle labels handle plain
block_of-plain labels (block_name.Label n) are within = named labels (get_or labels n []) n (are.names n [] within) (position-label labels n are within)

-- a handle that was read behind an `@`
handle_block : (labels : List (List ℕ)) (b : ℕ) (bs : List ℕ) (handle : Handle) (block : BlockName) → (b == 64) ≡ true → handle_of bs ≡ Ok handle
    → well (Some (block_name.Handle handle)) ≡ Ok (Some block) → (b ∷ bs ≡ block_text labels block) × IsPlainBlock labels block
handle_block labels b bs handle block at read is =
    let same : block_name.Handle handle ≡ block = cc in
    let first : b ≡ 64 = grind (arith, nat_tests) in
    let (text, small) = handle_of-is bs handle read in
    subst (λ k. (b ∷ bs ≡ block_text labels k) × IsPlainBlock labels k) same (ap (λ c. c ∷ bs) first ∙ text, small)

-- a label that was found
label_block : (labels : List (List ℕ)) (word : List ℕ) (found : Option ℕ) (block : BlockName) → position (λ label. bytes_eq word label) labels ≡ found
    → well (option_map (λ n. block_name.Label n) found) ≡ Ok (Some block) → (word ≡ block_text labels block) × IsPlainBlock labels block
label_block labels word None block found is = absurd (cc)
label_block labels word (Some n) block found is =
    let same : block_name.Label n ≡ block = cc in
    let (first, within) = position_some (λ label. bytes_eq word label) labels n (sym found) in
    subst (λ k. (word ≡ block_text labels k) × IsPlainBlock labels k) same (
      sym (found_at word labels within) ∙ ap (λ i. get_or labels i []) (sym first),
      omega (arith, first, within),
    )

pub block_of-is : (labels : List (List ℕ)) (word : List ℕ) (block : BlockName) → block_of labels word ≡ Ok (Some block) → (word ≡ block_text labels block) × IsPlainBlock labels block
unfolding block_of
block_of-is labels [] block h = absurd (cc)
block_of-is labels (b ∷ bs) block h =
    elim (if_ok (b == 64) _ _ (Some block) h) [
      | inl (at, h1) ↦
          let (handle, read, is) = bind_ok (handle_of bs) _ (Some block) h1 in
          handle_block labels b bs handle block at read is
      | inr (other, h1) ↦
          let (found, read, is) = bind_ok (label_of labels (b ∷ bs)) _ (Some block) h1 in
          elim (if_ok (is_name (b ∷ bs)) (Ok (position (λ label. bytes_eq (b ∷ bs) label) labels)) (Err fault.Operand) found read) [
            | inl (name, at) ↦ label_block labels (b ∷ bs) found block (ok_is (position (λ label. bytes_eq (b ∷ bs) label) labels) found at) is
            | inr (unlike, at) ↦ absurd (cc)
          ]
    ]

pub handles_are_their_texts : HandlesAreTheirTexts
handles_are_their_texts labels handle word =
    (block_of-is labels word (block_name.Handle handle), λ (is, plain). ap (block_of labels) is ∙ block_of-handle labels handle plain)
