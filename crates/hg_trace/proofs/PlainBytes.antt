-- The words of a line that is written in its plain form are those that were written.
use Rattle.std.proofs.Common.{◌≡◌, ℕ, ◌<◌, ◌^◌, ◌==◌, ◌&&◌, ◌||◌, Bool, true, false, List, [], ◌∷◌, ◌++◌, Option, Some, None, decimal, length, get_or, ltb, refl, sym, ap, subst, ◌∙◌, arith, append_assoc, length-append}
use Rattle.std.specs.List.{All, list_all, slice_split, filter, join_with_byte}
use Rattle.std.proofs.lemmas.Bool.Decides.{nat_tests}
use Rattle.std.proofs.lemmas.List.Sums.{AllPass-from_list_all, list_all-from_AllPass}
use Rattle.std.proofs.lemmas.List.Folds.{list_all-append}
use Rattle.std.proofs.lemmas.List.Splits.{slice_split_none, slice_split_at}
use Rattle.hg_place.specs.declared.Place.{Place}
use Rattle.hg_place.specs.declared.Handle.{Handle}
use Rattle.hg_policy_text.specs.NameForm.{is_lower, is_name_byte, is_name}
use Rattle.hg_trace.specs.declared.line.BlockName.{BlockName}
use Rattle.hg_trace.specs.declared.line.BlockName.TheVariants as block_name
use Rattle.hg_trace.specs.declared.line.Command.{Command}
use Rattle.hg_trace.specs.declared.line.Command.TheVariants as command
use Rattle.hg_trace.specs.Numbers.{is_digit}
use Rattle.hg_trace.specs.Lines.{is_blank, is_some_word, split_words}
use Rattle.hg_trace.specs.Printed.{place_text, handle_text, block_text, label_words, command_words, line_words}
use Rattle.hg_trace.specs.Plain.{AreLabels, IsPlainBlock, IsNewLabel, IsPlainCommand, IsPlain}
use Rattle.hg_trace.proofs.Decimals.{digits-decimal, length-decimal}
use Rattle.hg_trace.proofs.PlainPlaces.{handle_text-dots}

-- the bytes of the words: those of names, the dot and the `@`
abbrev pub is_word_byte : ℕ → Bool
is_word_byte b = is_name_byte b || (b == 46 || b == 64)

pub record IsWord (word : List ℕ) : Type 0 where
  pub bytes : list_all is_word_byte word ≡ true
  pub some : 0 < length word

abbrev pub AreWords : List (List ℕ) → Type 0
AreWords [] = Unit {0}
AreWords (word ∷ words) = IsWord word × AreWords words

-- what passes one test passes a wider one
pub wider : (p q : ℕ → Bool) (bs : List ℕ) → ((b : ℕ) → p b ≡ true → q b ≡ true) → list_all p bs ≡ true → list_all q bs ≡ true
wider p q bs all h = list_all-from_AllPass q bs (λ k d within. all _ (AllPass-from_list_all p bs h k d within))

pub joined : (p : ℕ → Bool) (xs ys : List ℕ) → list_all p xs ≡ true → list_all p ys ≡ true → list_all p (xs ++ ys) ≡ true
joined p xs ys a b = list_all-append p xs ys ∙ rw (a, b) refl

digit_byte : (b : ℕ) → is_digit b ≡ true → is_word_byte b ≡ true
digit_byte b h = grind (arith, nat_tests)

name_byte : (b : ℕ) → is_name_byte b ≡ true → is_word_byte b ≡ true
name_byte b h = rw h refl

letter_byte : (b : ℕ) → is_lower b ≡ true → is_word_byte b ≡ true
letter_byte b h = rw h refl

not_blank : (b : ℕ) → is_word_byte b ≡ true → is_blank b ≡ false
not_blank b h = grind (arith, nat_tests)

digits : (n : ℕ) → n < 2 ^ 64 → list_all is_word_byte (decimal n) ≡ true
digits n small = wider is_digit is_word_byte (decimal n) digit_byte (digits-decimal n small)

number_word : (n : ℕ) → n < 2 ^ 64 → IsWord (decimal n)
number_word n small = record { bytes = digits n small; some = length-decimal n small }

both : (a b : Bool) → a && b ≡ true → (a ≡ true) × (b ≡ true)
both true b h = (refl, h)
both false b h = absurd (cc)

name_word : (name : List ℕ) → is_name name ≡ true → IsWord name
name_word [] h = absurd (cc)
name_word (b ∷ bs) h =
    let parts = both (is_lower b) (ltb (length bs) 16 && list_all is_name_byte bs) h in
    let rest = both (ltb (length bs) 16) (list_all is_name_byte bs) parts.1 in
    record { bytes = rw (letter_byte b parts.0) (wider is_name_byte is_word_byte bs name_byte rest.1); some = omega arith }

-- two numbers with a dot between them
dotted : (xs ys : List ℕ) → list_all is_word_byte xs ≡ true → list_all is_word_byte ys ≡ true → list_all is_word_byte (xs ++ 46 ∷ ys) ≡ true
dotted xs ys a b = joined is_word_byte xs (46 ∷ ys) a b

place_word : (place : Place) → IsWord (place_text place)
place_word place =
    let s = digits place.segment (omega (arith, place.segment_below)) in
    let p = digits place.page (omega (arith, place.page_below)) in
    let i = digits place.index (omega (arith, place.index_below)) in
    record {
      bytes = simp append_assoc (dotted (decimal place.segment) (decimal place.page ++ 46 ∷ decimal place.index) s (dotted (decimal place.page) (decimal place.index) p i));
      some = simp (append_assoc, length-append) (omega arith);
    }

handle_word : (handle : Handle) → handle.generation < 2 ^ 32 → IsWord (handle_text handle)
handle_word handle small =
    let place = handle.place in
    let s = digits place.segment (omega (arith, place.segment_below)) in
    let p = digits place.page (omega (arith, place.page_below)) in
    let i = digits place.index (omega (arith, place.index_below)) in
    let g = digits handle.generation (omega arith) in
    let two = dotted (decimal place.index) (decimal handle.generation) i g in
    let three = dotted (decimal place.page) (decimal place.index ++ 46 ∷ decimal handle.generation) p two in
    subst IsWord (sym (handle_text-dots handle)) (record {
      bytes = dotted (decimal place.segment) (decimal place.page ++ 46 ∷ (decimal place.index ++ 46 ∷ decimal handle.generation)) s three;
      some = omega arith;
    })

block_word : (labels : List (List ℕ)) (block : BlockName) → AreLabels labels → IsPlainBlock labels block → IsWord (block_text labels block)
block_word labels (block_name.Handle handle) are plain = handle_word handle plain
block_word labels (block_name.Label n) are within = name_word _ (are.names n [] within)

label_are_words : (labels : List (List ℕ)) (label : Option (List ℕ)) → IsNewLabel labels label → AreWords (label_words label)
label_are_words labels None plain = tt
label_are_words labels (Some label) plain = (record { bytes = refl; some = omega arith }, (name_word label plain.0, tt))

command_are_words : (labels : List (List ℕ)) (c : Command) → AreLabels labels → IsPlainCommand labels c → AreWords (command_words labels c)
command_are_words labels (command.Alloc actor arena bytes label) are plain =
    (record { bytes = refl; some = omega arith }, (name_word actor plain.0, (name_word arena plain.1, (number_word bytes plain.2, label_are_words labels label plain.3))))
command_are_words labels (command.Free actor block) are plain =
    (record { bytes = refl; some = omega arith }, (name_word actor plain.0, (block_word labels block are plain.1, tt)))
command_are_words labels command.Deliver are plain = (record { bytes = refl; some = omega arith }, tt)
command_are_words labels (command.Take segment) are plain = (record { bytes = refl; some = omega arith }, (number_word segment (omega (arith, plain)), tt))
command_are_words labels command.Collect are plain = (record { bytes = refl; some = omega arith }, tt)
command_are_words labels (command.Read actor block index) are plain =
    (record { bytes = refl; some = omega arith }, (name_word actor plain.0, (block_word labels block are plain.1, (number_word index (omega (arith, plain.2)), tt))))
command_are_words labels (command.Write actor block index value) are plain = (
  record { bytes = refl; some = omega arith },
  (name_word actor plain.0, (block_word labels block are plain.1, (number_word index (omega (arith, plain.2)), (number_word value plain.3, tt)))),
)
command_are_words labels (command.Look actor place) are plain = (record { bytes = refl; some = omega arith }, (name_word actor plain, (place_word place, tt)))
command_are_words labels (command.List actor) are plain = (record { bytes = refl; some = omega arith }, (name_word actor plain, tt))
command_are_words labels (command.Abandon segment) are plain = (record { bytes = refl; some = omega arith }, (number_word segment (omega (arith, plain)), tt))
command_are_words labels (command.Refill arena) are plain = (record { bytes = refl; some = omega arith }, (name_word arena plain, tt))

pub line_are_words : (labels : List (List ℕ)) (worker : ℕ) (c : Command) → AreLabels labels → IsPlain labels worker c → AreWords (line_words labels worker c)
line_are_words labels worker c are plain =
    let small = plain.worker_below in
    (record { bytes = digits worker (omega arith); some = omega arith }, command_are_words labels c are plain.command_plain)

-- words with a blank between one and the next are split into themselves
no_blanks : (word : List ℕ) → IsWord word → All (λ b. is_blank b ≡ false) word
no_blanks word is = λ k d within. not_blank (get_or word k d) (AllPass-from_list_all is_word_byte word is.bytes k d within)

kept : (word : List ℕ) (parts : List (List ℕ)) → IsWord word → filter is_some_word (word ∷ parts) ≡ word ∷ filter is_some_word parts
kept [] parts is = absurd (omega (arith, is.some))
kept (b ∷ bs) parts is = refl

pub split_words-join : (words : List (List ℕ)) → AreWords words → split_words (join_with_byte 32 words) ≡ words
split_words-join [] are = refl
split_words-join (word ∷ []) are =
    ap (filter is_some_word) (slice_split_none is_blank word (no_blanks word are.0)) ∙ kept word [] are.0
split_words-join (word ∷ next ∷ words) are =
    let rest = split_words-join (next ∷ words) are.1 in
    ap (filter is_some_word) (slice_split_at is_blank word 32 (join_with_byte 32 (next ∷ words)) (no_blanks word are.0) refl)
    ∙ kept word (slice_split is_blank (join_with_byte 32 (next ∷ words))) are.0 ∙ ap (λ l. word ∷ l) rest
