-- A trace in its plain form is read back as itself.
use Rattle.std.proofs.Common.{◌≡◌, ◌≢◌, ℕ, ◌+◌, ◌<◌, ◌==◌, ◌||◌, ◌&&◌, suc, Bool, true, false, List, [], ◌∷◌, ◌++◌, Some, None, Ok, length, get_or, refl, sym, ap, ◌∙◌, arith, append_assoc}
use Rattle.std.specs.Prelude.{bytes_eq}
use Rattle.std.specs.List.{list_all, onto_first, position_or_len, before_first, join_with_byte}
use Rattle.std.proofs.lemmas.Bool.Decides.{nat_tests}
use Rattle.std.proofs.lemmas.List.Elements.{All-push}
use Rattle.std.proofs.lemmas.List.Folds.{list_any_at}
use Rattle.std.proofs.lemmas.List.Quantifiers.{all_pairs_push}
use Rattle.hg_policy_text.specs.NameForm.{is_name}
use Rattle.hg_policy.specs.Names.{is_among}
use Rattle.hg_trace.specs.declared.line.Command.{Command}
use Rattle.hg_trace.specs.declared.line.Command.TheVariants as command
use Rattle.hg_trace.specs.declared.line.Line.{Line}
use Rattle.hg_trace.specs.Lines.{lines_of, ends_line, ends_text, is_allowed}
use Rattle.hg_trace.specs.Labels.{with_label}
use Rattle.hg_trace.specs.Trace.{line_at, lines_from}
use Rattle.hg_trace.specs.Printed.{line_words, line_text, lines_text}
use Rattle.hg_trace.specs.Plain.{AreLabels, IsPlainCommand, IsPlain, ArePlain, AreNumbered}
use Rattle.hg_trace.specs.PlainLaws.{PlainTracesAreReadBack}
use Rattle.hg_trace.proofs.Binds.{bytes_eq-same}
use Rattle.hg_trace.proofs.PlainLines.{words_at-plain}
use Rattle.hg_trace.proofs.PlainBytes.{is_word_byte, AreWords, wider, joined, line_are_words, split_words-join}

one_more : (n : ℕ) → 1 + n ≡ suc n
one_more n = omega arith

-- the bytes of a line: those of words, and the blank
abbrev is_line_byte : ℕ → Bool
is_line_byte b = is_word_byte b || b == 32

word_byte : (b : ℕ) → is_word_byte b ≡ true → is_line_byte b ≡ true
word_byte b h = rw h refl

allowed : (b : ℕ) → is_line_byte b ≡ true → is_allowed b ≡ true
allowed b h = grind (arith, nat_tests)

no_end : (b : ℕ) → is_line_byte b ≡ true → ends_text b ≡ false
no_end b h = grind (arith, nat_tests)

no_line_end : (b : ℕ) → is_line_byte b ≡ true → ends_line b ≡ false
no_line_end b h = grind (arith, nat_tests)

line_bytes : (words : List (List ℕ)) → AreWords words → list_all is_line_byte (join_with_byte 32 words) ≡ true
line_bytes [] are = refl
line_bytes (word ∷ []) are = wider is_word_byte is_line_byte word word_byte are.0.bytes
line_bytes (word ∷ next ∷ words) are =
    joined is_line_byte word (32 ∷ join_with_byte 32 (next ∷ words)) (wider is_word_byte is_line_byte word word_byte are.0.bytes) (line_bytes (next ∷ words) are.1)

both : (a b : Bool) → a && b ≡ true → (a ≡ true) × (b ≡ true)
both true b h = (refl, h)
both false b h = absurd (cc)

-- a text is read up to its line's end
before_first-end : (text : List ℕ) → list_all is_line_byte text ≡ true → before_first ends_text (text ++ 10 ∷ []) ≡ text
before_first-end [] h = refl
before_first-end (b ∷ bs) h =
    let (here, rest) = both (is_line_byte b) (list_all is_line_byte bs) h in
    rw (no_end b here, one_more (position_or_len ends_text (bs ++ 10 ∷ []))) (ap (λ l. b ∷ l) (before_first-end bs rest))

-- and its line is the first
lines_of-end : (text rest : List ℕ) → list_all is_line_byte text ≡ true → lines_of (text ++ 10 ∷ rest) ≡ (text ++ 10 ∷ []) ∷ lines_of rest
lines_of-end [] rest h = refl
lines_of-end (b ∷ bs) rest h =
    let (here, more) = both (is_line_byte b) (list_all is_line_byte bs) h in
    rw (no_line_end b here) (ap (onto_first b) (lines_of-end bs rest more))

line_at-plain : (labels : List (List ℕ)) (worker : ℕ) (c : Command) → AreLabels labels → IsPlain labels worker c
    → line_at labels (line_text labels worker c ++ 10 ∷ []) ≡ Ok (Some (worker, c))
unfolding line_at
line_at-plain labels worker c are plain =
    let words = line_are_words labels worker c are plain in
    let bytes = line_bytes (line_words labels worker c) words in
    rw (before_first-end (line_text labels worker c) bytes, wider is_line_byte is_allowed (line_text labels worker c) allowed bytes, split_words-join (line_words labels worker c) words)
    (words_at-plain labels worker c are plain)

-- a label that isn't among others differs from each
not_among : (text : List ℕ) (labels : List (List ℕ)) (k : ℕ) (d : List ℕ) → is_among text labels ≡ false → k < length labels → get_or labels k d ≢ text
not_among text labels k d h within = λ same.
    let found : is_among text labels ≡ true = list_any_at (λ other. bytes_eq text other) labels k d within (bytes_eq-same text (get_or labels k d) (sym same)) in
    absurd (cc)

pub no_labels : AreLabels []
no_labels = record { names = λ k d within. absurd (omega arith); once = λ i j d less within. absurd (omega arith) }

pub with_label_are : (labels : List (List ℕ)) (c : Command) → AreLabels labels → IsPlainCommand labels c → AreLabels (with_label labels c)
with_label_are labels (command.Alloc actor arena bytes None) are plain = are
with_label_are labels (command.Alloc actor arena bytes (Some label)) are plain =
    record {
      names = All-push (λ name. is_name name ≡ true) labels label are.names plain.3.0;
      once = all_pairs_push (λ one other. one ≢ other) labels label are.once (λ k d within. not_among label labels k d plain.3.1 within);
    }
with_label_are labels (command.Free actor block) are plain = are
with_label_are labels command.Deliver are plain = are
with_label_are labels (command.Take segment) are plain = are
with_label_are labels command.Collect are plain = are
with_label_are labels (command.Read actor block index) are plain = are
with_label_are labels (command.Write actor block index value) are plain = are
with_label_are labels (command.Look actor place) are plain = are
with_label_are labels (command.List actor) are plain = are
with_label_are labels (command.Abandon segment) are plain = are
with_label_are labels (command.Refill arena) are plain = are

lines_from-plain : (lines : List Line) (number : ℕ) (labels : List (List ℕ)) → AreLabels labels → ArePlain labels lines → AreNumbered number lines
    → lines_from number labels (lines_of (lines_text labels lines)) ≡ Ok lines
lines_from-plain [] number labels are plain numbers = refl
lines_from-plain (line ∷ lines) number labels are plain numbers =
    let text = line_text labels line.worker line.command in
    let rest = lines_text (with_label labels line.command) lines in
    let bytes = line_bytes (line_words labels line.worker line.command) (line_are_words labels line.worker line.command are plain.0) in
    let cut : lines_of (lines_text labels (line ∷ lines)) ≡ (text ++ 10 ∷ []) ∷ lines_of rest =
    ap lines_of (append_assoc text (10 ∷ []) rest) ∙ lines_of-end text rest bytes in
    let others = lines_from-plain lines (number + 1) (with_label labels line.command) (with_label_are labels line.command are plain.0.command_plain) plain.1 numbers.1 in
    ap (lines_from number labels) cut
    ∙ rw (line_at-plain labels line.worker line.command are plain.0, others)
    (ap (λ n. Ok (record { number = n; worker = line.worker; command = line.command } ∷ lines)) (sym numbers.0))

pub plain_traces_are_read_back : PlainTracesAreReadBack
plain_traces_are_read_back lines plain numbers =
    lines_from-plain lines 1 [] no_labels plain numbers
