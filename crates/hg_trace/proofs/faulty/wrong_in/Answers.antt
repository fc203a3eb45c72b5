use Rattle.std.proofs.Common.{◌≡◌, ◌+◌, ◌∷◌, length, sym, ap, ◌∙◌, below_more, arith}
use Rattle.std.specs.Prelude.{slice_index_or}
use Rattle.std.proofs.lemmas.Option.{slice_get_past}
use Rattle.hg_trace.specs.Lines.{split_words}
use Rattle.hg_trace.specs.Forms.{wanted_at}
use Rattle.hg_trace.specs.declared.wanted.Wanted.TheVariants as wanted
use Rattle.hg_trace.proofs.LineNumbers.{slice_get-next, drop-next}
use Rattle.hg_trace.proofs.WrongWords.{wrong_in-here, wrong_in-none}
use Rattle.hg_trace.proofs.faulty.wrong_in.Goals as goal

pub returns-then-not-is_form_of : goal.returns-then-not-is_form_of
returns-then-not-is_form_of c =
    let words = split_words c.args.text.now in
    let i = c.loop-word.number in
    let word = slice_get-next words i c.in-Some.word.now c.next_word.new.self (sym c.loop-word.invariant.rest ∙ c.in-Some.ensures) in
    let form : c.wanted_at-wanted.result ≡ wanted_at words i = c.wanted_at-wanted.ensures ∙ ap (λ operands. slice_index_or (wanted.Worker ∷ wanted.Command ∷ operands) i wanted.Nothing) c.operands_in-operands.ensures in
    let wrong = sym c.if-not-is_form_of.ensures in
    rw form (sym (wrong_in-here words i (omega (arith, c.loop-word.invariant.counted)) c.loop-word.invariant.before (rw word (rw form at wrong))))

pub loop-word-preserved : goal.loop-word-preserved
loop-word-preserved c =
    let words = split_words c.args.text.now in
    let i = c.loop-word.number in
    let left : length c.loop-word.words ≡ length c.next_word.new.self + 1 = ap length c.in-Some.ensures ∙ omega arith in
    let word = slice_get-next words i c.in-Some.word.now c.next_word.new.self (sym c.loop-word.invariant.rest ∙ c.in-Some.ensures) in
    let form : c.wanted_at-wanted.result ≡ wanted_at words i = c.wanted_at-wanted.ensures ∙ ap (λ operands. slice_index_or (wanted.Worker ∷ wanted.Command ∷ operands) i wanted.Nothing) c.operands_in-operands.ensures in
    let right = sym c.if-not-is_form_of.ensures in
    record {
      counted = omega (arith, c.loop-word.invariant.counted, left);
      rest = sym (drop-next words i c.in-Some.word.now c.next_word.new.self (sym c.loop-word.invariant.rest ∙ c.in-Some.ensures));
      before = below_more _ _ c.loop-word.invariant.before (rw word (rw form at right));
    }

pub returns-then-may_be_missing : goal.returns-then-may_be_missing
returns-then-may_be_missing c =
    let words = split_words c.args.text.now in
    let left : length c.loop-word.words ≡ 0 = ap length c.in_default.ensures.0 in
    let all : c.loop-word.number ≡ length words = omega (arith, c.loop-word.invariant.counted, left) in
    let form : c.wanted_at-wanted-2.result ≡ wanted_at words c.loop-word.number = c.wanted_at-wanted-2.ensures ∙ ap (λ operands. slice_index_or (wanted.Worker ∷ wanted.Command ∷ operands) c.loop-word.number wanted.Nothing) c.operands_in-operands.ensures in
    let end = sym c.if-may_be_missing.ensures in
    let none = slice_get_past words (length words) (omega arith) in
    sym (wrong_in-none words (rw all at c.loop-word.invariant.before) (rw none (rw (form, all) at end)))

pub returns : goal.returns
returns c =
    let words = split_words c.args.text.now in
    let i = c.loop-word.number in
    let left : length c.loop-word.words ≡ 0 = ap length c.in_default.ensures.0 in
    let form : c.wanted_at-wanted-2.result ≡ wanted_at words i = c.wanted_at-wanted-2.ensures ∙ ap (λ operands. slice_index_or (wanted.Worker ∷ wanted.Command ∷ operands) i wanted.Nothing) c.operands_in-operands.ensures in
    let end = sym c.if-may_be_missing.ensures in
    let none = slice_get_past words i (omega (arith, c.loop-word.invariant.counted, left)) in
    rw form (sym (wrong_in-here words i (omega (arith, c.loop-word.invariant.counted)) c.loop-word.invariant.before (rw none (rw form at end))))
