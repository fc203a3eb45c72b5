use Rattle.std.proofs.Common.{◌≡◌, ◌/◌, ◌%◌, ◌==◌, false, arith, sym, ◌∙◌}
use Rattle.std.proofs.Output.{has_written_of_eq}
use Rattle.hg_policy_text.proofs.WrittenOut.{encode-hex_digit, written-out}
use Rattle.hg_policy_text.proofs.one_line.WrittenDisplay.fmt.Goals as goal

pub returns-in_default-clause-writes : goal.returns-in_default-clause-writes
returns-in_default-clause-writes g c = λ plain ok.
    let n = c.args.self.now.0 in
    let n8 : (n == 8) ≡ false = grind arith in
    let n9 : (n == 9) ≡ false = grind arith in
    let n10 : (n == 10) ≡ false = grind arith in
    let n12 : (n == 12) ≡ false = grind arith in
    let n13 : (n == 13) ≡ false = grind arith in
    let is = written-out n n8 n9 n10 n12 n13 (sym c.is_written_out.ensures ∙ c.if-is_written_out.true) in
    has_written_of_eq _ _ _ _ _
    (rw (c.four_digits.ensures, encode-hex_digit (n / 4096), encode-hex_digit (n / 256 % 16), encode-hex_digit (n / 16 % 16), encode-hex_digit (n % 16), is))
    (c.write-in_default.ensures.writes plain ok)
