use Rattle.std.proofs.Common.{◌≡◌, ap, sym, ◌∙◌}
use Rattle.std.proofs.Math.Seq.{take-length}
use Rattle.std.specs.List.{list_all}
use Rattle.std.specs.Prelude.{take, length, not, ◌&&◌}
use Rattle.hg_trace.specs.Lines.{is_allowed, ends_text}
use Rattle.hg_trace.proofs.Firsts.{position_some, position_none}
use Rattle.hg_trace.proofs.TextCuts.{read_allowed, read_whole, read_to_end, read_stopped}
use Rattle.hg_trace.proofs.lines.clean_text.Goals as goal

pub returns-in-None : goal.returns-in-None
returns-in-None c =
    let line = c.args.line.now in
    let whole = position_none (λ b. not (is_allowed b && not (ends_text b))) line c.in-None.ensures in
    let ends = read_whole is_allowed ends_text line whole in
    let all : take (length line) line ≡ line = take-length line in (
      sym (ap (list_all is_allowed) (ap (λ n. take n line) whole ∙ all)) ∙ read_allowed is_allowed ends_text line,
      sym (ap (λ n. take n line) (ends ∙ whole) ∙ all),
    )

pub returns-in-Some : goal.returns-in-Some
returns-in-Some c =
    let line = c.args.line.now in
    let found = position_some (λ b. not (is_allowed b && not (ends_text b))) line c.in-Some.end c.in-Some.ensures in
    let ends = read_to_end is_allowed ends_text line found.1 (rw (← found.0) (sym c.if-ends_text.ensures)) in (
      ap (λ n. list_all is_allowed (take n line)) found.0 ∙ read_allowed is_allowed ends_text line,
      ap (λ n. take n line) (found.0 ∙ sym ends),
    )

pub returns-in-Some-2 : goal.returns-in-Some-2
returns-in-Some-2 c =
    let line = c.args.line.now in
    let found = position_some (λ b. not (is_allowed b && not (ends_text b))) line c.in-Some.end c.in-Some.ensures in
    read_stopped is_allowed ends_text line found.1 (rw (← found.0) (sym c.if-ends_text.ensures))
