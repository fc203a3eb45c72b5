use Rattle.std.proofs.Common.{[], ◌∷◌, ◌+◌, min, drop, sym, ap, ◌∙◌, arith}
use Rattle.std.specs.List.{position_or_len}
use Rattle.hg_trace.specs.Lines.{lines_of, ends_line, ends_text, is_hash}
use Rattle.hg_trace.proofs.Firsts.{position_some, position_none}
use Rattle.hg_trace.proofs.LineCuts.{lines_of-cut, first_len-some, some_left, last_line}
use Rattle.hg_trace.proofs.TextEnds.{first_in_front, text_ends, text_ends-last}
use Rattle.hg_trace.proofs.lines.Lines.next_cut.Goals as goal

pub at-cut-requires : goal.at-cut-requires
at-cut-requires c =
    let rest = c.self.inside.rest.now in
    let end = c.in-Some.end in
    let found = position_some ends_line rest end c.in-Some.ensures in
    let there = c.min.ensures ∙ ap (λ n. min n end) c.self.invariant ∙ ap (min (position_or_len is_hash rest)) found.0 ∙ text_ends rest in
    first_in_front ends_text rest (end + 1) c.min.result there (omega (arith, c.min.ensures)) (omega (arith, found.0, found.1))
    ∙ ap (position_or_len ends_text) (sym c.split_at.ensures.front)

pub returns-in-Some : goal.returns-in-Some
returns-in-Some c =
    let rest = c.self.inside.rest.now in
    let end = c.in-Some.end in
    let found = position_some ends_line rest end c.in-Some.ensures in
    sym c.self.view_is
    ∙ lines_of-cut rest (end + 1) (some_left rest (sym c.if-is_empty.ensures)) (ap (λ n. n + 1) found.0 ∙ sym (first_len-some rest found.1))
    ∙ ap (λ line. line ∷ lines_of (drop (end + 1) rest)) (sym (c.at-cut.ensures ∙ c.split_at.ensures.front))
    ∙ ap (λ left. c.at-cut.result ∷ lines_of left) (sym c.split_at.ensures.back)

pub at-cut-requires-in-None : goal.at-cut-requires-in-None
at-cut-requires-in-None c =
    let rest = c.self.inside.rest.now in
    c.self.invariant ∙ text_ends-last rest (position_none ends_line rest c.in-None.ensures)

pub returns-in-None : goal.returns-in-None
returns-in-None c =
    let rest = c.self.inside.rest.now in
    sym c.self.view_is ∙ last_line rest (some_left rest (sym c.if-is_empty.ensures)) (position_none ends_line rest c.in-None.ensures)
    ∙ ap (λ line. line ∷ []) (sym c.at-cut-in-None.ensures)
