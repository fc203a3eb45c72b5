use Rattle.std.proofs.Common.{refl, arith}
use Rattle.hg_place.specs.Cells.{word_in, standing_in}
use Rattle.hg_place.proofs.CellLists.{seen_all, seen_blank}
use Rattle.hg_place.proofs.plain.PlainWords.new.Goals as goal

pub invariant_of-result : goal.invariant_of-result
invariant_of-result c =
    let cells = c.in_ok-cells.cells in
    let is = c.in_ok-cells.ensures in record {
      segment_below = c.requires;
      all_cells = is.all;
      all_words = seen_all word_in cells;
      all_records = seen_all standing_in cells;
      fit = λ at below. rw (
        seen_blank word_in cells is.blank at,
        seen_blank standing_in cells is.blank at,
      ) (
        (omega arith, omega arith, λ _. refl),
        record {
          generation = refl;
          freed = λ _. refl;
          given_out = λ not. absurd (cc);
          owner = λ not. absurd (cc);
        },
      );
    }

pub returns-clause-words : goal.returns-clause-words
returns-clause-words c = seen_blank word_in c.in_ok-cells.cells c.in_ok-cells.ensures.blank

pub returns-clause-home : goal.returns-clause-home
returns-clause-home c = seen_blank standing_in c.in_ok-cells.cells c.in_ok-cells.ensures.blank
