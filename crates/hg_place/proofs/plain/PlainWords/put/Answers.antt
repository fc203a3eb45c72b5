use Rattle.std.proofs.Common.{◌<◌, ◌∙◌, arith}
use Rattle.std.proofs.lemmas.List.{length-set}
use Rattle.hg_place.specs.declared.Place.{Place}
use Rattle.hg_place.specs.declared.standing.Standing.TheVariants.{Home}
use Rattle.hg_place.specs.Cells.{word_in, standing_in, seen}
use Rattle.hg_place.specs.Standings.{slot_of}
use Rattle.hg_place.proofs.CellLists.{seen_all, seen_then, fit_with}
use Rattle.hg_place.proofs.plain.PlainWords.put.Goals as goal

low : (place : Place) → slot_of place < 8192
low place = let page = place.page_below in let index = place.index_below in omega arith

pub invariant_of-self : goal.invariant_of-self
invariant_of-self c =
    let s = c.args.self.now in
    let below = low c.args.place in record {
      segment_below = s.segment_below;
      all_cells = rw (c.set.ensures)
          (length-set s.cells c.spot.result c.cell_of.result ∙ s.all_cells);
      all_words = seen_all word_in c.set.new.self;
      all_records = seen_all standing_in c.set.new.self;
      fit = rw (
        seen_then word_in 0 _ _ _ _ _ _ c.set.ensures c.spot.ensures.value below s.all_cells
            c.cell_of.ensures.word,
        seen_then standing_in (Home 0) _ _ _ _ _ _ c.set.ensures c.spot.ensures.value below
            s.all_cells c.cell_of.ensures.standing,
      )
          (fit_with (seen word_in s.cells) (seen standing_in s.cells) (slot_of c.args.place)
          c.args.word c.args.standing (let all = s.all_words in omega arith)
          (let all = s.all_records in omega arith) c.requires.word c.requires.fits s.fit);
    }

pub returns-clause-words : goal.returns-clause-words
returns-clause-words c =
    seen_then word_in 0 _ _ _ _ _ _ c.set.ensures c.spot.ensures.value (low c.args.place)
    c.args.self.now.all_cells c.cell_of.ensures.word

pub returns-clause-records : goal.returns-clause-records
returns-clause-records c =
    seen_then standing_in (Home 0) _ _ _ _ _ _ c.set.ensures c.spot.ensures.value (low c.args.place)
    c.args.self.now.all_cells c.cell_of.ensures.standing
