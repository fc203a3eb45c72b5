use Rattle.std.proofs.Common.{rules, Some, ap, sym, ◌∙◌}
use Rattle.std.proofs.lemmas.Option.{slice_get-get_or}
use Rattle.crossbeam_queue.specs.Passes.{view}
use Rattle.hg_hosted.specs.Parking.{IsHome}
use Rattle.hg_hosted.specs.Places.{list_place}
use Rattle.hg_hosted.proofs.Reaching.{map_set}
use Rattle.hg_hosted.proofs.Undone.{each_set}
use Rattle.hg_hosted.proofs.shared.settle_lists.Goals as goal

pub loop-at-preserved : goal.loop-at-preserved
loop-at-preserved c =
    let lists = c.loop-at.lists.items in
    let held = c.index_mut.result.now in
    let there = slice_get-get_or lists c.loop-at.at held (search rules) ∙ ap Some (sym c.index_mut.ensures.value) in
    record {
      all = search rules;
      home = λ was. each_set (λ one. IsHome (view one.pass) one.kept) lists c.loop-at.at c.settle.new.self
          (c.loop-at.invariant.home was)
          (c.settle.ensures.home (c.loop-at.invariant.home was c.loop-at.at held there));
      places = map_set list_place lists c.loop-at.at held c.settle.new.self there c.settle.ensures.place
          ∙ c.loop-at.invariant.places;
    }
