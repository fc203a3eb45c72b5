use Rattle.std.proofs.Common.{◌+◌, ◌∙◌, ap, sym, subst, is_some, map, take, Some, rules}
use Rattle.std.proofs.lemmas.Option.{slice_get-get_or}
use Rattle.crossbeam_queue.specs.Passes.{view}
use Rattle.hg_service.proofs.Opened.{each_more}
use Rattle.hg_hosted.specs.Parking.{IsHome}
use Rattle.hg_hosted.specs.Places.{list_place}
use Rattle.hg_hosted.specs.Shared.{AreListsHome}
use Rattle.hg_hosted.proofs.Reaching.{map_set, taken_more}
use Rattle.hg_hosted.proofs.Undone.{each_set}
use Rattle.hg_hosted.proofs.shared.shared_lists.Goals as goal

pub returns-in_err-share-clause-own_places : goal.returns-in_err-share-clause-own_places
returns-in_err-share-clause-own_places c =
    let lists = c.loop-at.lists.items in
    let held = c.index_mut.result.now in
    let there = slice_get-get_or lists c.loop-at.at held (search rules) ∙ ap Some (sym c.index_mut.ensures.value) in
    map_set list_place lists c.loop-at.at held c.share.new.self there c.share.ensures.own_place
    ∙ c.loop-at.invariant.own_places

pub returns-in_err-push-clause-own_home : goal.returns-in_err-push-clause-own_home
returns-in_err-push-clause-own_home c =
    let lists = c.loop-at.lists.items in
    let held = c.index_mut.result.now in
    let there = slice_get-get_or lists c.loop-at.at held (search rules) ∙ ap Some (sym c.index_mut.ensures.value) in
    λ was. each_set (λ one. IsHome (view one.pass) one.kept) lists c.loop-at.at c.share.new.self
    (c.loop-at.invariant.own was)
    (ap (λ v. v.out) c.share.ensures.own ∙ c.loop-at.invariant.own was c.loop-at.at held there
    ∙ sym (ap is_some c.share.ensures.own_kept))

pub returns-in_err-push-clause-own_places : goal.returns-in_err-push-clause-own_places
returns-in_err-push-clause-own_places c =
    let lists = c.loop-at.lists.items in
    let held = c.index_mut.result.now in
    let there = slice_get-get_or lists c.loop-at.at held (search rules) ∙ ap Some (sym c.index_mut.ensures.value) in
    map_set list_place lists c.loop-at.at held c.share.new.self there c.share.ensures.own_place
    ∙ c.loop-at.invariant.own_places

pub loop-at-preserved : goal.loop-at-preserved
loop-at-preserved c =
    let before = c.loop-at.invariant in
    let lists = c.loop-at.lists.items in
    let at = c.loop-at.at in
    let held = c.index_mut.result.now in
    let there = slice_get-get_or lists at held (search rules) ∙ ap Some (sym c.index_mut.ensures.value) in
    let left = c.share.new.self in
    let other = c.in_ok-share.field-0 in
    let pushed = c.in_ok-push.ensures.items in
    let same = map_set list_place lists at held left there c.share.ensures.own_place in
    record {
      made = search rules;
      all = search rules;
      own = λ was. each_set (λ one. IsHome (view one.pass) one.kept) lists at left (before.own was)
          (ap (λ v. v.out) c.share.ensures.own ∙ before.own was at held there
          ∙ sym (ap is_some c.share.ensures.own_kept));
      home = subst AreListsHome (sym pushed)
          (each_more (λ k list. IsHome (view list.pass) list.kept) c.loop-at.others.items other
          before.home
          (ap (λ v. v.out) c.in_ok-share.ensures.other
          ∙ sym (ap is_some c.in_ok-share.ensures.other_kept)));
      own_places = same ∙ before.own_places;
      places = ap (map list_place) pushed
          ∙ taken_more list_place lists c.loop-at.others.items at held other before.places there
          c.in_ok-share.ensures.other_place
          ∙ ap (take (at + 1)) (sym same);
    }
