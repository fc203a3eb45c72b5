use Rattle.std.proofs.Common.{◌<◌, ◌∙◌, ap, length, refl, sym, subst, arith, rules, Some}
use Rattle.std.proofs.lemmas.Option.{slice_get-get_or}
use Rattle.crossbeam_queue.specs.Passes.{view}
use Rattle.hg_hosted.specs.Parking.{IsHome}
use Rattle.hg_machine.specs.declared.Answer.TheVariants as answer
use Rattle.hg_service.proofs.Behind.{held_within}
use Rattle.hg_worker.specs.Seats.{number_in}
use Rattle.hg_hosted.specs.Behind.{TakesIn}
use Rattle.hg_hosted.proofs.Undone.{each_set, put_home, takes_in_nothing}
use Rattle.hg_hosted.proofs.Reaching.{map_set, other_set}
use Rattle.hg_hosted.specs.Places.{list_place}
use Rattle.hg_hosted.proofs.sharing.take_by.Goals as goal

pub returns-then-not-holds-clause-done : goal.returns-then-not-holds-clause-done
returns-then-not-holds-clause-done g c =
    let before = c.with_name-worker.result.inner in
    subst (λ own. TakesIn c.args.segment answer.NotHeld own.value c.without_name.result.value)
    c.with_name-worker.ensures
    (subst (λ own. TakesIn c.args.segment answer.NotHeld before.value own.value)
    (sym c.without_name.ensures)
    (takes_in_nothing before.value c.args.segment (sym c.if-not-holds.ensures)))

pub index_mut-list-requires : goal.index_mut-list-requires
index_mut-list-requires g c =
    let own = c.with_name-worker.result.inner.value in
    let below =
    held_within number_in own.policy own.heap.segments c.args.segment (sym c.if-not-holds.ensures)
    own.of in
    let same = ap (λ policy. length policy.segments) c.with_name-worker.result.named.serves in
    let all = c.requires.of.all in
    let counted = c.args.shared.now.lists.ok.0 in
    let at = c.from.ensures in
    omega (arith, below, same, all, counted, at)

pub returns-clause-done : goal.returns-clause-done
returns-clause-done g c =
    let said = c.take_from-answer.ensures in
    let told = c.take_from-answer.result in
    let before = c.with_name-worker.result.inner in
    subst (λ own. TakesIn c.args.segment told own.value c.without_name-2.result.value)
    c.with_name-worker.ensures
    (subst (λ own. TakesIn c.args.segment told before.value own.value) (sym c.without_name-2.ensures)
    record {
      taken = record {
        old = c.in-Some.sent.list;
        new = c.take_from-answer.new.list;
        taken = said.taken;
        whole = said.whole;
        home = said.home;
      };
      unheld = search rules;
      own = said.own;
      lives = said.lives;
      rest = said.rest;
    })

pub returns-in_default-clause-places : goal.returns-in_default-clause-places
returns-in_default-clause-places g c =
    let lists = c.args.shared.now.lists in
    let list = c.index_mut-list.result.now in
    let own = c.with_name-worker.result.inner.value in
    let below =
    held_within number_in own.policy own.heap.segments c.args.segment (sym c.if-not-holds.ensures)
    own.of in
    let same = ap (λ policy. length policy.segments) c.with_name-worker.result.named.serves in
    let all = c.requires.of.all in
    let at = c.from.ensures in
    let low : c.from.result < length lists.items = omega (arith, below, same, all, at) in
    let there = slice_get-get_or lists.items c.from.result list low
    ∙ ap Some (sym c.index_mut-list.ensures.value) in
    record {
      segments = refl;
      lists = map_set list_place lists.items c.from.result list c.take.new.self there
          c.take.ensures.place;
      left = refl;
    }

pub returns-clause-home : goal.returns-clause-home
returns-clause-home g c =
    let home = c.requires.home in
    let lists = c.args.shared.now.lists in
    let list = c.index_mut-list.result.now in
    let own = c.with_name-worker.result.inner.value in
    let below =
    held_within number_in own.policy own.heap.segments c.args.segment (sym c.if-not-holds.ensures)
    own.of in
    let same = ap (λ policy. length policy.segments) c.with_name-worker.result.named.serves in
    let all = c.requires.of.all in
    let at = c.from.ensures in
    let low : c.from.result < length lists.items = omega (arith, below, same, all, at) in
    let there = slice_get-get_or lists.items c.from.result list low
    ∙ ap Some (sym c.index_mut-list.ensures.value) in
    let out = c.in-Some.ensures.out (home.lists c.from.result list there) in
    record {
      segments = home.segments;
      left = home.left;
      lists = each_set (λ one. IsHome (view one.pass) one.kept) lists.items c.from.result
          c.put.new.self home.lists
          (put_home _ (view c.take.new.self.pass) (view c.put.new.self.pass) _
          c.put.ensures.kept c.put.ensures.home out);
    }

pub returns-clause-touched : goal.returns-clause-touched
returns-clause-touched g c = record {
  segments = refl;
  left = refl;
  others = λ at apart. other_set c.args.shared.now.lists.items c.from.result at c.put.new.self
      (λ same. apart (same ∙ c.from.ensures));
}

pub returns-clause-places : goal.returns-clause-places
returns-clause-places g c =
    let lists = c.args.shared.now.lists in
    let list = c.index_mut-list.result.now in
    let own = c.with_name-worker.result.inner.value in
    let below =
    held_within number_in own.policy own.heap.segments c.args.segment (sym c.if-not-holds.ensures)
    own.of in
    let same = ap (λ policy. length policy.segments) c.with_name-worker.result.named.serves in
    let all = c.requires.of.all in
    let at = c.from.ensures in
    let low : c.from.result < length lists.items = omega (arith, below, same, all, at) in
    let there = slice_get-get_or lists.items c.from.result list low
    ∙ ap Some (sym c.index_mut-list.ensures.value) in
    record {
      segments = refl;
      lists = map_set list_place lists.items c.from.result list c.put.new.self there
          (c.put.ensures.place ∙ c.take.ensures.place);
      left = refl;
    }
