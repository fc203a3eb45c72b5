use Rattle.std.proofs.Common.{◌≡◌, ◌≢◌, ◌<◌, ◌∙◌, ap, length, option_map, refl, sym, subst, arith, None, Some}
use Rattle.std.proofs.lemmas.Option.{slice_get-get_or}
use Rattle.crossbeam_queue.specs.Passes.{view}
use Rattle.hg_machine.specs.declared.Answer.TheVariants as answer
use Rattle.hg_service.proofs.Behind.{in_reach}
use Rattle.hg_hosted.specs.Behind.{Sends}
use Rattle.hg_hosted.specs.Parking.{IsHome}
use Rattle.hg_hosted.proofs.Reaching.{by_hand, by_none, in_hand, map_set, other_set}
use Rattle.hg_hosted.proofs.Undone.{each_set, put_home, sends_nothing}
use Rattle.hg_hosted.specs.Places.{list_place}
use Rattle.hg_hosted.proofs.sharing.deliver_by.Goals as goal

pub returns-in_default-clause-done : goal.returns-in_default-clause-done
returns-in_default-clause-done g c =
    let before = c.with_name-worker.result.inner in
    subst (λ own. Sends answer.NothingInHand own.value c.without_name.result.value)
    c.with_name-worker.ensures
    (subst (λ own. Sends answer.NothingInHand before.value own.value) (sym c.without_name.ensures)
    (sends_nothing before.value c.in_default.ensures))

pub index_mut-list-requires : goal.index_mut-list-requires
index_mut-list-requires g c =
    let own = c.with_name-worker.result.inner.value in
    let below = in_reach own.policy own.hand c.in-Some.place c.in-Some.ensures own.reach in
    let same = ap (λ policy. length policy.segments) c.with_name-worker.result.named.serves in
    let all = c.requires.of.all in
    let counted = c.args.shared.now.lists.ok.0 in
    let at = c.from.ensures in
    omega (arith, below, same, all, counted, at)

pub returns-clause-home : goal.returns-clause-home
returns-clause-home g c =
    let home = c.requires.home in
    let lists = c.args.shared.now.lists in
    let list = c.index_mut-list.result.now in
    let own = c.with_name-worker.result.inner.value in
    let below = in_reach own.policy own.hand c.in-Some.place c.in-Some.ensures own.reach in
    let same = ap (λ policy. length policy.segments) c.with_name-worker.result.named.serves in
    let all = c.requires.of.all in
    let at = c.from.ensures in
    let low : c.from.result < length lists.items = omega (arith, below, same, all, at) in
    let there = slice_get-get_or lists.items c.from.result list low
    ∙ ap Some (sym c.index_mut-list.ensures.value) in
    let out = c.in-Some-take.ensures.out (home.lists c.from.result list there) in
    record {
      segments = home.segments;
      left = home.left;
      lists = each_set (λ one. IsHome (view one.pass) one.kept) lists.items c.from.result
          c.put.new.self home.lists
          (put_home _ (view c.take.new.self.pass) (view c.put.new.self.pass) _
          c.put.ensures.kept c.put.ensures.home out);
    }

pub returns-in_default-clause-touched : goal.returns-in_default-clause-touched
returns-in_default-clause-touched g c =
    by_none c.args.state.value.hand
    (subst (λ own. None ≡ option_map (λ handle. handle.place) own.value.hand) c.with_name-worker.ensures
    c.in_default.ensures) refl

pub returns-in_default-take-clause-places : goal.returns-in_default-take-clause-places
returns-in_default-take-clause-places g c =
    let lists = c.args.shared.now.lists in
    let list = c.index_mut-list.result.now in
    let own = c.with_name-worker.result.inner.value in
    let below = in_reach own.policy own.hand c.in-Some.place c.in-Some.ensures own.reach in
    let same = ap (λ policy. length policy.segments) c.with_name-worker.result.named.serves in
    let all = c.requires.of.all in
    let at = c.from.ensures in
    let low : c.from.result < length lists.items = omega (arith, below, same, all, at) in
    let there = slice_get-get_or lists.items c.from.result list low
    ∙ ap Some (sym c.index_mut-list.ensures.value) in
    record {
      segments = refl;
      lists = map_set list_place lists.items c.from.result list c.take.new.self there
          c.take.ensures.place;
      left = refl;
    }

pub returns-clause-alone : goal.returns-clause-alone
returns-clause-alone g c = λ needs.
    absurd (needs (subst (λ own. own.value.hand ≢ None) c.with_name-worker.ensures
    (in_hand c.with_name-worker.result.inner.value.hand c.in-Some.ensures)))

pub returns-clause-touched : goal.returns-clause-touched
returns-clause-touched g c =
    by_hand c.args.state.value.hand
    (subst (λ own. Some c.in-Some.place ≡ option_map (λ handle. handle.place) own.value.hand)
    c.with_name-worker.ensures c.in-Some.ensures)
    record {
      segments = refl;
      left = refl;
      others = λ at apart. other_set c.args.shared.now.lists.items c.from.result at c.put.new.self
          (λ same. apart (same ∙ c.from.ensures));
    }

pub returns-clause-places : goal.returns-clause-places
returns-clause-places g c =
    let lists = c.args.shared.now.lists in
    let list = c.index_mut-list.result.now in
    let own = c.with_name-worker.result.inner.value in
    let below = in_reach own.policy own.hand c.in-Some.place c.in-Some.ensures own.reach in
    let same = ap (λ policy. length policy.segments) c.with_name-worker.result.named.serves in
    let all = c.requires.of.all in
    let at = c.from.ensures in
    let low : c.from.result < length lists.items = omega (arith, below, same, all, at) in
    let there = slice_get-get_or lists.items c.from.result list low
    ∙ ap Some (sym c.index_mut-list.ensures.value) in
    record {
      segments = refl;
      lists = map_set list_place lists.items c.from.result list c.put.new.self there
          (c.put.ensures.place ∙ c.take.ensures.place);
      left = refl;
    }
