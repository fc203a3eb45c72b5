use Rattle.std.proofs.Common.{rules, arith, ◌+◌, ◌≡◌, ◌∷◌, [], ap}
use Rattle.hg_table.proofs.Allowed.{meetings}
use Rattle.hg_table.proofs.ManyParts.{cuts, joins_all}
use Rattle.hg_table.specs.Steps.{second_part}
use Rattle.hg_table.proofs.Told.{out_of}
use Rattle.hg_table.proofs.Meeting.{after_is, they_met, met_of}
use Rattle.hg_table.proofs.segment.UnnamedSegmentSlotWords.meet.Goals as goal

pub join_seat-requires : goal.join_seat-requires
join_seat-requires c =
    let is : c.args.other.now.badge.views ≡ c.into_seat-theirs.result.me.0 ∷ [] = search rules in
    let wide : c.deref.result.now.shared.table_id.words ≡ c.deref.result.now.shared.key + 1 = search rules in
    (search rules, search rules, search rules, omega arith, joins_all _ _ _ _ _)

pub load-found-requires : goal.load-found-requires
load-found-requires c = (search rules, search rules, meetings _ _ _ _ _ (search rules))

pub split_seat-back-requires : goal.split_seat-back-requires
split_seat-back-requires c =
    let is : c.args.other.now.badge.views ≡ c.into_seat-theirs.result.me.0 ∷ [] = search rules in
    let theirs = (out_of _ _ c.args.other.now.one is).0 in
    let joined = ap (λ m. m.0) c.join_seat.ensures.2 in
    let e = c.load-found.ensures.2 in
    let wide : c.deref.result.now.shared.table_id.words ≡ c.deref.result.now.shared.key + 1 = search rules in
    (search rules, omega arith, cuts _ _ second_part _ (_, _, after_is _ _ _ _ _ _ c.args.self.now.one theirs joined e.0.1 e.1))

pub returns-clause-met : goal.returns-clause-met
returns-clause-met c =
    let is : c.args.other.now.badge.views ≡ c.into_seat-theirs.result.me.0 ∷ [] = search rules in
    let theirs = out_of _ _ c.args.other.now.one is in
    let joined = ap (λ m. m.0) c.join_seat.ensures.2 in
    let e = c.load-found.ensures.2 in
    let cut = c.split_seat-back.ensures in
    record {
      met = search (rules, met_of _ _ _ _ _ _ _ c.args.other.now.badge.views c.into_badge.result.views _ c.args.self.now.one theirs joined e.0.1 e.1 e.0.0 (ap (λ m. m.0) cut.2) (ap (λ m. m.0) cut.4) c.into_badge.ensures.2);
      same = search rules;
      same_other = search rules;
    }

pub returns-clause-shown : goal.returns-clause-shown
returns-clause-shown c =
    let is : c.args.other.now.badge.views ≡ c.into_seat-theirs.result.me.0 ∷ [] = search rules in
    let theirs = out_of _ _ c.args.other.now.one is in
    let joined = ap (λ m. m.0) c.join_seat.ensures.2 in
    let e = c.load-found.ensures.2 in
    let cut = c.split_seat-back.ensures in
    search (rules, (they_met _ _ _ _ _ _ c.args.self.now.one theirs.0 joined e.0.1 e.1 _ _ e.0.0 (ap (λ m. m.0) cut.2) (ap (λ m. m.0) cut.4)).shown)
