use Rattle.std.proofs.Common.{rules, arith, ◌≡◌, ℕ, ◌+◌, ◌<◌, ◌≤◌, ap}
use Rattle.hg_place.specs.declared.geometry.TheConstants.{MAX_SEGMENTS}
use Rattle.hg_table.specs.View.{View, part_of}
use Rattle.hg_table.specs.Seats.{IsInitial}
use Rattle.hg_table.specs.Steps.{first_segment}
use Rattle.hg_table.proofs.ManyParts.{cuts}
use Rattle.hg_table.proofs.Initial.{cut, all_home, home_is_sane}
use Rattle.hg_table.proofs.life_table.segment_seat.Goals as goal

-- a seat may come still where a segment is left
left :
    {done places : ℕ} {view : View} → IsInitial done places view → done < MAX_SEGMENTS
    → 1 ≤ (part_of view).may_give
left f below = let given = f.may_give in omega arith

pub split_seat-seat-requires : goal.split_seat-seat-requires
split_seat-seat-requires c =
    let wide : c.deref.result.now.shared.table_id.words ≡ c.deref.result.now.shared.key + 1 = search rules in
    (search rules, omega arith, cuts _ _ first_segment _ (c.requires.home.one, left c.requires.home c.requires.segment))

pub returns-clause-rest : goal.returns-clause-rest
returns-clause-rest c = let e = c.split_seat-seat.ensures in (cut _ _ _ _ _ c.requires.home (left c.requires.home c.requires.segment) (ap (λ m. m.0) e.2) (ap (λ m. m.0) e.4)).0

pub invariant_of-result : goal.invariant_of-result
invariant_of-result c =
    let e = c.split_seat-seat.ensures in
    let t = cut _ _ _ _ _ c.requires.home (left c.requires.home c.requires.segment) (ap (λ m. m.0) e.2) (ap (λ m. m.0) e.4) in
    let home = rw c.of-home.ensures at c.in_ok-records.ensures.each in record {
      same = search rules;
      wide = search rules;
      within = search rules;
      segment_below = search rules;
      one = t.1;
      bare = search rules;
      gives_none = t.7;
      first = t.4;
      recorded = all_home _ _ t.5 c.in_ok-records.ensures.all t.6 home;
      sized = search rules;
      sane = λ at below. home_is_sane _ home at;
    }
