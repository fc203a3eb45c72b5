-- The worked denies.
use Rattle.std.proofs.Common.{refl}
use Rattle.hg_size.specs.Sizes as sizes
use Rattle.hg_size.specs.Runs as runs
use Rattle.hg_rows.proofs.Computed.{answered}
use Rattle.hg_rows.specs.Shorthand.{block}
use Rattle.hg_rows.specs.Granting.{row_of_eight}
use Rattle.hg_rows.specs.Denying.{EachDenyTakesItsOwn}

pub each_deny_takes_its_own : EachDenyTakesItsOwn
unfolding sizes.size_for runs.may_begin runs.is_covered
each_deny_takes_its_own = record {
  none = answered (((0, refl, refl), refl), (((block, refl, record { room = refl; next = refl }), refl), ((refl, refl), ((refl, refl), (((row_of_eight, refl, record { stands = refl; generation = refl; owner = refl; bytes = refl }), refl), ((refl, refl), tt))))));
  to_read = answered (((0, refl, refl), refl), (((block, refl, record { room = refl; next = refl }), refl), ((refl, refl), ((refl, refl), (((row_of_eight, refl, record { stands = refl; generation = refl; owner = refl; bytes = refl }), refl), ((refl, refl), tt))))));
  to_write = answered (((0, refl, refl), refl), (((block, refl, record { room = refl; next = refl }), refl), ((refl, refl), ((refl, refl), (((row_of_eight, refl, record { stands = refl; generation = refl; owner = refl; bytes = refl }), refl), ((refl, refl), tt))))));
  to_list = answered (((0, refl, refl), refl), (((block, refl, record { room = refl; next = refl }), refl), ((refl, refl), ((refl, refl), ((refl, refl), ((refl, refl), tt))))));
  to_free = answered (((0, refl, refl), refl), (((block, refl, record { room = refl; next = refl }), refl), ((refl, refl), ((refl, refl), (((row_of_eight, refl, record { stands = refl; generation = refl; owner = refl; bytes = refl }), refl), ((refl, refl), tt))))));
  ungranted = answered (((0, refl, refl), refl), (((block, refl, record { room = refl; next = refl }), refl), ((refl, refl), ((refl, refl), ((refl, refl), ((refl, refl), tt))))));
}
