-- The worked verdicts.
use Rattle.std.proofs.Common.{refl}
use Rattle.hg_size.specs.Sizes as sizes
use Rattle.hg_size.specs.Runs as runs
use Rattle.hg_rows.proofs.Computed.{answered}
use Rattle.hg_rows.specs.Shorthand.{block, next_page}
use Rattle.hg_rows.specs.Judging.{StaleThenFreedThenArena}
use Rattle.hg_rows.specs.Judging.{row_of_alice, StrangerThenStaleThenGrant}
use Rattle.hg_rows.specs.Judging.{GrantThenHolderThenLength, NoSuchSegment}
use Rattle.hg_rows.specs.Judging.{LooksShowWhatMayBeListed}

pub stranger_then_stale_then_grant : StrangerThenStaleThenGrant
unfolding sizes.size_for runs.may_begin runs.is_covered
stranger_then_stale_then_grant =
    answered (
      ((0, refl, refl), refl),
      (
        ((block, refl, record { room = refl; next = refl }), refl),
        (
          (refl, refl),
          (
            (refl, refl),
            ((refl, refl), tt),
          ),
        ),
      ),
    )

pub grant_then_holder_then_length : GrantThenHolderThenLength
unfolding sizes.size_for runs.may_begin runs.is_covered
grant_then_holder_then_length =
    answered (
      ((0, refl, refl), refl),
      (
        ((block, refl, record { room = refl; next = refl }), refl),
        (
          (refl, refl),
          (
            (refl, refl),
            (
              (refl, refl),
              (
                (refl, refl),
                ((refl, refl), tt),
              ),
            ),
          ),
        ),
      ),
    )

pub no_such_segment : NoSuchSegment
unfolding sizes.size_for runs.may_begin runs.is_covered
no_such_segment = answered ((refl, refl), ((refl, refl), ((refl, refl), ((refl, refl), tt))))

pub looks_show_what_may_be_listed : LooksShowWhatMayBeListed
unfolding sizes.size_for runs.may_begin runs.is_covered
looks_show_what_may_be_listed =
    answered (
      ((0, refl, refl), refl),
      (
        ((block, refl, record { room = refl; next = refl }), refl),
        (
          ((next_page, refl, record { room = refl; next = refl }), refl),
          (
            ((row_of_alice, refl, record { stands = refl; generation = refl; owner = refl; bytes = refl }), refl),
            (
              (refl, refl),
              (
                (refl, refl),
                (
                  (refl, refl),
                  ((refl, refl), tt),
                ),
              ),
            ),
          ),
        ),
      ),
    )

pub stale_then_freed_then_arena : StaleThenFreedThenArena
unfolding sizes.size_for runs.may_begin runs.is_covered
stale_then_freed_then_arena =
    answered (((0, refl, refl), refl), (((block, refl, record { room = refl; next = refl }), refl), ((refl, refl), ((refl, refl), ((refl, refl), ((refl, refl), tt))))))
