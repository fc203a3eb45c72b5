-- The worked lives.
use Rattle.std.proofs.Common.{refl}
use Rattle.hg_size.specs.Sizes as sizes
use Rattle.hg_size.specs.Runs as runs
use Rattle.hg_rows.proofs.Computed.{answered}
use Rattle.hg_rows.specs.Shorthand.{block, second_life, neighbour, next_page, third_page}
use Rattle.hg_rows.specs.Lives.{StaleAfterReuse, WornPlaceIsNeverGivenOut}

pub stale_after_reuse : StaleAfterReuse
unfolding sizes.size_for runs.may_begin runs.is_covered
stale_after_reuse =
    answered (
      ((0, refl, refl), refl),
      (
        ((block, refl, record { room = refl; next = refl }), refl),
        (
          (refl, refl),
          (
            (refl, refl),
            (
              (refl, refl),
              (
                ((second_life, refl, record { room = refl; next = refl }), refl),
                (
                  (refl, refl),
                  (
                    (refl, refl),
                    ((refl, refl), tt),
                  ),
                ),
              ),
            ),
          ),
        ),
      ),
    )

pub worn_place_is_never_given_out : WornPlaceIsNeverGivenOut
unfolding sizes.size_for runs.may_begin runs.is_covered
worn_place_is_never_given_out =
    answered (
      ((0, refl, refl), refl),
      (
        ((block, refl, record { room = refl; next = refl }), refl),
        (
          (refl, refl),
          (
            ((next_page, refl, record { room = refl; next = refl }), refl),
            (
              (refl, refl),
              (
                ((third_page, refl, record { room = refl; next = refl }), refl),
                (
                  (refl, refl),
                  (
                    (refl, refl),
                    (((neighbour, refl, record { room = refl; next = refl }), refl), tt),
                  ),
                ),
              ),
            ),
          ),
        ),
      ),
    )
