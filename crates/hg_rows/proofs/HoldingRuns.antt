-- The worked holders.
use Rattle.std.proofs.Common.{refl}
use Rattle.hg_size.specs.Sizes as sizes
use Rattle.hg_size.specs.Runs as runs
use Rattle.hg_rows.proofs.Computed.{answered}
use Rattle.hg_rows.specs.Shorthand.{block}
use Rattle.hg_rows.specs.Holding.{OrphansByTurn, AbandonAndAdoptWithLiveBlocks}

pub orphans_by_turn : OrphansByTurn
unfolding sizes.size_for runs.may_begin runs.is_covered
orphans_by_turn =
    answered (
      ((0, refl, refl), refl),
      (
        ((1, refl, refl), refl),
        (
          (refl, refl),
          (
            (refl, refl),
            (
              (refl, refl),
              (
                ((1, refl, refl), refl),
                (
                  (refl, refl),
                  ((refl, refl), tt),
                ),
              ),
            ),
          ),
        ),
      ),
    )

pub abandon_and_adopt_with_live_blocks : AbandonAndAdoptWithLiveBlocks
unfolding sizes.size_for runs.may_begin runs.is_covered
abandon_and_adopt_with_live_blocks =
    answered (
      ((0, refl, refl), refl),
      (
        ((block, refl, record { room = refl; next = refl }), refl),
        (
          (refl, refl),
          (
            (refl, refl),
            (
              (refl, refl),
              (
                ((0, refl, refl), refl),
                (
                  (refl, refl),
                  ((refl, refl), tt),
                ),
              ),
            ),
          ),
        ),
      ),
    )
