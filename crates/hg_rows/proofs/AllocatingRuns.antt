-- The worked allocations.
use Rattle.std.proofs.Common.{refl}
use Rattle.hg_size.specs.Sizes as sizes
use Rattle.hg_size.specs.Runs as runs
use Rattle.hg_rows.proofs.Computed.{answered}
use Rattle.hg_rows.specs.Shorthand.{block, next_page}
use Rattle.hg_rows.specs.Allocating.{LimitBeforeRoom}
use Rattle.hg_rows.specs.Allocating.{RefillThenAlloc, ExactFitThenOverLimit, ChargeByClassBytes}
use Rattle.hg_rows.specs.Allocating.{ArenaBeforeSizeLimitAndGrant}

pub refill_then_alloc : RefillThenAlloc
unfolding sizes.size_for runs.may_begin runs.is_covered
refill_then_alloc =
    answered (
      (refl, refl),
      (
        ((0, refl, refl), refl),
        (((block, refl, record { room = refl; next = refl }), refl), tt),
      ),
    )

pub exact_fit_then_over_limit : ExactFitThenOverLimit
unfolding sizes.size_for runs.may_begin runs.is_covered
exact_fit_then_over_limit =
    answered (
      ((0, refl, refl), refl),
      (
        ((block, refl, record { room = refl; next = refl }), refl),
        (
          (refl, refl),
          ((refl, refl), tt),
        ),
      ),
    )

pub charge_by_class_bytes : ChargeByClassBytes
unfolding sizes.size_for runs.may_begin runs.is_covered
charge_by_class_bytes =
    answered (
      ((0, refl, refl), refl),
      (
        (refl, refl),
        (
          ((block, refl, record { room = refl; next = refl }), refl),
          (
            ((next_page, refl, record { room = refl; next = refl }), refl),
            ((refl, refl), tt),
          ),
        ),
      ),
    )

pub arena_before_size_limit_and_grant : ArenaBeforeSizeLimitAndGrant
unfolding sizes.size_for runs.may_begin runs.is_covered
arena_before_size_limit_and_grant =
    answered (
      ((0, refl, refl), refl),
      (
        (refl, refl),
        (
          (refl, refl),
          (
            (refl, refl),
            (
              ((block, refl, record { room = refl; next = refl }), refl),
              (
                (refl, refl),
                (
                  (refl, refl),
                  ((refl, refl), tt),
                ),
              ),
            ),
          ),
        ),
      ),
    )

pub limit_before_room : LimitBeforeRoom
unfolding sizes.size_for runs.may_begin runs.is_covered
limit_before_room = answered ((refl, refl), ((refl, refl), tt))
