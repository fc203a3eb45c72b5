-- The worked remote frees.
use Rattle.std.proofs.Common.{refl}
use Rattle.hg_size.specs.Sizes as sizes
use Rattle.hg_size.specs.Runs as runs
use Rattle.hg_rows.proofs.Computed.{answered}
use Rattle.hg_rows.specs.Shorthand.{block, neighbour, next_page}
use Rattle.hg_rows.specs.Parting.{DeliveredThenTaken, FullHandIsBusy, PartedBlockCountsInCharge}
use Rattle.hg_rows.specs.Parting.{HandIsNotTaken, DelayedBeforeThreadFree}

pub delivered_then_taken : DeliveredThenTaken
unfolding sizes.size_for runs.may_begin runs.is_covered
delivered_then_taken =
    answered (
      ((0, refl, refl), refl),
      (
        ((block, refl, record { room = refl; next = refl }), refl),
        (
          (refl, refl),
          (
            (refl, refl),
            (
              (refl, refl),
              (
                (refl, refl),
                (
                  (refl, refl),
                  ((refl, refl), tt),
                ),
              ),
            ),
          ),
        ),
      ),
    )

pub full_hand_is_busy : FullHandIsBusy
unfolding sizes.size_for runs.may_begin runs.is_covered
full_hand_is_busy =
    answered (
      ((0, refl, refl), refl),
      (
        ((block, refl, record { room = refl; next = refl }), refl),
        (
          ((neighbour, refl, record { room = refl; next = refl }), refl),
          (
            (refl, refl),
            (
              (refl, refl),
              (
                (refl, refl),
                (
                  (refl, refl),
                  (
                    (refl, refl),
                    ((refl, refl), tt),
                  ),
                ),
              ),
            ),
          ),
        ),
      ),
    )

pub parted_block_counts_in_charge : PartedBlockCountsInCharge
unfolding sizes.size_for runs.may_begin runs.is_covered
parted_block_counts_in_charge =
    answered (
      ((0, refl, refl), refl),
      (
        ((block, refl, record { room = refl; next = refl }), refl),
        (
          (refl, refl),
          (
            (refl, refl),
            (
              (refl, refl),
              (
                (refl, refl),
                (
                  (refl, refl),
                  (((next_page, refl, record { room = refl; next = refl }), refl), tt),
                ),
              ),
            ),
          ),
        ),
      ),
    )

pub hand_is_not_taken : HandIsNotTaken
unfolding sizes.size_for runs.may_begin runs.is_covered
hand_is_not_taken =
    answered (
      ((0, refl, refl), refl),
      (
        ((block, refl, record { room = refl; next = refl }), refl),
        (
          ((neighbour, refl, record { room = refl; next = refl }), refl),
          (
            (refl, refl),
            (
              (refl, refl),
              (
                ((0, refl, refl), refl),
                (
                  (refl, refl),
                  (
                    (refl, refl),
                    (
                      (refl, refl),
                      (
                        (refl, refl),
                        (
                          (refl, refl),
                          (
                            (refl, refl),
                            (
                              (refl, refl),
                              ((refl, refl), tt),
                            ),
                          ),
                        ),
                      ),
                    ),
                  ),
                ),
              ),
            ),
          ),
        ),
      ),
    )

pub delayed_before_thread_free : DelayedBeforeThreadFree
delayed_before_thread_free = refl
