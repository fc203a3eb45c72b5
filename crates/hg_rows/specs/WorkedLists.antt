-- Two pages with places of every kind, and lists that hold them.
use Rattle.std.specs.Prelude.{ℕ, [], ◌∷◌, ◌++◌, Some, None, replicate}
use Rattle.hg_machine.specs.Life.{Record, home, live, parted, never_used}
use Rattle.hg_machine.specs.State.{State, fresh, held}
use Rattle.hg_machine.specs.Lists.{Lists, Kept}
use Rattle.hg_rows.specs.WorkedPolicy.{start}
use Rattle.hg_rows.specs.Shorthand.{alice}

-- a place that was given out so often, and is home now
abbrev pub freed : ℕ → Record
freed generation = record { generation = generation; life = home }

-- a block of alice's in its first life, of so many words
abbrev pub alive : ℕ → Record
alive size = record { generation = 1; life = live alice (replicate size 0) }

abbrev pub parted_block : ℕ → Record
parted_block size = record { generation = 1; life = parted alice (replicate size 0) }

-- Page 0 has blocks of 64 words, so 8 block places: 0 is live, 1 to 3 are free, 4 and 5 are sent, 6
-- is parted and in a hand, and 7 is worn. Page 1 has blocks of 128 words, so 4 block places: 512 and
-- 513 are sent, and 514 and 515 are free
abbrev pub two_pages : State
two_pages = record (start 0 0) {
  records = alive 64
      ∷ freed 3
      ∷ freed 1
      ∷ never_used
      ∷ parted_block 64
      ∷ parted_block 64
      ∷ parted_block 64
      ∷ freed 9
      ∷ replicate 504 never_used
      ++ parted_block 128
      ∷ parted_block 128
      ∷ never_used
      ∷ never_used
      ∷ [];
  classes = Some 64 ∷ Some 128 ∷ [];
  holders = held 0 ∷ fresh ∷ fresh ∷ [];
  hands = None ∷ Some 6 ∷ [];
}

-- lists of its places, some on each
abbrev pub on_all_lists : Lists
on_all_lists = record {
  free = (1 ∷ 2 ∷ []) ∷ (515 ∷ []) ∷ [];
  local_free = (3 ∷ []) ∷ (514 ∷ []) ∷ [];
  thread_free = (5 ∷ []) ∷ (513 ∷ []) ∷ [];
  delayed = (512 ∷ 4 ∷ []) ∷ [];
}

-- the same places, on two of the lists alone
abbrev pub on_two_lists : Lists
on_two_lists = record {
  free = [];
  local_free = (3 ∷ 1 ∷ 2 ∷ []) ∷ (514 ∷ 515 ∷ []) ∷ [];
  thread_free = [];
  delayed = (5 ∷ 513 ∷ 4 ∷ 512 ∷ []) ∷ [];
}

-- the two pages with these lists
abbrev pub two_pages_with : Lists → Kept
two_pages_with lists = record { state = two_pages; lists = lists; queues = [] }
