-- Worked lists that are a partition, and such as are none.
use Rattle.std.specs.Prelude.{[], ◌∷◌}
use Rattle.hg_machine.specs.Lists.{Lists, IsPartition}
use Rattle.hg_rows.specs.WorkedLists.{two_pages_with, on_all_lists, on_two_lists}

-- these lists of the two pages are no partition
abbrev pub AreNone : Lists → Type 0
AreNone lists = ¬ (IsPartition (two_pages_with lists))

-- places on all four lists, and the same places on two of them alone, in another order
pub record ListsInOrder : Type 0 where
  pub on_all : IsPartition (two_pages_with on_all_lists)
  pub on_two : IsPartition (two_pages_with on_two_lists)

-- what is free is left out, or stands twice, on one list or on two; what isn't free is on a free
-- list: a live place, a worn one, a sent one, or one that is no block place; a free place is on a
-- list of another page
pub record FreeListsOutOfOrder : Type 0 where
  pub left_out : AreNone (record on_all_lists { free = (1 ∷ []) ∷ (515 ∷ []) ∷ [] })
  pub twice : AreNone (record on_all_lists { free = (1 ∷ 2 ∷ 1 ∷ []) ∷ (515 ∷ []) ∷ [] })
  pub on_both : AreNone (record on_all_lists { free = (1 ∷ 2 ∷ 3 ∷ []) ∷ (515 ∷ []) ∷ [] })
  pub live : AreNone (record on_all_lists { free = (1 ∷ 2 ∷ 0 ∷ []) ∷ (515 ∷ []) ∷ [] })
  pub worn : AreNone (record on_all_lists { local_free = (3 ∷ 7 ∷ []) ∷ (514 ∷ []) ∷ [] })
  pub sent : AreNone (record on_all_lists { local_free = (3 ∷ 5 ∷ []) ∷ (514 ∷ []) ∷ [] })
  pub past_places : AreNone (record on_all_lists { free = (1 ∷ 2 ∷ 8 ∷ []) ∷ (515 ∷ []) ∷ [] })
  pub free_of_other_page : AreNone (record on_all_lists { free = (1 ∷ 2 ∷ 515 ∷ []) ∷ [] })
  pub local_of_other_page :
      AreNone (record on_all_lists { local_free = (3 ∷ 514 ∷ []) ∷ [] ∷ [] })
  pub on_further_page :
      AreNone (record on_all_lists { local_free = (3 ∷ []) ∷ (514 ∷ []) ∷ (1 ∷ []) ∷ [] })

-- what is sent is left out, or stands twice, on one list or on two; what isn't sent is on a sent
-- list: a free place, or one in a hand; a sent place is on the list of another segment or page; a
-- page has a thread-free place, while none of its places is delayed, or none of its segment
pub record SentListsOutOfOrder : Type 0 where
  pub left_out : AreNone (record on_all_lists { thread_free = [] ∷ (513 ∷ []) ∷ [] })
  pub twice : AreNone (record on_all_lists { delayed = (512 ∷ 4 ∷ 4 ∷ []) ∷ [] })
  pub on_both : AreNone (record on_all_lists { delayed = (512 ∷ 4 ∷ 5 ∷ []) ∷ [] })
  pub free : AreNone (record on_all_lists { delayed = (512 ∷ 4 ∷ 1 ∷ []) ∷ [] })
  pub in_hand : AreNone (record on_all_lists { thread_free = (5 ∷ 6 ∷ []) ∷ (513 ∷ []) ∷ [] })
  pub of_other_segment : AreNone (record on_all_lists { delayed = (4 ∷ []) ∷ (512 ∷ []) ∷ [] })
  pub of_other_page : AreNone (record on_all_lists { thread_free = [] ∷ (513 ∷ 5 ∷ []) ∷ [] })
  pub page_not_delayed :
      AreNone
      (record on_all_lists { thread_free = (5 ∷ 4 ∷ []) ∷ (513 ∷ []) ∷ []; delayed = (512 ∷ []) ∷ [] })
  pub none_delayed :
      AreNone
      (record on_all_lists { thread_free = (5 ∷ 4 ∷ []) ∷ (513 ∷ 512 ∷ []) ∷ []; delayed = [] })
