-- The worked lists.
use Rattle.std.proofs.Common.{◌≡◌, ℕ, zero, suc, ◌<◌, get_or, Contains, refl, arith, [], ◌∷◌}
use Rattle.hg_rows.specs.WorkedLists.{two_pages_with, on_all_lists, on_two_lists}
use Rattle.hg_rows.specs.Partitions.{ListsInOrder, FreeListsOutOfOrder, SentListsOutOfOrder}
use Rattle.hg_rows.proofs.PartitionTests.{tests_are_enough}

pub lists_in_order : ListsInOrder
lists_in_order = record {
  on_all =
      tests_are_enough (two_pages_with on_all_lists) 2 1 (record {
        classes = omega arith;
        free = omega arith;
        local_free = omega arith;
        thread_free = omega arith;
        delayed = omega arith;
        records = omega arith;
        few_pages = omega arith;
        pages_pass = refl;
        segments_pass = refl;
        told = refl;
      });
  on_two =
      tests_are_enough (two_pages_with on_two_lists) 2 1 (record {
        classes = omega arith;
        free = omega arith;
        local_free = omega arith;
        thread_free = omega arith;
        delayed = omega arith;
        records = omega arith;
        few_pages = omega arith;
        pages_pass = refl;
        segments_pass = refl;
        told = refl;
      });
}

pub free_lists_out_of_order : FreeListsOutOfOrder
free_lists_out_of_order = record {
  left_out = λ h. let e : 0 ≡ 1 = (h 2).free 0 in cc;
  twice = λ h. let e : 2 ≡ 1 = (h 1).free 0 in cc;
  on_both = λ h. let e : 2 ≡ 1 = (h 3).free 0 in cc;
  live = λ h. let e : 1 ≡ 0 = (h 0).free 0 in cc;
  worn = λ h. let e : 1 ≡ 0 = (h 7).free 0 in cc;
  sent = λ h. let e : 1 ≡ 0 = (h 5).free 0 in cc;
  past_places = λ h. let e : 1 ≡ 0 = (h 8).free 0 in cc;
  free_of_other_page = λ h. let e : 1 ≡ 0 = (h 515).free 0 in cc;
  local_of_other_page = λ h. let e : 1 ≡ 0 = (h 514).free 0 in cc;
  on_further_page = λ h. let e : 1 ≡ 0 = (h 1).free 2 in cc;
}

one_at : (n x k : ℕ) → k < 1 → get_or (n ∷ []) k x ≡ x → n ≡ x
one_at n x zero below same = same
one_at n x (suc k) below same = absurd (omega arith)

only : (n x : ℕ) → Contains (n ∷ []) x → n ≡ x
only n x c = one_at n x c.0 c.1 c.2

pub sent_lists_out_of_order : SentListsOutOfOrder
sent_lists_out_of_order = record {
  left_out = λ h. let e : 0 ≡ 1 = (h 5).sent 0 in cc;
  twice = λ h. let e : 2 ≡ 1 = (h 4).sent 0 in cc;
  on_both = λ h. let e : 2 ≡ 1 = (h 5).sent 0 in cc;
  free = λ h. let e : 1 ≡ 0 = (h 1).sent 0 in cc;
  in_hand = λ h. let e : 1 ≡ 0 = (h 6).sent 0 in cc;
  of_other_segment = λ h. let e : 0 ≡ 1 = (h 512).sent 0 in cc;
  of_other_page = λ h. let e : 0 ≡ 1 = (h 5).own_page 1 (1, omega arith, refl) in cc;
  page_not_delayed = λ h. let first = (h 5).delayed (0, omega arith, refl) in let same = only 512 first.0 first.1 in omega (arith, first.2);
  none_delayed = λ h. let first = (h 5).delayed (0, omega arith, refl) in omega (arith, first.1.1);
}
