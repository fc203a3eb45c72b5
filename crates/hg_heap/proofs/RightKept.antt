-- A heap stays right where one segment is another of the same number, classes, lists and records.
use Rattle.std.proofs.Common.{◌≡◌, ℕ, ◌+◌, ◌%◌, ◌<◌}
use Rattle.std.proofs.Common.{List, get_or, Option, Some, None, refl, sym, ap, subst}
use Rattle.std.proofs.Common.{◌∙◌, arith, slice_get, slice_set, ⊎_elim}
use Rattle.std.specs.Prelude.{option_map, sum_by}
use Rattle.std.proofs.lemmas.Option.{get_or_from_slice_get}
use Rattle.std.proofs.lemmas.List.Sums.{sum_by-set}
use Rattle.hg_place.specs.declared.standing.Standing.{Standing}
use Rattle.hg_place.specs.Places.{segment_of_page}
use Rattle.hg_size.specs.Sizes.{number_of_size}
use Rattle.hg_size.specs.SizeLaws.{key_of}
use Rattle.hg_page.specs.PageLists.{PageLists}
use Rattle.hg_segment.specs.Kept.{Kept, no_lists, lists_at}
use Rattle.hg_segment.specs.Kept.{class_at as class_in}
use Rattle.hg_segment.specs.Charges.{charge_of}
use Rattle.hg_heap.specs.Held.{Kind, kind_of, segment_in, lists_by}
use Rattle.hg_heap.specs.Held.{has_place, KeepsLists}
use Rattle.hg_heap.specs.Queues.{key_by, key_on, AreQueued}
use Rattle.hg_heap.specs.Charges.{charge_in}
use Rattle.hg_heap.specs.Settled.{IsSettled}
use Rattle.hg_heap.specs.Right.{IsRight}
use Rattle.hg_heap.proofs.Founds.{inside_of, Contains-get, contained_set, map_same, tabled_same}
use Rattle.hg_heap.proofs.Founds.{pair, told_in}

-- what the queues go by
pub record Shape : Type 0 where
  pub number : ℕ
  pub arena : ℕ
  pub greatest : ℕ
  pub classes : List (Option ℕ)
  pub lists : List PageLists

abbrev shape_with : Kind → List (Option ℕ) → List PageLists → Shape
shape_with kind classes lists = record {
  number = kind.number;
  arena = kind.arena;
  greatest = kind.greatest;
  classes = classes;
  lists =
      lists;
}

abbrev lists_told : Option Shape → ℕ → PageLists
lists_told None page = no_lists
lists_told (Some k) page = lists_at k.lists page

abbrev key_told : Option Shape → ℕ → Option ℕ
key_told None page = None
key_told (Some k) page = option_map (λ size. key_of k.arena (number_of_size size))
    (class_in k.classes page)

-- a sum whose one term is another of the same amount
pub sum_same : {X : Type 0} (f : X → ℕ) (xs : List X) (n : ℕ) (x y : X) → slice_get xs n ≡ Some x
    → f y ≡ f x → sum_by f (slice_set xs n y) ≡ sum_by f xs
sum_same f xs n x y at same =
    let is : f (get_or xs n x) ≡ f x = ap f (get_or_from_slice_get xs n x x at) in
    let all : sum_by f (slice_set xs n y) + f (get_or xs n x) ≡ sum_by f xs + f y =
    sum_by-set f xs n y x (inside_of xs n x at) in
    omega (arith, all, is, same)

module _ {S : Type 0} (number : S → ℕ) where
  abbrev shape_of : Kept S → Shape
  shape_of k = shape_with (kind_of number k) k.classes k.lists

  lists_by_shape : (o : Option (Kept S)) (page : ℕ)
      → lists_by number o page ≡ lists_told (option_map shape_of o) page
  lists_by_shape None page = refl
  lists_by_shape (Some k) page = refl

  key_by_shape : (o : Option (Kept S)) (page : ℕ)
      → key_by number o page ≡ key_told (option_map shape_of o) page
  key_by_shape None page = refl
  key_by_shape (Some k) page = refl

  module _ (heap : List (Kept S)) (found : ℕ) (one after : Kept S)
      (at : slice_get heap found ≡ Some one)
      (kind : kind_of number after ≡ kind_of number one) (classes : after.classes ≡ one.classes)
      (lists : after.lists ≡ one.lists) where
    abbrev new : List (Kept S)
    new = slice_set heap found after

    shape_kept : shape_of after ≡ shape_of one
    shape_kept = ap (λ (d : Kind). shape_with d after.classes after.lists) kind
        ∙ ap (λ (cs : List (Option ℕ)). shape_with (kind_of number one) cs after.lists) classes
        ∙ ap (λ (ls : List PageLists). shape_with (kind_of number one) one.classes ls) lists

    told_same : (segment : ℕ) → option_map shape_of
        (segment_in number new segment) ≡ option_map shape_of (segment_in number heap segment)
    told_same =
        told_in number shape_of heap new
        (map_same (pair number shape_of) heap found one after at
        (ap (λ (s : Shape). (s.number, s)) shape_kept))

    -- the lists, the class and the key of each page are as they were
    pub lists_kept : KeepsLists number heap new
    lists_kept page = lists_by_shape (segment_in number new (segment_of_page page)) (page % 16)
        ∙ ap (λ o. lists_told o (page % 16)) (told_same (segment_of_page page))
        ∙ sym (lists_by_shape (segment_in number heap (segment_of_page page)) (page % 16))

    pub key_kept : (page : ℕ) → key_on number new page ≡ key_on number heap page
    key_kept page = key_by_shape (segment_in number new (segment_of_page page)) (page % 16)
        ∙ ap (λ o. key_told o (page % 16)) (told_same (segment_of_page page))
        ∙ sym (key_by_shape (segment_in number heap (segment_of_page page)) (page % 16))

    -- and so each stands in the queue where it belongs
    pub queued_kept : (queues : List (List ℕ))
        → AreQueued number (record { segments = heap; queues = queues })
        → AreQueued number (record { segments = new; queues = queues })
    queued_kept queues q = record {
      queues = q.queues;
      there = λ page has. let t = q.there page (sym (ap has_place (lists_kept page)) ∙ has) in
          (t.0, key_kept page ∙ t.1, t.2);
      only = λ key page in_it. let o = q.only key page in_it in
          (key_kept page ∙ o.0, ap has_place (lists_kept page) ∙ o.1);
    }

    module _ (records : S → List Standing) (same : records after.slots ≡ records one.slots) where
      charge_kept : (tenant : ℕ) → charge_in records new tenant ≡ charge_in records heap tenant
      charge_kept tenant = sum_same (λ (k : Kept S). charge_of (records k.slots) k.classes tenant)
          heap found one after at
          (ap (λ (rs : List Standing). charge_of rs after.classes tenant) same
          ∙ ap (λ (cs : List (Option ℕ)). charge_of (records one.slots) cs tenant) classes)

      pub right_kept : (table : List (Option ℕ)) (charges : List ℕ) (capacity : ℕ)
          (queues : List (List ℕ))
          → IsRight number records table charges capacity
          (record { segments = heap; queues = queues })
          → IsSettled records after
          → IsRight number records table charges capacity
          (record { segments = new; queues = queues })
      right_kept table charges capacity queues r settled = record {
        tabled = tabled_same number table heap found one after r.tabled at
            (ap (λ (d : Kind). d.number) kind);
        room = r.room;
        settled = λ k in_it. ⊎_elim (λ e. subst (IsSettled records) (sym e) settled)
            (λ was. r.settled k was) (contained_set heap found after k in_it);
        arenas = λ k in_it. ⊎_elim
            (λ e. subst (λ (n : ℕ). n < 16)
            (sym (ap (λ (d : Kind). d.arena) kind) ∙ ap (λ (x : Kept S). x.arena) (sym e))
            (r.arenas one (Contains-get heap found one at))) (λ was. r.arenas k was)
            (contained_set heap found after k in_it);
        queued = queued_kept queues r.queued;
        counted = r.counted;
        charged = λ tenant below. r.charged tenant below ∙ sym (charge_kept tenant);
      }
