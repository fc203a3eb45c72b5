-- Places of one segment of a heap that come home one after the other.
use Rattle.std.proofs.Common.{◌≡◌, ℕ, ◌+◌, ◌*◌, ◌≤◌, List, [], ◌∷◌, length, slice_get, slice_set}
use Rattle.std.proofs.Common.{refl, sym, ap, ◌∙◌, arith, subst, set, ⊎_elim}
use Rattle.std.specs.Prelude.{Some}
use Rattle.std.proofs.lemmas.List.{set-set, set-get_or, length-set}
use Rattle.std.proofs.lemmas.Option.{same_Some, get_or_from_slice_get}
use Rattle.hg_lists.specs.Repeats.{HasNoRepeats}
use Rattle.hg_place.specs.declared.plain.PlainWords.{PlainWords}
use Rattle.hg_place.specs.Places.{page_of, index_of}
use Rattle.hg_place.specs.Plain.{plain_records}
use Rattle.hg_size.specs.Sizes.{number_of_size}
use Rattle.hg_size.specs.SizeLaws.{key_of}
use Rattle.hg_segment.specs.Kept.{Kept, class_at, lists_at}
use Rattle.hg_segment.specs.Parted.{plain_number}
use Rattle.hg_heap.specs.Held.{Held, has_place}
use Rattle.hg_heap.specs.Requeued.{requeued}
use Rattle.hg_heap.specs.Taking.{WentHome, IsAnother, Takes}
use Rattle.hg_heap.proofs.Allotting.{found_first}
use Rattle.hg_heap.proofs.Founds.{Found, found_after, number_is, numbers, numbers_same}
use Rattle.hg_events.specs.Take.{plain_shows, plain_steps}

abbrev pub K : Type 0
K = Kept PlainWords

-- a place went home, and its page stands in the queue where it belongs
pub record CameIn (n place : ℕ) (mid next : K) (old new : List (List ℕ)) : Type 0 where
  pub went :
      WentHome plain_records plain_shows plain_steps (page_of place) (index_of place) mid next
  pub number : plain_number next.slots ≡ n
  pub size : ℕ
  pub class : class_at mid.classes (page_of place) ≡ Some size
  pub queues :
      new
      ≡ requeued (key_of mid.arena (number_of_size size)) (n * 16 + page_of place)
      (has_place (lists_at next.lists (page_of place))) old

-- so it is of these places in their order
abbrev pub Comes : ℕ → List ℕ → K → K → List (List ℕ) → List (List ℕ) → Type 0
Comes n [] mid last old new = (last ≡ mid) × (new ≡ old)
Comes n (place ∷ places) mid last old new =
    (next : K) × (queues : List (List ℕ)) × CameIn n place mid next old queues
    × Comes n places next last queues new

-- there are as many lists of pages after it
pub as_many_lists : (n : ℕ) (places : List ℕ) (mid last : K) (old new : List (List ℕ))
    → Comes n places mid last old new → length last.lists ≡ length mid.lists
as_many_lists n [] mid last old new c = ap (λ (k : K). length k.lists) c.0
as_many_lists n (place ∷ places) mid last old new c =
    as_many_lists n places c.0 last c.1 new c.3
    ∙ ap length c.2.went.lists
    ∙ length-set mid.lists (page_of place) _

-- no more than all are taken
few : (n : ℕ) (places : List ℕ) (old new : Held PlainWords) (count : ℕ)
    → Takes plain_number plain_records plain_shows plain_steps n places old new count
    → count ≤ length places
few n [] old new count t = let e = t.1 in omega (arith, e)
few n (place ∷ places) old new count t =
    let rest = few n places t.0 new t.1 t.2 in
    ⊎_elim (λ taken. let e = taken.1 in omega (arith, e, rest))
    (λ passed. let e = passed.1 in omega (arith, e, rest)) t.3

-- what stands at an index of a heap once all have come home
pub record HaveComeIn (n at : ℕ) (places : List ℕ) (mid : K) (old new : Held PlainWords)
    : Type 0 where
  pub last : K
  pub swap : new.segments ≡ slice_set old.segments at last
  pub comes : Comes n places mid last old.queues new.queues

-- another of its number stands where it stood
module _ (n at : ℕ) (mid : K) (old new : List K)
    (once : HasNoRepeats (numbers plain_number old)) (f : Found plain_number old n at mid)
    (a : IsAnother plain_number n old new) where
  where_found : a.found ≡ at
  where_found =
      found_first plain_number plain_records old a.found a.before n once a.at a.number_is
      ∙ sym f.first

  before_is : a.before ≡ mid
  before_is = same_Some a.before mid (sym a.at ∙ ap (slice_get old) where_found ∙ f.at)

  new_is : new ≡ slice_set old at a.after
  new_is = a.now ∙ ap (λ k. slice_set old k a.after) where_found

  number : plain_number a.after.slots ≡ plain_number mid.slots
  number = a.number_kept ∙ sym (number_is plain_number old n at mid f)

  still_once : HasNoRepeats (numbers plain_number new)
  still_once =
      subst HasNoRepeats
      (sym (ap (numbers plain_number) new_is
      ∙ numbers_same plain_number old at mid a.after f.at number)) once

  still_found : Found plain_number new n at a.after
  still_found =
      subst (λ ks. Found plain_number ks n at a.after) (sym new_is)
      (found_after plain_number old n at mid a.after f number)

-- where as many are taken as there are, each comes home
pub all_in : (n at : ℕ) (places : List ℕ) (mid : K) (old new : Held PlainWords) (count : ℕ)
    → HasNoRepeats (numbers plain_number old.segments)
    → Found plain_number old.segments n at mid
    → Takes plain_number plain_records plain_shows plain_steps n places old new count
    → count ≡ length places → HaveComeIn n at places mid old new
all_in n at [] mid old new count once f t all = record {
  last = mid;
  swap =
      ap (λ (h : Held PlainWords). h.segments) t.0
      ∙ sym
      (ap (set old.segments at) (sym (get_or_from_slice_get old.segments at mid mid f.at))
      ∙ set-get_or old.segments at mid);
  comes = (refl, ap (λ (h : Held PlainWords). h.queues) t.0);
}
all_in n at (place ∷ places) mid old new count once f t all =
    let next_heap = t.0 in
    let left = few n places next_heap new t.1 t.2 in
    ⊎_elim
    (λ taken.
    let a = taken.0.another in
    let is = before_is n at mid old.segments next_heap.segments once f a in
    let swap = new_is n at mid old.segments next_heap.segments once f a in
    let rest =
    all_in n at places a.after next_heap new t.1
    (still_once n at mid old.segments next_heap.segments once f a)
    (still_found n at mid old.segments next_heap.segments once f a) t.2
    (let e = taken.1 in omega (arith, e, all)) in
    record {
      last = rest.last;
      swap =
          rest.swap ∙ ap (λ ks. slice_set ks at rest.last) swap
          ∙ set-set old.segments at a.after rest.last;
      comes = (
        a.after,
        next_heap.queues,
        record {
          went =
              subst (λ k. WentHome plain_records plain_shows plain_steps (page_of place)
              (index_of place) k a.after) is taken.0.home;
          number = a.number_kept;
          size = taken.0.size;
          class = ap (λ (k : K). class_at k.classes (page_of place)) (sym is) ∙ taken.0.class;
          queues =
              taken.0.queues
              ∙ ap (λ (k : K). requeued (key_of k.arena (number_of_size taken.0.size))
              (n * 16 + page_of place) (has_place (lists_at a.after.lists (page_of place)))
              old.queues) is;
        },
        rest.comes,
      );
    })
    (λ passed. absurd (let e = passed.1 in omega (arith, e, all, left))) t.3
