-- What a heap has become when the idle pages below a number have lost their class.
use Rattle.std.proofs.Common.{◌≡◌, ◌≢◌, ℕ, suc, ◌+◌, ◌%◌, ◌<◌, ◌≤◌, ◌==◌, ◌&&◌, inl}
use Rattle.std.proofs.Common.{inr, Bool, true, false, not, cond, nat_lt, [], List, map, filter}
use Rattle.std.proofs.Common.{Option, None, refl, sym, ap, ◌∙◌, arith}
use Rattle.std.specs.List.{count_by, range_with_len}
use Rattle.std.proofs.lemmas.Bool.{cases_eq, cases_lt, and_left, and_right}
use Rattle.std.proofs.lemmas.Bool.{lt-ltb, le-ltb, eq-eqb, ne_eqb}
use Rattle.std.proofs.lemmas.Simd.{map-map}
use Rattle.hg_lists.specs.Lists.{without}
use Rattle.hg_place.specs.declared.standing.Standing.{Standing}
use Rattle.hg_place.specs.Places.{segment_of_page}
use Rattle.hg_page.specs.PageLists.{PageLists, freed}
use Rattle.hg_segment.specs.Kept.{Kept}
use Rattle.hg_heap.specs.Held.{Held, kind_of, kinds, lists_on, class_on, all_pages}
use Rattle.hg_heap.specs.Idle.{is_idle, is_idle_by, idle_pages, IdleAreOut, Collected}
use Rattle.hg_heap.specs.Idle.{bare}
use Rattle.hg_heap.specs.Retiring.{RetiredOn}
use Rattle.hg_heap.proofs.Filtered.{filters_twice, filters_same, filters_all}
use Rattle.hg_heap.proofs.Founds.{held_beyond}
use Rattle.hg_heap.proofs.Idles.{idle_same}
use Rattle.hg_heap.proofs.ViewCharges.{sum_next}
use Rattle.hg_heap.specs.Held.{segment_in}
use Rattle.hg_heap.proofs.Options.{none_is}

-- an idle page below the number is out
abbrev pub is_out : (ℕ → Bool) → ℕ → ℕ → Bool
is_out idle n page = nat_lt page n && idle page

out_none : (idle : ℕ → Bool) (page : ℕ) → is_out idle 0 page ≡ false
out_none idle page = and_left (nat_lt page 0) (idle page) (le-ltb page 0 (omega arith))

out_not_yet : (idle : ℕ → Bool) (n : ℕ) → is_out idle n n ≡ false
out_not_yet idle n = and_left (nat_lt n n) (idle n) (le-ltb n n (omega arith))

out_next : (idle : ℕ → Bool) (n : ℕ) → is_out idle (n + 1) n ≡ idle n
out_next idle n = ap (λ (b : Bool). b && idle n) (lt-ltb n (n + 1) (omega arith))

out_other : (idle : ℕ → Bool) (n page : ℕ) → page ≢ n
    → is_out idle (n + 1) page ≡ is_out idle n page
out_other idle n page ne =
    elim (cases_lt page n) as (λ _. is_out idle (n + 1) page ≡ is_out idle n page) [
      | inl lt ↦ ap (λ (b : Bool). b && idle page)
          (lt-ltb page (n + 1) (omega (arith, lt)) ∙ sym (lt-ltb page n lt))
      | inr ge ↦ elim (cases_lt n page)
          as (λ _. is_out idle (n + 1) page ≡ is_out idle n page) [
            | inl gt ↦ ap (λ (b : Bool). b && idle page)
                (le-ltb page (n + 1) (omega (arith, gt)) ∙ sym (le-ltb page n ge))
            | inr le ↦ absurd (ne (omega (arith, le, ge)))
          ]
    ]

out_busy : (idle : ℕ → Bool) (n : ℕ) → idle n ≡ false → (page : ℕ)
    → is_out idle (n + 1) page ≡ is_out idle n page
out_busy idle n busy page =
    elim (cases_eq page n) as (λ _. is_out idle (n + 1) page ≡ is_out idle n page) [
      | inl e ↦ and_right (nat_lt page (n + 1)) (idle page) (ap idle e ∙ busy)
          ∙ sym (and_right (nat_lt page n) (idle page) (ap idle e ∙ busy))
      | inr ne ↦ out_other idle n page ne
    ]

-- the page that is out next stands no longer in a queue
out_idle : (idle : ℕ → Bool) (n : ℕ) → idle n ≡ true → (page : ℕ)
    → not (is_out idle (n + 1) page) ≡ (not (is_out idle n page) && not (page == n))
out_idle idle n is page =
    elim (cases_eq page n)
    as (λ _. not (is_out idle (n + 1) page) ≡ (not (is_out idle n page) && not (page == n))) [
      | inl e ↦
          ap (λ (m : ℕ). not (is_out idle (n + 1) m)) e ∙ ap not (out_next idle n ∙ is)
          ∙ sym (and_right (not (is_out idle n page)) (not (page == n)) (ap not (eq-eqb page n e)))
      | inr ne ↦
          ap not (out_other idle n page ne)
          ∙ sym (ap (λ (b : Bool). not (is_out idle n page) && not b) (ne_eqb page n ne)
          ∙ both_true (not (is_out idle n page)))
    ]
  where
    both_true : (b : Bool) → (b && true) ≡ b
    both_true true = refl
    both_true false = refl

module _ {S : Type 0} (number : S → ℕ) (records : S → List Standing) where
  -- each idle page below the number has lost its class and its lists, and stands in no queue; there
  -- were so many; nothing else has changed
  pub record AreCollected (n count : ℕ) (old new : Held S) : Type 0 where
    pub rest : map bare new.segments ≡ map bare old.segments
    pub classes : (page : ℕ) → class_on number new.segments page
        ≡ cond (is_out (is_idle number records old.segments) n page) None
        (class_on number old.segments page)
    pub lists : (page : ℕ) → lists_on number new.segments page
        ≡ cond (is_out (is_idle number records old.segments) n page)
        (freed (lists_on number old.segments page) []) (lists_on number old.segments page)
    pub queues : new.queues ≡ map (filter (λ page. not
        (is_out (is_idle number records old.segments) n page))) old.queues
    pub counted : count ≡ count_by (is_idle number records old.segments) (range_with_len 0 n)
    pub few : count ≤ n

  pub none_collected : (held : Held S) → AreCollected 0 0 held held
  none_collected held =
      let idle = is_idle number records held.segments in
      record {
        rest = refl;
        classes = λ page. ap (λ (b : Bool). cond b None (class_on number held.segments page))
            (sym (out_none idle page));
        lists = λ page. ap (λ (b : Bool). cond b (freed (lists_on number held.segments page) [])
            (lists_on number held.segments page)) (sym (out_none idle page));
        queues = sym (filters_all (λ page. not (is_out idle 0 page))
            (λ page. ap not (out_none idle page)) held.queues);
        counted = refl;
        few = omega arith;
      }

  module _ (n count : ℕ) (old mid : Held S) (h : AreCollected n count old mid) where
    abbrev idle : ℕ → Bool
    idle = is_idle number records old.segments

    -- the next page is as it was
    next_class : class_on number mid.segments n ≡ class_on number old.segments n
    next_class = h.classes n
        ∙ ap (λ (b : Bool). cond b None (class_on number old.segments n)) (out_not_yet idle n)

    next_lists : lists_on number mid.segments n ≡ lists_on number old.segments n
    next_lists = h.lists n
        ∙ ap (λ (b : Bool). cond b (freed (lists_on number old.segments n) [])
        (lists_on number old.segments n)) (out_not_yet idle n)

    next_idle : is_idle number records mid.segments n ≡ idle n
    next_idle = idle_same number records mid.segments old.segments n h.rest next_class

    next_count : (b : Bool) → idle n ≡ b → count_by idle (range_with_len 0 (n + 1))
        ≡ count + cond b 1 0
    next_count b e =
        let more : n + 1 ≡ suc n = omega arith in
        let z : 0 + n ≡ n = omega arith in
        ap (λ (m : ℕ). count_by idle (range_with_len 0 m)) more
        ∙ sum_next (λ page. cond (idle page) 1 0) 0 n
        ∙ ap (λ (m : ℕ). count_by idle (range_with_len 0 n) + cond (idle m) 1 0) z
        ∙ ap (λ (m : ℕ). m + cond (idle n) 1 0) (sym h.counted)
        ∙ ap (λ (c : Bool). count + cond c 1 0) e

    -- a page that isn't idle stays
    pub one_busy : is_idle number records mid.segments n ≡ false
        → AreCollected (n + 1) count old mid
    one_busy busy =
        let same = out_busy idle n (sym next_idle ∙ busy) in
        record {
          rest = h.rest;
          classes = λ page. h.classes page
              ∙ ap (λ (b : Bool). cond b None (class_on number old.segments page))
              (sym (same page));
          lists = λ page. h.lists page
              ∙ ap (λ (b : Bool). cond b (freed (lists_on number old.segments page) [])
              (lists_on number old.segments page)) (sym (same page));
          queues = h.queues ∙ filters_same (λ page. not (is_out idle n page))
              (λ page. not (is_out idle (n + 1) page)) (λ page. ap not (sym (same page)))
              old.queues;
          counted = (let c = next_count false (sym next_idle ∙ busy) in omega (arith, c));
          few = (let f = h.few in omega (arith, f));
        }

    -- an idle page is out
    pub one_idle : (new : Held S) → is_idle number records mid.segments n ≡ true
        → RetiredOn number n mid new → AreCollected (n + 1) (count + 1) old new
    one_idle new is r =
        let here : is_out idle (n + 1) n ≡ true = out_next idle n ∙ sym next_idle ∙ is in
        record {
          rest = r.rest ∙ h.rest;
          classes = λ page. elim (cases_eq page n)
              as (λ _. class_on number new.segments page
              ≡ cond (is_out idle (n + 1) page) None (class_on number old.segments page)) [
                | inl e ↦ ap (class_on number new.segments) e ∙ r.class
                    ∙ ap (λ (b : Bool). cond b None (class_on number old.segments page))
                    (sym (ap (is_out idle (n + 1)) e ∙ here))
                | inr ne ↦ r.classes page ne ∙ h.classes page
                    ∙ ap (λ (b : Bool). cond b None (class_on number old.segments page))
                    (sym (out_other idle n page ne))
              ];
          lists = λ page. elim (cases_eq page n)
              as (λ _. lists_on number new.segments page
              ≡ cond (is_out idle (n + 1) page) (freed (lists_on number old.segments page) [])
              (lists_on number old.segments page)) [
                | inl e ↦ ap (lists_on number new.segments) e ∙ r.lists
                    ∙ ap (λ (l : PageLists). freed l []) next_lists
                    ∙ ap (λ (m : ℕ). freed (lists_on number old.segments m) []) (sym e)
                    ∙ ap (λ (b : Bool). cond b (freed (lists_on number old.segments page) [])
                    (lists_on number old.segments page))
                    (sym (ap (is_out idle (n + 1)) e ∙ here))
                | inr ne ↦ r.others page ne ∙ h.lists page
                    ∙ ap (λ (b : Bool). cond b (freed (lists_on number old.segments page) [])
                    (lists_on number old.segments page)) (sym (out_other idle n page ne))
              ];
          queues = r.queues ∙ ap (map (without n)) h.queues
              ∙ filters_twice (λ page. not (is_out idle n page)) (λ page. not (page == n))
              (λ page. not (is_out idle (n + 1) page))
              (out_idle idle n (sym next_idle ∙ is)) old.queues;
          counted = (let c = next_count true (sym next_idle ∙ is) in omega (arith, c));
          few = (let f = h.few in omega (arith, f));
        }

  -- there are no pages of segments that there can't be
  pub idle_low : ((s : S) → number s < 64) → (segments : List (Kept S)) (page : ℕ) → 1024 ≤ page
      → is_idle number records segments page ≡ false
  idle_low small segments page far =
      ap (λ (o : Option (Kept S)). is_idle_by number records o (page % 16))
      (none_is (segment_in number segments (segment_of_page page))
      (held_beyond number small segments (segment_of_page page) (omega (arith, far))))

  module _ (small : (s : S) → number s < 64) (n count : ℕ) (old new : Held S)
      (h : AreCollected n count old new) (all : n ≡ 1024) where
    all_out : (page : ℕ) → is_out (is_idle number records old.segments) n page
        ≡ is_idle number records old.segments page
    all_out page =
        elim (cases_lt page n) as (λ _. is_out (is_idle number records old.segments) n page
        ≡ is_idle number records old.segments page) [
          | inl lt ↦ ap (λ (b : Bool). b && is_idle number records old.segments page)
              (lt-ltb page n lt)
          | inr ge ↦
              let no = idle_low small old.segments page (omega (arith, ge, all)) in
              and_right (nat_lt page n) (is_idle number records old.segments page) no ∙ sym no
        ]

    classes_after : (page : ℕ) → class_on number new.segments page
        ≡ cond (is_idle number records old.segments page) None
        (class_on number old.segments page)
    classes_after page = h.classes page
        ∙ ap (λ (b : Bool). cond b None (class_on number old.segments page)) (all_out page)

    pub collected : Collected number records old new
    collected = record { rest = h.rest; classes = classes_after }

    pub idle_out : IdleAreOut number records old new
    idle_out = record {
      lists = λ page. h.lists page
          ∙ ap (λ (b : Bool). cond b (freed (lists_on number old.segments page) [])
          (lists_on number old.segments page)) (all_out page);
      queues = h.queues
          ∙ filters_same (λ page. not (is_out (is_idle number records old.segments) n page))
          (λ page. not (is_idle number records old.segments page))
          (λ page. ap not (all_out page)) old.queues;
    }

    pub kinds_after : kinds number new.segments ≡ kinds number old.segments
    kinds_after =
        sym (map-map (kind_of number) bare new.segments)
        ∙ ap (map (kind_of number)) h.rest
        ∙ map-map (kind_of number) bare old.segments

    pub count_after : count ≡ idle_pages number records old.segments
    unfolding all_pages
    count_after = h.counted
        ∙ ap (λ (m : ℕ). count_by (is_idle number records old.segments) (range_with_len 0 m)) all
