-- A Take, in the state of a core.
use Rattle.std.proofs.Common.{zero, suc, ◌≡◌, ℕ, ◌+◌, ◌*◌, ◌%◌, ◌==◌, ◌<◌, ◌≤◌, inl, inr, Bool}
use Rattle.std.proofs.Common.{true, false, ◌&&◌, ◌||◌, if◌then◌else◌, ◌∷◌, [], ◌++◌, List, map}
use Rattle.std.proofs.Common.{length, Some, refl, sym, ap, subst, ◌∙◌, arith, slice_index_or}
use Rattle.std.specs.List.{concat, range_with_len, list_any}
use Rattle.std.proofs.lemmas.Bool.{cases_eq, cases_Bool, eq-eqb, ne_eqb}
use Rattle.std.proofs.lemmas.List.{map-append}
use Rattle.std.proofs.lemmas.List.FromFn.{length-map-range_with_len, get_or-map-range_with_len}
use Rattle.hg_place.specs.Places.{segment_of, segment_of_page}
use Rattle.hg_place.specs.Words.{bit_of}
use Rattle.hg_machine.specs.State.{record_at, class_at, places_in}
use Rattle.hg_machine.specs.Sweeps.{is_sent, is_sent_to, settled}
use Rattle.hg_machine.proofs.Listed.{bit_true}
use Rattle.hg_machine.specs.Lists.{list_at, sent_in, times, IsPartition}
use Rattle.hg_agreement.specs.Holdings.{class_of}
use Rattle.hg_agreement.specs.Parts.{Plain, Parts, plain_of, remote_at, places_from, record_by}
use Rattle.hg_agreement.specs.Parts.{class_by, record_of, page_class, state_of, lists_of, kept_of}
use Rattle.hg_agreement.specs.Parts.{IsSorted}
use Rattle.hg_agreement.specs.PlainPut.{with_plain, record_now, class_now}
use Rattle.hg_agreement.specs.TakenIn.{remote_places, is_listed, taken_in, IsTakenIn}
use Rattle.hg_agreement.specs.TakenIn.{TakenInIsSettled}
use Rattle.hg_agreement.proofs.Told.{record_is, class_is}
use Rattle.hg_agreement.proofs.Lookups.{maps_below}
use Rattle.hg_agreement.proofs.Swapped.{swap_is_map, swap_before, swap_below}
use Rattle.hg_agreement.proofs.Firsts.{some_counted, none_counted}

places_apart : (base : ℕ) (xss : List (List ℕ)) → concat (map (places_from base) xss) ≡ places_from
    base (concat xss)
places_apart base [] = refl
places_apart base (xs ∷ xss) =
    ap (λ l. places_from base xs ++ l) (places_apart base xss)
    ∙ sym (map-append (λ k. base + k) xs (concat xss))

maps_moved : (f g : ℕ → List ℕ) (h : List ℕ → List ℕ) (a b c n : ℕ) → c ≡ a + b
    → ((k : ℕ) → b ≤ k → k < b + n → f (a + k) ≡ h (g k)) → map f (range_with_len c n) ≡ map h
    (map g (range_with_len b n))
maps_moved f g h a b c zero is e = refl
maps_moved f g h a b c (suc n) is e =
    ap (λ y. y ∷ map f (range_with_len (c + 1) n)) (ap f is ∙ e b (omega arith) (omega arith))
    ∙ ap (λ l. h (g b) ∷ l) (maps_moved f g h a (b + 1) (c + 1) n (omega arith)
    (λ k low high. e k (omega arith) (omega arith)))

-- what the segment's lists have is what its remote list has
pub sent_are : (parts : Parts) (segment : ℕ) → segment < length parts.policy.segments
    → sent_in (lists_of parts) segment ≡ places_from (segment * 8192)
    (remote_places (remote_at parts segment))
sent_are parts segment below =
    let segments = length parts.policy.segments in
    let l = lists_of parts in
    let remote = remote_at parts segment in
    let base = segment * 8192 in
    let late : ℕ → List ℕ = λ k. places_from (k * 8192) (remote_at parts k).delayed in
    let freed : ℕ → List ℕ =
    λ page. places_from (segment_of_page page * 8192)
    (slice_index_or (remote_at parts (segment_of_page page)).thread_free (page % 16) []) in
    let own : ℕ → List ℕ = λ page. slice_index_or remote.thread_free page [] in
    let at_page : (k : ℕ) → 0 ≤ k → k < 0 + 16 → list_at l.thread_free (segment * 16 + k)
    ≡ places_from base (own k) = λ k low high.
    (let page = segment * 16 + k in
    let s : segment_of_page page ≡ segment = omega arith in
    let m : page % 16 ≡ k = omega arith in
    get_or-map-range_with_len freed 0 (segments * 16) page page [] (omega arith) (omega arith)
    ∙ ap (λ x. places_from (x * 8192) (slice_index_or (remote_at parts x).thread_free (page % 16)
    [])) s
    ∙ ap (λ x. places_from base (slice_index_or remote.thread_free x [])) m) in
    ap (λ x. x ++ concat (map (list_at l.thread_free) (range_with_len (segment * 16) 16)))
    (get_or-map-range_with_len late 0 segments segment segment [] below (omega arith))
    ∙ ap (λ x. places_from base remote.delayed ++ concat x)
    (maps_moved (list_at l.thread_free) own (places_from base) (segment * 16) 0 (segment * 16) 16
    (omega arith) at_page)
    ∙ ap (λ x. places_from base remote.delayed ++ x)
    (places_apart base (map own (range_with_len 0 16)))
    ∙ sym (map-append (λ k. base + k) remote.delayed (concat (map own (range_with_len 0 16))))

any_moved : (base at : ℕ) (xs : List ℕ) → list_any (λ k. k == base + at) (places_from base xs)
    ≡ list_any (λ k. k == at) xs
any_moved base at [] = refl
any_moved base at (x ∷ xs) =
    elim (cases_eq x at) [
      | inl e ↦
          ap (λ b. b || list_any (λ k. k == base + at) (places_from base xs))
          (eq-eqb (base + x) (base + at) (omega arith))
          ∙ sym (ap (λ b. b || list_any (λ k. k == at) xs) (eq-eqb x at e))
      | inr ne ↦
          ap (λ b. b || list_any (λ k. k == base + at) (places_from base xs))
          (ne_eqb (base + x) (base + at) (λ e. ne (omega arith)))
          ∙ any_moved base at xs
          ∙ sym (ap (λ b. b || list_any (λ k. k == at) xs) (ne_eqb x at ne))
    ]

bit_zero : (b : Bool) → bit_of b ≡ 0 → b ≡ false
bit_zero true e = absurd (omega arith)
bit_zero false e = refl

-- a place is on the remote list exactly where it is sent
pub listed_is_sent : (parts : Parts) (segment at : ℕ) → segment < length parts.policy.segments
    → IsPartition (kept_of parts)
    → is_listed (remote_at parts segment) at ≡ is_sent_to (state_of parts) segment
    (segment * 8192 + at)
listed_is_sent parts segment at below partition =
    let place = segment * 8192 + at in
    let xs = places_from (segment * 8192) (remote_places (remote_at parts segment)) in
    let sent = is_sent_to (state_of parts) segment place in
    let count : times place xs ≡ bit_of sent = sym (ap (times place) (sent_are parts segment below))
    ∙ (partition place).sent segment in
    sym (any_moved (segment * 8192) at (remote_places (remote_at parts segment)))
    ∙ elim (cases_Bool (list_any (λ k. k == place) xs)) [
      | inl t ↦ t ∙ sym
          (bit_true sent (subst (λ k. 1 ≤ k) count (some_counted (λ k. k == place) xs t)))
      | inr f ↦ f ∙ sym (bit_zero sent (sym count ∙ none_counted (λ k. k == place) xs f))
    ]

module _ (parts : Parts) (w found : ℕ) (one now : Plain) (sorted : IsSorted parts)
    (partition : IsPartition (kept_of parts)) (taken : IsTakenIn parts w found one now)
    (below : one.holding.number < length parts.policy.segments) where
  -- what the state tells of the segment before
  before : plain_of parts one.holding.number ≡ Some one
  before = swap_before parts w found one now sorted taken.swap

  record_settled : (q : ℕ) → q < length parts.policy.segments * 8192
      → record_now parts now q ≡ settled (state_of parts) one.holding.number q
  record_settled q h =
      elim (cases_eq (segment_of q) one.holding.number) [
        | inl e ↦
            let s = state_of parts in
            let split : one.holding.number * 8192 + q % 8192 ≡ q = omega arith in
            ap (λ b. if b then record_by (Some now) (q % 8192) else record_at s q)
            (eq-eqb (segment_of q) now.holding.number (e ∙ sym taken.swap.number))
            ∙ taken.records (q % 8192) (omega arith)
            ∙ ap (λ b. taken_in b (record_by (Some one) (q % 8192)))
            (listed_is_sent parts one.holding.number (q % 8192) below partition)
            ∙ ap (λ p. taken_in (is_sent_to s one.holding.number p)
            (record_by (Some one) (q % 8192)))
            split
            ∙ ap (λ o. taken_in (is_sent_to s one.holding.number q) (record_by o (q % 8192)))
            (sym (ap (plain_of parts) e ∙ before))
            ∙ ap (taken_in (is_sent_to s one.holding.number q)) (sym (record_is parts q h))
        | inr away ↦
            ap (λ b. if b then record_by (Some now) (q % 8192) else record_at (state_of parts) q)
            (ne_eqb (segment_of q) now.holding.number (λ e. away (e ∙ taken.swap.number)))
            ∙ sym (ap (λ b. taken_in (b && is_sent (state_of parts) q)
            (record_at (state_of parts) q))
            (ne_eqb (segment_of q) one.holding.number away))
      ]

  class_same : (q : ℕ) → q < length parts.policy.segments * 16
      → class_now parts now q ≡ page_class parts q
  class_same q h =
      elim (cases_eq (segment_of_page q) one.holding.number) [
        | inl e ↦
            ap (λ b. if b then class_of now.holding (q % 16) else class_at (state_of parts) q)
            (eq-eqb (segment_of_page q) now.holding.number (e ∙ sym taken.swap.number))
            ∙ taken.classes (q % 16) (omega arith)
            ∙ sym (ap (λ o. class_by o (q % 16)) (ap (plain_of parts) e ∙ before))
        | inr away ↦
            ap (λ b. if b then class_of now.holding (q % 16) else class_at (state_of parts) q)
            (ne_eqb (segment_of_page q) now.holding.number (λ e. away (e ∙ taken.swap.number)))
            ∙ class_is parts q h
      ]

  pub settles : state_of (with_plain parts w found now) ≡ record (state_of parts)
      { records = map (settled (state_of parts) one.holding.number) (places_in (state_of parts)) }
  settles =
      let s = state_of parts in
      let segments = length parts.policy.segments in
      let places : length s.records ≡ segments * 8192 =
      length-map-range_with_len (record_of parts) 0 (segments * 8192) in
      let pages : length s.classes ≡ segments * 16 =
      length-map-range_with_len (page_class parts) 0 (segments * 16) in
      let swapped = swap_is_map parts w found one now sorted taken.swap in
      let r = maps_below (record_now parts now) (settled s one.holding.number) 0 (length s.records)
      (λ k low high. record_settled k (omega arith)) in
      let c = maps_below (class_now parts now) (page_class parts) 0 (length s.classes)
      (λ k low high. class_same k (omega arith))
      ∙ ap (λ l. map (page_class parts) (range_with_len 0 l)) pages in
      cc

pub taken_in_is_settled : TakenInIsSettled
taken_in_is_settled parts worker found one now remotes sorted partition taken =
    settles parts worker found one now sorted partition taken
    (swap_below parts worker found one now sorted taken.swap)
