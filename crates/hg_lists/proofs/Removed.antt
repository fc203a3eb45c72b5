-- What `remove` leaves.
use Rattle.std.proofs.Common.{◌≡◌, ◌≢◌, ℕ, zero, suc, ◌<◌, ◌≤◌, ◌-◌, true, false, nat_eq, List, [], length, map, slice_index, slice_index_or, slice_set, refl, sym, ap, ◌∙◌, arith, subst, inl, inr, ⊎_elim, get_or-set_other, get_or-set_same}
use Rattle.std.proofs.lemmas.List.{length-set, length-map, get_or-map, get_or_past, ext_get_or}
use Rattle.std.proofs.lemmas.Bool.{cases_eq, cases_lt}
use Rattle.std.specs.Prelude.{Contains}
use Rattle.hg_lists.specs.Chains.{IsDouble}
use Rattle.hg_lists.specs.Repeats.{Lacks, IsIn}
use Rattle.hg_lists.specs.Links.{Links, write_at, first_at}
use Rattle.hg_lists.specs.Lists.{Lists, list_of, AreApart, without}
use Rattle.hg_lists.proofs.RepeatsLemmas.{Each-in, in_or_lacks, in_contains, Each-weaker, nat_eq-same, nat_eq-other}
use Rattle.hg_lists.proofs.Doubled.{double_kept, AreSame, length-write_at, write_at-other, write_at-same}
use Rattle.hg_lists.proofs.Linked.{count_owner}
use Rattle.hg_lists.proofs.Pushed.{seen}
use Rattle.hg_lists.proofs.Without.{removed, next_in, prev_in, without-lacks, Each-without, Apart-without, In-without, length-without}

-- each entry of a list has the list's key
pub key_of : (keys entries : ℕ) (heads next prev owner : List ℕ) (lists : List (List ℕ)) (key x : ℕ) → Links keys entries heads next prev owner lists → key < keys → IsIn x (slice_index_or lists key []) → (x < entries) × (slice_index owner x ≡ suc key)
key_of keys entries heads next prev owner lists key x h lt i = Each-in (λ entry. (entry < entries) × (slice_index owner entry ≡ suc key)) x (slice_index_or lists key []) (h.owned key lt) i

-- a entry of one list is on no other
pub elsewhere : (keys entries : ℕ) (heads next prev owner : List ℕ) (lists : List (List ℕ)) (key other x : ℕ) → Links keys entries heads next prev owner lists → slice_index owner x ≡ suc key → other < keys → other ≢ key → Lacks x (slice_index_or lists other [])
elsewhere keys entries heads next prev owner lists key other x h is lt ne = in_or_lacks x (slice_index_or lists other []) (λ y i e. ne (omega (arith, is, rw e at is, (key_of keys entries heads next prev owner lists other y h lt i).1)))

-- what the links of a entry lead to has the entry's key
pub next_key : (keys entries : ℕ) (heads next prev owner : List ℕ) (lists : List (List ℕ)) (key entry z : ℕ) → Links keys entries heads next prev owner lists → key < keys → IsIn entry (slice_index_or lists key []) → slice_index next entry ≡ suc z → (z < entries) × (slice_index owner z ≡ suc key)
next_key keys entries heads next prev owner lists key entry z h lt i e = key_of keys entries heads next prev owner lists key z h lt (next_in (slice_index next) (slice_index prev) 0 (slice_index heads key) entry z (slice_index_or lists key []) (h.linked key lt) i e)

pub prev_key : (keys entries : ℕ) (heads next prev owner : List ℕ) (lists : List (List ℕ)) (key entry z : ℕ) → Links keys entries heads next prev owner lists → key < keys → IsIn entry (slice_index_or lists key []) → slice_index prev entry ≡ suc z → (z < entries) × (slice_index owner z ≡ suc key)
prev_key keys entries heads next prev owner lists key entry z h lt i e = ⊎_elim
    (λ s. absurd (omega (arith, s, e)))
    (λ k. let same : k.0 ≡ z = omega (arith, k.1, e) in key_of keys entries heads next prev owner lists key z h lt (subst (λ (y : ℕ). IsIn y (slice_index_or lists key [])) same k.2))
    (prev_in (slice_index next) (slice_index prev) 0 (slice_index heads key) entry (slice_index_or lists key []) (h.linked key lt) i)

length-first_at : (heads : List ℕ) (key before after : ℕ) → length (first_at heads key before after) ≡ length heads
length-first_at heads key zero after = length-set heads key after
length-first_at heads key (suc i) after = refl

first_at-now : (heads : List ℕ) (key before after : ℕ) → key < length heads → before ≡ 0 → slice_index (first_at heads key before after) key ≡ after
first_at-now heads key zero after l e = get_or-set_same heads key after 0 l
first_at-now heads key (suc i) after l e = absurd (omega (arith, e))

first_at-kept : (heads : List ℕ) (key before after : ℕ) → before ≢ 0 → slice_index (first_at heads key before after) key ≡ slice_index heads key
first_at-kept heads key zero after ne = absurd (ne refl)
first_at-kept heads key (suc i) after ne = refl

first_at-other : (heads : List ℕ) (key before after other : ℕ) → other ≢ key → slice_index (first_at heads key before after) other ≡ slice_index heads other
first_at-other heads key zero after other ne = get_or-set_other heads key other after 0 ne
first_at-other heads key (suc i) after other ne = refl

pub get_or-map_without : (lists : List (List ℕ)) (entry key : ℕ) → key < length lists → slice_index_or (map (without entry) lists) key [] ≡ without entry (slice_index_or lists key [])
get_or-map_without lists entry key l = get_or-map (without entry) lists key [] [] l

remove_linked : (keys entries : ℕ) (heads next prev owner : List ℕ) (lists : List (List ℕ)) (key entry other : ℕ) → Links keys entries heads next prev owner lists → entry < entries → key < keys → slice_index owner entry ≡ suc key → IsIn entry (slice_index_or lists key []) → other < keys
    → IsDouble (slice_index (write_at next (slice_index prev entry) (slice_index next entry))) (slice_index (write_at prev (slice_index next entry) (slice_index prev entry))) 0 (slice_index (first_at heads key (slice_index prev entry) (slice_index next entry)) other) (without entry (slice_index_or lists other []))
remove_linked keys entries heads next prev owner lists key entry other h below lt is there within =
    let before : ℕ = slice_index prev entry in
    let after : ℕ = slice_index next entry in
    let in_heads : key < length heads = omega (arith, h.all_heads, lt) in
    let N : (x : ℕ) → slice_index prev entry ≢ suc x → slice_index (write_at next (slice_index prev entry) (slice_index next entry)) x ≡ slice_index next x = λ x ne. write_at-other next (slice_index prev entry) (slice_index next entry) x ne in
    let P : (x : ℕ) → slice_index next entry ≢ suc x → slice_index (write_at prev (slice_index next entry) (slice_index prev entry)) x ≡ slice_index prev x = λ x ne. write_at-other prev (slice_index next entry) (slice_index prev entry) x ne in
    elim (cases_eq other key) [
      | inl e ↦ rw e (removed (slice_index next) (slice_index prev) (slice_index (write_at next (slice_index prev entry) (slice_index next entry))) (slice_index (write_at prev (slice_index next entry) (slice_index prev entry))) 0 (slice_index heads key) (slice_index (first_at heads key (slice_index prev entry) (slice_index next entry)) key) entry (slice_index_or lists key []) (h.apart key lt) there (λ z s. absurd (omega (arith, s)))
          N (λ x s. write_at-same next (slice_index prev entry) (slice_index next entry) x (omega (arith, h.all_next, (prev_key keys entries heads next prev owner lists key entry x h lt there s).0)) s)
          P (λ x s. write_at-same prev (slice_index next entry) (slice_index prev entry) x (omega (arith, h.all_prev, (next_key keys entries heads next prev owner lists key entry x h lt there s).0)) s)
          (λ s. first_at-now heads key (slice_index prev entry) (slice_index next entry) in_heads s)
          (λ s. first_at-kept heads key (slice_index prev entry) (slice_index next entry) s)
          (h.linked key lt))
      | inr ne ↦ rw (without-lacks entry (slice_index_or lists other []) (elsewhere keys entries heads next prev owner lists key other entry h is within ne), first_at-other heads key (slice_index prev entry) (slice_index next entry) other ne) (double_kept (slice_index next) (slice_index prev) (slice_index (write_at next (slice_index prev entry) (slice_index next entry))) (slice_index (write_at prev (slice_index next entry) (slice_index prev entry))) 0 (slice_index heads other) (slice_index_or lists other [])
          (Each-weaker (λ y. (y < entries) × (slice_index owner y ≡ suc other)) (AreSame (slice_index next) (slice_index prev) (slice_index (write_at next (slice_index prev entry) (slice_index next entry))) (slice_index (write_at prev (slice_index next entry) (slice_index prev entry)))) (slice_index_or lists other [])
          (λ y o. (N y (λ s. ne (let k = (prev_key keys entries heads next prev owner lists key entry y h lt there s).1 in omega (arith, k, o.1))), P y (λ s. ne (let k = (next_key keys entries heads next prev owner lists key entry y h lt there s).1 in omega (arith, k, o.1))))) (h.owned other within)) (h.linked other within))
    ]

pub removes : (keys entries : ℕ) (heads next prev owner : List ℕ) (lists : List (List ℕ)) (key entry : ℕ) → Links keys entries heads next prev owner lists → entry < entries → slice_index owner entry ≡ suc key
    → Links keys entries (first_at heads key (slice_index prev entry) (slice_index next entry)) (write_at next (slice_index prev entry) (slice_index next entry)) (write_at prev (slice_index next entry) (slice_index prev entry)) (slice_set owner entry 0) (map (without entry) lists)
removes keys entries heads next prev owner lists key entry h below is =
    let place = h.found entry key below is in
    let in_owner : entry < length owner = omega (arith, h.all_owners) in
    let Q : (other : ℕ) → other < keys → slice_index_or (map (without entry) lists) other [] ≡ without entry (slice_index_or lists other []) = λ other within. get_or-map_without lists entry other (omega (arith, h.all, within)) in record {
      few_keys = h.few_keys;
      few_entries = h.few_entries;
      all_heads = length-first_at heads key (slice_index prev entry) (slice_index next entry) ∙ h.all_heads;
      all_next = length-write_at next (slice_index prev entry) (slice_index next entry) ∙ h.all_next;
      all_prev = length-write_at prev (slice_index next entry) (slice_index prev entry) ∙ h.all_prev;
      all_owners = length-set owner entry 0 ∙ h.all_owners;
      all = length-map lists (without entry) ∙ h.all;
      linked = λ other within. rw (Q other within) (remove_linked keys entries heads next prev owner lists key entry other h below place.0 is place.1 within);
      apart = λ other within. rw (Q other within) (Apart-without entry (slice_index_or lists other []) (h.apart other within));
      owned = λ other within. rw (Q other within) (Each-weaker (λ y. (y ≢ entry) × ((y < entries) × (slice_index owner y ≡ suc other))) (λ y. (y < entries) × (slice_index (slice_set owner entry 0) y ≡ suc other)) (without entry (slice_index_or lists other [])) (λ y o. (o.1.0, get_or-set_other owner entry y 0 0 o.0 ∙ o.1.1)) (Each-without (λ y. (y < entries) × (slice_index owner y ≡ suc other)) entry (slice_index_or lists other []) (h.owned other within)));
      counted = λ other within. elim (cases_eq other key) [
        | inl e ↦
            let same_key : nat_eq (suc key) (suc key) ≡ true = nat_eq-same (suc key) in
            let none_key : nat_eq 0 (suc key) ≡ false = nat_eq-other 0 (suc key) (λ f. omega (arith, f)) in
            rw (e, Q key place.0) (omega (arith, rw (none_key, same_key) at (count_owner owner entry (suc key) 0 (suc key) in_owner is), h.counted key place.0, length-without entry (slice_index_or lists key []) (h.apart key place.0) place.1))
        | inr ne ↦
            let old_key : nat_eq (suc key) (suc other) ≡ false = nat_eq-other (suc key) (suc other) (λ f. ne (omega (arith, f))) in
            let none_key : nat_eq 0 (suc other) ≡ false = nat_eq-other 0 (suc other) (λ f. omega (arith, f)) in
            rw (Q other within, without-lacks entry (slice_index_or lists other []) (elsewhere keys entries heads next prev owner lists key other entry h is within ne)) (omega (arith, rw (none_key, old_key) at (count_owner owner entry (suc key) 0 (suc other) in_owner is), h.counted other within))
      ];
      found = λ x other within e. elim (cases_eq x entry) [
        | inl s ↦ absurd (let f : slice_index (slice_set owner entry 0) entry ≡ suc other = rw s at e in omega (arith, f, get_or-set_same owner entry 0 0 in_owner))
        | inr ne ↦ let there = h.found x other within (sym (get_or-set_other owner entry x 0 0 ne) ∙ e) in (there.0, rw (Q other there.0) (In-without x entry (slice_index_or lists other []) ne there.1))
      ];
    }

-- a entry in no list is on none that loses it
pub without_nowhere : (keys entries : ℕ) (heads next prev owner : List ℕ) (lists : List (List ℕ)) (entry : ℕ) → Links keys entries heads next prev owner lists → slice_index owner entry ≡ 0 → lists ≡ map (without entry) lists
without_nowhere keys entries heads next prev owner lists entry h free =
    ext_get_or [] lists (map (without entry) lists) (sym (length-map lists (without entry)))
    (λ key lt. sym (get_or-map_without lists entry key lt ∙ without-lacks entry (slice_index_or lists key []) (in_or_lacks entry (slice_index_or lists key []) (λ y i e. let k = (key_of keys entries heads next prev owner lists key y h (omega (arith, lt, h.all)) i).1 in omega (arith, k, rw e at free)))))

-- what the reads of a entry that is in a list give
pub record Reads (keys entries : ℕ) (next prev owner : List ℕ) (entry own before after : ℕ) : Type 0 where
  pub own_is : own ≡ slice_index owner entry
  pub before_is : before ≡ slice_index prev entry
  pub after_is : after ≡ slice_index next entry
  pub key_small : own - 1 < keys
  pub before_small : before ≤ entries
  pub after_small : after ≤ entries

link_small : (entries link : ℕ) → ((z : ℕ) → link ≡ suc z → z < entries) → link ≤ entries
link_small entries zero f = omega arith
link_small entries (suc z) f = omega (arith, f z refl)

pub reads : (keys entries : ℕ) (heads next prev owner : List ℕ) (lists : List (List ℕ)) (entry own before after : ℕ) → Links keys entries heads next prev owner lists → entry < entries → own ≢ 0 → own ≡ slice_index owner entry → before ≡ slice_index prev entry → after ≡ slice_index next entry → Reads keys entries next prev owner entry own before after
reads keys entries heads next prev owner lists entry own before after h lt ne o b a =
    let key : slice_index owner entry ≡ suc (own - 1) = omega arith in
    let place = h.found entry (own - 1) lt key in record {
      own_is = o;
      before_is = b;
      after_is = a;
      key_small = place.0;
      before_small = link_small entries before (λ z s. (prev_key keys entries heads next prev owner lists (own - 1) entry z h place.0 place.1 (sym b ∙ s)).0);
      after_small = link_small entries after (λ z s. (next_key keys entries heads next prev owner lists (own - 1) entry z h place.0 place.1 (sym a ∙ s)).0);
    }

pub removed-all : (keys entries : ℕ) (heads next prev owner firsts ons backs : List ℕ) (lists : List (List ℕ)) (entry own before after : ℕ) → Links keys entries heads next prev owner lists → entry < entries → own ≢ 0 → own ≡ slice_index owner entry → before ≡ slice_index prev entry → after ≡ slice_index next entry
    → firsts ≡ first_at heads (own - 1) before after → ons ≡ write_at next before after → backs ≡ write_at prev after before
    → Links keys entries firsts ons backs (slice_set owner entry 0) (map (without entry) lists)
removed-all keys entries heads next prev owner firsts ons backs lists entry own before after k lt ne o b a f n p =
    let r = reads keys entries heads next prev owner lists entry own before after k lt ne o b a in
    let key : slice_index owner entry ≡ suc (own - 1) = omega (arith, r.own_is) in
    rw (f, n, p, r.before_is, r.after_is) (removes keys entries heads next prev owner lists (own - 1) entry k lt key)

-- a key that has an entry is one of the keys
pub key_below : (lists : List (List ℕ)) (key entry : ℕ) → Contains (slice_index_or lists key []) entry → key < length lists
key_below lists key entry c = elim (cases_lt key (length lists)) [
  | inl lt ↦ lt
  | inr ge ↦ absurd (let none : slice_index_or lists key [] ≡ [] = get_or_past lists key [] ge in
      let n : length (slice_index_or lists key []) ≡ 0 = ap length none in omega (arith, c.1, n))
]

-- linked lists are apart
pub apart_kept : (heads next prev owner : List ℕ) (m : Lists) → Links (length m.by_key) m.entries heads next prev owner m.by_key → AreApart m
apart_kept heads next prev owner m h =
    let own : (key entry : ℕ) → Contains (list_of m key) entry → (entry < m.entries) × (slice_index owner entry ≡ suc key) =
    λ key entry c. key_of (length m.by_key) m.entries heads next prev owner m.by_key key entry h (key_below m.by_key key entry c) (in_contains entry (list_of m key) c) in record {
      below = λ key entry c. (own key entry c).0;
      once = λ key. elim (cases_lt key (length m.by_key)) [
        | inl lt ↦ h.apart key lt
        | inr ge ↦ (let none : list_of m key ≡ [] = get_or_past m.by_key key [] ge in rw none tt)
      ];
      alone = λ entry key other c d. omega (arith, (own key entry c).1, (own other entry d).1);
    }

pub seen_apart : (heads next prev owner : List ℕ) → Links (length heads) (length owner) heads next prev owner (seen heads next owner).by_key → AreApart (seen heads next owner)
seen_apart heads next prev owner h = apart_kept heads next prev owner (seen heads next owner) (subst (λ (n : ℕ). Links n (length owner) heads next prev owner (seen heads next owner).by_key) (sym h.all) h)
