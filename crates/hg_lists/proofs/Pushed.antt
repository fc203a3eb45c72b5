-- What `push_front` leaves.
use Rattle.std.proofs.Common.{◌≡◌, ◌≢◌, ℕ, suc, ◌+◌, ◌<◌, ◌≤◌, ◌-◌, true, false, cond, nat_eq, Some, None, slice_get, List, [], ◌∷◌, length, map, slice_index, slice_index_or, slice_set, refl, sym, ap, ◌∙◌, arith, inl, inr, get_or-set_other, get_or-set_same}
use Rattle.std.proofs.lemmas.List.{length-set, get_or_read}
use Rattle.std.proofs.lemmas.Bool.{cases_eq}
use Rattle.hg_lists.specs.Chains.{chain, IsDouble}
use Rattle.hg_lists.specs.Links.{Links, write_at}
use Rattle.hg_lists.specs.Lists.{list_of, Lists, IsNowhere}
use Rattle.hg_lists.proofs.RepeatsLemmas.{Each-both, Lacks-each, Lacks-not, lacks_contains, nat_eq-other}
use Rattle.hg_lists.proofs.Doubled.{double_kept, double_fronted, AreSame, head_each, length-write_at, write_at-other, write_at-same, zero_or_suc}
use Rattle.hg_lists.proofs.Linked.{count_owner, settled, lists-are, IsAway}

-- the value that links are seen as
abbrev pub seen : List ℕ → List ℕ → List ℕ → Lists
seen heads next owner = record { by_key = map (chain (length owner) (slice_index next)) heads; entries = length owner }

pub unowned : (keys entries : ℕ) (heads next prev owner : List ℕ) (lists : List (List ℕ)) (entry : ℕ) → Links keys entries heads next prev owner lists → entry < entries → IsAway keys lists entry → slice_index owner entry ≡ 0
unowned keys entries heads next prev owner lists entry h lt away = elim (zero_or_suc (slice_index owner entry)) [
  | inl e ↦ e
  | inr j ↦ let there = h.found entry j.0 lt j.1 in absurd (Lacks-not entry (slice_index_or lists j.0 []) (away j.0 there.0) there.1)
]

-- what the link of a key leads to
pub head_owner : (keys entries : ℕ) (heads next prev owner : List ℕ) (lists : List (List ℕ)) (key x : ℕ) → Links keys entries heads next prev owner lists → key < keys → slice_index heads key ≡ suc x → (x < entries) × (slice_index owner x ≡ suc key)
head_owner keys entries heads next prev owner lists key x h lt e = head_each (λ entry. (entry < entries) × (slice_index owner entry ≡ suc key)) (slice_index next) (slice_index prev) 0 (slice_index heads key) x (slice_index_or lists key []) (h.linked key lt) e (h.owned key lt)

push_linked : (keys entries : ℕ) (heads next prev owner : List ℕ) (lists : List (List ℕ)) (key entry head other : ℕ) → Links keys entries heads next prev owner lists → key < keys → entry < entries → IsAway keys lists entry → head ≡ slice_index heads key → other < keys
    → IsDouble (slice_index (slice_set next entry head)) (slice_index (write_at (slice_set prev entry 0) head (entry + 1))) 0 (slice_index (slice_set heads key (entry + 1)) other) (slice_index_or (slice_set lists key (entry ∷ slice_index_or lists key [])) other [])
push_linked keys entries heads next prev owner lists key entry head other h lt below away is within =
    let in_heads : key < length heads = omega (arith, h.all_heads) in
    let in_lists : key < length lists = omega (arith, h.all) in
    let in_next : entry < length next = omega (arith, h.all_next) in
    let in_prev : entry < length prev = omega (arith, h.all_prev) in
    let N : (x : ℕ) → x ≢ entry → slice_index (slice_set next entry head) x ≡ slice_index next x = λ x ne. get_or-set_other next entry x head 0 ne in
    let P : (x : ℕ) → head ≢ suc x → x ≢ entry → slice_index (write_at (slice_set prev entry 0) head (entry + 1)) x ≡ slice_index prev x = λ x nh ne. write_at-other (slice_set prev entry 0) head (entry + 1) x nh ∙ get_or-set_other prev entry x 0 0 ne in
    elim (cases_eq other key) [
      | inl e ↦ rw (e, get_or-set_same heads key (entry + 1) 0 in_heads, get_or-set_same lists key (entry ∷ slice_index_or lists key []) [] in_lists) (
        omega arith,
        write_at-other (slice_set prev entry 0) head (entry + 1) entry (λ f. head_each (λ y. entry ≢ y) (slice_index next) (slice_index prev) 0 (slice_index heads key) entry (slice_index_or lists key []) (h.linked key lt) (sym is ∙ f) (Lacks-each entry (slice_index_or lists key []) (away key lt)) refl) ∙ get_or-set_same prev entry 0 0 in_prev,
        rw (get_or-set_same next entry head 0 in_next) (double_fronted (slice_index next) (slice_index prev) (slice_index (slice_set next entry head)) (slice_index (write_at (slice_set prev entry 0) head (entry + 1))) head entry (slice_index_or lists key []) (away key lt) (h.apart key lt) N P
            (λ x f. write_at-same (slice_set prev entry 0) head (entry + 1) x (omega (arith, length-set prev entry 0, h.all_prev, (head_owner keys entries heads next prev owner lists key x h lt (sym is ∙ f)).0)) f ∙ (let g : entry + 1 ≡ suc entry = omega arith in g))
            (rw is (h.linked key lt))),
      )
      | inr ne ↦ rw (get_or-set_other heads key other (entry + 1) 0 ne, get_or-set_other lists key other (entry ∷ slice_index_or lists key []) [] ne) (double_kept (slice_index next) (slice_index prev) (slice_index (slice_set next entry head)) (slice_index (write_at (slice_set prev entry 0) head (entry + 1))) 0 (slice_index heads other) (slice_index_or lists other [])
          (Each-both (λ y. entry ≢ y) (λ y. (y < entries) × (slice_index owner y ≡ suc other)) (AreSame (slice_index next) (slice_index prev) (slice_index (slice_set next entry head)) (slice_index (write_at (slice_set prev entry 0) head (entry + 1)))) (slice_index_or lists other [])
          (λ y a o. (N y (λ e. a (sym e)), P y (λ f. ne (let g = (head_owner keys entries heads next prev owner lists key y h lt (sym is ∙ f)).1 in omega (arith, g, o.1))) (λ e. a (sym e)))) (Lacks-each entry (slice_index_or lists other []) (away other within)) (h.owned other within)) (h.linked other within))
    ]

pub pushes : (keys entries : ℕ) (heads next prev owner : List ℕ) (lists : List (List ℕ)) (key entry head : ℕ) → Links keys entries heads next prev owner lists → key < keys → entry < entries → IsAway keys lists entry → head ≡ slice_index heads key
    → Links keys entries (slice_set heads key (entry + 1)) (slice_set next entry head) (write_at (slice_set prev entry 0) head (entry + 1)) (slice_set owner entry (key + 1)) (slice_set lists key (entry ∷ slice_index_or lists key []))
pushes keys entries heads next prev owner lists key entry head h lt below away is =
    let in_lists : key < length lists = omega (arith, h.all) in
    let in_owner : entry < length owner = omega (arith, h.all_owners) in
    let free : slice_index owner entry ≡ 0 = unowned keys entries heads next prev owner lists entry h below away in
    let same = get_or-set_same lists key (entry ∷ slice_index_or lists key []) [] in_lists in
    let Q : (other : ℕ) → other ≢ key → slice_index_or (slice_set lists key (entry ∷ slice_index_or lists key [])) other [] ≡ slice_index_or lists other [] = λ other ne. get_or-set_other lists key other (entry ∷ slice_index_or lists key []) [] ne in
    let O : (other x : ℕ) → entry ≢ x → slice_index owner x ≡ suc other → slice_index (slice_set owner entry (key + 1)) x ≡ suc other = λ other x ne e. get_or-set_other owner entry x (key + 1) 0 (λ f. ne (sym f)) ∙ e in record {
      few_keys = h.few_keys;
      few_entries = h.few_entries;
      all_heads = length-set heads key (entry + 1) ∙ h.all_heads;
      all_next = length-set next entry head ∙ h.all_next;
      all_prev = length-write_at (slice_set prev entry 0) head (entry + 1) ∙ length-set prev entry 0 ∙ h.all_prev;
      all_owners = length-set owner entry (key + 1) ∙ h.all_owners;
      all = length-set lists key (entry ∷ slice_index_or lists key []) ∙ h.all;
      linked = λ other within. push_linked keys entries heads next prev owner lists key entry head other h lt below away is within;
      apart = λ other within. elim (cases_eq other key) [
        | inl e ↦ rw (e, same) (away key lt, h.apart key lt)
        | inr ne ↦ rw (Q other ne) (h.apart other within)
      ];
      owned = λ other within. elim (cases_eq other key) [
        | inl e ↦ rw (e, same) ((below, get_or-set_same owner entry (key + 1) 0 in_owner ∙ (let g : key + 1 ≡ suc key = omega arith in g)), Each-both (λ y. entry ≢ y) (λ y. (y < entries) × (slice_index owner y ≡ suc key)) (λ y. (y < entries) × (slice_index (slice_set owner entry (key + 1)) y ≡ suc key)) (slice_index_or lists key []) (λ y a o. (o.0, O key y a o.1)) (Lacks-each entry (slice_index_or lists key []) (away key lt)) (h.owned key lt))
        | inr ne ↦ rw (Q other ne) (Each-both (λ y. entry ≢ y) (λ y. (y < entries) × (slice_index owner y ≡ suc other)) (λ y. (y < entries) × (slice_index (slice_set owner entry (key + 1)) y ≡ suc other)) (slice_index_or lists other []) (λ y a o. (o.0, O other y a o.1)) (Lacks-each entry (slice_index_or lists other []) (away other within)) (h.owned other within))
      ];
      counted = λ other within.
          let k = count_owner owner entry 0 (key + 1) (suc other) in_owner free in
          let zero_no : nat_eq 0 (suc other) ≡ false = nat_eq-other 0 (suc other) (λ e. omega (arith, e)) in
          elim (cases_eq other key) [
            | inl e ↦
                let same_key : nat_eq (key + 1) (suc key) ≡ true = grind arith in
                let none_key : nat_eq 0 (suc key) ≡ false = nat_eq-other 0 (suc key) (λ f. omega (arith, f)) in
                rw (e, same) (omega (arith, rw (none_key, same_key) at (count_owner owner entry 0 (key + 1) (suc key) in_owner free), h.counted key lt))
            | inr ne ↦ let away : nat_eq (key + 1) (suc other) ≡ false = nat_eq-other (key + 1) (suc other) (λ f. ne (omega (arith, f))) in rw (Q other ne) (omega (arith, rw (zero_no, away) at k, h.counted other within))
          ];
      found = λ x other within e. elim (cases_eq x entry) [
        | inl s ↦ let k : key ≡ other = (let f : slice_index (slice_set owner entry (key + 1)) entry ≡ suc other = rw s at e in omega (arith, f, get_or-set_same owner entry (key + 1) 0 in_owner)) in rw (← k) (lt, rw (same) (inl s))
        | inr ne ↦ let there = h.found x other within (sym (get_or-set_other owner entry x (key + 1) 0 ne) ∙ e) in (
          there.0,
          elim (cases_eq other key) [
            | inl s ↦ rw (s, same) (inr (rw s at there.1))
            | inr nk ↦ rw (Q other nk) there.1
          ],
        )
      ];
    }

pub head_small : (keys entries : ℕ) (heads next prev owner : List ℕ) (lists : List (List ℕ)) (key : ℕ) → Links keys entries heads next prev owner lists → key < keys → slice_index heads key ≤ entries
head_small keys entries heads next prev owner lists key h lt = elim (zero_or_suc (slice_index heads key)) [
  | inl e ↦ omega (arith, e)
  | inr j ↦ omega (arith, j.1, (head_owner keys entries heads next prev owner lists key j.0 h lt j.1).0)
]

-- new links, as what is kept and seen of them
pub settled_links : (keys entries : ℕ) (heads next prev owner : List ℕ) (lists : List (List ℕ)) → Links keys entries heads next prev owner lists → Links (length heads) (length owner) heads next prev owner (map (chain (length owner) (slice_index next)) heads)
settled_links keys entries heads next prev owner lists h = rw (h.all_heads, h.all_owners) (settled keys entries heads next prev owner lists h)

pub settled_value : (keys entries : ℕ) (heads next prev owner : List ℕ) (lists : List (List ℕ)) → Links keys entries heads next prev owner lists → seen heads next owner ≡ record { by_key = lists; entries = entries }
settled_value keys entries heads next prev owner lists h = rw h.all_owners (ap (λ (ls : List (List ℕ)). let m : Lists = record { by_key = ls; entries = entries } in m) (lists-are keys entries heads next prev owner lists h))

-- an entry that stands nowhere is away from each list
pub away : (m : Lists) (entry : ℕ) → IsNowhere m entry → IsAway (length m.by_key) m.by_key entry
away m entry nowhere key lt = lacks_contains entry (list_of m key) (nowhere key)

pub pushed-all : (keys entries : ℕ) (heads next prev owner back : List ℕ) (lists : List (List ℕ)) (key entry head : ℕ) → Links keys entries heads next prev owner lists → key < keys → entry < entries → IsAway keys lists entry → head ≡ slice_index_or heads key head → back ≡ write_at (slice_set prev entry 0) head (entry + 1)
    → Links keys entries (slice_set heads key (entry + 1)) (slice_set next entry head) back (slice_set owner entry (key + 1)) (slice_set lists key (entry ∷ slice_index_or lists key []))
pushed-all keys entries heads next prev owner back lists key entry head k lt below away read wrote =
    let in_heads : key < length heads = omega (arith, k.all_heads) in
    rw wrote (pushes keys entries heads next prev owner lists key entry head k lt below away (get_or_read heads key head in_heads read 0))

pub first_of : (next prev : ℕ → ℕ) (before link : ℕ) (xs : List ℕ) → IsDouble next prev before link xs → cond (nat_eq link 0) None (Some (link - 1)) ≡ slice_get xs 0
first_of next prev before link [] h = rw h refl
first_of next prev before link (x ∷ xs) h = let e : suc x - 1 ≡ x = omega arith in rw (h.0, nat_eq-other (suc x) 0 (λ f. omega (arith, f)), e) refl
