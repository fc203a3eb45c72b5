-- The links of all lists.
use Rattle.std.proofs.Common.{slice_index_or, ◌≡◌, ℕ, suc, ◌+◌, ◌<◌, cond, nat_eq, List, [], length, map, slice_index, slice_set, count_by, sym, ◌∙◌, arith, subst}
use Rattle.std.proofs.lemmas.List.{length-map, ext_get_or, get_or-map}
use Rattle.std.proofs.lemmas.List.Sums.{count_by-le-length, sum_by-set}
use Rattle.std.specs.Box.{boxed_slice_items}
use Rattle.hg_lists.specs.Chains.{chain}
use Rattle.hg_lists.specs.Repeats.{Lacks}
use Rattle.hg_lists.specs.Links.{lists_of, Links, AreLinked}
use Rattle.hg_lists.specs.Lists.{Lists}
use Rattle.hg_lists.specs.declared.index_lists.IndexLists.TheInside.{Inside}
use Rattle.hg_lists.proofs.Doubled.{chain-is}

pub list-is : (keys entries : ℕ) (heads next prev owner : List ℕ) (lists : List (List ℕ)) (key : ℕ) → Links keys entries heads next prev owner lists → key < keys → chain entries (slice_index next) (slice_index heads key) ≡ slice_index_or lists key []
list-is keys entries heads next prev owner lists key h lt = chain-is entries (slice_index next) (slice_index prev) 0 (slice_index heads key) (slice_index_or lists key []) (h.linked key lt) (omega (arith, h.counted key lt, count_by-le-length (λ o. nat_eq o (suc key)) owner, h.all_owners))

-- the lists that the links show are these
pub lists-are : (keys entries : ℕ) (heads next prev owner : List ℕ) (lists : List (List ℕ)) → Links keys entries heads next prev owner lists → map (chain entries (slice_index next)) heads ≡ lists
lists-are keys entries heads next prev owner lists h =
    ext_get_or [] (map (chain entries (slice_index next)) heads) lists (length-map heads (chain entries (slice_index next)) ∙ h.all_heads ∙ sym h.all)
    (λ key lt. let below : key < length heads = omega (arith, lt, length-map heads (chain entries (slice_index next))) in
    get_or-map (chain entries (slice_index next)) heads key 0 [] below ∙ list-is keys entries heads next prev owner lists key h (omega (arith, below, h.all_heads)))

pub settled : (keys entries : ℕ) (heads next prev owner : List ℕ) (lists : List (List ℕ)) → Links keys entries heads next prev owner lists → Links keys entries heads next prev owner (map (chain entries (slice_index next)) heads)
settled keys entries heads next prev owner lists h = subst (Links keys entries heads next prev owner) (sym (lists-are keys entries heads next prev owner lists h)) h

-- how many entries a key has, once a entry gets one
pub count_owner : (owner : List ℕ) (entry old new key : ℕ) → entry < length owner → slice_index owner entry ≡ old → count_by (λ o. nat_eq o key) (slice_set owner entry new) + cond (nat_eq old key) 1 0 ≡ count_by (λ o. nat_eq o key) owner + cond (nat_eq new key) 1 0
count_owner owner entry old new key l e = rw e at (sum_by-set (λ o. cond (nat_eq o key) 1 0) owner entry new 0 l)

-- the entry stands in no list
abbrev pub IsAway : ℕ → List (List ℕ) → ℕ → Type 0
IsAway keys lists entry = (key : ℕ) → key < keys → Lacks entry (slice_index_or lists key [])

-- the links of lists that are seen as a value
abbrev pub IsKept : Inside → Lists → Type 0
IsKept a m = Links (length m.by_key) m.entries (boxed_slice_items a.heads) a.next a.prev a.owner m.by_key

pub kept : (a : Inside) (m : Lists) → AreLinked a → lists_of a ≡ m → IsKept a m
kept a m h e = subst (IsKept a) e (subst (λ (n : ℕ). Links n (length a.owner) (boxed_slice_items a.heads) a.next a.prev a.owner (lists_of a).by_key) (sym h.all) h)
