-- What follows a entry, and lists that are all empty.
use Rattle.std.proofs.Common.{slice_index_or, ◌≡◌, ◌≢◌, ℕ, zero, suc, ◌+◌, ◌<◌, ◌-◌, ◌^◌, Bool, false, cond, not, IsTrue, nat_eq, Some, None, List, [], ◌∷◌, length, map, slice_index, count_by, refl, sym, ap, ◌∙◌, arith, inl, inr, ⊎_elim}
use Rattle.std.proofs.lemmas.Bool.{cases_eq, cases_lt}
use Rattle.std.proofs.lemmas.List.{length-map, get_or-map, get_or_past}
use Rattle.std.proofs.lemmas.List.Sums.{sum_by-cons}
use Rattle.hg_lists.specs.Chains.{chain, IsDouble}
use Rattle.hg_lists.specs.Repeats.{IsIn}
use Rattle.hg_lists.specs.Links.{Links}
use Rattle.hg_lists.specs.Lists.{follower}
use Rattle.hg_lists.proofs.RepeatsLemmas.{nat_eq-same, nat_eq-other}
use Rattle.hg_lists.proofs.Pushed.{first_of}

pub follower_is : (next prev : ℕ → ℕ) (before link entry : ℕ) (xs : List ℕ) → IsDouble next prev before link xs → IsIn entry xs → cond (nat_eq (next entry) 0) None (Some (next entry - 1)) ≡ follower entry xs
follower_is next prev before link entry [] h i = absurd i
follower_is next prev before link entry (x ∷ xs) h i = elim (cases_eq x entry) [
  | inl e ↦ rw (e, nat_eq-same entry) (first_of next prev (suc entry) (next entry) xs (rw e at h.2))
  | inr ne ↦ rw (nat_eq-other x entry ne) (follower_is next prev (suc x) (next x) entry xs h.2 (⊎_elim (λ s. absurd (ne (sym s))) (λ r. r) i))
]

pub chain-end : (n : ℕ) (next : ℕ → ℕ) (link : ℕ) → link ≡ 0 → chain n next link ≡ []
unfolding chain
chain-end zero next link e = refl
chain-end (suc n) next link e = rw e

pub empty_list : (entries : ℕ) (heads next : List ℕ) (key : ℕ) → ((at : ℕ) → slice_index heads at ≡ 0) → slice_index_or (map (chain entries (slice_index next)) heads) key [] ≡ []
empty_list entries heads next key zeros = elim (cases_lt key (length heads)) [
  | inl lt ↦ get_or-map (chain entries (slice_index next)) heads key 0 [] lt ∙ chain-end entries (slice_index next) (slice_index heads key) (zeros key)
  | inr ge ↦ get_or_past (map (chain entries (slice_index next)) heads) key [] (omega (arith, length-map heads (chain entries (slice_index next))))
]

count_zeros : (xs : List ℕ) (key : ℕ) → ((at : ℕ) → slice_index xs at ≡ 0) → 0 ≡ count_by (λ o. nat_eq o (suc key)) xs
count_zeros [] key f = refl
count_zeros (x ∷ xs) key f =
    let e : nat_eq x (suc key) ≡ false = nat_eq-other x (suc key) (λ g. let z : x ≡ 0 = f 0 in omega (arith, g, z)) in
    let z : cond {A = ℕ} (nat_eq x (suc key)) 1 0 ≡ 0 = ap (λ (b : Bool). cond {A = ℕ} b 1 0) e in
    let step : count_by (λ o. nat_eq o (suc key)) (x ∷ xs) ≡ cond {A = ℕ} (nat_eq x (suc key)) 1 0 + count_by (λ o. nat_eq o (suc key)) xs = sum_by-cons (λ o. cond {A = ℕ} (nat_eq o (suc key)) 1 0) x xs in
    omega (arith, count_zeros xs key (λ at. f (suc at)))

pub empty_links : (keys entries : ℕ) (heads next prev owner : List ℕ) → keys < 2 ^ 16 → entries < 2 ^ 16 → length heads ≡ keys → length next ≡ entries → length prev ≡ entries → length owner ≡ entries → ((at : ℕ) → slice_index heads at ≡ 0) → ((at : ℕ) → slice_index owner at ≡ 0) → Links keys entries heads next prev owner (map (chain entries (slice_index next)) heads)
empty_links keys entries heads next prev owner k n a b c d zero_heads zero_owners =
    let Q : (key : ℕ) → slice_index_or (map (chain entries (slice_index next)) heads) key [] ≡ [] = λ key. empty_list entries heads next key zero_heads in record {
      few_keys = k;
      few_entries = n;
      all_heads = a;
      all_next = b;
      all_prev = c;
      all_owners = d;
      all = length-map heads (chain entries (slice_index next)) ∙ a;
      linked = λ key lt. rw (Q key) (zero_heads key);
      apart = λ key lt. rw (Q key) tt;
      owned = λ key lt. rw (Q key) tt;
      counted = λ key lt. rw (Q key) (count_zeros owner key zero_owners);
      found = λ entry key lt e. absurd (omega (arith, e, zero_owners entry));
    }

pub set_own : (own : ℕ) → IsTrue (not (nat_eq own 0)) → own ≢ 0
set_own own is e = let h = rw e at is in cc

pub own_set : (own : ℕ) → own ≢ 0 → IsTrue (not (nat_eq own 0))
own_set own ne = rw (nat_eq-other own 0 ne) refl
