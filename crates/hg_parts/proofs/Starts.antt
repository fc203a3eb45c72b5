-- Parts of which nothing has been given out are tidy.
use Rattle.std.proofs.Common.{◌≡◌, ℕ, zero, suc, ◌+◌, ◌*◌, ◌%◌, ◌<◌, false, nat_lt, List, [], ◌∷◌}
use Rattle.std.proofs.Common.{◌++◌, length, map, count_by, replicate, slice_index_or, refl, sym, ap}
use Rattle.std.proofs.Common.{◌∙◌, arith, subst, inl, inr}
use Rattle.std.specs.Prelude.{None, All, is_none, ◌&&◌}
use Rattle.std.specs.List.{AllByRecursion, range_with_len}
use Rattle.std.proofs.lemmas.Bool.{cases_lt}
use Rattle.std.proofs.lemmas.List.{get_or-replicate, length-replicate}
use Rattle.std.proofs.lemmas.List.Elements.{recursion_from_All, All-from_recursion}
use Rattle.hg_place.specs.Words.{bit_of}
use Rattle.hg_place.specs.Places.{segment_of}
use Rattle.hg_remote.specs.Remote.{contents, nothing_sent}
use Rattle.hg_remote.proofs.Kept.{nothing_right}
use Rattle.hg_machine.specs.Life.{is_parted, never_used}
use Rattle.hg_machine.specs.State.{held, fresh, orphan, record_at}
use Rattle.hg_machine.specs.Holders.{is_number}
use Rattle.hg_machine.specs.Lists.{times, sent_in}
use Rattle.hg_agreement.specs.Holdings.{has}
use Rattle.hg_agreement.specs.Parts.{Plain, Parts, heap_at, holdings, worker_of, no_remote}
use Rattle.hg_agreement.specs.Parts.{remote_at, lists_of}
use Rattle.hg_agreement.specs.Unused.{IsUnused}
use Rattle.hg_agreement.proofs.Firsts.{count_cons}
use Rattle.hg_agreement.proofs.Leaves.{none_passes}
use Rattle.hg_agreement.proofs.Openings.{unused_is_opening}
use Rattle.hg_parts.specs.Rights.{held_from, segments_in, is_numbered, list_of, remote_from}
use Rattle.hg_parts.specs.Rights.{IsSegmentRight, IsRemoteRight, AreSegmentsRight, AreRemotesRight}
use Rattle.hg_parts.specs.Accounted.{is_out}
use Rattle.hg_parts.specs.Tidy.{IsTidy, StartIsTidy}
use Rattle.hg_parts.proofs.Flat.{E}
use Rattle.hg_parts.proofs.Founds.{each_append, each_of}
use Rattle.hg_parts.proofs.Sent.{sent_is, sent_past}
use Rattle.hg_parts.proofs.Sorted.{none_in, counted_apart}

none_held : (P : E → Type 0) (k : ℕ) (hs : List (List Plain))
    → ((w : ℕ) → slice_index_or hs w [] ≡ []) → AllByRecursion P (held_from k hs)
none_held P k [] none = tt
none_held P k (x ∷ xs) none =
    subst (λ h. AllByRecursion P (map (λ s. (held k, s)) h ++ held_from (k + 1) xs)) (sym (none 0))
    (none_held P (k + 1) xs (λ w. none (suc w)))

no_hands : (c place : ℕ) → count_by (is_number place) (replicate c None) ≡ 0
no_hands zero place = refl
no_hands (suc c) place =
    omega (arith, count_cons (is_number place) None (replicate c None), no_hands c place)

none_used : (c place : ℕ) → slice_index_or (replicate c never_used) place never_used ≡ never_used
none_used zero place = refl
none_used (suc c) zero = refl
none_used (suc c) (suc place) = none_used c place

module _ (parts : Parts) (u : IsUnused parts) (long : length parts.heaps ≡ parts.policy.workers)
    (empty : parts.remotes ≡ replicate (length parts.policy.segments) (remote_from nothing_sent))
    (right : All (IsSegmentRight parts.policy) parts.fresh) where
  has_none : (n w : ℕ) → has (holdings (heap_at parts w)) n ≡ false
  has_none n w = ap (λ h. has (holdings h) n) (u.heaps w)

  no_worker : (n : ℕ) → worker_of parts n ≡ None
  no_worker n =
      none_passes (λ w. has (holdings (heap_at parts w)) n) (range_with_len 0 (length parts.heaps))
      (has_none n)

  once : (n : ℕ) → count_by (is_numbered n) (segments_in parts)
      ≡ bit_of (nat_lt n (length parts.policy.segments))
  once n =
      let pooled = (unused_is_opening parts u).2.once n
      ∙ ap (λ o. bit_of (is_none o && nat_lt n (length parts.policy.segments))) (no_worker n) in
      omega (arith, counted_apart parts n, none_in n 0 parts.heaps (has_none n), pooled)

  segments : AreSegmentsRight parts
  segments = record {
    heaps = long;
    hands = ap length u.hands ∙ length-replicate parts.policy.workers None;
    remotes =
        ap length empty ∙ length-replicate (length parts.policy.segments)
        (remote_from nothing_sent);
    once = once;
    each = All-from_recursion (λ (e : E). IsSegmentRight parts.policy e.1) (segments_in parts)
        (each_append (λ (e : E). IsSegmentRight parts.policy e.1) (held_from 0 parts.heaps)
        (map (λ s. (orphan, s)) parts.orphans ++ map (λ s. (fresh, s)) parts.fresh)
        (none_held (λ (e : E). IsSegmentRight parts.policy e.1) 0 parts.heaps u.heaps)
        (subst (λ os. AllByRecursion (λ (e : E). IsSegmentRight parts.policy e.1)
        (map (λ s. (orphan, s)) os ++ map (λ s. (fresh, s)) parts.fresh)) (sym u.orphans)
        (each_of (IsSegmentRight parts.policy) fresh parts.fresh
        (recursion_from_All (IsSegmentRight parts.policy) parts.fresh right))));
  }

  remote_is : (n : ℕ) → n < length parts.policy.segments → remote_at parts n
      ≡ remote_from nothing_sent
  remote_is n lt =
      ap (λ rs. slice_index_or rs n no_remote) empty
      ∙ get_or-replicate (length parts.policy.segments) n (remote_from nothing_sent) no_remote lt

  remotes : AreRemotesRight parts
  remotes n lt = subst IsRemoteRight (sym (remote_is n lt)) nothing_right

  none_out : (place : ℕ) → is_out parts place ≡ false
  none_out place =
      ap (λ s. is_parted (record_at s place).life) (unused_is_opening parts u).0
      ∙ ap (λ r. is_parted r.life) (none_used (length parts.policy.segments * 8192) place)

  none_sent : (place : ℕ) → times place (sent_in (lists_of parts) (segment_of place)) ≡ 0
  none_sent place = elim (cases_lt (segment_of place) (length parts.policy.segments)) [
    | inl lt ↦ sent_is parts remotes (segment_of place) place lt refl
        ∙ ap (λ r. times (place % 8192) (contents (list_of r))) (remote_is (segment_of place) lt)
    | inr ge ↦ sent_past parts (segment_of place) place ge
  ]

  pub tidy : IsTidy parts
  tidy = record {
    segments = segments;
    remotes = remotes;
    out_once =
        λ place. omega (
          arith,
          ap (count_by (is_number place)) u.hands,
          no_hands
              parts.policy.workers place,
          none_sent place,
          ap bit_of (none_out place),
        );
    rising = (unused_is_opening parts u).2.rising;
  }

pub start_tidy : StartIsTidy
start_tidy parts u long empty right = tidy parts u long empty right
