-- What stands on the remote lists of parts.
use Rattle.std.proofs.Common.{◌≡◌, ◌≢◌, ℕ, zero, suc, ◌+◌, ◌-◌, ◌*◌, ◌%◌, ◌<◌, ◌≤◌, Bool, true}
use Rattle.std.proofs.Common.{◌||◌, List, [], ◌∷◌, ◌++◌, length, map, refl, sym, ap, ◌∙◌, arith}
use Rattle.std.proofs.Common.{subst, inl, inr, ◌⊎◌}
use Rattle.std.specs.Prelude.{Contains}
use Rattle.std.specs.List.{range_with_len, concat, list_any}
use Rattle.std.proofs.lemmas.Bool.{cases_lt, cases_eq, cases_Bool}
use Rattle.std.proofs.lemmas.Grind.{get_or-set_at}
use Rattle.std.proofs.lemmas.List.{ext_get_or, get_or_past, get_or-set_other}
use Rattle.std.proofs.lemmas.List.FromFn.{length-map-range_with_len, get_or-map-range_with_len}
use Rattle.hg_lists.proofs.RepeatsLemmas.{Contains-cons}
use Rattle.hg_place.specs.Places.{segment_of}
use Rattle.hg_remote.specs.Remote.{contents, Remote as RemoteList}
use Rattle.hg_machine.specs.Lists.{times, list_at, sent_in}
use Rattle.hg_agreement.specs.Parts.{Remote, Parts, no_remote, remote_at, thread_at, thread_of}
use Rattle.hg_agreement.specs.Parts.{delayed_of, places_from, lists_of}
use Rattle.hg_agreement.specs.TakenIn.{remote_places}
use Rattle.hg_agreement.proofs.Settles.{sent_are}
use Rattle.hg_parts.specs.Rights.{IsRemoteRight, AreRemotesRight, list_of, remote_from}
use Rattle.hg_parts.specs.Remotes.{with_remote}
use Rattle.hg_parts.proofs.Times.{times_append, times_shifted, times_away}

-- what a test finds on a list
pub any_contains : (p : ℕ → Bool) (xs : List ℕ) → list_any p xs ≡ true → (x : ℕ) × Contains xs x
    × (p x ≡ true)
any_contains p [] e = absurd (cc)
any_contains p (x ∷ xs) e =
    elim (cases_Bool (p x)) [
      | inl t ↦ (x, (0, omega arith, refl), t)
      | inr f ↦
          let rest = any_contains p xs (sym (ap (λ b. b || list_any p xs) f) ∙ e) in
          (rest.0, Contains-cons x rest.0 xs rest.1, rest.2)
    ]

-- all places of a right remote list are its contents
pub places_are : (remote : Remote) → IsRemoteRight remote → remote_places remote
    ≡ contents (list_of remote)
places_are remote right =
    let all : map (λ page. thread_at remote page) (range_with_len 0 16) ≡ remote.thread_free =
    ext_get_or [] (map (λ page. thread_at remote page) (range_with_len 0 16)) remote.thread_free
    (length-map-range_with_len (λ page. thread_at remote page) 0 16 ∙ sym right.all)
    (λ i lt. get_or-map-range_with_len (λ page. thread_at remote page) 0 16 i i []
    (omega (arith, lt, length-map-range_with_len (λ page. thread_at remote page) 0 16))
    (omega arith)) in
    ap (λ ls. remote.delayed ++ concat ls) all

module _ (parts : Parts) (right : AreRemotesRight parts) (n : ℕ) where
  sent_on : n < length parts.policy.segments → sent_in (lists_of parts) n
      ≡ places_from (n * 8192) (contents (list_of (remote_at parts n)))
  sent_on lt =
      sent_are parts n lt ∙ ap (places_from (n * 8192))
      (places_are (remote_at parts n) (right n lt))

  -- as often as on its own remote list, and on no other
  pub sent_is : (place : ℕ) → n < length parts.policy.segments → segment_of place ≡ n
      → times place (sent_in (lists_of parts) n)
      ≡ times (place % 8192) (contents (list_of (remote_at parts n)))
  sent_is place lt e =
      let xs = contents (list_of (remote_at parts n)) in
      ap (times place) (sent_on lt)
      ∙ times_shifted (n * 8192) place xs (omega (arith, e))
      ∙ ap (λ (k : ℕ). times k xs) (let m : place - n * 8192 ≡ place % 8192 = omega (arith, e) in m)

  beyond : (place : ℕ) → segment_of place ≢ n → (place < n * 8192) ⊎ (n * 8192 + 8192 ≤ place)
  beyond place ne = elim (cases_lt place (n * 8192)) [
    | inl lt ↦ inl lt
    | inr ge ↦
        inr (omega (arith, ge, ne))
  ]

  pub sent_away : (place : ℕ) → n < length parts.policy.segments → segment_of place ≢ n
      → times place (sent_in (lists_of parts) n) ≡ 0
  sent_away place lt ne =
      ap (times place) (sent_on lt)
      ∙ times_away (n * 8192) 8192 place (contents (list_of (remote_at parts n))) (right n lt).below
      (beyond place ne)

times_none : (n : ℕ) (f : ℕ → List ℕ) (from count : ℕ)
    → ((k : ℕ) → from ≤ k → k < from + count → f k ≡ [])
    → times n (concat (map f (range_with_len from count))) ≡ 0
times_none n f from zero h = refl
times_none n f from (suc c) h =
    times_append n (f from) (concat (map f (range_with_len (from + 1) c)))
    ∙ omega (
      arith,
      ap (times n) (h from (omega arith) (omega arith)),
      times_none n f (from + 1) c
          (λ k l r. h k (omega (arith, l)) (omega (arith, r))),
    )

-- nothing is sent to a segment that isn't the policy's
pub sent_past : (parts : Parts) (n place : ℕ) → length parts.policy.segments ≤ n
    → times place (sent_in (lists_of parts) n) ≡ 0
sent_past parts n place ge =
    let segments = length parts.policy.segments in
    let delayed : list_at (lists_of parts).delayed n ≡ [] = get_or_past (lists_of parts).delayed n
    [] (omega (arith, ge, length-map-range_with_len (delayed_of parts) 0 segments)) in
    let two = times_none place (list_at (lists_of parts).thread_free) (n * 16) 16
    (λ k lo hi. get_or_past (lists_of parts).thread_free k []
    (omega (arith, ge, lo, length-map-range_with_len (thread_of parts) 0 (segments * 16)))) in
    omega (
      arith,
      ap (times place) delayed,
      two,
      times_append place
          (list_at (lists_of parts).delayed n)
          (concat (map (list_at (lists_of parts).thread_free) (range_with_len (n * 16) 16))),
    )

-- another remote list of a segment

module _ (parts : Parts) (n : ℕ) (remote : RemoteList) (below : n < length parts.remotes) where
  remote_here : remote_at (with_remote parts n remote) n ≡ remote_from remote
  remote_here = get_or-set_at parts.remotes n n (remote_from remote) no_remote refl below

  remote_other : (m : ℕ) → m ≢ n → remote_at (with_remote parts n remote) m ≡ remote_at parts m
  remote_other m ne = get_or-set_other parts.remotes n m (remote_from remote) no_remote ne

  pub remotes_right : AreRemotesRight parts → IsRemoteRight (remote_from remote)
      → AreRemotesRight (with_remote parts n remote)
  remotes_right all right m lt =
      elim (cases_eq m n) [
        | inl e ↦ subst IsRemoteRight
            (sym (ap (remote_at (with_remote parts n remote)) e ∙ remote_here)) right
        | inr ne ↦ subst IsRemoteRight (sym (remote_other m ne)) (all m lt)
      ]

  module _ (all : AreRemotesRight parts) (right : IsRemoteRight (remote_from remote)) where
    pub sent_here : (place : ℕ) → n < length parts.policy.segments → segment_of place ≡ n
        → times place (sent_in (lists_of (with_remote parts n remote)) (segment_of place))
        ≡ times (place % 8192) (contents remote)
    sent_here place lt e =
        ap (λ (m : ℕ). times place (sent_in (lists_of (with_remote parts n remote)) m)) e
        ∙ sent_is (with_remote parts n remote) (remotes_right all right) n place lt e
        ∙ ap (λ r. times (place % 8192) (contents (list_of r))) remote_here

    pub sent_other : (place : ℕ) → segment_of place ≢ n
        → times place (sent_in (lists_of (with_remote parts n remote)) (segment_of place))
        ≡ times place (sent_in (lists_of parts) (segment_of place))
    sent_other place ne =
        elim (cases_lt (segment_of place) (length parts.policy.segments)) [
          | inl lt ↦ sent_is (with_remote parts n remote) (remotes_right all right) (segment_of place)
              place lt refl
              ∙ ap (λ r. times (place % 8192) (contents (list_of r)))
              (remote_other (segment_of place) ne)
              ∙ sym (sent_is parts all (segment_of place) place lt refl)
          | inr ge ↦ sent_past (with_remote parts n remote) (segment_of place) place ge
              ∙ sym (sent_past parts (segment_of place) place ge)
        ]
