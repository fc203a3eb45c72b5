-- The parts of segments that are given back, by rising number.
use Rattle.std.proofs.Common.{◌≡◌, ◌≢◌, ℕ, ◌+◌, ◌==◌, Bool, cond, not, List, [], ◌∷◌, ◌++◌, map, filter}
use Rattle.std.proofs.Common.{Option, Some, None, is_some, refl, sym, ap, subst, ◌∙◌, inl, inr, arith}
use Rattle.std.specs.List.{AllZip, range_with_len}
use Rattle.std.proofs.lemmas.Bool.{cases_Bool, eqb-true, ne_eqb}
use Rattle.std.proofs.lemmas.List.{append_assoc, append-nil, map-append, map-id}
use Rattle.std.proofs.lemmas.List.Elements.{filter-append}
use Rattle.std.proofs.lemmas.List.FromFn.{filter_of_map_range_with_len_more}
use Rattle.atomic_table.specs.Seated.{TableId}
use Rattle.hg_segment.specs.Kept.{Kept}
use Rattle.hg_heap.specs.Held.{is_held, segment_in}
use Rattle.hg_pool.specs.Pooled.{Pooled, is_numbered, without_number, without_segment}
use Rattle.hg_roles.specs.Roles.{Role, of_segment}
use Rattle.hg_run_table.specs.declared.segment.RunSegment.{RunSegment}
use Rattle.hg_run_table.specs.declared.table.RunSeat.{RunSeat}
use Rattle.hg_run_table.specs.JoinedCalls.{IsOthers}
use Rattle.hg_run_worker.specs.declared.ending.RunEnd.{RunEnd}
use Rattle.hg_run_worker.specs.AtWork.{IsSeated, number_in}
use Rattle.hg_run_worker.specs.Ending.{HasGathered}
use Rattle.hg_run_worker.specs.Pools.{pooled_in}

-- the parts of those with numbers below one
abbrev pub parts_below : List (Kept RunSegment) → ℕ → List Role
parts_below segments n = map of_segment (filter (is_held number_in segments) (range_with_len 0 n))

filter_more : (p : ℕ → Bool) (n : ℕ)
    → filter p (range_with_len 0 (n + 1)) ≡ filter p (range_with_len 0 n) ++ cond (p n) (n ∷ []) []
filter_more p n =
    ap (filter p) (sym (map-id (range_with_len 0 (n + 1))))
    ∙ filter_of_map_range_with_len_more p (λ x. x) 0 n n (omega arith)
    ∙ ap (λ (xs : List ℕ). filter p xs ++ cond (p n) (n ∷ []) []) (map-id (range_with_len 0 n))

parts_more : (segments : List (Kept RunSegment)) (n : ℕ)
    → parts_below segments (n + 1)
    ≡ parts_below segments n ++ map of_segment (cond (is_held number_in segments n) (n ∷ []) [])
parts_more segments n =
    ap (map of_segment) (filter_more (is_held number_in segments) n)
    ∙ map-append of_segment (filter (is_held number_in segments) (range_with_len 0 n))
    (cond (is_held number_in segments n) (n ∷ []) [])

-- the next number has a segment
pub next_part : (roles : List Role) (segments : List (Kept RunSegment)) (n : ℕ) (one : Kept RunSegment)
    → segment_in number_in segments n ≡ Some one
    → (roles ++ parts_below segments n) ++ of_segment n ∷ [] ≡ roles ++ parts_below segments (n + 1)
next_part roles segments n one e =
    append_assoc roles (parts_below segments n) (of_segment n ∷ [])
    ∙ ap (λ (rs : List Role). roles ++ rs)
    (sym
    (parts_more segments n
    ∙ ap
    (λ (o : Option (Kept RunSegment)).
    parts_below segments n ++ map of_segment (cond (is_some o) (n ∷ []) [])) e))

-- and has none
pub no_part : (segments : List (Kept RunSegment)) (n : ℕ) → segment_in number_in segments n ≡ None
    → parts_below segments n ≡ parts_below segments (n + 1)
no_part segments n e =
    sym
    (parts_more segments n
    ∙ ap
    (λ (o : Option (Kept RunSegment)).
    parts_below segments n ++ map of_segment (cond (is_some o) (n ∷ []) [])) e
    ∙ append-nil (parts_below segments n))

-- a pool without a segment has the others
find_without : (xs : List (Kept RunSegment)) (segment other : ℕ) → other ≢ segment
    → segment_in number_in (without_number number_in segment xs) other ≡ segment_in number_in xs other
find_without [] segment other ne = refl
find_without (x ∷ xs) segment other ne =
    elim (cases_Bool (number_in x.slots == segment)) as (λ _. segment_in number_in (without_number number_in segment (x ∷ xs)) other ≡ segment_in number_in (x ∷ xs) other) [
      | inl t ↦
          ap
          (λ (b : Bool).
          segment_in number_in
          (cond (not b) (x ∷ without_number number_in segment xs) (without_number number_in segment xs)) other) t
          ∙ find_without xs segment other ne
          ∙ sym
          (ap (λ (b : Bool). cond b (Some x) (segment_in number_in xs other))
          (ne_eqb (number_in x.slots) other (λ e. ne (sym e ∙ eqb-true (number_in x.slots) segment t))))
      | inr f ↦
          ap
          (λ (b : Bool).
          segment_in number_in
          (cond (not b) (x ∷ without_number number_in segment xs) (without_number number_in segment xs)) other) f
          ∙ ap (λ (o : Option (Kept RunSegment)). cond (number_in x.slots == other) (Some x) o)
          (find_without xs segment other ne)
    ]

pub others_stay : (pool : Pooled RunSegment) (segment other : ℕ) → other ≢ segment
    → segment_in number_in (pooled_in (without_segment number_in pool segment)) other
    ≡ segment_in number_in (pooled_in pool) other
others_stay pool segment other ne =
    ap (λ (xs : List (Kept RunSegment)). segment_in number_in xs other)
    (sym (filter-append (λ k. not (is_numbered number_in segment k)) pool.orphans pool.fresh))
    ∙ find_without (pooled_in pool) segment other ne

-- the seat of a segment that came out has its part alone
pub seat_out : {id : TableId} (one : Kept RunSegment) (n : ℕ) (slots : RunSegment) (seat : RunSeat)
    → IsSeated id one.slots → number_in one.slots ≡ n → slots ≡ one.slots → seat ≡ slots.seat
    → (seat.seat.table_id ≡ id) × IsOthers seat (of_segment n)
seat_out {id} one n slots seat seated numbered is_slots is_seat =
    let is : one.slots.seat ≡ seat = sym (is_seat ∙ ap (λ (s : RunSegment). s.seat) is_slots) in
    subst (λ (s : RunSeat). (s.seat.table_id ≡ id) × IsOthers s (of_segment n)) is (
      seated.same,
      subst (λ m. IsOthers one.slots.seat (of_segment m)) numbered seated.part,
    )

-- one segment's part more was given back, or none
pub gathered_more : {id : TableId} (roles : List Role) (segments : List (Kept RunSegment)) (n : ℕ)
    (one : Kept RunSegment) (now before : RunEnd) → segment_in number_in segments n ≡ Some one → now ≡ before
    → HasGathered id ((roles ++ parts_below segments n) ++ of_segment n ∷ []) before
    → HasGathered id (roles ++ parts_below segments (n + 1)) now
gathered_more {id} roles segments n one now before e is has =
    subst (HasGathered id (roles ++ parts_below segments (n + 1))) (sym is)
    (subst (λ (rs : List Role). HasGathered id rs before) (next_part roles segments n one e) has)

pub gathered_none : {id : TableId} (roles : List Role) (segments : List (Kept RunSegment)) (n : ℕ)
    (now before : RunEnd) → segment_in number_in segments n ≡ None → now ≡ before
    → HasGathered id (roles ++ parts_below segments n) before
    → HasGathered id (roles ++ parts_below segments (n + 1)) now
gathered_none {id} roles segments n now before e is has =
    subst (HasGathered id (roles ++ parts_below segments (n + 1))) (sym is)
    (subst (λ (rs : List Role). HasGathered id (roles ++ rs) before) (no_part segments n e) has)

-- of seats that are given back in turn the next one has the next role
pub seats_more : (so_far rest : List Role) (seat : RunSeat) (seats : List RunSeat)
    → AllZip IsOthers (seat ∷ seats) rest
    → (role : Role) × (more : List Role) × IsOthers seat role × AllZip IsOthers seats more
    × ((so_far ++ role ∷ []) ++ more ≡ so_far ++ rest)
seats_more so_far [] seat seats parts = absurd parts
seats_more so_far (role ∷ more) seat seats parts =
    (role, more, parts.0, parts.1, append_assoc so_far (role ∷ []) more)

pub seats_all : (so_far rest : List Role) → AllZip IsOthers [] rest → so_far ≡ so_far ++ rest
seats_all so_far [] parts = sym (append-nil so_far)
seats_all so_far (role ∷ more) parts = absurd parts
