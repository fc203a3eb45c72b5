-- Seats that come out of the first ones, one after another.
use Rattle.std.proofs.Common.{◌≡◌, ℕ, zero, suc, ◌+◌, ◌-◌, ◌<◌, List, [], ◌∷◌, Some}
use Rattle.std.proofs.Common.{◌++◌, length, map, refl, sym, ap, subst, ◌∙◌, arith}
use Rattle.std.proofs.Common.{length-append}
use Rattle.std.specs.List.{range_with_len, slice_get}
use Rattle.std.proofs.lemmas.Option.{same_Some, none-some}
use Rattle.std.proofs.lemmas.List.{append_assoc}
use Rattle.std.proofs.lemmas.List.FromFn.{length-map-range_with_len}
use Rattle.hg_machine.specs.Policy.{Policy}
use Rattle.hg_roles.specs.FirstParts.{idle, full, first_roles}
use Rattle.hg_roles.specs.Roles.{Role, of_remote, of_pool, of_segment}
use Rattle.hg_table.specs.View.{View, part_of, giving}
use Rattle.hg_run_table.specs.declared.part.Part.{Part}
use Rattle.hg_run_table.specs.declared.table.RunSeat.{RunSeat}
use Rattle.hg_run_table.specs.Calls.{IsWorkers, log_in}
use Rattle.hg_run_table.specs.NewSeats.{new_worker}
use Rattle.hg_run_table.specs.Seated.{HaveRoles}
use Rattle.hg_run_table.proofs.WorkerSteps.{called_alone}

-- one more, of the next number
pub each_more : {A : Type 0} (P : ℕ → A → Type 0) (items : List A) (more : A)
    → ((k : ℕ) (a : A) → slice_get items k ≡ Some a → P k a) → P (length items) more
    → (k : ℕ) (a : A) → slice_get (items ++ more ∷ []) k ≡ Some a → P k a
each_more P [] more each next zero a at = subst (P 0) (same_Some _ _ at) next
each_more P [] more each next (suc k) a at = absurd (none-some _ at)
each_more P (x ∷ items) more each next zero a at = each 0 a at
each_more P (x ∷ items) more each next (suc k) a at =
    each_more (λ i. P (suc i)) items more (λ i. each (suc i)) next k a at

-- one more is pushed onto as many as were counted
pub longer : {A : Type 0} (items after : List A) (more : A) (n : ℕ) → after ≡ items ++ more ∷ []
    → length items ≡ n → length after ≡ n + 1
longer {A} items after more n pushed many =
    ap (λ (xs : List A). length xs) pushed ∙ length-append items (more ∷ [])
    ∙ ap (λ (k : ℕ). k + 1) many

pub pushed_more : {A : Type 0} (P : ℕ → A → Type 0) (items after : List A) (more : A) (n : ℕ)
    → after ≡ items ++ more ∷ [] → length items ≡ n
    → ((k : ℕ) (a : A) → slice_get items k ≡ Some a → P k a) → P n more
    → (k : ℕ) (a : A) → slice_get after k ≡ Some a → P k a
pushed_more {A} P items after more n pushed many each next =
    subst (λ (xs : List A). (k : ℕ) (a : A) → slice_get xs k ≡ Some a → P k a) (sym pushed)
    (each_more P items more each (subst (λ k. P k more) (sym many) next))

pub none_yet : {A : Type 0} (P : ℕ → A → Type 0) (items : List A) → items ≡ []
    → (k : ℕ) (a : A) → slice_get items k ≡ Some a → P k a
none_yet {A} P items empty k a at =
    absurd (none-some _ (subst (λ (xs : List A). slice_get xs k ≡ Some a) empty at))

-- the next number of a range
pub next_of_range : {A : Type 0} (f : ℕ → A) (count done : ℕ) → done < count
    → map f (range_with_len done (count - done))
    ≡ f done ∷ map f (range_with_len (done + 1) (count - (done + 1)))
next_of_range f count done below =
    let one : count - done ≡ suc (count - (done + 1)) = omega arith in
    ap (λ n. map f (range_with_len done n)) one

-- a seat of a worker that has made no call
pub worker_is : (policy : Policy) (number : ℕ) (seat : RunSeat)
    → HaveRoles seat.seat.me.0.run (new_worker policy number ∷ [])
    → IsWorkers seat (idle policy number) × (log_in seat ≡ [])
worker_is policy number seat has =
    let t = called_alone seat.seat.me.0.run (idle policy number) [] has in (t.1, t.0)

-- a seat that gave another one may give one fewer
pub given_one : (before after : View) → after ≡ map giving before → before ≡ part_of before ∷ []
    → (after ≡ part_of after ∷ []) × ((part_of after).may_give ≡ (part_of before).may_give - 1)
given_one before after is one =
    let e : after ≡ giving (part_of before) ∷ [] = is ∙ ap (map giving) one in (
      subst (λ (v : View). v ≡ part_of v ∷ []) (sym e) refl,
      ap (λ (v : View). (part_of v).may_give) e,
    )

-- how a seat is cut: so many parts stay, and the others go
abbrev CutsAt : ℕ → List Part → List Part → List Part → Type 0
CutsAt stay all one other =
    (roles theirs : List Role) → length roles ≡ stay → HaveRoles all (roles ++ theirs)
    → HaveRoles one roles × HaveRoles other theirs

abbrev lists : ℕ → List Role
lists count = map (λ segment. of_remote segment []) (range_with_len 0 count)

-- so many lists, and the pool
abbrev pub lists_and_pool : ℕ → List Role
lists_and_pool count = lists count ++ of_pool full ∷ []

module _ (policy : Policy) where
  abbrev segment_count : ℕ
  segment_count = length policy.segments

  abbrev workers : List Role
  workers = map (new_worker policy) (range_with_len 0 policy.workers)

  abbrev segments : List Role
  segments = map of_segment (range_with_len 0 segment_count)

  -- all but the seats of segments, which come last
  abbrev front : List Role
  front = workers ++ lists_and_pool segment_count

  front_is : first_roles policy ≡ front ++ segments
  front_is =
      sym
      (append_assoc workers (lists_and_pool segment_count) segments
      ∙ ap (λ (l : List Role). workers ++ l)
      (append_assoc (lists segment_count) (of_pool full ∷ []) segments))

  front_many : length front ≡ policy.workers + segment_count + 1
  front_many =
      let a = length-append workers (lists_and_pool segment_count) in
      let b = length-append (lists segment_count) (of_pool full ∷ []) in
      let c = length-map-range_with_len (new_worker policy) 0 policy.workers in
      let d = length-map-range_with_len (λ segment. of_remote segment []) 0 segment_count in
      omega arith

  cut_first : (all one other : List Part) → HaveRoles all (first_roles policy)
      → CutsAt (policy.workers + segment_count + 1) all one other
      → HaveRoles one front × HaveRoles other segments
  cut_first all one other has cut =
      cut front segments front_many
      (subst (λ (roles : List Role). HaveRoles all roles) front_is has)

-- all parts of a new table's seat go, and are cut before the seats of segments
pub cut_twice : (policy key : Policy) (workers segments : ℕ) → key ≡ policy
    → workers ≡ policy.workers → segments ≡ length policy.segments
    → (all lives parts one other : List Part) → HaveRoles all (first_roles policy)
    → CutsAt 0 all lives parts → CutsAt (key.workers + length key.segments + 1) parts one other
    → HaveRoles one (map (new_worker key) (range_with_len 0 workers) ++ lists_and_pool segments)
    × HaveRoles other (map of_segment (range_with_len 0 segments))
cut_twice policy key workers segments same many_workers many_segments all lives parts one other has
    go cut =
    let gone = (go [] (first_roles policy) refl has).1 in
    let two =
    cut_first key parts one other
    (subst (λ (p : Policy). HaveRoles parts (first_roles p)) (sym same) gone) cut in
    let w : key.workers ≡ workers = ap (λ (p : Policy). p.workers) same ∙ sym many_workers in
    let s : length key.segments ≡ segments =
    ap (λ (p : Policy). length p.segments) same ∙ sym many_segments in
    let first =
    subst
    (λ (n : ℕ).
    HaveRoles one
    (map (new_worker key) (range_with_len 0 n) ++ lists_and_pool (length key.segments))) w
    two.0 in (
      subst
          (λ (n : ℕ).
          HaveRoles one (map (new_worker key) (range_with_len 0 workers) ++ lists_and_pool n)) s first,
      subst (λ (n : ℕ). HaveRoles other (map of_segment (range_with_len 0 n))) s two.1,
    )
