-- What is known under the name of a service, and under that of another state of its worker.
use Rattle.std.proofs.Common.{◌≡◌, ◌++◌, true, true≢false, is_some, length, Option, None, Some, sym, subst, refl, ◌∙◌}
use Rattle.std.proofs.Common.{Box, Global}
use Rattle.std.proofs.lemmas.Option.{same_Some}
use Rattle.atomic_table.specs.Seated.{TableId}
use Rattle.crossbeam_queue.specs.Passes.{view}
use Rattle.hg_heap.specs.Policies.{AreOf}
use Rattle.hg_machine.specs.Policy.{Policy}
use Rattle.hg_pool.specs.Pooled.{Pooled}
use Rattle.hg_table.specs.Named.{table_of_worker}
use Rattle.hg_table.specs.declared.segment.UnnamedSegment.{UnnamedSegment}
use Rattle.hg_worker.specs.Seats.{number_in, AreOnTable}
use Rattle.hg_worker.specs.States.{IsNamed}
use Rattle.hg_worker.specs.declared.state.WorkerState.{WorkerState}
use Rattle.hg_hosted.specs.declared.parts.Left.{Left}
use Rattle.hg_hosted.specs.declared.parts.Segments.{Segments}
use Rattle.hg_hosted.specs.declared.shared.Shared.{Shared}
use Rattle.hg_hosted.specs.Parking.{FitsKnown, KnowsName}
use Rattle.hg_hosted.specs.Leaving.{IsIdle}
use Rattle.hg_hosted.specs.Parts.{ArePooled, HasLeft, HasSegments, IsOfOne}
use Rattle.hg_hosted.specs.Shared.{AreOfService, known_table, table_of_shared}

-- what is shared is of the service of each state of its worker
pub by_state :
    {policy : Policy} {table : TableId} {state : WorkerState} {shared : Shared}
    → IsNamed policy table state → AreOfService policy table shared
    → AreOfService state.policy (table_of_worker state.seat) shared
by_state {policy = policy} {table = table} {state = state} {shared = shared} named of =
    subst (λ (t : TableId). AreOfService state.policy t shared) (sym named.seated)
    (subst (λ (p : Policy). AreOfService p table shared) (sym named.serves) of)

-- segments that come from where the service is known are as its policy has them, and on its table
pub taken_of :
    {policy : Policy} {table : TableId} {segments : Segments} (known : Option WorkerState)
    → KnowsName policy table known → FitsKnown HasSegments known segments
    → AreOf number_in policy (segments.pool.orphans ++ segments.pool.fresh)
    × AreOnTable table (segments.pool.orphans ++ segments.pool.fresh)
taken_of None knows fits = absurd (true≢false (sym knows.some))
taken_of {policy = policy} {table = table} {segments = segments} (Some of) knows fits =
    let named = knows.named of refl in
    let pooled = fits of refl in
    let all = segments.pool.orphans ++ segments.pool.fresh in (
      subst (λ (p : Policy). AreOf number_in p all) named.serves pooled.each,
      subst (λ (t : TableId). AreOnTable t all) named.seated pooled.named,
    )

-- segments like that are of each service that is so named
pub pooled_by :
    {policy : Policy} {table : TableId} {of : WorkerState} {pool : Pooled UnnamedSegment}
    → IsNamed policy table of → AreOf number_in policy (pool.orphans ++ pool.fresh)
    → AreOnTable table (pool.orphans ++ pool.fresh) → ArePooled of pool
pooled_by {pool = pool} named each on =
    let all = pool.orphans ++ pool.fresh in
    record {
      each = subst (λ (p : Policy). AreOf number_in p all) (sym named.serves) each;
      named = subst (λ (t : TableId). AreOnTable t all) (sym named.seated) on;
    }

-- and go back there
pub put_of :
    {policy : Policy} {table : TableId} {segments : Segments} {known : Option WorkerState}
    → KnowsName policy table known
    → AreOf number_in policy (segments.pool.orphans ++ segments.pool.fresh)
    → AreOnTable table (segments.pool.orphans ++ segments.pool.fresh)
    → FitsKnown HasSegments known segments
put_of knows each on of same = pooled_by (knows.named of same) each on

-- a worker may go where its service is known
pub leaves_to :
    (state : Box WorkerState Global) {known : Option WorkerState}
    → KnowsName state.value.policy (table_of_worker state.value.seat) known → IsIdle state.value
    → FitsKnown HasLeft known (record { state = Some state })
leaves_to state knows idle of same own is =
    let named = knows.named of same in
    subst (λ o. IsOfOne of o.value × IsIdle o.value) (same_Some state own is)
    (record { serves = sym named.serves; seated = sym named.seated }, idle)

-- and who comes from there is of the service that is known, and has left
pub comes_of :
    {policy : Policy} {table : TableId} {left : Left} (known : Option WorkerState)
    → KnowsName policy table known → FitsKnown HasLeft known left → (own : Box WorkerState Global)
    → left.state ≡ Some own → IsNamed policy table own.value × IsIdle own.value
comes_of None knows fits own is = absurd (true≢false (sym knows.some))
comes_of {policy = policy} {table = table} (Some of) knows fits own is =
    let named = knows.named of refl in
    let has = fits of refl own is in (
      record { serves = has.0.serves ∙ named.serves; seated = has.0.seated ∙ named.seated },
      has.1,
    )

-- what is shared stays of its service where nothing of it changes but where lists lead
pub still_of :
    {policy : Policy} {table : TableId} (before after : Shared) → AreOfService policy table before
    → (view after.segments.pass).known ≡ (view before.segments.pass).known
    → after.segments.kept ≡ before.segments.kept → (view after.left.pass).known ≡ (view before.left.pass).known
    → after.left.kept ≡ before.left.kept → length after.lists.items ≡ length before.lists.items
    → AreOfService policy table after
still_of {policy = policy} {table = table} before after of known kept left_known left_kept all =
    record {
      segments = subst (KnowsName policy table) (sym known) of.segments;
      segments_kept = λ part is. subst (λ k. FitsKnown HasSegments k part) (sym known)
          (of.segments_kept part (sym kept ∙ is));
      left = subst (KnowsName policy table) (sym left_known) of.left;
      left_kept = λ part is. subst (λ k. FitsKnown HasLeft k part) (sym left_known)
          (of.left_kept part (sym left_kept ∙ is));
      all = all ∙ of.all;
    }

-- the table that is known is the service's
known_is :
    {policy : Policy} {table : TableId} (other : TableId) (known : Option WorkerState)
    → KnowsName policy table known → known_table other known ≡ table
known_is other None knows = absurd (true≢false (sym knows.some))
known_is other (Some one) knows = (knows.named one refl).seated

pub table_is :
    {policy : Policy} {table : TableId} {shared : Shared} → AreOfService policy table shared
    → table_of_shared shared ≡ table
table_is of = known_is _ _ of.left

-- what is shared is of the service that is known where workers go
pub by_known :
    {policy : Policy} {shared : Shared} (other : TableId) (known : Option WorkerState)
    → is_some known ≡ true
    → ((one : WorkerState) → known ≡ Some one
    → AreOfService policy (table_of_worker one.seat) shared)
    → AreOfService policy (known_table other known) shared
by_known other None there each = absurd (true≢false (sym there))
by_known other (Some one) there each = each one refl
