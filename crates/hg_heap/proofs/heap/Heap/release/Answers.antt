use Rattle.std.proofs.Common.{◌≡◌, ◌≤◌, List, length, Some, None, sym, ap}
use Rattle.std.proofs.Common.{subst, ◌∙◌, arith, slice_get, slice_set, is_some}
use Rattle.std.specs.Prelude.{swap_remove}
use Rattle.std.proofs.lemmas.Option.{slice_get-get_or}
use Rattle.hg_segment.specs.Kept.{Kept}
use Rattle.hg_heap.specs.Held.{Held, is_held, segment_in}
use Rattle.hg_heap.specs.Found.{IsFoundAt}
use Rattle.hg_heap.specs.Queues.{AreQueued}
use Rattle.hg_heap.proofs.Founds.{Found, found_of, found_is, number_is, Contains-get}
use Rattle.hg_heap.proofs.Gone.{gone, others, permuted}
use Rattle.hg_heap.proofs.Released.{without_is, pages_kept, low_held, charge_most, right_left}
use Rattle.hg_heap.proofs.Released.{tabled_last, tabled_moved}
use Rattle.hg_heap.proofs.heap.Heap.release.Goals as goal
use Rattle.hg_heap.proofs.heap.Heap.release.Goals.{in-Some, in_default}
use Rattle.hg_heap.proofs.heap.Heap.release.Goals.{After-swap_remove-released, Joined-get}
use Rattle.hg_heap.proofs.heap.Heap.release.Given.{Over}

pub returns-in_err-found-clause-queues : goal.returns-in_err-found-clause-queues
returns-in_err-found-clause-queues g c =
    let w = g.S.SlotWords in
    let now = c.args.self.now in
    pages_kept w.number w.records now.segments now.queues c.args.segment
    c.in_err-found.ensures.none
    (subst (λ (h : Held g.row.S.Denot). AreQueued w.number h) c.self.view_is
    c.self.invariant.queued)

pub remove_pages-requires-clause-segment : goal.remove_pages-requires-clause-segment
remove_pages-requires-clause-segment g c =
    low_held g.S.SlotWords.number g.S.SlotWords.records g.met.S.SlotWords.numbered
    c.args.self.now.segments c.args.segment c.in_ok-found.found c.in_ok-found.ensures.some

pub bounds-deref_mut-segment : goal.bounds-deref_mut-segment
bounds-deref_mut-segment g c =
    low_held g.S.SlotWords.number g.S.SlotWords.records g.met.S.SlotWords.numbered
    c.args.self.now.segments c.args.segment c.in_ok-found.found c.in_ok-found.ensures.some

-- the segment that leaves, where it stood
here : (g : Over) (c : After-swap_remove-released g) → Found g.S.SlotWords.number
    c.self.inside.segments.items c.args.segment c.in_ok-found.found c.swap_remove-released.result
here g c = found_of g.S.SlotWords.number c.self.inside.segments.items c.args.segment
    c.in_ok-found.found c.swap_remove-released.result
    (subst (λ (h : Held g.row.S.Denot). IsFoundAt g.S.SlotWords.number h.segments c.args.segment
    c.in_ok-found.found) (sym c.self.view_is) c.in_ok-found.ensures.some)
    c.swap_remove-released.ensures.value

pub lower_charges-requires-clause-counted : goal.lower_charges-requires-clause-counted
lower_charges-requires-clause-counted g c =
    let w = g.S.SlotWords in
    let found = here g (goal.at.lower_charges-requires-clause-counted g c).After-swap_remove-released in
    λ tenant below. charge_most w.number w.records _ _ _ _ found _ _ _ _
    g.met.S.SlotWords.numbered c.self.invariant tenant below

pub invariant_of-self : goal.invariant_of-self
invariant_of-self g c =
    let w = g.S.SlotWords in
    let found = c.in_ok-found.found in
    let left = swap_remove c.self.inside.segments.items found c.swap_remove-released.result in
    let gone = here g (goal.at.invariant_of-self g c).After-swap_remove-released in
    let small = g.met.S.SlotWords.numbered in
    let table = c.self.inside.table.value in
    let moved = c.in-Some.moved.now in
    let lookup = c.in-Some.ensures.lookup in
    let there : slice_get left found ≡ Some moved =
    subst (λ (xs : List (Kept g.row.S.Denot)). slice_get xs found ≡ Some moved)
    (c.deref.ensures.value ∙ c.swap_remove-released.ensures.items)
    (slice_get-get_or c.deref.result.now found moved lookup.3.0 ∙ ap Some (sym lookup.1)) in
    rw (
      c.deref_mut-in-Some.ensures.value,
      c.deref_mut.ensures.value,
      c.number.ensures,
      c.swap_remove-released.ensures.capacity,
      c.swap_remove-released.ensures.items,
    ) (right_left w.number w.records _ _ _ _ gone table _ _ _ small c.self.invariant
    c.remove_pages.new.queues c.remove_pages.ensures.removed c.remove_pages.ensures.queues
    c.lower_charges.new.charges c.lower_charges.ensures.all c.lower_charges.ensures.each
    (slice_set (slice_set table c.args.segment None) (w.number moved.slots) (Some found))
    (tabled_moved w.number w.records _ _ _ _ gone table _ _ _ small c.self.invariant moved there))

pub invariant_of-self-in_default : goal.invariant_of-self-in_default
invariant_of-self-in_default g c =
    let w = g.S.SlotWords in
    let found = c.in_ok-found.found in
    let gone = here g (goal.at.invariant_of-self-in_default g c).After-swap_remove-released in
    let small = g.met.S.SlotWords.numbered in
    let table = c.self.inside.table.value in
    let past : length (swap_remove c.self.inside.segments.items found
    c.swap_remove-released.result) ≤ found =
    omega (
      arith,
      c.in_default.ensures.lookup.3,
      ap length c.deref.ensures.value,
      ap length c.swap_remove-released.ensures.items,
    ) in
    rw (
      c.deref_mut.ensures.value,
      c.swap_remove-released.ensures.capacity,
      c.swap_remove-released.ensures.items,
    ) (right_left w.number w.records _ _ _ _ gone table _ _ _ small c.self.invariant
    c.remove_pages.new.queues c.remove_pages.ensures.removed c.remove_pages.ensures.queues
    c.lower_charges.new.charges c.lower_charges.ensures.all c.lower_charges.ensures.each
    (slice_set table c.args.segment None)
    (tabled_last w.number w.records _ _ _ _ gone table _ _ _ small c.self.invariant past))

pub returns-clause-released : goal.returns-clause-released
returns-clause-released g c =
    let gone = here g (goal.at.returns-clause-released g c).After-swap_remove-released in
    rw (← c.self.view_is) (sym (found_is g.S.SlotWords.number _ _ _ _ gone))

pub returns-clause-number : goal.returns-clause-number
returns-clause-number g c = number_is g.S.SlotWords.number _ _ _ _
    (here g (goal.at.returns-clause-number g c).After-swap_remove-released)

pub returns-clause-arena : goal.returns-clause-arena
returns-clause-arena g c =
    let gone = here g (goal.at.returns-clause-arena g c).After-swap_remove-released in
    c.self.invariant.arenas _ (Contains-get _ c.in_ok-found.found _ gone.at)

-- what is left
after : (g : Over) (c : Joined-get g) → c.match-get.self.segments
    ≡ swap_remove c.self.inside.segments.items c.in_ok-found.found c.swap_remove-released.result
after g c = (elim c.match-get.branch [
  | in-Some b ↦ ap (λ (h : Held g.row.S.Denot). h.segments) b.self-is
  | in_default b ↦ ap (λ (h : Held g.row.S.Denot). h.segments) b.self-is
]) ∙ c.swap_remove-released.ensures.items

pub returns-clause-segments : goal.returns-clause-segments
returns-clause-segments g c =
    let at = goal.at.returns-clause-segments g c in
    rw (← c.self.view_is) (after g at.Joined-get
    ∙ without_is g.S.SlotWords.number g.S.SlotWords.records _ _ _ _
    (here g at.After-swap_remove-released))

pub returns-clause-gone : goal.returns-clause-gone
returns-clause-gone g c =
    let at = goal.at.returns-clause-gone g c in
    ap (λ (xs : List (Kept g.row.S.Denot)). is_held g.S.SlotWords.number xs c.args.segment)
    (after g at.Joined-get)
    ∙ ap is_some (gone g.S.SlotWords.number _ _ _ _ (here g at.After-swap_remove-released)
    c.self.invariant.tabled.once)

pub returns-clause-others : goal.returns-clause-others
returns-clause-others g c =
    let at = goal.at.returns-clause-others g c in
    λ other ne. rw (← c.self.view_is)
    (ap (λ (xs : List (Kept g.row.S.Denot)). segment_in g.S.SlotWords.number xs other)
    (after g at.Joined-get)
    ∙ others g.S.SlotWords.number _ _ _ _ (here g at.After-swap_remove-released)
    c.self.invariant.tabled.once other ne)

pub returns-clause-rest : goal.returns-clause-rest
returns-clause-rest g c =
    let at = goal.at.returns-clause-rest g c in
    rw (← c.self.view_is, after g at.Joined-get)
    (permuted g.S.SlotWords.number _ _ _ _ (here g at.After-swap_remove-released)
    c.self.invariant.tabled.once)
