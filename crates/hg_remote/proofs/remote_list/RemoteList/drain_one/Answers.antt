use Rattle.std.proofs.Common.{◌≡◌, ◌∙◌, sym, true, false, arith, refl}
use Rattle.hg_remote.proofs.Calls.{none_left, some_left, taken_behind, taken_first, begins_below, drains_by, inserts_by}
use Rattle.hg_remote.proofs.remote_list.RemoteList.drain_one.Goals as goal

pub returns-in_err-first-clause-none : goal.returns-in_err-first-clause-none
returns-in_err-first-clause-none c = rw c.from_residual.ensures ((λ _. none_left c.self.inside.lists _ _ c.self.invariant c.self.view_is c.in_err-first.ensures.first), (λ _. refl))

pub parts_of-page-requires : goal.parts_of-page-requires
parts_of-page-requires c = begins_below c.self.inside.lists _ _ _ c.self.invariant c.in_ok-first.ensures.first

pub thread_free-requires : goal.thread_free-requires
thread_free-requires c = omega (arith, c.parts_of-page.ensures.page, begins_below c.self.inside.lists _ _ _ c.self.invariant c.in_ok-first.ensures.first)

pub front-requires-2 : goal.front-requires-2
front-requires-2 c = omega (arith, c.self.invariant.keys, c.thread_free.ensures, c.parts_of-page.ensures.page, begins_below c.self.inside.lists _ _ _ c.self.invariant c.in_ok-first.ensures.first)

pub remove-requires : goal.remove-requires
remove-requires c = omega (arith, c.self.invariant.entries, begins_below c.self.inside.lists _ _ _ c.self.invariant c.in-Some.ensures.first)

pub parts_of-requires : goal.parts_of-requires
parts_of-requires c = begins_below c.self.inside.lists _ _ _ c.self.invariant c.in-Some.ensures.first

pub invariant_of-self : goal.invariant_of-self
invariant_of-self c = (taken_behind _ _ _ _ _ _ _ c.self.invariant c.in_ok-first.ensures.first c.parts_of-page.ensures.page c.thread_free.ensures c.in-Some.ensures.first c.remove.ensures.removed c.remove.ensures.apart).kept

pub returns-in-Some-clause-none : goal.returns-in-Some-clause-none
returns-in-Some-clause-none c = ((λ f. absurd (let t : false ≡ true = sym f in cc)), (λ none. absurd (some_left c.self.inside.lists _ _ _ c.self.invariant c.self.view_is c.in_ok-first.ensures.first none)))

pub returns-in-Some-clause-page : goal.returns-in-Some-clause-page
returns-in-Some-clause-page c = omega (arith, c.parts_of.ensures.page, begins_below c.self.inside.lists _ _ _ c.self.invariant c.in-Some.ensures.first)

pub returns-in-Some-clause-drained : goal.returns-in-Some-clause-drained
returns-in-Some-clause-drained c =
    drains_by c.self.inside.lists _ _ _ _ _ _ c.self.view_is c.parts_of.ensures.page c.parts_of.ensures.index
    (taken_behind _ _ _ _ _ _ _ c.self.invariant c.in_ok-first.ensures.first c.parts_of-page.ensures.page c.thread_free.ensures c.in-Some.ensures.first c.remove.ensures.removed c.remove.ensures.apart)

pub returns-in-Some-clause-removed : goal.returns-in-Some-clause-removed
returns-in-Some-clause-removed c =
    inserts_by c.self.inside.lists _ _ _ _ _ _ c.self.view_is c.parts_of.ensures.page c.parts_of.ensures.index
    (taken_behind _ _ _ _ _ _ _ c.self.invariant c.in_ok-first.ensures.first c.parts_of-page.ensures.page c.thread_free.ensures c.in-Some.ensures.first c.remove.ensures.removed c.remove.ensures.apart)

pub returns-in-Some-clause-right : goal.returns-in-Some-clause-right
returns-in-Some-clause-right c = (taken_behind _ _ _ _ _ _ _ c.self.invariant c.in_ok-first.ensures.first c.parts_of-page.ensures.page c.thread_free.ensures c.in-Some.ensures.first c.remove.ensures.removed c.remove.ensures.apart).drained.right

pub remove-requires-2 : goal.remove-requires-2
remove-requires-2 c = omega (arith, c.self.invariant.entries, begins_below c.self.inside.lists _ _ _ c.self.invariant c.in_ok-first.ensures.first)

pub bounds-self-inside-page : goal.bounds-self-inside-page
bounds-self-inside-page c = omega (arith, c.parts_of-page.ensures.page, begins_below c.self.inside.lists _ _ _ c.self.invariant c.in_ok-first.ensures.first)

pub invariant_of-self-2 : goal.invariant_of-self-2
invariant_of-self-2 c = (taken_first _ _ _ _ _ _ c.self.invariant c.in_ok-first.ensures.first c.parts_of-page.ensures.page c.thread_free.ensures (sym c.in_default.is ∙ c.front-2.ensures.first) c.remove-2.ensures.removed c.remove-2.ensures.apart).kept

pub returns-clause-none : goal.returns-clause-none
returns-clause-none c = ((λ f. absurd (let t : false ≡ true = sym f in cc)), (λ none. absurd (some_left c.self.inside.lists _ _ _ c.self.invariant c.self.view_is c.in_ok-first.ensures.first none)))

pub returns-clause-page : goal.returns-clause-page
returns-clause-page c = omega (arith, c.parts_of-page.ensures.page, begins_below c.self.inside.lists _ _ _ c.self.invariant c.in_ok-first.ensures.first)

pub returns-clause-drained : goal.returns-clause-drained
returns-clause-drained c =
    drains_by c.self.inside.lists _ _ _ _ _ _ c.self.view_is c.parts_of-page.ensures.page c.parts_of-page.ensures.index
    (taken_first _ _ _ _ _ _ c.self.invariant c.in_ok-first.ensures.first c.parts_of-page.ensures.page c.thread_free.ensures (sym c.in_default.is ∙ c.front-2.ensures.first) c.remove-2.ensures.removed c.remove-2.ensures.apart)

pub returns-clause-removed : goal.returns-clause-removed
returns-clause-removed c =
    inserts_by c.self.inside.lists _ _ _ _ _ _ c.self.view_is c.parts_of-page.ensures.page c.parts_of-page.ensures.index
    (taken_first _ _ _ _ _ _ c.self.invariant c.in_ok-first.ensures.first c.parts_of-page.ensures.page c.thread_free.ensures (sym c.in_default.is ∙ c.front-2.ensures.first) c.remove-2.ensures.removed c.remove-2.ensures.apart)

pub returns-clause-right : goal.returns-clause-right
returns-clause-right c = (taken_first _ _ _ _ _ _ c.self.invariant c.in_ok-first.ensures.first c.parts_of-page.ensures.page c.thread_free.ensures (sym c.in_default.is ∙ c.front-2.ensures.first) c.remove-2.ensures.removed c.remove-2.ensures.apart).drained.right
