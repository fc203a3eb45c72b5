use Rattle.hg_remote.proofs.Calls.{has_iff, place_new, told_yes, told_not, pushed_behind, pushed_first}
use Rattle.hg_remote.proofs.remote_list.RemoteList.push.Goals as goal

pub returns-then-has-clause-twice : goal.returns-then-has-clause-twice
returns-then-has-clause-twice c = told_yes _ _ (has_iff c.self.inside.lists _ _ _ _ _ c.self.view_is c.slot-place.ensures c.has.ensures.there) c.if-has.true

pub invariant_of-self : goal.invariant_of-self
invariant_of-self c =
    let n = place_new c.self.inside.lists _ _ _ _ c.slot-place.ensures c.has.ensures.there c.if-has.false c.requires.page c.requires.index in
    (pushed_behind _ _ _ _ _ _ _ c.self.invariant n c.if-self-page.true c.thread_free.ensures c.slot-place.ensures c.push_front.ensures.pushed c.push_front.ensures.apart).kept

pub returns-then-self-page-clause-twice : goal.returns-then-self-page-clause-twice
returns-then-self-page-clause-twice c = told_not _ _ (has_iff c.self.inside.lists _ _ _ _ _ c.self.view_is c.slot-place.ensures c.has.ensures.there) c.if-has.false

pub returns-then-self-page-clause-added : goal.returns-then-self-page-clause-added
returns-then-self-page-clause-added c =
    let n = place_new c.self.inside.lists _ _ _ _ c.slot-place.ensures c.has.ensures.there c.if-has.false c.requires.page c.requires.index in
    rw (← c.self.view_is) (pushed_behind _ _ _ _ _ _ _ c.self.invariant n c.if-self-page.true c.thread_free.ensures c.slot-place.ensures c.push_front.ensures.pushed c.push_front.ensures.apart).put.added

pub returns-then-self-page-clause-right : goal.returns-then-self-page-clause-right
returns-then-self-page-clause-right c =
    let n = place_new c.self.inside.lists _ _ _ _ c.slot-place.ensures c.has.ensures.there c.if-has.false c.requires.page c.requires.index in
    (pushed_behind _ _ _ _ _ _ _ c.self.invariant n c.if-self-page.true c.thread_free.ensures c.slot-place.ensures c.push_front.ensures.pushed c.push_front.ensures.apart).put.right

pub invariant_of-self-2 : goal.invariant_of-self-2
invariant_of-self-2 c =
    let n = place_new c.self.inside.lists _ _ _ _ c.slot-place.ensures c.has.ensures.there c.if-has.false c.requires.page c.requires.index in
    (pushed_first _ _ _ _ _ _ c.self.invariant n c.if-self-page.false c.slot-place.ensures c.push_front-2.ensures.pushed c.push_front-2.ensures.apart).kept

pub returns-clause-twice : goal.returns-clause-twice
returns-clause-twice c = told_not _ _ (has_iff c.self.inside.lists _ _ _ _ _ c.self.view_is c.slot-place.ensures c.has.ensures.there) c.if-has.false

pub returns-clause-right : goal.returns-clause-right
returns-clause-right c =
    let n = place_new c.self.inside.lists _ _ _ _ c.slot-place.ensures c.has.ensures.there c.if-has.false c.requires.page c.requires.index in
    (pushed_first _ _ _ _ _ _ c.self.invariant n c.if-self-page.false c.slot-place.ensures c.push_front-2.ensures.pushed c.push_front-2.ensures.apart).put.right
