use Rattle.hg_state.proofs.after.answer_next.Goals as goal

-- what was written is dropped
pub returns-in-Ok-clause-told : goal.returns-in-Ok-clause-told
returns-in-Ok-clause-told c = λ names labels meant numbered.
    let (text, answered, told, wrote) = c.in-Ok.ensures.told names labels meant numbered in (text, answered, told)
