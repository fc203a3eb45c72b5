use Rattle.std.proofs.Common.{◌∙◌}
use Rattle.hg_core.specs.Answers.{free_answer, deliver_answer, take_answer, abandon_answer}
use Rattle.hg_heap.specs.Answers.{read_answer, done_answer, look_answer}
use Rattle.hg_machine.specs.declared.Answer.TheVariants as Answer
use Rattle.hg_bank.specs.Answers.{bank_alloc_answer, bank_refill_answer}
use Rattle.hg_bank_replies.proofs.ReplyLemmas.{steps_as, alloc_told, refill_told}
use Rattle.hg_bank_replies.proofs.serving.step.Goals as goal

pub returns-in-Alloc : goal.returns-in-Alloc
returns-in-Alloc c =
    steps_as c.args.bank.now c.args.worker c.args.core c.in-Alloc.is (bank_alloc_answer c.alloc.result) c.alloc.ensures.step
    (c.alloc_reply.ensures
    ∙ alloc_told _ c.alloc.result c.alloc.ensures.core) c.alloc.ensures.kept

pub returns-in-Refill : goal.returns-in-Refill
returns-in-Refill c =
    steps_as c.args.bank.now c.args.worker c.args.core c.in-Refill.is (bank_refill_answer c.refill.result) c.refill.ensures.step
    (c.refill_reply.ensures
    ∙ refill_told _ c.refill.result c.refill.ensures.core) c.refill.ensures.kept

pub returns-in-Free : goal.returns-in-Free
returns-in-Free c =
    steps_as c.args.bank.now c.args.worker c.args.core c.in-Free.is (free_answer c.free.result) c.free.ensures.step
    c.free_reply.ensures c.free.ensures.kept

pub returns-in-Deliver : goal.returns-in-Deliver
returns-in-Deliver c =
    steps_as c.args.bank.now c.args.worker c.args.core c.in-Deliver.is (deliver_answer c.deliver.result) c.deliver.ensures.step
    c.deliver_reply.ensures c.deliver.ensures.kept

pub returns-in-Take : goal.returns-in-Take
returns-in-Take c =
    steps_as c.args.bank.now c.args.worker c.args.core c.in-Take.is (take_answer c.take.result) c.take.ensures.step
    c.take_reply.ensures c.take.ensures.kept

pub returns-in-Collect : goal.returns-in-Collect
returns-in-Collect c =
    steps_as c.args.bank.now c.args.worker c.args.core c.in-Collect.is (Answer.Pages c.collect.result) c.collect.ensures.step
    c.reply_of.ensures c.collect.ensures.kept

pub returns-in-Read : goal.returns-in-Read
returns-in-Read c =
    steps_as c.args.bank.now c.args.worker c.args.core c.in-Read.is (read_answer c.read.result) c.read.ensures.step
    c.read_reply.ensures c.read.ensures.kept

pub returns-in-Write : goal.returns-in-Write
returns-in-Write c =
    steps_as c.args.bank.now c.args.worker c.args.core c.in-Write.is (done_answer c.write.result) c.write.ensures.step
    c.write_reply.ensures c.write.ensures.kept

pub returns-in-Look : goal.returns-in-Look
returns-in-Look c =
    steps_as c.args.bank.now c.args.worker c.args.core c.in-Look.is (look_answer c.look.result) c.look.ensures.step
    c.look_reply.ensures c.look.ensures.kept

pub returns-in-Abandon : goal.returns-in-Abandon
returns-in-Abandon c =
    steps_as c.args.bank.now c.args.worker c.args.core c.in-Abandon.is (abandon_answer c.abandon.result) c.abandon.ensures.step
    c.abandon_reply.ensures c.abandon.ensures.kept
