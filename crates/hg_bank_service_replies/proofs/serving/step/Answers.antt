use Rattle.std.proofs.Common.{Some}
use Rattle.hg_bank_service_replies.proofs.serving.step.Goals as goal

pub returns-in-Alloc : goal.returns-in-Alloc
returns-in-Alloc c = rw c.in-Alloc.is record { result = c.alloc.result; told = c.alloc_reply.ensures; does = c.alloc.ensures }

pub returns-in-Free : goal.returns-in-Free
returns-in-Free c = rw c.in-Free.is record { answer = Some c.free.result; told = c.reply_of.ensures; does = c.free.ensures }

pub returns-in-Deliver : goal.returns-in-Deliver
returns-in-Deliver c = rw c.in-Deliver.is record { answer = c.deliver.result; told = c.told.ensures; does = c.deliver.ensures }

pub returns-in-Take : goal.returns-in-Take
returns-in-Take c = rw c.in-Take.is record { answer = c.take.result; told = c.told-in-Take.ensures; does = c.take.ensures }

pub returns-in-Collect : goal.returns-in-Collect
returns-in-Collect c = rw c.in-Collect.is record { answer = Some c.collect.result; told = c.reply_of-in-Collect.ensures; does = c.collect.ensures }

pub returns-in-Read : goal.returns-in-Read
returns-in-Read c = rw c.in-Read.is record { answer = Some c.read.result; told = c.reply_of-in-Read.ensures; does = c.read.ensures }

pub returns-in-Write : goal.returns-in-Write
returns-in-Write c = rw c.in-Write.is record { answer = Some c.write.result; told = c.reply_of-in-Write.ensures; does = c.write.ensures }

pub returns-in-Look : goal.returns-in-Look
returns-in-Look c = rw c.in-Look.is record { answer = Some c.look.result; told = c.reply_of-in-Look.ensures; does = c.look.ensures }

pub returns-in-Abandon : goal.returns-in-Abandon
returns-in-Abandon c = rw c.in-Abandon.is record { answer = c.abandon.result; told = c.told-in-Abandon.ensures; does = c.abandon.ensures }

pub returns-in-Refill : goal.returns-in-Refill
returns-in-Refill c = rw c.in-Refill.is record { result = c.refill.result; told = c.refill_told.ensures; does = c.refill.ensures }
