use Rattle.state_bytes.proofs.Places.{ran_read, ran_write, ran_copy, ran_recall, ran_lock, ran_nothing}
use Rattle.state_bytes.proofs.ran_at.Goals as goal

pub returns-in-Read : goal.returns-in-Read
returns-in-Read c = search ran_read

pub returns-in-Write : goal.returns-in-Write
returns-in-Write c = search ran_write

pub returns-in-Copy : goal.returns-in-Copy
returns-in-Copy c = search ran_copy

pub returns-in-Recall : goal.returns-in-Recall
returns-in-Recall c = search ran_recall

pub returns-in-Lock : goal.returns-in-Lock
returns-in-Lock c = search ran_lock

pub returns-in-Nothing : goal.returns-in-Nothing
returns-in-Nothing c = search ran_nothing
