use Rattle.send_after.proofs.message_out.Goals as goal

pub returns-in-Held : goal.returns-in-Held
returns-in-Held c = rw c.in-Held.is c.entry_out.ensures

pub returns-in-NoRecord : goal.returns-in-NoRecord
returns-in-NoRecord c = rw c.in-NoRecord.is c.other_out.ensures
