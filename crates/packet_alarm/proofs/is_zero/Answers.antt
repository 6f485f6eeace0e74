use Rattle.packet_alarm.proofs.is_zero.Goals as goal

pub returns-in-Is : goal.returns-in-Is
returns-in-Is c = rw c.in-Is.is
