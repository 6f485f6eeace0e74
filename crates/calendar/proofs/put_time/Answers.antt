use Rattle.calendar.proofs.Writing.{wrote, too_late}
use Rattle.calendar.proofs.put_time.Goals as goal

pub returns-then-ms-gt-LAST_TIME : goal.returns-then-ms-gt-LAST_TIME
returns-then-ms-gt-LAST_TIME c = too_late c.if-ms-gt-LAST_TIME.true

pub returns : goal.returns
returns c = wrote c.if-ms-gt-LAST_TIME.false (rw (← c.time_text-t.ensures) c.put_bytes.ensures)
