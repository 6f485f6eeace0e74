use Rattle.output.specs.Put.{put}
use Rattle.calendar.proofs.date_text.Goals as goal

pub returns : goal.returns
unfolding put
returns c = rw (c.put_digits.ensures, c.put_digits-t-2.ensures, c.put_digits-t.ensures)
