use Rattle.output.specs.Put.{put}
use Rattle.calendar.specs.Text.{second_text, milli_text}
use Rattle.calendar.proofs.second_text.Goals as goal

pub returns : goal.returns
unfolding put second_text milli_text
returns c = rw (c.put_digits.ensures, c.put_digits-t-2.ensures, c.put_digits-t.ensures, c.date_text-t.ensures, c.civil.ensures)
