use Rattle.output.specs.Put.{put}
use Rattle.calendar.specs.Text.{second_text, milli_text, time_text}
use Rattle.calendar.proofs.time_text.Goals as goal

pub returns : goal.returns
unfolding put time_text second_text milli_text
returns c = rw (c.put_digits.ensures, c.second_text-t.ensures)
