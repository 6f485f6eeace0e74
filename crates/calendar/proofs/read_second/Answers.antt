use Rattle.basis.proofs.Std.{sym, ap, ◌∙◌, take}
use Rattle.std.specs.Cmp.Lexicographic.{same_text, other_text}
use Rattle.calendar.specs.Text.{second_text, last_second}
use Rattle.calendar.proofs.Answers.{too_large, this, another}
use Rattle.calendar.proofs.Reading.{guess_second, second_part}
use Rattle.calendar.proofs.read_second.Goals as goal

pub returns-then-guess-gt253402300799 : goal.returns-then-guess-gt253402300799
returns-then-guess-gt253402300799 c =
    let h = c.args.h.now in
    let only = guess_second h c.clock_said.result c.day_of.result c.clock_said.ensures.0 (rw c.date_said.ensures at c.day_of.ensures.0) in
    too_large second_text last_second h _ only c.if-guess-gt253402300799.true

pub returns-then-eq : goal.returns-then-eq
returns-then-eq c =
    let h = c.args.h.now in
    this second_text last_second h _ c.if-guess-gt253402300799.false (same_text _ _ c.if-eq.ensures ∙ ap (take 19) c.second_text-t.ensures ∙ second_part _ 0)

pub returns-else-eq : goal.returns-else-eq
returns-else-eq c =
    let h = c.args.h.now in
    let only = guess_second h c.clock_said.result c.day_of.result c.clock_said.ensures.0 (rw c.date_said.ensures at c.day_of.ensures.0) in
    another second_text last_second h _ only (λ e. other_text _ _ c.if-eq.ensures (e ∙ sym (ap (take 19) c.second_text-t.ensures ∙ second_part _ 0)))
