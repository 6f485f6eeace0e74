use Rattle.basis.proofs.Std.{refl}
use Rattle.weekc.proofs.rsmp_week_report.Goals as goal

pub returns-then-w-ne-WORDS : goal.returns-then-w-ne-WORDS
returns-then-w-ne-WORDS c = record { done = λ e. absurd (c.if-w-ne-WORDS.true e); refused = λ n. (refl, refl) }

pub returns : goal.returns
returns c = record { done = λ e. (c.report-n.ensures, c.room.ensures); refused = λ n. absurd (n c.if-w-ne-WORDS.false) }
