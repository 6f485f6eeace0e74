use Rattle.basis.proofs.Std.{refl}
use Rattle.weekc.proofs.rsmp_week_feed.Goals as goal

pub returns-then-w-ne-WORDS : goal.returns-then-w-ne-WORDS
returns-then-w-ne-WORDS c = record { done = λ e f. absurd (c.if-w-ne-WORDS.true e); refused = λ n. (c.refused.ensures, (refl, refl)) }

pub returns-then-held-ne-HELD : goal.returns-then-held-ne-HELD
returns-then-held-ne-HELD c = record { done = λ e f. absurd (c.if-held-ne-HELD.true f); refused = λ n. (c.refused-then-held-ne-HELD.ensures, (refl, refl)) }

pub returns : goal.returns
returns c = record { done = λ e f. (refl, c.feed.ensures); refused = λ n. absurd (n c.if-w-ne-WORDS.false c.if-held-ne-HELD.false) }
