-- `sitec::readings::rsmp_lent_lost` meets its contract.
-- Assumes nothing.
use Rattle.basis.proofs.Std.{refl}
use Rattle.sitec.proofs.Laws.{reads, unread}
use Rattle.sitec.proofs.readings.rsmp_lent_lost.Goals as goal

pub returns-then-p-ne-POOL_WORDS : goal.returns-then-p-ne-POOL_WORDS
returns-then-p-ne-POOL_WORDS c = unread (λ f. c.if-p-ne-POOL_WORDS.true f.0) refl

pub returns-then-w-ne-WORDS : goal.returns-then-w-ne-WORDS
returns-then-w-ne-WORDS c = unread (λ f. c.if-w-ne-WORDS.true f.1) refl

pub returns : goal.returns
returns c = reads (c.if-p-ne-POOL_WORDS.false, c.if-w-ne-WORDS.false) c.lost.ensures
