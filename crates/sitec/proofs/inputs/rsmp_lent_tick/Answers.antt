-- `sitec::inputs::rsmp_lent_tick` meets its contract.
-- Assumes nothing.
use Rattle.sitec.proofs.Laws.{misfits, calls}
use Rattle.sitec.proofs.inputs.rsmp_lent_tick.Goals as goal

pub returns-then-p-ne-POOL_WORDS : goal.returns-then-p-ne-POOL_WORDS
returns-then-p-ne-POOL_WORDS c = λ t. misfits (λ f. c.if-p-ne-POOL_WORDS.true f.0) c.misfit.ensures

pub returns-then-w-ne-WORDS : goal.returns-then-w-ne-WORDS
returns-then-w-ne-WORDS c = λ t. misfits (λ f. c.if-w-ne-WORDS.true f.1) c.misfit-then-w-ne-WORDS.ensures

pub returns : goal.returns
returns c = λ t. calls (c.if-p-ne-POOL_WORDS.false, c.if-w-ne-WORDS.false) c.tick.auto.p c.tick.auto.w (c.tick.ensures t) c.outcome_of.ensures
