-- `sitec::inputs::rsmp_lent_aggregated` meets its contract.
-- Assumes nothing.
use Rattle.sitec.proofs.Laws.{misfits, calls}
use Rattle.sitec.proofs.inputs.rsmp_lent_aggregated.Goals as goal

pub returns-then-p-ne-POOL_WORDS : goal.returns-then-p-ne-POOL_WORDS
returns-then-p-ne-POOL_WORDS c = λ t. misfits (λ f. c.if-p-ne-POOL_WORDS.true f.0) c.misfit.ensures

pub returns-then-w-ne-WORDS : goal.returns-then-w-ne-WORDS
returns-then-w-ne-WORDS c = λ t. misfits (λ f. c.if-w-ne-WORDS.true f.1) c.misfit-then-w-ne-WORDS.ensures

pub returns : goal.returns
returns c = λ t. calls (c.if-p-ne-POOL_WORDS.false, c.if-w-ne-WORDS.false) c.aggregated.auto.p c.aggregated.auto.w (c.aggregated.ensures t) c.outcome_of.ensures
