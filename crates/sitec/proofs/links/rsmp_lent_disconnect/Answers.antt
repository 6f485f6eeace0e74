-- `sitec::links::rsmp_lent_disconnect` meets its contract.
-- Assumes nothing.
use Rattle.sitec.proofs.Laws.{misfits, calls}
use Rattle.sitec.proofs.links.rsmp_lent_disconnect.Goals as goal

pub returns-then-p-ne-POOL_WORDS : goal.returns-then-p-ne-POOL_WORDS
returns-then-p-ne-POOL_WORDS c = λ t. misfits (λ f. c.if-p-ne-POOL_WORDS.true f.0) c.misfit.ensures

pub returns-then-w-ne-WORDS : goal.returns-then-w-ne-WORDS
returns-then-w-ne-WORDS c = λ t. misfits (λ f. c.if-w-ne-WORDS.true f.1) c.misfit-then-w-ne-WORDS.ensures

pub returns : goal.returns
returns c = λ t. calls (c.if-p-ne-POOL_WORDS.false, c.if-w-ne-WORDS.false) c.disconnect.auto.p c.disconnect.auto.w (c.disconnect.ensures t) c.outcome_of.ensures
