-- `sitec::starting::rsmp_lent_start` meets its contract.
-- Assumes nothing.
use Rattle.sitec.proofs.Laws.{start_misfits, begins}
use Rattle.sitec.proofs.starting.rsmp_lent_start.Goals as goal

pub returns-then-p-ne-POOL_WORDS : goal.returns-then-p-ne-POOL_WORDS
returns-then-p-ne-POOL_WORDS c = start_misfits (λ f. c.if-p-ne-POOL_WORDS.true f.0) c.misfit.ensures

pub returns-then-w-ne-WORDS : goal.returns-then-w-ne-WORDS
returns-then-w-ne-WORDS c = start_misfits (λ f. c.if-w-ne-WORDS.true f.1) c.misfit-then-w-ne-WORDS.ensures

pub returns-then-t-ne-BYTES : goal.returns-then-t-ne-BYTES
returns-then-t-ne-BYTES c = start_misfits (λ f. c.if-t-ne-BYTES.true f.2) c.misfit-then-t-ne-BYTES.ensures

pub returns : goal.returns
returns c = begins (c.if-p-ne-POOL_WORDS.false, c.if-w-ne-WORDS.false, c.if-t-ne-BYTES.false) c.start.auto.p c.start.auto.w c.start.auto.t c.start.ensures c.outcome_of.ensures
