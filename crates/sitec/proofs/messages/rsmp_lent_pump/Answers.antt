-- `sitec::messages::rsmp_lent_pump` meets its contract.
-- Assumes nothing.
use Rattle.sitec.proofs.Laws.{told_misfits, tells}
use Rattle.sitec.proofs.messages.rsmp_lent_pump.Goals as goal

pub returns-then-p-ne-POOL_WORDS : goal.returns-then-p-ne-POOL_WORDS
returns-then-p-ne-POOL_WORDS c = told_misfits (λ f. c.if-p-ne-POOL_WORDS.true f.0) c.misfit.ensures

pub returns-then-w-ne-WORDS : goal.returns-then-w-ne-WORDS
returns-then-w-ne-WORDS c = told_misfits (λ f. c.if-w-ne-WORDS.true f.1) c.misfit-then-w-ne-WORDS.ensures

pub returns-then-t-ne-BYTES : goal.returns-then-t-ne-BYTES
returns-then-t-ne-BYTES c = told_misfits (λ f. c.if-t-ne-BYTES.true f.2) c.misfit-then-t-ne-BYTES.ensures

pub returns : goal.returns
returns c = tells (c.if-p-ne-POOL_WORDS.false, c.if-w-ne-WORDS.false, c.if-t-ne-BYTES.false) c.pump.auto.p c.pump.auto.w c.pump.ensures c.outcome_of.ensures
