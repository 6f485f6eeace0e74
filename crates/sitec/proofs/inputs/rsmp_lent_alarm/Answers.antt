-- `sitec::inputs::rsmp_lent_alarm` meets its contract.
-- Assumes nothing.
use Rattle.sitec.proofs.Laws.{misfits, calls}
use Rattle.sitec.proofs.inputs.rsmp_lent_alarm.Goals as goal

pub returns-then-p-ne-POOL_WORDS : goal.returns-then-p-ne-POOL_WORDS
returns-then-p-ne-POOL_WORDS c = misfits (λ f. c.if-p-ne-POOL_WORDS.true f.0) c.misfit.ensures

pub returns-then-w-ne-WORDS : goal.returns-then-w-ne-WORDS
returns-then-w-ne-WORDS c = misfits (λ f. c.if-w-ne-WORDS.true f.1) c.misfit-then-w-ne-WORDS.ensures

pub returns-then-t-ne-BYTES : goal.returns-then-t-ne-BYTES
returns-then-t-ne-BYTES c = misfits (λ f. c.if-t-ne-BYTES.true f.2) c.misfit-then-t-ne-BYTES.ensures

pub returns : goal.returns
returns c = calls (c.if-p-ne-POOL_WORDS.false, c.if-w-ne-WORDS.false, c.if-t-ne-BYTES.false) c.alarm.auto.p c.alarm.auto.w c.alarm.ensures c.outcome_of.ensures
