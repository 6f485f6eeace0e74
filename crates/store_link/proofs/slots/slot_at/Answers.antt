-- `store_link::slots::slot_at` meets its contract.
-- Assumes nothing.
use Rattle.store_link.proofs.slots.slot_at.Goals as goal

pub returns : goal.returns
returns c = cc
