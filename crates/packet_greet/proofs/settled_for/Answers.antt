-- `packet_greet::settled_for` meets its contract.
-- Assumes nothing.
use Rattle.basis.proofs.Std.{refl}
use Rattle.packet_greet.proofs.Answers.{settles_it}
use Rattle.packet_greet.proofs.settled_for.Goals as goal

pub returns-in-Version : goal.returns-in-Version
returns-in-Version c = rw c.in-Version.is (record { site = λ t. refl; plain = λ p. p })

pub returns-in-Watchdog : goal.returns-in-Watchdog
returns-in-Watchdog c = rw c.in-Watchdog.is (record { site = λ t. refl; plain = λ p. p })

pub returns-in-Entry : goal.returns-in-Entry
returns-in-Entry c = rw c.in-Entry.is (settles_it c.args.l _ c.args.w.now c.owner.ensures c.settle.ensures)

pub returns-in-Other : goal.returns-in-Other
returns-in-Other c = rw c.in-Other.is (record { site = λ t. refl; plain = λ p. p })
