-- `packet_command::all_commands` meets its contract.
-- Assumes nothing.
use Rattle.std.proofs.lemmas.Iterator.{cases_from_all, YieldsList-from_range}
use Rattle.basis.proofs.Std.{ℕ, ◌≡◌, refl, Bool, true, false, arith, rules}
use borrow.Author.Tests.{tests}
use Rattle.store_table.specs.Layout.{table_of}
use Rattle.packet_lookup.specs.Sought.{command_sought, is_sought}
use Rattle.packet_command.specs.Commanding.{entry_at}
use Rattle.packet_command.proofs.Every.{every}
use Rattle.packet_command.proofs.all_commands.Goals as goal

pub returns : goal.returns
returns c =
    let f : ℕ → Bool = λ i. is_sought (command_sought (table_of c.args.t.now) c.args.component (entry_at c.args.entries i)) in
    every f c.args.count c.all.result
    (cases_from_all _ _ _ (λ i. f i ≡ true) (λ i. f i ≡ false) c.all.ensures.ran (YieldsList-from_range 0 c.args.count c.args.count refl (omega arith)) (λ x q k. search (rules, tests)) (λ x q k. search (rules, tests)))
