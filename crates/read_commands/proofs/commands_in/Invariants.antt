use Rattle.basis.proofs.Std.{◌≡◌, ◌-◌, length, drop}
use Rattle.json_find.specs.Entries.{entries, entries_at}
use Rattle.read_head.specs.declared.Verdict.TheVariants.{Good}
use Rattle.read_lists.specs.Items.{items_at}
use Rattle.read_lists.specs.Gather.{gather}
use Rattle.read_commands.specs.Command.{push_command, command_of_item, no_commands}
use Rattle.read_commands.proofs.commands_in.Given as goal

abbrev pub invariant-loop-count : goal.invariant-loop-count
invariant-loop-count l = gather (λ y x. push_command y (command_of_item x)) (record { verdict = l.verdict; count = l.count; entries = l.entries }) (items_at (entries 0x5d (drop l.i l.s))) ≡ gather (λ y x. push_command y (command_of_item x)) (no_commands Good) (items_at (entries_at 0x5b 0x5d (drop l.at l.s)))

abbrev pub decreases-loop-count : goal.decreases-loop-count
decreases-loop-count l = length l.s - l.i
