use Rattle.basis.proofs.Std.{◌≡◌, ap, ◌∙◌, ◌-◌, arith}
use Rattle.json_find.specs.Entries.{entries}
use Rattle.json_find.proofs.Walks.{step_on, step_in}
use Rattle.read_head.specs.declared.Verdict.{Verdict}
use Rattle.read_head.specs.declared.Verdict.TheVariants.{Bad}
use Rattle.read_head.specs.Values.{worst}
use Rattle.read_commands.specs.declared.CommandList.{CommandList}
use Rattle.read_commands.specs.Command.{push_command, command_of_item}
use Rattle.read_lists.proofs.Walk.{none_in, some_in, last_item, more_items}
use Rattle.read_commands.proofs.Pushes.{command_taken_lem, command_left}
use Rattle.read_commands.proofs.commands_in.Goals as goal
use Rattle.read_commands.proofs.commands_in.Goals.{then-count-lt16, else-count-lt16}

pub returns-in_default : goal.returns-in_default
returns-in_default c = rw c.no_command-entries.ensures (none_in (λ l x. push_command l (command_of_item x)) _ _ _ (rw c.in_default.is at c.inside-p.ensures))

pub loop-count-init : goal.loop-count-init
loop-count-init c = rw c.no_command-entries.ensures (some_in (λ l x. push_command l (command_of_item x)) _ _ _ _ (rw c.in-End.is at c.inside-p.ensures))

pub returns-in-Bad : goal.returns-in-Bad
returns-in-Bad c =
    let l = c.loop-count in
    let pushed : ◌≡◌ {A = CommandList} (record { verdict = c.if-count-lt16.verdict; count = c.if-count-lt16.count; entries = c.if-count-lt16.entries }) (push_command (record { verdict = l.verdict; count = l.count; entries = l.entries }) c.command_entry-t.result.got) =
    elim c.if-count-lt16.branch [
      | then-count-lt16 w ↦ command_taken_lem _ _ _ _ w.if-count-lt16.true (w.verdict-is ∙ c.worst-verdict.ensures) w.count-is w.entries-is
      | else-count-lt16 w ↦ command_left _ _ _ _ w.if-count-lt16.false (w.verdict-is ∙ w.worst-verdict-else-count-lt16.ensures ∙ ap (λ (a : Verdict). worst a Bad) c.worst-verdict.ensures) w.count-is w.entries-is
    ] in
    last_item (λ l x. push_command l (command_of_item x)) _ _ _ (pushed ∙ ap (push_command (record { verdict = l.verdict; count = l.count; entries = l.entries })) c.command_entry-t.ensures.here) (rw c.in-Bad.is at c.command_entry-t.ensures.on) ∙ l.invariant

pub loop-count-smaller : goal.loop-count-smaller
loop-count-smaller c =
    let x = rw c.in-End-m.is at c.command_entry-t.ensures.on in
    omega (arith, step_on _ _ 0x5d _ x, step_in _ _ 0x5d _ x)

pub loop-count-preserved : goal.loop-count-preserved
loop-count-preserved c =
    let l = c.loop-count in
    let pushed : ◌≡◌ {A = CommandList} (record { verdict = c.if-count-lt16.verdict; count = c.if-count-lt16.count; entries = c.if-count-lt16.entries }) (push_command (record { verdict = l.verdict; count = l.count; entries = l.entries }) c.command_entry-t.result.got) =
    elim c.if-count-lt16.branch [
      | then-count-lt16 w ↦ command_taken_lem _ _ _ _ w.if-count-lt16.true (w.verdict-is ∙ c.worst-verdict.ensures) w.count-is w.entries-is
      | else-count-lt16 w ↦ command_left _ _ _ _ w.if-count-lt16.false (w.verdict-is ∙ w.worst-verdict-else-count-lt16.ensures ∙ ap (λ (a : Verdict). worst a Bad) c.worst-verdict.ensures) w.count-is w.entries-is
    ] in
    more_items (λ l x. push_command l (command_of_item x)) _ _ _ (pushed ∙ ap (push_command (record { verdict = l.verdict; count = l.count; entries = l.entries })) c.command_entry-t.ensures.here) _ (rw c.in-End-m.is at c.command_entry-t.ensures.on) ∙ l.invariant
