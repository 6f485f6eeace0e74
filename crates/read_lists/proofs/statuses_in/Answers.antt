use Rattle.basis.proofs.Std.{◌≡◌, ap, ◌∙◌, ◌-◌, arith}
use Rattle.json_find.specs.Entries.{entries}
use Rattle.json_find.proofs.Walks.{step_on, step_in}
use Rattle.read_head.specs.declared.Verdict.{Verdict}
use Rattle.read_head.specs.declared.Verdict.TheVariants.{Bad}
use Rattle.read_head.specs.Values.{worst}
use Rattle.read_lists.specs.declared.StatusList.{StatusList}
use Rattle.read_lists.specs.Status.{push_entry, entry_of_item}
use Rattle.read_lists.proofs.Walk.{none_in, some_in, last_item, more_items}
use Rattle.read_lists.proofs.Pushes.{entry_taken, entry_left}
use Rattle.read_lists.proofs.statuses_in.Goals as goal
use Rattle.read_lists.proofs.statuses_in.Goals.{then-count-lt16, else-count-lt16}

pub returns-in_default : goal.returns-in_default
returns-in_default c = rw c.no_entry-entries.ensures (none_in (λ l x. push_entry l (entry_of_item c.args.asking x)) _ _ _ (rw c.in_default.is at c.inside-p.ensures))

pub loop-count-init : goal.loop-count-init
loop-count-init c = rw c.no_entry-entries.ensures (some_in (λ l x. push_entry l (entry_of_item c.args.asking x)) _ _ _ _ (rw c.in-End.is at c.inside-p.ensures))

pub returns-in-Bad : goal.returns-in-Bad
returns-in-Bad c =
    let l = c.loop-count in
    let pushed : ◌≡◌ {A = StatusList} (record { verdict = c.if-count-lt16.verdict; count = c.if-count-lt16.count; entries = c.if-count-lt16.entries }) (push_entry (record { verdict = l.verdict; count = l.count; entries = l.entries }) c.status_entry-t.result.got) =
    elim c.if-count-lt16.branch [
      | then-count-lt16 w ↦ entry_taken _ _ _ _ w.if-count-lt16.true (w.verdict-is ∙ c.worst-verdict.ensures) w.count-is w.entries-is
      | else-count-lt16 w ↦ entry_left _ _ _ _ w.if-count-lt16.false (w.verdict-is ∙ w.worst-verdict-else-count-lt16.ensures ∙ ap (λ (a : Verdict). worst a Bad) c.worst-verdict.ensures) w.count-is w.entries-is
    ] in
    last_item (λ l x. push_entry l (entry_of_item c.args.asking x)) _ _ _ (pushed ∙ ap (push_entry (record { verdict = l.verdict; count = l.count; entries = l.entries })) c.status_entry-t.ensures.here) (rw c.in-Bad.is at c.status_entry-t.ensures.on) ∙ l.invariant

pub loop-count-smaller : goal.loop-count-smaller
loop-count-smaller c =
    let x = rw c.in-End-m.is at c.status_entry-t.ensures.on in
    omega (arith, step_on _ _ 0x5d _ x, step_in _ _ 0x5d _ x)

pub loop-count-preserved : goal.loop-count-preserved
loop-count-preserved c =
    let l = c.loop-count in
    let pushed : ◌≡◌ {A = StatusList} (record { verdict = c.if-count-lt16.verdict; count = c.if-count-lt16.count; entries = c.if-count-lt16.entries }) (push_entry (record { verdict = l.verdict; count = l.count; entries = l.entries }) c.status_entry-t.result.got) =
    elim c.if-count-lt16.branch [
      | then-count-lt16 w ↦ entry_taken _ _ _ _ w.if-count-lt16.true (w.verdict-is ∙ c.worst-verdict.ensures) w.count-is w.entries-is
      | else-count-lt16 w ↦ entry_left _ _ _ _ w.if-count-lt16.false (w.verdict-is ∙ w.worst-verdict-else-count-lt16.ensures ∙ ap (λ (a : Verdict). worst a Bad) c.worst-verdict.ensures) w.count-is w.entries-is
    ] in
    more_items (λ l x. push_entry l (entry_of_item c.args.asking x)) _ _ _ (pushed ∙ ap (push_entry (record { verdict = l.verdict; count = l.count; entries = l.entries })) c.status_entry-t.ensures.here) _ (rw c.in-End-m.is at c.status_entry-t.ensures.on) ∙ l.invariant
