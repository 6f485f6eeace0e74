-- `json_sure::note` meets its contract.
-- Assumes nothing.
use Rattle.basis.proofs.Std.{◌∙◌, ap, arith, rules}
use Rattle.json_sure.specs.Sure.{all_of}
use Rattle.json_sure.proofs.Notes.{notes_new}
use Rattle.json_sure.proofs.note.Goals as goal

pub returns : goal.returns
returns c =
    notes_new c.args.marks.now c.args.t c.args.m c.args.value (search rules) (omega arith) (omega arith) _ (c.all-2.ensures ∙ ap (all_of c.args.t.sure c.args.value) c.is_new-new.ensures)
