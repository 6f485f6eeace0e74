use Rattle.basis.proofs.Std.{sym, ◌∙◌}
use Rattle.awaited.proofs.Back.{position_none}
use Rattle.awaited.proofs.Search.{find_at, find_none}
use Rattle.awaited.specs.Awaited.{find_of}
use Rattle.awaited.specs.Slot.{awaits_for}
use Rattle.awaited.proofs.Awaited.find.Goals as goal

pub returns-in-Some : goal.returns-in-Some
unfolding find_of
returns-in-Some c = rw c.sent_for.ensures (sym (find_at c.args.id _ _ _ (sym c.place_of.ensures ∙ c.in-Some.is)))

pub returns-in-None : goal.returns-in-None
unfolding find_of
returns-in-None c = sym (find_none c.args.id _ (position_none (awaits_for c.args.id) _ (sym c.place_of.ensures ∙ c.in-None.is)))
