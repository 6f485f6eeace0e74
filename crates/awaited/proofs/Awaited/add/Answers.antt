use Rattle.basis.proofs.Std.{sym, ◌∙◌, set_out}
use Rattle.awaited.proofs.Back.{change_set, position_here, position_none}
use Rattle.awaited.specs.Awaited.{add_of}
use Rattle.awaited.specs.Slot.{is_free}
use Rattle.awaited.proofs.Awaited.add.Goals as goal

pub returns-in-Some : goal.returns-in-Some
unfolding add_of
returns-in-Some c = rw (change_set is_free _ _, c.taken_by.ensures, (position_here is_free c.args.self.slots _ (sym c.free_place.ensures ∙ c.in-Some.is)).0)

pub returns-in_default : goal.returns-in_default
unfolding add_of
returns-in_default c = rw (change_set is_free _ _, set_out _ _ _ (position_none is_free c.args.self.slots (sym c.free_place.ensures ∙ c.in_default.is)))
