use Rattle.std.proofs.lemmas.Iterator.{YieldsList-from_slice}
use Rattle.std.proofs.lemmas.Iterator.Search.{any_from_yields_List}
use Rattle.basis.proofs.Std.{◌∙◌, tests, rules}
use Rattle.awaited.proofs.Back.{some_is}
use Rattle.awaited.specs.Awaited.{late_of}
use Rattle.awaited.specs.Slot.{is_late}
use Rattle.awaited.proofs.Awaited.late.Goals as goal

pub returns : goal.returns
unfolding late_of
returns c = any_from_yields_List (is_late c.args.time) _ _ _ c.any.ensures.ran (YieldsList-from_slice c.args.self.slots cc) (λ x b q k. search (rules, tests)) ∙ some_is (is_late c.args.time) c.args.self.slots
