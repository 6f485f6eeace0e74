use Rattle.std.specs.List.{count_by}
use Rattle.std.proofs.iter.runs.Made.{chains}
use Rattle.basis.proofs.Std.{◌≡◌, ◌∙◌, sym, tests}
use Rattle.awaited.proofs.Back.{count_is}
use Rattle.awaited.specs.Awaited.{how_many_of}
use Rattle.awaited.specs.Slot.{is_taken}
use Rattle.awaited.proofs.Awaited.how_many.Goals as goal

pub returns : goal.returns
unfolding how_many_of is_taken
returns c =
    let e : c.count.result ≡ count_by is_taken c.args.self.slots = search (tests, chains) in
    e ∙ sym (count_is is_taken c.args.self.slots)
