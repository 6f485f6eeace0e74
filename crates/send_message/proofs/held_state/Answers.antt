use Rattle.basis.proofs.Std.{refl}
use Rattle.send_message.proofs.held_state.Goals as goal

pub returns : goal.returns
returns c = rw (c.suspended.ensures, c.active.ensures, c.acknowledged.ensures, c.event.ensures) refl
