-- The claims are kept.
-- Assumes nothing.
use Rattle.basis.proofs.Std.{refl}
use Rattle.write_message.specs.Claims.{Claims}
use Rattle.write_message.specs.Pieces.{entries_pieces, pieces}
use Rattle.write_message.proofs.Whole.{whole}
use Rattle.write_message.proofs.Entries.{one_more}

pub kept : Claims
unfolding pieces entries_pieces
kept = record { whole = whole; told = λ kind id component time ss. refl; told_included = λ kind received component time ss. refl; no_entry = λ kind. refl; one_more = one_more }
