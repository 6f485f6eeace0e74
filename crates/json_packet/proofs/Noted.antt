-- The noted places as they are lent: from the first on, as many as were noted.
-- Assumes nothing.
use Rattle.basis.proofs.Std.{ℕ, ◌-◌, List, sub-zero, take}
use Rattle.json_find.specs.Index.{Indexed}
use Rattle.json_packet.specs.declared.Judgement.{Judgement}
use Rattle.json_packet.specs.Notes.{Notes}

pub lent : (s places : List ℕ) (j : Judgement) → Notes s places j → Indexed s (take (j.count - 0) places)
lent s places j n = rw (sub-zero j.count) n.indexed
