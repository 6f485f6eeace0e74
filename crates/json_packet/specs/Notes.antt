-- What judging a packet leaves: whether it is one, and how many places of its object's entries are noted: all of them, or none where there is no
-- room for all.
-- Assumes nothing.
use Rattle.std.specs.Prelude.{ℕ, ◌≤◌, ◌≡◌, true, List, length, take}
use Rattle.json_value.specs.Reader.{skip_ws}
use Rattle.json_find.specs.Entries.{entries_at}
use Rattle.json_find.specs.Index.{Indexed}
use Rattle.json_sure.specs.Lists.{all_or_none}
use Rattle.json_packet.specs.Packet.{is_packet}
use Rattle.json_packet.specs.declared.Judgement.{Judgement}

pub record Notes (s places : List ℕ) (r : Judgement) : Type 0 where
  pub packet : r.packet ≡ is_packet s
  pub within : r.count ≤ length places
  pub indexed : Indexed s (take r.count places)
  pub all : r.packet ≡ true → r.count ≡ all_or_none (length (entries_at 0x7b 0x7d (skip_ws s))) (length places)
