-- What is claimed of the written messages. proofs/Kept.antt proves it.
-- Assumes nothing.
use Rattle.std.specs.Prelude.{ℕ, ◌≤◌, ◌≡◌, List, ◌++◌, length}
use Rattle.json_packet.specs.Packet.{Packet}
use Rattle.json_write.specs.Text.{text_of}
use Rattle.write_message.specs.Message.{Message}
use Rattle.write_message.specs.Message.Message.{ack}
use Rattle.write_message.specs.Listing.{json_of, bytes_of}
use Rattle.write_laws.specs.Formed.{Formed, Received}
use Rattle.write_laws.specs.Fields.{fields_of}
use Rattle.write_laws.specs.Size.{most, entries_in}
use Rattle.write_laws.specs.Spelled.{Spelled}

pub record Claims : Type 0 where
  -- the text of a well-formed message is one packet, which means its listing
  pub packet : (m : Message) → Formed m → Packet (text_of (json_of m)) (json_of m)
  -- its fields are read back from that meaning
  pub back : (m : Message) → Formed m → fields_of (json_of m) ≡ m
  -- equal texts mean equal messages
  pub once : (m n : Message) → Formed m → Formed n → text_of (json_of m) ≡ text_of (json_of n) → m ≡ n
  -- its bytes, by an example of each type
  pub spelled : Spelled
  -- how long it can be, its form feed included
  pub long : (m : Message) → Formed m → length (bytes_of m) ≤ most m
  -- an acknowledgement and any message of at most 16 entries have room in 4,096 bytes
  pub room : (received : List ℕ) (m : Message) → Received received → Formed m → entries_in m ≤ 16 → length (bytes_of (ack received) ++ bytes_of m) ≤ 4096
