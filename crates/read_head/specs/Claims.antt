-- What is claimed of packets without lists: the code's answers are those that the packet's meaning gives. proofs/Kept.antt proves it.
-- Assumes nothing.
use Rattle.std.specs.Prelude.{◌≡◌, false, List, ℕ}
use Rattle.json_value.specs.Grammar.{Json}
use Rattle.json_packet.specs.Packet.{Packet, is_packet}
use Rattle.read_head.specs.Head.{head_in, head_at, ignored}
use Rattle.read_head.specs.Small.{watchdog_in, watchdog_at, aggregated_in, aggregated_at, alarm_in, alarm_at}

pub record Claims : Type 0 where
  pub head : {s : List ℕ} {j : Json} → Packet s j → head_at s ≡ head_in j
  pub no_packet : (s : List ℕ) → ((j : Json) → Packet s j → ⊥) → head_at s ≡ ignored
  pub watchdog : {s : List ℕ} {j : Json} → Packet s j → watchdog_at s ≡ watchdog_in j
  pub aggregated : {s : List ℕ} {j : Json} → Packet s j → aggregated_at s ≡ aggregated_in j
  pub alarm : {s : List ℕ} {j : Json} → Packet s j → alarm_at s ≡ alarm_in j
