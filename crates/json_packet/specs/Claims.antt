-- What is claimed of packets. proofs/Kept.antt proves it.
-- Assumes nothing.
use Rattle.std.specs.Prelude.{ℕ, ◌≡◌, true, false, List}
use Rattle.json_value.specs.Grammar.{Json}
use Rattle.json_value.specs.Answers.{Skipped}
use Rattle.json_value.specs.Means.{Means}
use Rattle.json_packet.specs.Names.{no_twice}
use Rattle.json_packet.specs.Once.{NoNameTwice}
use Rattle.json_packet.specs.Packet.{Packet, is_packet, meaning_of}

pub record Claims : Type 0 where
  -- exactly the packets are accepted
  pub sound : (s : List ℕ) → is_packet s ≡ true → Packet s (meaning_of s)
  pub complete : {s : List ℕ} {j : Json} → Packet s j → (is_packet s ≡ true) × (meaning_of s ≡ j)
  pub refused : {s : List ℕ} {j : Json} → is_packet s ≡ false → Packet s j → ⊥
  -- a packet has one meaning
  pub meaning_once : {s : List ℕ} {j k : Json} → Packet s j → Packet s k → j ≡ k
  -- and the place after its first white space means that
  pub means : {s : List ℕ} {i : ℕ} → is_packet s ≡ true → Skipped s 0 i → Means s i (meaning_of s)
  -- and exactly the values without a name twice in an object pass
  pub once : (j : Json) → no_twice j ≡ true → NoNameTwice j
  pub passes : (j : Json) → NoNameTwice j → no_twice j ≡ true
