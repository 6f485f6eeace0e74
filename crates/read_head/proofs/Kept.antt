-- The claims about packets without lists are kept.
-- Assumes nothing.
use Rattle.basis.proofs.Std.{◌≡◌, refl, ap, ◌∙◌, Bool, true, false, List, ℕ, arith, pick}
use Rattle.json_value.specs.Grammar.{Json}
use Rattle.json_value.specs.Reader.{skip_ws}
use Rattle.json_value.proofs.Complete as Complete
use Rattle.json_packet.specs.Packet.{Packet, packet, is_packet, meaning_of}
use Rattle.json_packet.proofs.Kept as Packets
use Rattle.read_head.specs.Word.{word_in, word_at}
use Rattle.read_head.specs.Head.{head_by, head_in, head_at, ignored}
use Rattle.read_head.specs.Small.{watchdog_by, watchdog_in, watchdog_at, aggregated_by, aggregated_in, aggregated_at, alarm_by, alarm_in, alarm_at}
use Rattle.read_head.specs.Claims.{Claims}
use Rattle.read_head.proofs.Found.{words_agree}

-- the words of a packet are those of its meaning
pub words : {s : List ℕ} {j : Json} → Packet s j → word_at (skip_ws s) ≡ word_in j
words (packet {s} {u} w v x n) = ap word_at (Complete.skip w (Complete.solid u (Complete.begins v))) ∙ words_agree (omega arith) v

pub head : {s : List ℕ} {j : Json} → Packet s j → head_at s ≡ head_in j
unfolding head_at head_in
head p = rw ((Packets.kept).complete p).0 (ap head_by (words p))

no_packet : (s : List ℕ) → ((j : Json) → Packet s j → ⊥) → head_at s ≡ ignored
unfolding head_at
no_packet s f = by (is_packet s) refl
  where
    by : (b : Bool) → is_packet s ≡ b → pick b (head_by (word_at (skip_ws s))) ignored ≡ ignored
    by true e = absurd (f (meaning_of s) ((Packets.kept).sound s e))
    by false e = refl

watchdog : {s : List ℕ} {j : Json} → Packet s j → watchdog_at s ≡ watchdog_in j
unfolding watchdog_at watchdog_in
watchdog p = ap watchdog_by (words p)

aggregated : {s : List ℕ} {j : Json} → Packet s j → aggregated_at s ≡ aggregated_in j
unfolding aggregated_at aggregated_in
aggregated p = ap aggregated_by (words p)

alarm : {s : List ℕ} {j : Json} → Packet s j → alarm_at s ≡ alarm_in j
unfolding alarm_at alarm_in
alarm p = ap alarm_by (words p)

pub kept : Claims
kept = record { head = head; no_packet = no_packet; watchdog = watchdog; aggregated = aggregated; alarm = alarm }
