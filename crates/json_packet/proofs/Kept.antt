-- The claims about packets are kept.
-- Assumes nothing.
use Rattle.basis.proofs.Std.{◌≡◌, sym, ◌∙◌, false, false≢true, List, ℕ}
use Rattle.json_value.specs.Grammar.{Json}
use Rattle.json_packet.specs.Packet.{Packet, is_packet}
use Rattle.json_packet.specs.Claims.{Claims}
use Rattle.json_packet.proofs.Once as Once
use Rattle.json_packet.proofs.Whole as Whole

pub refused : {s : List ℕ} {j : Json} → is_packet s ≡ false → Packet s j → ⊥
refused e p = false≢true (sym e ∙ (Whole.complete p).0)

pub kept : Claims
kept =
    record {
      sound = Whole.sound;
      complete = Whole.complete;
      refused = refused;
      meaning_once = Whole.meaning_once;
      means = Whole.means;
      once = Once.sound;
      passes = Once.complete;
    }
