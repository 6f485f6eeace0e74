-- The claims are kept.
-- Assumes nothing.
use Rattle.basis.proofs.Std.{◌≡◌, sym, ap, subst, ◌∙◌, true, List, [], ℕ}
use Rattle.json_value.specs.Grammar.{Json, Members, Value}
use Rattle.json_value.specs.Grammar.Ws.{none as no_space}
use Rattle.json_value.specs.Means.{depth}
use Rattle.json_packet.specs.Packet.{Packet}
use Rattle.json_packet.specs.Packet.Packet.{packet}
use Rattle.json_packet.specs.Names.{no_twice}
use Rattle.json_packet.proofs.Whole.{meaning_once}
use Rattle.json_write.specs.Text.{text_of}
use Rattle.json_write.proofs.Meaning.{means}
use Rattle.write_message.specs.Message.{Message}
use Rattle.write_message.specs.Message.Message.{version, watchdog, ack, not_ack, alarm, aggregated, statuses, included}
use Rattle.write_message.specs.Listing.{json_of}
use Rattle.write_laws.specs.Formed.{Formed}
use Rattle.write_laws.specs.Fields.{fields_of}
use Rattle.write_laws.specs.Claims.{Claims}
use Rattle.write_laws.proofs.Messages.{plain_message}
use Rattle.write_laws.proofs.Twice.{no_name_twice}
use Rattle.write_laws.proofs.Back.{back}
use Rattle.write_laws.proofs.Sizes.{long, room}
use Rattle.write_laws.proofs.Spelled.{spelled}

one_packet : {ms : Members} → Value depth (text_of (Json.obj ms)) [] (Json.obj ms) → no_twice (Json.obj ms) ≡ true → Packet (text_of (Json.obj ms)) (Json.obj ms)
one_packet v n = packet no_space v no_space n

said : (m : Message) → Formed m → Packet (text_of (json_of m)) (json_of m)
said (version id site sxl) f = one_packet (means [] (plain_message _ f)) (no_name_twice (version id site sxl))
said (watchdog id time) f = one_packet (means [] (plain_message _ f)) (no_name_twice (watchdog id time))
said (ack received) f = one_packet (means [] (plain_message _ f)) (no_name_twice (ack received))
said (not_ack received reason) f = one_packet (means [] (plain_message _ f)) (no_name_twice (not_ack received reason))
said (alarm id component code s) f = one_packet (means [] (plain_message _ f)) (no_name_twice (alarm id component code s))
said (aggregated id component time value) f = one_packet (means [] (plain_message _ f)) (no_name_twice (aggregated id component time value))
said (statuses kind id component time entries) f = one_packet (means [] (plain_message _ f)) (no_name_twice (statuses kind id component time entries))
said (included kind received component time entries) f = one_packet (means [] (plain_message _ f)) (no_name_twice (included kind received component time entries))

once : (m n : Message) → Formed m → Formed n → text_of (json_of m) ≡ text_of (json_of n) → m ≡ n
once m n f g e =
    sym (back m f)
    ∙ ap fields_of (meaning_once (said m f) (subst (λ (s : List ℕ). Packet s (json_of n)) (sym e) (said n g)))
    ∙ back n g

pub kept : Claims
kept = record { packet = said; back = back; once = once; spelled = spelled; long = long; room = room }
