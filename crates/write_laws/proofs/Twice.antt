-- No name stands twice in the listing of a message.
-- Assumes nothing.
use Rattle.basis.proofs.Std.{◌≡◌, refl, true, List, [], ◌∷◌}
use Rattle.json_packet.specs.Names.{no_twice, all_once, once}
use Rattle.write_message.specs.declared.Value.{Value}
use Rattle.write_message.specs.declared.Value.TheVariants.{Recent, Old, Unknown, Undefined}
use Rattle.write_message.specs.declared.Told.{Told}
use Rattle.write_message.specs.declared.Told.TheVariants.{Response, Update, Command}
use Rattle.write_message.specs.Message.{Message, Status}
use Rattle.write_message.specs.Message.Message.{version, watchdog, ack, not_ack, alarm, aggregated, statuses, included}
use Rattle.write_message.specs.Listing.{json_of, value_json, status_json, statuses_json}

value_once : (v : Value) → no_twice (value_json v) ≡ true
unfolding no_twice all_once once
value_once (Recent v) = refl
value_once (Old v) = refl
value_once Unknown = refl
value_once Undefined = refl

status_once : (kind : Told) (s : Status) → no_twice (status_json kind s) ≡ true
unfolding no_twice all_once once
status_once Response s = rw (value_once s.value)
status_once Update s = rw (value_once s.value)
status_once Command s = rw (value_once s.value)

statuses_once : (kind : Told) (ss : List Status) → all_once (statuses_json kind ss) ≡ true
unfolding no_twice all_once once
statuses_once kind [] = refl
statuses_once kind (s ∷ ss) = rw (status_once kind s, statuses_once kind ss)

pub no_name_twice : (m : Message) → no_twice (json_of m) ≡ true
unfolding no_twice all_once once
no_name_twice (version id site sxl) = refl
no_name_twice (watchdog id time) = refl
no_name_twice (ack received) = refl
no_name_twice (not_ack received reason) = refl
no_name_twice (alarm id component code s) = refl
no_name_twice (aggregated id component time value) = refl
no_name_twice (statuses Response id component time entries) = rw (statuses_once Response entries)
no_name_twice (statuses Update id component time entries) = rw (statuses_once Update entries)
no_name_twice (statuses Command id component time entries) = rw (statuses_once Command entries)
no_name_twice (included Response received component time entries) = rw (statuses_once Response entries)
no_name_twice (included Update received component time entries) = rw (statuses_once Update entries)
no_name_twice (included Command received component time entries) = rw (statuses_once Command entries)
