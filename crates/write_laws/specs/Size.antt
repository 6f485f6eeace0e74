-- How long the bytes of a well-formed message can be, its form feed included.
-- Assumes nothing.
use Rattle.std.specs.Prelude.{ℕ, ◌+◌, ◌*◌, List, [], ◌∷◌, length}
use Rattle.write_message.specs.declared.Told.{Told}
use Rattle.write_message.specs.declared.Told.TheVariants.{Response, Update, Command}
use Rattle.write_message.specs.Message.{Message, Status}
use Rattle.write_message.specs.Message.Message.{version, watchdog, ack, not_ack, alarm, aggregated, statuses, included}

-- without entries
abbrev pub most_around : Told → ℕ
most_around Response = 191
most_around Update = 189
most_around Command = 193

-- .. with AckIncluded, and oMId for mId
abbrev pub most_around_included : Told → ℕ
most_around_included kind = 12 + most_around kind

-- an entry; a comma stands before each but the first
abbrev pub most_entry : Told → ℕ
most_entry Response = 112
most_entry Update = 112
most_entry Command = 114

abbrev pub most_entries : Told → List Status → ℕ
most_entries kind [] = 0
most_entries kind (s ∷ ss) = most_entry kind + (1 + most_entry kind) * length ss

abbrev pub most : Message → ℕ
most (version id site sxl) = 233
most (watchdog id time) = 114
most (ack received) = 84
most (not_ack received reason) = 113
most (alarm id component code s) = 348
most (aggregated id component time value) = 257
most (statuses kind id component time entries) = most_around kind + most_entries kind entries
most (included kind received component time entries) = most_around_included kind + most_entries kind entries

-- how many entries it has
abbrev pub entries_in : Message → ℕ
entries_in (version id site sxl) = 0
entries_in (watchdog id time) = 0
entries_in (ack received) = 0
entries_in (not_ack received reason) = 0
entries_in (alarm id component code s) = 0
entries_in (aggregated id component time value) = 0
entries_in (statuses kind id component time entries) = length entries
entries_in (included kind received component time entries) = length entries
