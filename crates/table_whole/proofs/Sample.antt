-- The smallest tables with a row of each kind are read: one component, one alarm, one status, and in edition 2 one command.
-- Assumes nothing.
use Rattle.basis.proofs.Std.{◌≡◌, refl, List, [], ◌∷◌, ◌++◌, ℕ, pos, negsuc, text}
use Rattle.label.specs.Reading.{read_at}
use Rattle.table_item.specs.Item.{is_item}
use Rattle.table_row.specs.Head.{good_counts, good_first, good_second, first_head, second_head, head_of}
use Rattle.table_row.specs.Rows.{good_alarm, good_status, good_range, alarm_at, status_at, with_range, command_at, labels_to, items_to}
use Rattle.table_whole.specs.declared.Verdict.TheVariants.{Accepted}
use Rattle.table_whole.specs.Table.{Row, Table}
use Rattle.table_whole.specs.Bytes.{table_head, table_bytes}
use Rattle.table_whole.specs.Memory.{memory_of}
use Rattle.table_whole.specs.Reading.{site_at, sxl_at, components_at, alarms_at, statuses_at, commands_at, laid_out, own_names, is_whole, read_table}

abbrev sample_with : List Row → Table
sample_with commands =
    record {
      site = text "B1";
      sxl = text "1.0";
      components = text "boom" ∷ [];
      alarms = record { component = 0; priority = 2; category = 1; code = text "A1"; name = []; lowest = pos 0; highest = pos 0 } ∷ [];
      statuses = record { component = 0; priority = 0; category = 0; code = text "S1"; name = text "open"; lowest = pos 0; highest = pos 0 } ∷ [];
      commands = commands;
    }

-- from -2 to 500
abbrev moved : Row
moved = record { component = 0; priority = 0; category = 0; code = text "M1"; name = text "to"; lowest = negsuc 1; highest = pos 500 }

-- behind the head
abbrev part_bytes : List ℕ
part_bytes =
    2 ∷ 0x42 ∷ 0x31 ∷ 3 ∷ 0x31 ∷ 0x2E ∷ 0x30 ∷ 4 ∷ 0x62 ∷ 0x6F ∷ 0x6F ∷ 0x6D
    ∷ 0x14 ∷ 2 ∷ 0x41 ∷ 0x31
    ∷ 0x00 ∷ 2 ∷ 0x53 ∷ 0x31 ∷ 4 ∷ 0x6F ∷ 0x70 ∷ 0x65 ∷ 0x6E ∷ []

abbrev sample_bytes : List ℕ
sample_bytes = (0x11 ∷ 0x04 ∷ 0x10 ∷ []) ++ part_bytes

abbrev second_bytes : List ℕ
second_bytes = (0x21 ∷ 0x04 ∷ 0x10 ∷ 0x80 ∷ []) ++ (part_bytes ++ (0x00 ∷ 2 ∷ 0x4D ∷ 0x31 ∷ 2 ∷ 0x74 ∷ 0x6F ∷ 0xFF ∷ 0xFE ∷ 0x01 ∷ 0xF4 ∷ []))

pub sample_bytes_lem : table_bytes 1 (sample_with []) ≡ sample_bytes
unfolding table_bytes table_head
sample_bytes_lem = refl

pub second_bytes_lem : table_bytes 2 (sample_with (moved ∷ [])) ≡ second_bytes
unfolding table_bytes table_head
second_bytes_lem = refl

pub sample_read : read_table sample_bytes ≡ record { table = memory_of (sample_with []); verdict = Accepted }
unfolding read_table laid_out site_at sxl_at components_at alarms_at statuses_at commands_at own_names head_of first_head good_first good_counts labels_to items_to read_at alarm_at good_alarm status_at good_status is_item is_whole
sample_read = refl

pub second_read : read_table second_bytes ≡ record { table = memory_of (sample_with (moved ∷ [])); verdict = Accepted }
unfolding read_table laid_out site_at sxl_at components_at alarms_at statuses_at commands_at own_names head_of first_head second_head good_first good_second good_counts labels_to items_to read_at alarm_at good_alarm status_at good_status command_at with_range good_range is_item is_whole
second_read = refl
