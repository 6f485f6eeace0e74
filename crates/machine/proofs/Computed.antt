-- The claims of specs/Computed, computed.
-- Assumes nothing.
use lib.Pow.{shr-shr}
use Rattle.basis.proofs.Std.{ℕ, ◌/◌, ◌%◌, ◌^◌, ◌<◌, ◌≡◌, refl, ap, ◌∙◌, List, [], ◌∷◌, ◌++◌, take, get_or, replicate, arith}
use Rattle.bits.specs.Fields.{joined, split}
use Rattle.bits.proofs.Fields.{before as first_fields, split_append}
use Rattle.entry.specs.Flags.{alarm_flags, status_flags}
use Rattle.entry.specs.Layout.{bytes_of}
use Rattle.json_character.specs.Char.{raw_of, char_of}
use Rattle.json_text.specs.Decoded.{read_chars, decoded}
use Rattle.json_number.specs.Machine.{apart, read_num, read_number}
use Rattle.json_value.specs.Reader.{skip_ws, literal, read_scalar, read_name, read_start, read_mark, read_entry, read_items, read_inside, read_value}
use Rattle.json_packet.specs.Names.{no_twice, all_once, once}
use Rattle.json_packet.specs.Packet.{is_packet, meaning_of}
use Rattle.identity.specs.Hex.{hex_digit, lower_hex}
use Rattle.identity.specs.Text.{identity_text}
use Rattle.number.specs.Decimal.{digits, digits_below, decimal_of}
use Rattle.calendar.specs.Days.{leap_of, years, months, day_of}
use Rattle.calendar.specs.Civil.{year_from, month_from, date_of}
use Rattle.calendar.specs.Text.{second_text, milli_text, time_text}
use Rattle.calendar.specs.Read.{read_second, read_decimals, read_rest, read_time}
use Rattle.machine.specs.Json.{version_in}
use Rattle.machine.specs.Life.{close, carried_by, due_up, due}
use Rattle.machine.specs.Answers.{is_ignored, needs, reasons}
use Rattle.machine.specs.Items.{happens, subscribe, unsubscribe, intervals, becomes, commands, aggregates}
use Rattle.machine.specs.Pool.{lose, lose_of, make_room, issue}
use Rattle.machine.specs.Effects.{connects, closes, ticks, sends, answers, answered, refuses, carried_out, replying, receives, effect_of}
use Rattle.machine.specs.Step.{conditions, step}
use Rattle.machine.specs.Computed.{both_full, alarm_bytes, table, EachComputes, Marked, Conversation}

each : EachComputes table
unfolding leap_of year_from month_from date_of second_text milli_text time_text alarm_flags status_flags bytes_of both_full lose lose_of make_room issue digits digits_below version_in
each = (refl, (refl, (refl, (refl, (refl, (refl, (refl, (refl, (refl, (refl, (refl, (refl, (refl, (refl, (refl, (refl, tt))))))))))))))))

-- what stands behind the first sixteen bits: the last flag, time 48, value 32, sequence 31
abbrev behind_flags : List ℕ
behind_flags = 1 ∷ 48 ∷ 32 ∷ 31 ∷ []

-- the first sixteen bits, and these behind them
abbrev whole : ℕ → ℕ → ℕ
whole time sequence = joined 0x62 behind_flags (0 ∷ time ∷ 0 ∷ sequence ∷ [])

bytes_are : (time sequence : ℕ) → alarm_bytes time sequence ≡ split (replicate 2 8 ++ replicate 14 8) (whole time sequence)
unfolding alarm_flags bytes_of
bytes_are time sequence = refl

begins : (time sequence : ℕ) → take 2 (alarm_bytes time sequence) ≡ 0x00 ∷ 0x62 ∷ []
begins time sequence =
    ap (take 2) (bytes_are time sequence ∙ split_append (replicate 2 8) (replicate 14 8) (whole time sequence))
    ∙ ap (split (replicate 2 8)) (first_fields behind_flags (0 ∷ time ∷ 0 ∷ sequence ∷ []) refl 0x62)

next_bit : (time sequence : ℕ) → get_or (alarm_bytes time sequence) 2 0 < 128
unfolding alarm_flags bytes_of
next_bit time sequence =
    let n = whole time sequence in
    let e : n / 2 ^ 104 / 2 ^ 7 ≡ 0xC4 = shr-shr n 104 7 ∙ first_fields (48 ∷ 32 ∷ 31 ∷ []) (time ∷ 0 ∷ sequence ∷ []) refl 0xC4 in
    low (n / 2 ^ 104) e
  where
    low : (x : ℕ) → x / 2 ^ 7 ≡ 0xC4 → x % 2 ^ 8 < 128
    low x e = omega (arith, e)

pub marked : Marked
marked = record { all = each; begins = begins; next_bit = next_bit }

pub conversation : Conversation
unfolding raw_of char_of read_chars decoded skip_ws literal read_scalar read_name read_start read_mark read_entry read_items read_inside read_value no_twice all_once once is_packet meaning_of hex_digit lower_hex identity_text digits digits_below decimal_of leap_of years months day_of year_from month_from date_of second_text milli_text time_text read_second read_decimals read_rest read_time apart read_num read_number version_in close carried_by due_up due is_ignored needs reasons happens subscribe unsubscribe intervals becomes commands aggregates lose lose_of make_room issue connects closes ticks sends answers answered refuses carried_out replying receives effect_of conditions step
conversation =
    record {
      greets = refl;
      comes_up = refl;
      decimals_told = refl;
      alarm_told = refl;
      alarm_settled = refl;
      numbers = refl;
      last_numbers = refl;
      suspends = refl;
      requested = refl;
      awaited_long = refl;
      statuses_told = refl;
      commands_handed = refl;
      commands_kept = refl;
      old_issued = refl;
      older_chosen = refl;
      latest_chosen = refl;
      older_told = refl;
      newer_told = refl;
      middle_told = refl;
      older_issued = refl;
      older_kept = refl;
      newer_kept = refl;
      free_place = refl;
      most_loses = refl;
    }
