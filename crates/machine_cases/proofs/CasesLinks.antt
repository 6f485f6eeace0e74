-- The claims of specs/CasesLinks, computed.
-- Assumes nothing.
use Rattle.basis.proofs.Std.{refl}
use Rattle.entry.specs.Flags.{alarm_flags, status_flags}
use Rattle.entry.specs.Layout.{bytes_of}
use Rattle.json_character.specs.Char.{hex_of, hex4_of, unicode_of, escape_of, two_of, in_three, three_of, in_four, four_of, raw_of, char_of}
use Rattle.json_text.specs.Decoded.{read_chars, decoded}
use Rattle.json_number.specs.Machine.{apart, read_num, read_number}
use Rattle.json_value.specs.Reader.{skip_ws, literal, read_scalar, read_name, read_start, read_mark, read_entry, read_items, read_inside, read_value}
use Rattle.json_packet.specs.Names.{no_twice, all_once, once}
use Rattle.json_packet.specs.Packet.{is_packet, meaning_of}
use Rattle.identity.specs.Hex.{hex_digit, lower_hex}
use Rattle.identity.specs.Text.{identity_text}
use Rattle.number.specs.Decimal.{digits, digits_below, decimal_of}
use Rattle.calendar.specs.Days.{leap_of, years, months, day_of}
use Rattle.calendar.specs.Civil.{year_from, month_from, date_of}
use Rattle.calendar.specs.Text.{second_text, milli_text, time_text}
use Rattle.calendar.specs.Read.{read_second, read_decimals, read_rest, read_time}
use Rattle.machine.specs.Json.{version_in}
use Rattle.machine.specs.Life.{close, carried_by, due_up, due}
use Rattle.machine.specs.Answers.{is_ignored, needs, reasons}
use Rattle.machine.specs.Items.{happens, subscribe, unsubscribe, intervals, becomes, commands, aggregates}
use Rattle.machine.specs.Pool.{lose, lose_of, make_room, issue}
use Rattle.machine.specs.Effects.{connects, closes, ticks, sends, answers, answered, refuses, carried_out, replying, receives, effect_of}
use Rattle.machine.specs.Step.{conditions, step}
use Rattle.machine.specs.Readings.{reading}
use Rattle.machine_cases.specs.CasesLinks.{Links, LinkLives}

pub links_hold : Links
unfolding hex_of hex4_of unicode_of escape_of two_of in_three three_of in_four four_of raw_of char_of read_chars decoded skip_ws literal read_scalar read_name read_start read_mark read_entry read_items read_inside read_value no_twice all_once once is_packet meaning_of hex_digit lower_hex identity_text digits digits_below decimal_of leap_of years months day_of year_from month_from date_of second_text milli_text time_text read_second read_decimals read_rest read_time apart read_num read_number alarm_flags status_flags bytes_of version_in close carried_by due_up due is_ignored needs reasons happens subscribe unsubscribe intervals becomes commands aggregates lose lose_of make_room issue connects closes ticks sends answers answered refuses carried_out replying receives effect_of conditions step reading
links_hold =
    record {
      no_such_link = refl;
      down = refl;
      eight = refl;
      nine = refl;
      nine_replied = refl;
      not_replied = refl;
      sends = refl;
      settles = refl;
      closes = refl;
      replies = refl;
      not_told = refl;
      no_hint = refl;
      none_told = refl;
      primaries = refl;
    }

pub link_lives_hold : LinkLives
unfolding hex_of hex4_of unicode_of escape_of two_of in_three three_of in_four four_of raw_of char_of read_chars decoded skip_ws literal read_scalar read_name read_start read_mark read_entry read_items read_inside read_value no_twice all_once once is_packet meaning_of hex_digit lower_hex identity_text digits digits_below decimal_of leap_of years months day_of year_from month_from date_of second_text milli_text time_text read_second read_decimals read_rest read_time apart read_num read_number alarm_flags status_flags bytes_of version_in close carried_by due_up due is_ignored needs reasons happens subscribe unsubscribe intervals becomes commands aggregates lose lose_of make_room issue connects closes ticks sends answers answered refuses carried_out replying receives effect_of conditions step reading
link_lives_hold =
    record {
      connects = refl;
      disconnects = refl;
      accepts = refl;
      acknowledged = refl;
      beaten = refl;
      subscribes = refl;
      replaced = refl;
      ended = refl;
      alarms = refl;
      carried = refl;
      carried_on = refl;
    }
