-- The claims of specs/CasesSubscriptions, computed.
-- Assumes nothing.
use Rattle.basis.proofs.Std.{refl}
use Rattle.entry.specs.Flags.{alarm_flags, status_flags}
use Rattle.entry.specs.Layout.{bytes_of}
use Rattle.json_character.specs.Char.{hex_of, hex4_of, unicode_of, escape_of, two_of, in_three, three_of, in_four, four_of, raw_of, char_of}
use Rattle.json_text.specs.Decoded.{read_chars, decoded}
use Rattle.json_number.specs.Machine.{apart, read_num, read_number}
use Rattle.json_value.specs.Reader.{skip_ws, literal, read_scalar, read_name, read_start, read_mark, read_entry, read_items, read_inside, read_value}
use Rattle.json_packet.specs.Names.{no_twice, all_once, once}
use Rattle.json_packet.specs.Packet.{is_packet, meaning_of}
use Rattle.identity.specs.Hex.{hex_digit, lower_hex}
use Rattle.identity.specs.Text.{identity_text}
use Rattle.number.specs.Decimal.{digits, digits_below, decimal_of}
use Rattle.calendar.specs.Days.{leap_of, years, months, day_of}
use Rattle.calendar.specs.Civil.{year_from, month_from, date_of}
use Rattle.calendar.specs.Text.{second_text, milli_text, time_text}
use Rattle.calendar.specs.Read.{read_second, read_decimals, read_rest, read_time}
use Rattle.machine.specs.Json.{version_in}
use Rattle.machine.specs.Life.{close, carried_by, due_up, due}
use Rattle.machine.specs.Answers.{is_ignored, needs, reasons}
use Rattle.machine.specs.Items.{happens, subscribe, unsubscribe, intervals, becomes, commands, aggregates}
use Rattle.machine.specs.Pool.{lose, lose_of, make_room, issue}
use Rattle.machine.specs.Effects.{connects, closes, ticks, sends, answers, answered, refuses, carried_out, replying, receives, effect_of}
use Rattle.machine.specs.Step.{conditions, step}
use Rattle.machine.specs.Readings.{reading}
use Rattle.machine_cases.specs.CasesSubscriptions.{Subscribing, Values, Intervals, Apart, Aggregates}

pub subscribing_hold : Subscribing
unfolding hex_of hex4_of unicode_of escape_of two_of in_three three_of in_four four_of raw_of char_of read_chars decoded skip_ws literal read_scalar read_name read_start read_mark read_entry read_items read_inside read_value no_twice all_once once is_packet meaning_of hex_digit lower_hex identity_text digits digits_below decimal_of leap_of years months day_of year_from month_from date_of second_text milli_text time_text read_second read_decimals read_rest read_time apart read_num read_number alarm_flags status_flags bytes_of version_in close carried_by due_up due is_ignored needs reasons happens subscribe unsubscribe intervals becomes commands aggregates lose lose_of make_room issue connects closes ticks sends answers answered refuses carried_out replying receives effect_of conditions step reading
subscribing_hold =
    record {
      at_once = refl;
      kept = refl;
      a_day = refl;
      replaced = refl;
      by_link_1 = refl;
      told_link_1 = refl;
      ended = refl;
      two_ended = refl;
      two_of_link_0 = refl;
      not_there = refl;
      answers = refl;
      ends_without_record = refl;
    }

pub values_hold : Values
unfolding hex_of hex4_of unicode_of escape_of two_of in_three three_of in_four four_of raw_of char_of read_chars decoded skip_ws literal read_scalar read_name read_start read_mark read_entry read_items read_inside read_value no_twice all_once once is_packet meaning_of hex_digit lower_hex identity_text digits digits_below decimal_of leap_of years months day_of year_from month_from date_of second_text milli_text time_text read_second read_decimals read_rest read_time apart read_num read_number alarm_flags status_flags bytes_of version_in close carried_by due_up due is_ignored needs reasons happens subscribe unsubscribe intervals becomes commands aggregates lose lose_of make_room issue connects closes ticks sends answers answered refuses carried_out replying receives effect_of conditions step reading
values_hold =
    record {
      first_value = refl;
      changed_value = refl;
      from_negative = refl;
      both_negative = refl;
      same_value = refl;
      same_as_another = refl;
      same_negative = refl;
      value_kept = refl;
      unsubscribed = refl;
    }

pub intervals_hold : Intervals
unfolding hex_of hex4_of unicode_of escape_of two_of in_three three_of in_four four_of raw_of char_of read_chars decoded skip_ws literal read_scalar read_name read_start read_mark read_entry read_items read_inside read_value no_twice all_once once is_packet meaning_of hex_digit lower_hex identity_text digits digits_below decimal_of leap_of years months day_of year_from month_from date_of second_text milli_text time_text read_second read_decimals read_rest read_time apart read_num read_number alarm_flags status_flags bytes_of version_in close carried_by due_up due is_ignored needs reasons happens subscribe unsubscribe intervals becomes commands aggregates lose lose_of make_room issue connects closes ticks sends answers answered refuses carried_out replying receives effect_of conditions step reading
intervals_hold =
    record {
      too_soon = refl;
      in_time = refl;
      renewed = refl;
      last_status = refl;
      again = refl;
      never_by_interval = refl;
      not_by_value = refl;
      over_a_break = refl;
      while_beating = refl;
    }

pub apart_hold : Apart
unfolding hex_of hex4_of unicode_of escape_of two_of in_three three_of in_four four_of raw_of char_of read_chars decoded skip_ws literal read_scalar read_name read_start read_mark read_entry read_items read_inside read_value no_twice all_once once is_packet meaning_of hex_digit lower_hex identity_text digits digits_below decimal_of leap_of years months day_of year_from month_from date_of second_text milli_text time_text read_second read_decimals read_rest read_time apart read_num read_number alarm_flags status_flags bytes_of version_in close carried_by due_up due is_ignored needs reasons happens subscribe unsubscribe intervals becomes commands aggregates lose lose_of make_room issue connects closes ticks sends answers answered refuses carried_out replying receives effect_of conditions step reading
apart_hold =
    record {
      by_value = refl;
      by_ending = refl;
      by_closing = refl;
      by_order = refl;
      by_aggregated = refl;
      by_tick = refl;
    }

pub aggregates_hold : Aggregates
unfolding hex_of hex4_of unicode_of escape_of two_of in_three three_of in_four four_of raw_of char_of read_chars decoded skip_ws literal read_scalar read_name read_start read_mark read_entry read_items read_inside read_value no_twice all_once once is_packet meaning_of hex_digit lower_hex identity_text digits digits_below decimal_of leap_of years months day_of year_from month_from date_of second_text milli_text time_text read_second read_decimals read_rest read_time apart read_num read_number alarm_flags status_flags bytes_of version_in close carried_by due_up due is_ignored needs reasons happens subscribe unsubscribe intervals becomes commands aggregates lose lose_of make_room issue connects closes ticks sends answers answered refuses carried_out replying receives effect_of conditions step reading
aggregates_hold =
    record {
      every_link = refl;
      value = refl;
      time = refl;
      unchanged = refl;
    }
