-- The claims of specs/CasesLife, computed.
-- Assumes nothing.
use Rattle.basis.proofs.Std.{refl}
use Rattle.entry.specs.Flags.{alarm_flags, status_flags}
use Rattle.entry.specs.Layout.{bytes_of}
use Rattle.json_character.specs.Char.{hex_of, hex4_of, unicode_of, escape_of, two_of, in_three, three_of, in_four, four_of, raw_of, char_of}
use Rattle.json_text.specs.Decoded.{read_chars, decoded}
use Rattle.json_number.specs.Machine.{apart, read_num, read_number}
use Rattle.json_value.specs.Reader.{skip_ws, literal, read_scalar, read_name, read_start, read_mark, read_entry, read_items, read_inside, read_value}
use Rattle.json_packet.specs.Names.{no_twice, all_once, once}
use Rattle.json_packet.specs.Packet.{is_packet, meaning_of}
use Rattle.identity.specs.Hex.{hex_digit, lower_hex}
use Rattle.identity.specs.Text.{identity_text}
use Rattle.number.specs.Decimal.{digits, digits_below, decimal_of}
use Rattle.calendar.specs.Days.{leap_of, years, months, day_of}
use Rattle.calendar.specs.Civil.{year_from, month_from, date_of}
use Rattle.calendar.specs.Text.{second_text, milli_text, time_text}
use Rattle.calendar.specs.Read.{read_second, read_decimals, read_rest, read_time}
use Rattle.machine.specs.Json.{version_in}
use Rattle.machine.specs.Life.{close, carried_by, due_up, due}
use Rattle.machine.specs.Answers.{is_ignored, needs, reasons}
use Rattle.machine.specs.Items.{happens, subscribe, unsubscribe, intervals, becomes, commands, aggregates}
use Rattle.machine.specs.Pool.{lose, lose_of, make_room, issue}
use Rattle.machine.specs.Effects.{connects, closes, ticks, sends, answers, answered, refuses, carried_out, replying, receives, effect_of}
use Rattle.machine.specs.Step.{conditions, step}
use Rattle.machine.specs.Readings.{reading}
use Rattle.machine_cases.specs.CasesLife.{Greetings, Once, Judged, Checks, Closings, Dues, Carried}

pub greetings_hold : Greetings
unfolding hex_of hex4_of unicode_of escape_of two_of in_three three_of in_four four_of raw_of char_of read_chars decoded skip_ws literal read_scalar read_name read_start read_mark read_entry read_items read_inside read_value no_twice all_once once is_packet meaning_of hex_digit lower_hex identity_text digits digits_below decimal_of leap_of years months day_of year_from month_from date_of second_text milli_text time_text read_second read_decimals read_rest read_time apart read_num read_number alarm_flags status_flags bytes_of version_in close carried_by due_up due is_ignored needs reasons happens subscribe unsubscribe intervals becomes commands aggregates lose lose_of make_room issue connects closes ticks sends answers answered refuses carried_out replying receives effect_of conditions step reading
greetings_hold =
    record {
      greets = refl;
      version_sent = refl;
      version_acknowledged = refl;
      watchdog_sent = refl;
      watchdog_acknowledged = refl;
      comes_up = refl;
    }

pub once_hold : Once
unfolding hex_of hex4_of unicode_of escape_of two_of in_three three_of in_four four_of raw_of char_of read_chars decoded skip_ws literal read_scalar read_name read_start read_mark read_entry read_items read_inside read_value no_twice all_once once is_packet meaning_of hex_digit lower_hex identity_text digits digits_below decimal_of leap_of years months day_of year_from month_from date_of second_text milli_text time_text read_second read_decimals read_rest read_time apart read_num read_number alarm_flags status_flags bytes_of version_in close carried_by due_up due is_ignored needs reasons happens subscribe unsubscribe intervals becomes commands aggregates lose lose_of make_room issue connects closes ticks sends answers answered refuses carried_out replying receives effect_of conditions step reading
once_hold =
    record {
      one_each = refl;
      other_order = refl;
    }

pub judged_hold : Judged
unfolding hex_of hex4_of unicode_of escape_of two_of in_three three_of in_four four_of raw_of char_of read_chars decoded skip_ws literal read_scalar read_name read_start read_mark read_entry read_items read_inside read_value no_twice all_once once is_packet meaning_of hex_digit lower_hex identity_text digits digits_below decimal_of leap_of years months day_of year_from month_from date_of second_text milli_text time_text read_second read_decimals read_rest read_time apart read_num read_number alarm_flags status_flags bytes_of version_in close carried_by due_up due is_ignored needs reasons happens subscribe unsubscribe intervals becomes commands aggregates lose lose_of make_room issue connects closes ticks sends answers answered refuses carried_out replying receives effect_of conditions step reading
judged_hold =
    record {
      judged_after = refl;
      later_last = refl;
      later_first = refl;
      earlier_alone = refl;
    }

pub checks_hold : Checks
unfolding hex_of hex4_of unicode_of escape_of two_of in_three three_of in_four four_of raw_of char_of read_chars decoded skip_ws literal read_scalar read_name read_start read_mark read_entry read_items read_inside read_value no_twice all_once once is_packet meaning_of hex_digit lower_hex identity_text digits digits_below decimal_of leap_of years months day_of year_from month_from date_of second_text milli_text time_text read_second read_decimals read_rest read_time apart read_num read_number alarm_flags status_flags bytes_of version_in close carried_by due_up due is_ignored needs reasons happens subscribe unsubscribe intervals becomes commands aggregates lose lose_of make_room issue connects closes ticks sends answers answered refuses carried_out replying receives effect_of conditions step reading
checks_hold =
    record {
      no_version = refl;
      no_site = refl;
      no_sxl = refl;
      closed_by_check = refl;
      closed_by_site = refl;
      closed_by_sxl = refl;
      not_versions = refl;
      stays_greeting = refl;
      versions_of_255 = refl;
      version_refused = refl;
      closed_by_refusal = refl;
      watchdog_refused = refl;
      refused_in_up = refl;
      acknowledged = refl;
    }

pub closings_hold : Closings
unfolding hex_of hex4_of unicode_of escape_of two_of in_three three_of in_four four_of raw_of char_of read_chars decoded skip_ws literal read_scalar read_name read_start read_mark read_entry read_items read_inside read_value no_twice all_once once is_packet meaning_of hex_digit lower_hex identity_text digits digits_below decimal_of leap_of years months day_of year_from month_from date_of second_text milli_text time_text read_second read_decimals read_rest read_time apart read_num read_number alarm_flags status_flags bytes_of version_in close carried_by due_up due is_ignored needs reasons happens subscribe unsubscribe intervals becomes commands aggregates lose lose_of make_room issue connects closes ticks sends answers answered refuses carried_out replying receives effect_of conditions step reading
closings_hold =
    record {
      disconnects = refl;
      closes = refl;
      removes_one = refl;
      tick_closes = refl;
      tick_leaves = refl;
    }

pub dues_hold : Dues
unfolding hex_of hex4_of unicode_of escape_of two_of in_three three_of in_four four_of raw_of char_of read_chars decoded skip_ws literal read_scalar read_name read_start read_mark read_entry read_items read_inside read_value no_twice all_once once is_packet meaning_of hex_digit lower_hex identity_text digits digits_below decimal_of leap_of years months day_of year_from month_from date_of second_text milli_text time_text read_second read_decimals read_rest read_time apart read_num read_number alarm_flags status_flags bytes_of version_in close carried_by due_up due is_ignored needs reasons happens subscribe unsubscribe intervals becomes commands aggregates lose lose_of make_room issue connects closes ticks sends answers answered refuses carried_out replying receives effect_of conditions step reading
dues_hold =
    record {
      watchdog_due = refl;
      watchdog_early = refl;
      watchdog_awaited = refl;
      first_pass = refl;
      pass_of_secondary = refl;
      oldest_unsent_lem = refl;
    }

pub carried_hold : Carried
unfolding hex_of hex4_of unicode_of escape_of two_of in_three three_of in_four four_of raw_of char_of read_chars decoded skip_ws literal read_scalar read_name read_start read_mark read_entry read_items read_inside read_value no_twice all_once once is_packet meaning_of hex_digit lower_hex identity_text digits digits_below decimal_of leap_of years months day_of year_from month_from date_of second_text milli_text time_text read_second read_decimals read_rest read_time apart read_num read_number alarm_flags status_flags bytes_of version_in close carried_by due_up due is_ignored needs reasons happens subscribe unsubscribe intervals becomes commands aggregates lose lose_of make_room issue connects closes ticks sends answers answered refuses carried_out replying receives effect_of conditions step reading
carried_hold =
    record {
      carries_newest = refl;
      carries_others = refl;
      carries_first = refl;
      carries_on_link_0 = refl;
      carries_none = refl;
      nothing_held = refl;
      pass_marks = refl;
      pass_marks_none = refl;
      pass_begins = refl;
      sent_again = refl;
      hints = refl;
      hint_beating = refl;
    }
