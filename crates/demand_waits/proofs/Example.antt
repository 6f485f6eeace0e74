-- The computed cases.
-- Assumes nothing.
use Rattle.basis.proofs.Std.{ℕ, refl, List, [], ◌∷◌, ◌++◌, map, lit≤}
use Rattle.basis.specs.Lists.Among.{first, later}
use Rattle.json_character.specs.Char.{raw_of, char_of}
use Rattle.json_text.specs.Decoded.{read_chars, decoded}
use Rattle.json_value.specs.Reader.{skip_ws, literal, read_scalar, read_name, read_start, read_mark, read_entry, read_items, read_inside, read_value}
use Rattle.json_packet.specs.Names.{no_twice, all_once, once}
use Rattle.json_packet.specs.Packet.{is_packet, meaning_of}
use Rattle.identity.specs.Hex.{hex_digit, lower_hex}
use Rattle.identity.specs.Text.{identity_text}
use Rattle.number.specs.Decimal.{digits, digits_below}
use Rattle.calendar.specs.Days.{leap_of, years, months, day_of}
use Rattle.calendar.specs.Civil.{year_from, month_from, date_of}
use Rattle.calendar.specs.Text.{second_text, milli_text, time_text}
use Rattle.calendar.specs.Read.{read_second, read_decimals, read_rest, read_time}
use Rattle.machine.specs.State.{Call}
use Rattle.machine.specs.Json.{version_in}
use Rattle.machine.specs.Table.Begins.{begins}
use Rattle.machine.specs.Life.{close, carried_by, due_up, due}
use Rattle.machine.specs.Answers.{is_ignored, needs, reasons}
use Rattle.machine.specs.Items.{intervals, becomes, aggregates, happens}
use Rattle.machine.specs.Effects.{connects, closes, ticks, sends, answers, answered, refuses, carried_out, replying, receives, effect_of}
use Rattle.machine.specs.Pool.{lose, lose_of, make_room, issue}
use Rattle.machine.specs.Step.{conditions, step}
use Rattle.machine.specs.Box.{Turn, turned}
use Rattle.machine.specs.Box.Turn.{calls}
use Rattle.machine.specs.Run.{Played}
use Rattle.machine.specs.Run.Played.{no_turn, start, call}
use Rattle.machine.specs.Example.{greeting}
use Rattle.demand_happens.specs.Example.{start as the_start, second_start, inputs}
use Rattle.demand_happens.proofs.Example.{allowed}
use Rattle.demand_waits.specs.Waits.Stays.{no_turn as stays_so, one_more}
use Rattle.demand_waits.specs.Example.{values, one_link, south_start, Computed}

all_calls : (k : ℕ) (cs : List Call) {ts : List Turn} → Played ts → Played (map (calls k) cs ++ ts)
all_calls k [] p = p
all_calls k (c ∷ cs) p = call (all_calls k cs p)

pub computed : Computed
unfolding raw_of char_of read_chars decoded skip_ws literal read_scalar read_name read_start read_mark read_entry read_items read_inside read_value no_twice all_once once is_packet meaning_of hex_digit lower_hex identity_text digits digits_below leap_of years months day_of year_from month_from date_of second_text milli_text time_text read_second read_decimals read_rest read_time version_in close carried_by due_up due is_ignored needs reasons intervals becomes aggregates happens lose lose_of make_room issue connects closes ticks sends answers answered refuses carried_out replying receives effect_of conditions step turned
computed =
    record {
      three_played = start {s = the_start} (begins allowed refl refl) (all_calls 0 (greeting ++ values 3) no_turn);
      three_held = refl;
      three_waits = record { configured = lit≤ tt; up = refl; held = later (later (later (later first))); link = refl; unsent = refl };
      three_stays = one_more refl (one_more refl (one_more refl (one_more refl (one_more refl (one_more refl stays_so)))));
      bound_five = refl;
      four_counted = refl;
      not_by_the_fourth = refl;
      five_counted = refl;
      by_the_fifth = refl;
      two_played = start {s = second_start} (begins allowed refl refl) (all_calls 0 (greeting ++ values 2) no_turn);
      two_held = refl;
      two_waits = record { configured = lit≤ tt; up = refl; held = later (later first); link = refl; unsent = refl };
      bound_three = refl;
      three_counted = refl;
      by_the_third = refl;
      alarm_played = start {s = the_start} (begins allowed refl refl) (all_calls 0 inputs no_turn);
      alarm_held = refl;
      bound_four = refl;
      by_the_second = refl;
      crowded_played = start {s = one_link} (begins allowed refl refl) (all_calls 0 (greeting ++ values 65) no_turn);
      kept_by_63 = refl;
      lost_by_64 = refl;
      shared_played =
          start {s = the_start} (begins allowed refl refl) (start {s = south_start} (begins allowed refl refl)
          (all_calls 0 (greeting ++ values 34) (all_calls 1 (values 15) (call no_turn))));
      kept_beside = refl;
      lost_beside = refl;
      newer_ones_lem = refl;
    }
