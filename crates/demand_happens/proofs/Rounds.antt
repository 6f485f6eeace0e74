-- The example's rounds.
-- Assumes nothing.
use Rattle.basis.proofs.Std.{◌≡◌, refl, true, false, [], ◌∷◌, lit≤, leb-true, ltb-true, text}
use Rattle.json_character.specs.Char.{raw_of, char_of}
use Rattle.json_text.specs.Decoded.{read_chars, decoded}
use Rattle.json_value.specs.Reader.{skip_ws, literal, read_scalar, read_name, read_start, read_mark, read_entry, read_items, read_inside, read_value}
use Rattle.json_packet.specs.Names.{no_twice, all_once, once}
use Rattle.json_packet.specs.Packet.{is_packet, meaning_of}
use Rattle.identity.specs.Hex.{hex_digit, lower_hex}
use Rattle.identity.specs.Text.{identity_text}
use Rattle.number.specs.Decimal.{digits, digits_below}
use Rattle.calendar.specs.Days.{leap_of, years, months, day_of}
use Rattle.calendar.specs.Civil.{year_from, month_from, date_of}
use Rattle.calendar.specs.Text.{second_text, milli_text, time_text}
use Rattle.calendar.specs.Read.{read_second, read_decimals, read_rest, read_time}
use Rattle.write_message.specs.declared.Value.TheVariants.{Unknown}
use Rattle.write_message.specs.declared.Told.TheVariants.{Update}
use Rattle.write_message.specs.Message.{status}
use Rattle.write_message.specs.Message.Message.{aggregated, statuses}
use Rattle.machine.specs.Json.{version_in}
use Rattle.machine.specs.Life.{close, carried_by, due_up, due}
use Rattle.machine.specs.Answers.{is_ignored, needs, reasons}
use Rattle.machine.specs.Items.{subscribe, intervals, becomes, aggregates, happens}
use Rattle.machine.specs.Effects.{connects, closes, ticks, sends, answers, answered, refuses, carried_out, replying, receives, effect_of}
use Rattle.machine.specs.Pool.{lose, lose_of, make_room, issue}
use Rattle.machine.specs.Step.{conditions, step, outcomes, leaves}
use Rattle.machine.specs.Example.{noon, started, own, quiet, says, alarm_now}
use Rattle.demand_happens.specs.Records.{Rounds, ahead}
use Rattle.demand_happens.specs.Records.Rounds.{over, round}
use Rattle.demand_happens.specs.Example.{inputs, the_aggregated_record, holding, three_rounds, second_started, subscribes, the_status_record, updating, two_rounds}
use Rattle.demand_happens.proofs.Conversation.{timely}

pub holds_three : leaves (started 2) inputs ≡ holding
unfolding raw_of char_of read_chars decoded skip_ws literal read_scalar read_name read_start read_mark read_entry read_items read_inside read_value no_twice all_once once is_packet meaning_of hex_digit lower_hex identity_text digits digits_below leap_of years months day_of year_from month_from date_of second_text milli_text time_text read_second read_decimals read_rest read_time version_in close carried_by due_up due is_ignored needs reasons intervals becomes aggregates happens lose lose_of make_room issue connects closes ticks sends answers answered refuses carried_out replying receives effect_of conditions step
holds_three = refl

pub three_rounds_lem : Rounds 0 holding 3 three_rounds
unfolding raw_of char_of read_chars decoded skip_ws literal read_scalar read_name read_start read_mark read_entry read_items read_inside read_value no_twice all_once once is_packet meaning_of hex_digit lower_hex identity_text digits digits_below leap_of years months day_of year_from month_from date_of second_text milli_text time_text read_second read_decimals read_rest read_time version_in close carried_by due_up due is_ignored needs reasons intervals becomes connects closes ticks sends answers answered refuses carried_out replying receives effect_of conditions step
three_rounds_lem =
    round (record {
      timely = timely _ noon refl refl;
      roomy = lit≤ tt;
      arrives = record { timely = timely _ noon refl refl; roomy = lit≤ tt; short = leb-true _ 4096 refl; reads = refl };
      is_answer_lem = refl;
      answers = record { marked = refl; named = text "03030303-0303-4303-8303-030303030303"; names = refl; ours = refl };
    }) (ltb-true noon _ refl)
    (round (record {
      timely = timely _ noon refl refl;
      roomy = lit≤ tt;
      arrives = record { timely = timely _ noon refl refl; roomy = lit≤ tt; short = leb-true _ 4096 refl; reads = refl };
      is_answer_lem = refl;
      answers = record { marked = refl; named = text "04040404-0404-4404-8404-040404040404"; names = refl; ours = refl };
    }) (ltb-true noon _ refl)
    (round (record {
      timely = timely _ noon refl refl;
      roomy = lit≤ tt;
      arrives = record { timely = timely _ noon refl refl; roomy = lit≤ tt; short = leb-true _ 4096 refl; reads = refl };
      is_answer_lem = refl;
      answers = record { marked = refl; named = text "05050505-0505-4505-8505-050505050505"; names = refl; ours = refl };
    }) (ltb-true noon _ refl)
    over))

pub counted_three : ahead holding 0 the_aggregated_record ≡ 3
counted_three = refl

pub told_three : outcomes holding three_rounds
    ≡ says (aggregated (own 3) (text "C0") noon 1 ∷ []) ∷ quiet
    ∷ says (alarm_now 4 0 noon false true false ∷ []) ∷ quiet
    ∷ says (aggregated (own 5) (text "C0") noon 1 ∷ []) ∷ quiet ∷ []
unfolding raw_of char_of read_chars decoded skip_ws literal read_scalar read_name read_start read_mark read_entry read_items read_inside read_value no_twice all_once once is_packet meaning_of hex_digit lower_hex identity_text digits digits_below leap_of years months day_of year_from month_from date_of second_text milli_text time_text read_second read_decimals read_rest read_time version_in close carried_by due_up due is_ignored needs reasons intervals becomes connects closes ticks sends answers answered refuses carried_out replying receives effect_of conditions step
told_three = refl

-- ---- the secondary
pub holds_one : leaves second_started subscribes ≡ updating
unfolding raw_of char_of read_chars decoded skip_ws literal read_scalar read_name read_start read_mark read_entry read_items read_inside read_value no_twice all_once once is_packet meaning_of hex_digit lower_hex identity_text digits digits_below leap_of years months day_of year_from month_from date_of second_text milli_text time_text read_second read_decimals read_rest read_time version_in close carried_by due_up due is_ignored needs reasons intervals subscribe becomes aggregates happens lose lose_of make_room issue connects closes ticks sends answers answered refuses carried_out replying receives effect_of conditions step
holds_one = refl

pub two_rounds_lem : Rounds 0 updating 2 two_rounds
unfolding raw_of char_of read_chars decoded skip_ws literal read_scalar read_name read_start read_mark read_entry read_items read_inside read_value no_twice all_once once is_packet meaning_of hex_digit lower_hex identity_text digits digits_below leap_of years months day_of year_from month_from date_of second_text milli_text time_text read_second read_decimals read_rest read_time version_in close carried_by due_up due is_ignored needs reasons intervals becomes connects closes ticks sends answers answered refuses carried_out replying receives effect_of conditions step
two_rounds_lem =
    round (record {
      timely = timely _ noon refl refl;
      roomy = lit≤ tt;
      arrives = record { timely = timely _ noon refl refl; roomy = lit≤ tt; short = leb-true _ 4096 refl; reads = refl };
      is_answer_lem = refl;
      answers = record { marked = refl; named = text "03030303-0303-4303-8303-030303030303"; names = refl; ours = refl };
    }) (ltb-true noon _ refl)
    (round (record {
      timely = timely _ noon refl refl;
      roomy = lit≤ tt;
      arrives = record { timely = timely _ noon refl refl; roomy = lit≤ tt; short = leb-true _ 4096 refl; reads = refl };
      is_answer_lem = refl;
      answers = record { marked = refl; named = text "04040404-0404-4404-8404-040404040404"; names = refl; ours = refl };
    }) (ltb-true noon _ refl)
    over)

pub counted_two : ahead updating 0 the_status_record ≡ 2
counted_two = refl

pub told_two : outcomes updating two_rounds
    ≡ says (aggregated (own 3) (text "C0") noon 0 ∷ []) ∷ quiet
    ∷ says (statuses Update (own 4) (text "C0") noon (status (text "S1") (text "release") Unknown ∷ []) ∷ []) ∷ quiet ∷ []
unfolding raw_of char_of read_chars decoded skip_ws literal read_scalar read_name read_start read_mark read_entry read_items read_inside read_value no_twice all_once once is_packet meaning_of hex_digit lower_hex identity_text digits digits_below leap_of years months day_of year_from month_from date_of second_text milli_text time_text read_second read_decimals read_rest read_time version_in close carried_by due_up due is_ignored needs reasons intervals becomes connects closes ticks sends answers answered refuses carried_out replying receives effect_of conditions step
told_two = refl
