-- The example follows the greeting.
-- Assumes nothing.
use Rattle.basis.proofs.Std.{ℕ, ◌+◌, ◌≡◌, refl, true, lit≤, leb, ℤ, arith, leb-true, text}
use Rattle.answer.specs.Times.{last_time}
use Rattle.json_character.specs.Char.{raw_of, char_of}
use Rattle.json_text.specs.Decoded.{read_chars, decoded}
use Rattle.json_value.specs.Reader.{skip_ws, literal, read_scalar, read_name, read_start, read_mark, read_entry, read_items, read_inside, read_value}
use Rattle.json_packet.specs.Names.{no_twice, all_once, once}
use Rattle.json_packet.specs.Packet.{is_packet, meaning_of}
use Rattle.identity.specs.Hex.{hex_digit, lower_hex}
use Rattle.identity.specs.Text.{identity_text}
use Rattle.number.specs.Decimal.{digits, digits_below}
use Rattle.calendar.specs.Days.{leap_of, years, months, day_of}
use Rattle.calendar.specs.Civil.{year_from, month_from, date_of}
use Rattle.calendar.specs.Text.{second_text, milli_text, time_text}
use Rattle.calendar.specs.Read.{read_second, read_decimals, read_rest, read_time}
use Rattle.machine.specs.State.{Machine, life_at}
use Rattle.machine.specs.State.Act.{connect, status_value, tick}
use Rattle.machine.specs.Json.{version_in}
use Rattle.machine.specs.Life.{is_up, close, carried_by, due_up, due}
use Rattle.machine.specs.Answers.{is_ignored, needs, reasons}
use Rattle.machine.specs.Items.{intervals, becomes}
use Rattle.machine.specs.Effects.{connects, closes, ticks, sends, answers, answered, refuses, carried_out, replying, receives, effect_of}
use Rattle.machine.specs.Step.{conditions, step, leaves}
use Rattle.machine.specs.Example.{started, noon}
use Rattle.demand_happens.specs.Pumped.{Timely}
use Rattle.demand_told.proofs.Checks.{good_version}
use Rattle.demand_happens.specs.Greeting.{Greets}
use Rattle.demand_happens.specs.Greeting.Ours.{acknowledged}
use Rattle.demand_happens.specs.Greeting.Stage.{down}
use Rattle.demand_happens.specs.Greeting.Meanwhile.{not_done, elsewhere, not_acknowledged}
use Rattle.demand_happens.specs.Greeting.Greets.{greeted, meanwhile, connects as connects_now, our_version, version_acknowledged, their_version, our_watchdog, watchdog_acknowledged, their_watchdog}
use Rattle.demand_happens.specs.Example.{conversation}

pub timely : (m : Machine) (t : ℕ) → leb m.last t ≡ true → leb t last_time ≡ true → Timely m t
timely m t a b = record { in_order = leb-true m.last t a; in_range_lem = leb-true t last_time b }

value_no_tick : (i : ℕ) (v : ℤ) → status_value i v ≡ tick → ⊥
value_no_tick i v e = let z : ◌≡◌ {A = ℕ} 0 1 = cc in omega arith

connect_no_tick : (l : ℕ) → connect l ≡ tick → ⊥
connect_no_tick l e = let z : ◌≡◌ {A = ℕ} 0 1 = cc in omega arith

pub greets_example : Greets 0 (started 2) down conversation
unfolding raw_of char_of read_chars decoded skip_ws literal read_scalar read_name read_start read_mark read_entry read_items read_inside read_value no_twice all_once once is_packet meaning_of hex_digit lower_hex identity_text digits digits_below leap_of years months day_of year_from month_from date_of second_text milli_text time_text read_second read_decimals read_rest read_time version_in close carried_by due_up due is_ignored needs reasons intervals becomes connects closes ticks sends answers answered refuses carried_out replying receives effect_of conditions step
greets_example =
    meanwhile (elsewhere refl (λ e. absurd (value_no_tick _ _ e)))
    (connects_now (timely _ noon refl refl)
    (meanwhile (not_done {n = 6} refl)
    (our_version (timely _ noon refl refl) (lit≤ tt)
    (meanwhile (elsewhere refl (λ e. refl))
    (version_acknowledged (record { timely = timely _ (noon + 29999) refl refl; roomy = lit≤ tt; short = leb-true _ 4096 refl; reads = refl }) refl
    (record { marked = refl; named = text "01010101-0101-4101-8101-010101010101"; names = refl; ours = refl })
    (meanwhile (elsewhere refl (λ e. absurd (connect_no_tick _ e)))
    (their_version {ours = acknowledged} refl (record { timely = timely _ (noon + 29999) refl refl; roomy = lit≤ tt; short = leb-true _ 4096 refl; reads = refl })
    (record { marked = refl; readable = refl; complete = λ older. refl; good = λ older. refl })
    (good_version _ _ refl refl refl refl)
    (their_watchdog (record { timely = timely _ (noon + 30000) refl refl; roomy = lit≤ tt; short = leb-true _ 4096 refl; reads = refl })
    (record { marked = refl; readable = refl; complete = λ older. refl; good = λ older. refl }) refl
    (meanwhile (not_acknowledged {m_id = text "CD613E30-d8f1-6adf-91b7-584a2265b1f5"} {reason = text "Not ready"} refl)
    (our_watchdog (timely _ (noon + 30000) refl refl) (lit≤ tt)
    (watchdog_acknowledged (record { timely = timely _ (noon + 30001) refl refl; roomy = lit≤ tt; short = leb-true _ 4096 refl; reads = refl }) refl
    (record { marked = refl; named = text "02020202-0202-4202-8202-020202020202"; names = refl; ours = refl })
    (their_watchdog (record { timely = timely _ (noon + 30002) refl refl; roomy = lit≤ tt; short = leb-true _ 4096 refl; reads = refl })
    (record { marked = refl; readable = refl; complete = λ older. refl; good = λ older. refl }) refl
    greeted))))))))))))

pub up_example : is_up (life_at (leaves (started 2) conversation) 0) ≡ true
unfolding raw_of char_of read_chars decoded skip_ws literal read_scalar read_name read_start read_mark read_entry read_items read_inside read_value no_twice all_once once is_packet meaning_of hex_digit lower_hex identity_text digits digits_below leap_of years months day_of year_from month_from date_of second_text milli_text time_text read_second read_decimals read_rest read_time version_in close carried_by due_up due is_ignored needs reasons intervals becomes connects closes ticks sends answers answered refuses carried_out replying receives effect_of conditions step
up_example = refl
