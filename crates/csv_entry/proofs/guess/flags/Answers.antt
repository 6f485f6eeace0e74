use Rattle.csv_field.specs.Places.{texts_of}
use Rattle.csv_entry.proofs.Guessing.{alarm_flags_in, status_flags_in, no_flags_in}
use Rattle.csv_entry.proofs.Twelve.{text_at}
use Rattle.csv_entry.proofs.guess.flags.Goals as goal

pub returns-then-k-eq-ALARM : goal.returns-then-k-eq-ALARM
returns-then-k-eq-ALARM c =
    let ts = c.args.texts.now in
    rw (
      c.of_alarm.ensures,
      c.is_one-then-k-eq-ALARM-2.ensures,
      c.is_one-then-k-eq-ALARM.ensures,
      c.is_one.ensures,
      c.first_of-event.ensures,
      alarm_flags_in c.args.k (texts_of ts) c.if-k-eq-ALARM.true,
      text_at ts 3,
      text_at ts 4,
      text_at ts 5,
      text_at ts 6,
    )

pub returns-then-k-eq-STATUS : goal.returns-then-k-eq-STATUS
returns-then-k-eq-STATUS c =
    let ts = c.args.texts.now in
    rw (
      c.of_status.ensures,
      c.is_one-then-k-eq-STATUS-2.ensures,
      c.is_one-then-k-eq-STATUS.ensures,
      status_flags_in c.args.k (texts_of ts) c.if-k-eq-STATUS.true,
      text_at ts 7,
      text_at ts 8,
    )

pub returns : goal.returns
returns c = no_flags_in c.args.k (texts_of c.args.texts.now) c.if-k-eq-ALARM.false c.if-k-eq-STATUS.false
