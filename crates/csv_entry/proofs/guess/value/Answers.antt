use Rattle.basis.proofs.Std.{◌^◌, sym, ap, ◌∙◌}
use Rattle.csv_field.specs.Places.{texts_of}
use Rattle.csv_entry.specs.Guess.{below, signed_in}
use Rattle.csv_entry.proofs.Guessing.{below_tried, no_value_in, value_in_lem}
use Rattle.csv_entry.proofs.Twelve.{text_at}
use Rattle.csv_entry.proofs.guess.value.Goals as goal

pub returns-then-k-eq-ALARM : goal.returns-then-k-eq-ALARM
returns-then-k-eq-ALARM c = no_value_in c.args.k (texts_of c.args.texts.now) c.if-k-eq-ALARM.true

pub returns : goal.returns
returns c =
    let ts = c.args.texts.now in
    c.unwrap_or.ensures
    ∙ below_tried (2 ^ 32) _ c.try_from.result c.try_from.ensures
    ∙ ap (below (2 ^ 32)) (c.signed.ensures ∙ ap signed_in (sym (text_at ts 10)))
    ∙ sym (value_in_lem c.args.k (texts_of ts) c.if-k-eq-ALARM.false)
