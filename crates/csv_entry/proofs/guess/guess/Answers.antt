use Rattle.basis.proofs.Std.{◌^◌, ◌∙◌}
use Rattle.csv_entry.specs.Guess.{guess_of}
use Rattle.csv_entry.proofs.Guessing.{below_tried}
use Rattle.csv_entry.proofs.Twelve.{text_at}
use Rattle.csv_entry.proofs.guess.guess.Goals as goal

pub returns : goal.returns
unfolding guess_of
returns c =
    let ts = c.args.texts.now in
    let sequence = c.unwrap_or.ensures ∙ below_tried (2 ^ 32) _ c.try_from.result c.try_from.ensures in
    let link = c.unwrap_or-2.ensures ∙ below_tried (2 ^ 16) _ c.try_from-2.result c.try_from-2.ensures in
    let item = c.unwrap_or-3.ensures ∙ below_tried (2 ^ 16) _ c.try_from-3.result c.try_from-3.ensures in
    rw (
      c.flags.ensures,
      item,
      link,
      sequence,
      c.value.ensures,
      c.number-4.ensures,
      c.number-3.ensures,
      c.number-2.ensures,
      c.number.ensures,
      text_at ts 0,
      text_at ts 2,
      text_at ts 9,
      text_at ts 11,
    )
