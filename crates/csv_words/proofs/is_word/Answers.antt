use Rattle.basis.proofs.Std.{ap, ◌∙◌, same_bytes, same_is}
use Rattle.csv_words.proofs.is_word.Goals as goal

pub returns : goal.returns
returns c =
    let s = c.args.s.now in
    same_is s _ c.same.result c.same.ensures.0 c.same.ensures.1 ∙ ap (same_bytes s) c.word.ensures
