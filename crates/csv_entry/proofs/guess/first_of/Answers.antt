use Rattle.basis.proofs.Std.{sym, ◌∙◌}
use Rattle.csv_entry.proofs.Guessing.{first_word, second_word, third_word, no_word}
use Rattle.csv_entry.proofs.guess.first_of.Goals as goal

pub returns-then-is_word : goal.returns-then-is_word
returns-then-is_word c = first_word c.args.w c.args.f.now (sym c.is_word.ensures ∙ c.if-is_word.true)

pub returns-then-is_word-2 : goal.returns-then-is_word-2
returns-then-is_word-2 c =
    second_word c.args.w c.args.f.now (sym c.is_word.ensures ∙ c.if-is_word.false) (sym c.is_word-2.ensures ∙ c.if-is_word-2.true)

pub returns-then-is_word-3 : goal.returns-then-is_word-3
returns-then-is_word-3 c =
    third_word c.args.w c.args.f.now (sym c.is_word.ensures ∙ c.if-is_word.false)
    (sym c.is_word-2.ensures ∙ c.if-is_word-2.false) (sym c.is_word-3.ensures ∙ c.if-is_word-3.true)

pub returns : goal.returns
returns c =
    no_word c.args.w c.args.f.now (sym c.is_word.ensures ∙ c.if-is_word.false)
    (sym c.is_word-2.ensures ∙ c.if-is_word-2.false) (sym c.is_word-3.ensures ∙ c.if-is_word-3.false)
