use Rattle.basis.proofs.Std.{List, ℕ, refl, sym, ap, ◌∙◌, [], arith, not_both, get_or, same_bytes, same_true, same_self, rules}
use Rattle.std.proofs.Common.{below_more}
use Rattle.csv_field.specs.Places.{texts_of}
use Rattle.csv_words.specs.Words.{columns, column_word}
use Rattle.csv_entry.proofs.Twelve.{text_at, texts_length, twelve_same}
use Rattle.csv_line.proofs.Taken.{column_is}
use Rattle.csv_line.proofs.are_columns.Goals as goal

pub returns-then-not-is_word : goal.returns-then-not-is_word
returns-then-not-is_word c =
    let ts = c.args.texts.now in
    let j = c.loop-j.j in
    record {
      yes = λ q. absurd (not_both q refl);
      only = λ e.
          let f = sym (text_at ts j) ∙ ap (λ (l : List (List ℕ)). get_or l j []) e ∙ column_is j (omega arith) in
          absurd (not_both (c.is_word.ensures ∙ ap (λ (t : List ℕ). same_bytes t (column_word j)) f ∙ same_self (column_word j)) c.if-not-is_word.true);
    }

pub loop-j-preserved : goal.loop-j-preserved
loop-j-preserved c =
    let ts = c.args.texts.now in
    let j = c.loop-j.j in
    below_more _ _ c.loop-j.invariant (text_at ts j ∙ same_true _ (column_word j) (sym c.is_word.ensures ∙ c.if-not-is_word.false) ∙ sym (column_is j (omega arith)))

pub returns : goal.returns
returns c =
    let ts = c.args.texts.now in
    record {
      yes = λ q. twelve_same (texts_of ts) columns (texts_length ts ∙ search rules) refl (λ j g. c.loop-j.invariant j (omega (arith, c.loop-j-test.false)));
      only = λ e. refl;
    }
