use Rattle.basis.proofs.Std.{List, ℕ, refl, sym, ap, ◌∙◌, [], arith, not_both, get_or, rules}
use Rattle.std.proofs.Common.{below_more}
use Rattle.csv_field.specs.Places.{texts_of}
use Rattle.csv_entry.proofs.Twelve.{text_at, texts_length, twelve_same}
use Rattle.csv_entry.proofs.judge.agree.Goals as goal

pub returns-then-not-same : goal.returns-then-not-same
returns-then-not-same c =
    let j = c.loop-j.j in
    let h = c.if-not-same.ensures.1 in
    record {
      yes = λ q. absurd (not_both q refl);
      only = λ e. h (sym (text_at c.args.texts.now j) ∙ ap (λ (l : List (List ℕ)). get_or l j []) e ∙ text_at c.args.others.now j);
    }

pub loop-j-preserved : goal.loop-j-preserved
loop-j-preserved c =
    let j = c.loop-j.j in
    below_more _ _ c.loop-j.invariant (text_at c.args.texts.now j ∙ c.if-not-same.ensures.0 refl ∙ sym (text_at c.args.others.now j))

pub returns : goal.returns
returns c =
    let ts = c.args.texts.now in
    let us = c.args.others.now in
    record {
      yes = λ q. twelve_same (texts_of ts) (texts_of us) (texts_length ts ∙ search rules) (texts_length us ∙ search rules) (λ j g. c.loop-j.invariant j (omega (arith, c.loop-j-test.false)));
      only = λ e. refl;
    }
