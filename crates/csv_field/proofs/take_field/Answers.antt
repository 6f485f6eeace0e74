use Rattle.basis.proofs.Std.{sym, ◌∙◌, arith, rules}
use Rattle.csv_field.proofs.Marks.{quote_in}
use Rattle.csv_field.proofs.Fields.{is_quoted, is_plain_lem}
use Rattle.csv_field.proofs.take_field.Goals as goal

pub overflow_add-at : goal.overflow_add-at
overflow_add-at c =
    omega (arith, quote_in c.args.s.now c.args.at (sym c.is_at.ensures ∙ c.if-is_at.true))

pub quoted-requires : goal.quoted-requires
quoted-requires c =
    let h = quote_in c.args.s.now c.args.at (sym c.is_at.ensures ∙ c.if-is_at.true) in
    search rules

pub returns-then-is_at : goal.returns-then-is_at
returns-then-is_at c =
    is_quoted c.args.s.now c.args.at (sym c.is_at.ensures ∙ c.if-is_at.true) c.quoted.ensures

pub returns : goal.returns
returns c =
    is_plain_lem c.args.s.now c.args.at (sym c.is_at.ensures ∙ c.if-is_at.false) c.plain.ensures
