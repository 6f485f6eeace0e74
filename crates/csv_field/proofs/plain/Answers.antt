use Rattle.basis.proofs.Std.{refl, sym, ◌∙◌, rules}
use Rattle.csv_field.proofs.Fields.{plain_in, plain_bad, plain_good}
use Rattle.csv_field.proofs.plain.Goals as goal

pub returns-then-is_at : goal.returns-then-is_at
returns-then-is_at c = plain_bad c.args.s.now c.args.at _ c.requires c.plain_end-end.ensures (sym c.is_at.ensures ∙ c.if-is_at.true)

pub slice_bounds-result-end : goal.slice_bounds-result-end
slice_bounds-result-end c = let h = (plain_in c.args.s.now c.args.at _ c.requires c.plain_end-end.ensures).1 in search rules

pub returns : goal.returns
returns c = plain_good c.args.s.now c.args.at _ c.requires c.plain_end-end.ensures refl (sym c.is_at.ensures ∙ c.if-is_at.false)
