use Rattle.calendar.proofs.YearParts.{before_year, year_fits, ones_fit, year_parts}
use Rattle.basis.proofs.Std.{refl}
use Rattle.calendar.proofs.year_of.Goals as goal

pub overflow_add-result-3 : goal.overflow_add-result-3
overflow_add-result-3 c = before_year _ (year_parts c.args.n _ _ _ _ _ _ _ c.requires refl refl refl refl refl refl refl).to

pub overflow_add-result-4 : goal.overflow_add-result-4
overflow_add-result-4 c = year_fits _ (year_parts c.args.n _ _ _ _ _ _ _ c.requires refl refl refl refl refl refl refl).to

pub overflow_sub-result : goal.overflow_sub-result
overflow_sub-result c = ones_fit _

pub returns : goal.returns
returns c = year_parts c.args.n _ _ _ _ _ _ _ c.requires refl refl refl refl refl refl refl
