use Rattle.calendar.proofs.Years.{years_below, formula_fits, formula_is, years_formula}
use Rattle.calendar.specs.Days.{years}
use Rattle.basis.proofs.Std.{sym, subst, ℕ, ◌-◌, ◌/◌, ◌<◌}
use Rattle.calendar.proofs.year_start.Goals as goal

pub overflow_sub-result-2 : goal.overflow_sub-result-2
overflow_sub-result-2 c = formula_fits (years (c.args.y - 1970)) _ ((c.args.y - 1) / 100) (years_formula c.args.y c.requires.0)

pub returns : goal.returns
returns c =
    let e = formula_is (years (c.args.y - 1970)) _ ((c.args.y - 1) / 100) (years_formula c.args.y c.requires.0) in
    (e, subst (λ (n : ℕ). n < 2932897) (sym e) (years_below c.args.y c.requires.0 c.requires.1))
