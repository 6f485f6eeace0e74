-- `store_pool::issue::loser_for` meets its contract.
-- Assumes nothing.
use Rattle.basis.proofs.Std.{lt-ltb, le-ltb, le-leb, lt-leb, sym, ◌∙◌, ap}
use Rattle.pool.specs.Shares.{loser}
use Rattle.pool.specs.declared.Loser.TheVariants.{Owner}
use Rattle.store_pool.proofs.PlaceLaws.{some_free, none_free}
use Rattle.store_pool.proofs.issue.loser_for.Goals as goal

pub returns-then-held-ge64 : goal.returns-then-held-ge64
unfolding loser
returns-then-held-ge64 c = rw (le-leb _ _ (rw c.holds-held.ensures at c.if-held-ge64.true))

pub returns-in-At : goal.returns-in-At
unfolding loser
returns-in-At c =
    let a = lt-leb _ _ (rw c.holds-held.ensures at c.if-held-ge64.false) in
    rw (a, some_free _ (sym c.in-At.is ∙ c.requires.1))

pub returns-in-Nowhere : goal.returns-in-Nowhere
unfolding loser
returns-in-Nowhere c =
    let a = lt-leb _ _ (rw c.holds-held.ensures at c.if-held-ge64.false) in
    let b = none_free _ (sym c.in-Nowhere.is ∙ c.requires.1) in
    rw (a, b, lt-ltb _ _ (rw c.holds-held.ensures at c.if-held-lt16.true)) (ap Owner c.fullest_of.ensures)

pub returns-in-Nowhere-2 : goal.returns-in-Nowhere-2
unfolding loser
returns-in-Nowhere-2 c =
    let a = lt-leb _ _ (rw c.holds-held.ensures at c.if-held-ge64.false) in
    let b = none_free _ (sym c.in-Nowhere.is ∙ c.requires.1) in
    rw (a, b, le-ltb _ _ (rw c.holds-held.ensures at c.if-held-lt16.false))
