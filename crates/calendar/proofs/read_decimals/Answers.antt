use Rattle.basis.proofs.Std.{tests, sym, ap, ◌∙◌, ℕ, length, rules}
use Rattle.calendar.proofs.Rest.{all_is, decimals_read, decimals_refused}
use Rattle.calendar.specs.declared.Time.TheVariants.{Is}
use Rattle.calendar.specs.Read.{read_decimals}
use Rattle.calendar.proofs.read_decimals.Goals as goal
use Rattle.calendar.proofs.read_decimals.Goals.{else-k-ge1-via-then-k-ge1+then-k-le6+else-are_digits, else-k-ge1-via-then-k-ge1+else-k-le6, else-k-ge1-via-else-k-ge1}

pub returns-then-are_digits : goal.returns-then-are_digits
unfolding read_decimals
returns-then-are_digits c =
    let ds = c.args.ds.now in
    ap (λ (m : ℕ). Is m (length ds)) c.millis.ensures
    ∙ sym (decimals_read ds (search rules) (search rules) (sym (c.are_digits.ensures ∙ all_is ds) ∙ c.if-are_digits.true))

pub returns-else-k-ge1 : goal.returns-else-k-ge1
unfolding read_decimals
returns-else-k-ge1 c =
    let ds = c.args.ds.now in
    elim c.else-k-ge1.branch [
      | else-k-ge1-via-then-k-ge1+then-k-le6+else-are_digits w ↦ sym (decimals_refused ds (sym (w.are_digits.ensures ∙ all_is ds) ∙ w.if-are_digits.false))
      | else-k-ge1-via-then-k-ge1+else-k-le6 w ↦ search tests
      | else-k-ge1-via-else-k-ge1 w ↦ search tests
    ]
