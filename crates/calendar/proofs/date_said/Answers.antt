use Rattle.basis.proofs.Std.{ap₂, ℕ, ◌+◌, ◌*◌}
use Rattle.calendar.proofs.date_said.Goals as goal

pub returns : goal.returns
returns c =
    let m = c.two_at-4.ensures.0 in
    let k = c.two_at-3.ensures.0 in
    let y = ap₂ (λ (a b : ℕ). a * 100 + b) c.two_at.ensures.0 c.two_at-2.ensures.0 in
    λ i. record { year = y i; month = k i; day = m i }
