use Rattle.basis.proofs.Std.{◌≡◌, ◌-◌, ◌^◌, sym, ap, ◌∙◌, ℕ, length, rules}
use Rattle.csv_entry.proofs.Guessing.{nothing_in, minus_in, no_minus_in}
use Rattle.csv_entry.proofs.guess.signed.Goals as goal

pub returns-then-is_empty : goal.returns-then-is_empty
returns-then-is_empty c =
    let h : length c.args.f.now ≡ 0 = search rules in
    nothing_in c.args.f.now h

pub returns-then-f-eq45 : goal.returns-then-f-eq45
returns-then-f-eq45 c =
    c.saturating_sub.ensures ∙ ap (λ (n : ℕ). 2 ^ 32 - n) c.number.ensures ∙ sym (minus_in c.args.f.now c.if-f-eq45.true)

pub returns : goal.returns
returns c = c.number-2.ensures ∙ sym (no_minus_in c.args.f.now c.if-f-eq45.false)
