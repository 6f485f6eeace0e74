use Rattle.basis.proofs.Std.{ap, ℕ, ◌+◌, ◌%◌, arith, get_or, set, get_or-set_other}
use Rattle.identity.proofs.version4.Goals as goal

pub returns : goal.returns
returns c =
    let b = c.args.random.bytes in
    let x = 64 + get_or b 6 0 % 16 in
    ap (λ (n : ℕ). set (set b 6 x) 8 (128 + n % 64)) (get_or-set_other b 6 8 x 0 (λ e. omega arith))
