use Rattle.basis.proofs.Std.{◌^◌, ◌≤◌, pow-le-pow_right, arith}
use Rattle.csv_entry.proofs.guess.said.Goals as goal

pub overflow_mul-n : goal.overflow_mul-n
overflow_mul-n c =
    let p : 10 ^ c.loop-b.b-index ≤ 10 ^ 15 = pow-le-pow_right (omega arith) {j = 15} (omega arith) in
    omega (arith, p)

pub overflow_add-n : goal.overflow_add-n
overflow_add-n c =
    let p : 10 ^ c.loop-b.b-index ≤ 10 ^ 15 = pow-le-pow_right (omega arith) {j = 15} (omega arith) in
    omega (arith, p)
