-- A number of a range is in a wider one.
-- Assumes nothing.
use Rattle.basis.proofs.Std.{ℕ, ◌≤◌, arith}
use Rattle.json_character.specs.Utf8.{In}

pub between : {low high low' high' b : ℕ} → In low high b → low' ≤ low → high ≤ high' → In low' high' b
between i h g = record { from = omega arith; to = omega arith }
