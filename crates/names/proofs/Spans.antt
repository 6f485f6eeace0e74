-- The table's rule, by one test that antt computes: what stands in it from a start on, as long as the length says, is the name.
-- Assumes nothing.
use Rattle.basis.proofs.Std.{◌≡◌, refl, ap, sym, ◌∙◌, Bool, true, false, [], ℕ, ◌+◌, ◌≤◌, ◌<◌, add-sub_cancel_left, arith, T, leb, leb→le, lit≤, length, get_or, take, drop, get_or-eq_default, both, same_bytes, same_true}
use Rattle.basis.proofs.Table.{at, both_left, both_right}
use Rattle.names.specs.Names.{names, name_of}
use Rattle.names.specs.Table.{table, starts, lens, Spans}

told : (b : Bool) → T b → b ≡ true
told true t = refl
told false t = absurd t

right : ℕ → ℕ → Bool
right i s = both (leb (s + get_or lens i 0) (length table)) (same_bytes (take (get_or lens i 0) (drop s table)) (name_of i))

pub spans : (i : ℕ) → i < length names → Spans i (get_or starts i 0) (get_or starts i 0 + get_or lens i 0)
unfolding right
spans i h =
    let a = get_or starts i 0 in
    let n = get_or lens i 0 in
    let sized = leb (a + n) (length table) in
    let said = same_bytes (take n (drop a table)) (name_of i) in
    let t : T (right i a) = at right starts tt i h in
    record {
      ordered = omega arith;
      within = leb→le (a + n) (length table) (both_left sized said t);
      named = ap (λ (k : ℕ). take k (drop a table)) (add-sub_cancel_left a n) ∙ same_true (take n (drop a table)) (name_of i) (told said (both_right sized said t));
    }

-- past the last name
pub past : (i : ℕ) → length names ≤ i → Spans i 0 0
past i h = record { ordered = lit≤ tt; within = lit≤ tt; named = sym (get_or-eq_default names [] h) }
