-- The search for a name.
-- Assumes nothing.
use Rattle.basis.proofs.Std.{◌≡◌, sym, ap, subst, ◌∙◌, Bool, List, ℕ, suc, ◌+◌, ◌-◌, ◌≤◌, ◌<◌, add-one, arith, length, replicate, T, leb, ltb, leb→le, ltb→lt, pick, same_bytes}
use Rattle.basis.proofs.Table.{every, at, both_left, both_right}
use Rattle.names.specs.Names.{type_names, reasons, name_of, find_in, IsReason}
use Rattle.names.specs.declared.Found.TheVariants.{At}

-- one turn of the search
pub turn : (s : List ℕ) (i end : ℕ) → i < end → find_in s i (end - i) ≡ pick (same_bytes s (name_of i)) (At i) (find_in s (i + 1) (end - (i + 1)))
turn s i end h =
    let e : end - i ≡ suc (end - (i + 1)) = omega arith in
    ap (find_in s i) e ∙ ap (λ (k : ℕ). pick (same_bytes s (name_of i)) (At i) (find_in s k (end - (i + 1)))) (sym (add-one i))

-- the numbers of the reasons
pub reason_from : (r : ℕ) → IsReason r → length type_names ≤ r
reason_from r t = leb→le (length type_names) r (both_left (leb (length type_names) r) (ltb r (length type_names + length reasons)) t)

pub reason_before : (r : ℕ) → IsReason r → r < length type_names + length reasons
reason_before r t = ltb→lt r (length type_names + length reasons) (both_right (leb (length type_names) r) (ltb r (length type_names + length reasons)) t)

-- a test that antt computes at each reason
pub at_reasons : (f : ℕ → Bool) → T (every (λ (k x : ℕ). f (length type_names + k)) 0 (replicate (length reasons) 0)) → (r : ℕ) → IsReason r → T (f r)
at_reasons f all r t =
    let l = reason_from r t in
    let h = reason_before r t in
    let e : length type_names + (r - length type_names) ≡ r = omega arith in
    subst (λ (n : ℕ). T (f n)) e (at (λ (k x : ℕ). f (length type_names + k)) (replicate (length reasons) 0) all (r - length type_names) (omega arith))
