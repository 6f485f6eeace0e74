-- What follows a line is shorter than what the line begins.
-- Assumes nothing.
use Rattle.basis.proofs.Std.{ℕ, ◌≤◌, ◌<◌, ◌≡◌, refl, List, [], ◌∷◌, arith, length}
use Rattle.csv_field.specs.Grammar.{Quoted, Plain, Field, Fault, Behind, Parts, Faulty}

quoted_rest : {t r d : List ℕ} → Quoted t r d → length r < length t
quoted_rest (Quoted.close u) = omega arith
quoted_rest (Quoted.twice x) = omega (arith, quoted_rest x)
quoted_rest (Quoted.other n x) = omega (arith, quoted_rest x)

plain_rest : {t r d : List ℕ} → Plain t r d → length r ≤ length t
plain_rest Plain.quote = omega arith
plain_rest (Plain.stop s) = omega arith
plain_rest (Plain.more n m x) = omega (arith, plain_rest x)

field_rest : {t r d : List ℕ} → Field t r d → length r ≤ length t
field_rest (Field.quoted x s) = omega (arith, quoted_rest x)
field_rest (Field.plain u x s) = plain_rest x

behind_rest : {t r : List ℕ} → Behind t r → length r ≤ length t
behind_rest Behind.line = omega arith
behind_rest Behind.end = omega arith
behind_rest (Behind.more n x) = omega (arith, behind_rest x)

behind_quote : {t r : List ℕ} → Behind (34 ∷ t) r → length r ≤ length t
behind_quote (Behind.more n x) = behind_rest x

fault_rest : {t u r : List ℕ} → Fault t u → Behind u r → length r < length t
fault_rest (Fault.inside n x) y = omega (arith, plain_rest x, behind_quote y)
fault_rest (Fault.behind x n) y = omega (arith, quoted_rest x, behind_rest y)
fault_rest (Fault.not_closed x) y = omega (arith, behind_rest y)

pub faulty_within : {t r : List ℕ} → Faulty t r → length r < length t
faulty_within (Faulty.here x y) = fault_rest x y
faulty_within (Faulty.later x y) = omega (arith, field_rest x, faulty_within y)

parts_rest : {t r : List ℕ} {ds : List (List ℕ)} → Parts t ds r → length r ≤ length t
parts_rest (Parts.last x) = omega (arith, field_rest x)
parts_rest (Parts.end x) = omega arith
parts_rest (Parts.more x y) = omega (arith, field_rest x, parts_rest y)

some : (t : List ℕ) → (t ≡ [] → ⊥) → 0 < length t
some [] n = absurd (n refl)
some (b ∷ t) n = omega arith

pub parts_within : {t r : List ℕ} {ds : List (List ℕ)} → Parts t ds r → (t ≡ [] → ⊥) → length r < length t
parts_within (Parts.last x) n = omega (arith, field_rest x)
parts_within (Parts.end {s} x) n = some s n
parts_within (Parts.more x y) n = omega (arith, field_rest x, parts_rest y)
