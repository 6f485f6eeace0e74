-- Joining fields and splitting them again, proved once over the widths.
-- Assumes nothing.
use mathlib.Core.Path.{◌≡◌, refl, sym, ap, ap₂, subst, ◌∙◌}
use mathlib.Core.List.{List, [], ◌∷◌, ◌++◌}
use Prim.Native.Nat.{ℕ, suc, ◌+◌, ◌*◌, ◌/◌, ◌%◌, ◌^◌, ◌≤◌, ◌<◌}
use native.Mathlib.Nat.{mod-lt, mod-eq_of_lt, mod-mod, div-one, mul_assoc, mul-one, add_assoc, add_comm, add-mul-mod_self_right, add-mul, add-zero, zero-add, zero-mul, one-mul, div-lt_iff_lt-mul, lt_of_lt_of_le}
use lib.Arith.{digits_lt}
use lib.Dec.{lit<}
use native.Mathlib.Omega.{arith}
use lib.ListN.{length}
use lib.Pow.{pow_pos, pow_mono, pow-add, shr-shr, high, low, field as field_mod, split as split_at}
use Rattle.bits.specs.Fields.{pushed, field_of, total, joined, split, Within, none, next}

-- what stood before the fields stands before them still
pub before : (ks vs : List ℕ) → length ks ≡ length vs → (n : ℕ) → joined n ks vs / 2 ^ total ks ≡ n
before [] vs e n = div-one n
before (k ∷ ks) [] e n = absurd (let z : ◌≡◌ {A = ℕ} 0 1 = omega arith in omega arith)
before (k ∷ ks) (v ∷ vs) e n =
    ap (λ (x : ℕ). joined (pushed n k v) ks vs / 2 ^ x) (add_comm k (total ks))
    ∙ sym (shr-shr (joined (pushed n k v) ks vs) (total ks) k)
    ∙ ap (λ (x : ℕ). x / 2 ^ k) (before ks vs (omega arith) (pushed n k v))
    ∙ high n k (mod-lt v (pow_pos k))

same_length : {ks vs : List ℕ} → Within ks vs → length ks ≡ length vs
same_length none = refl
same_length (next h w) = ap suc (same_length w)

-- joined and split again: the same values
pub split_joined : {ks vs : List ℕ} → Within ks vs → (n : ℕ) → split ks (joined n ks vs) ≡ vs
split_joined none n = refl
split_joined (next {k} {v} {ks} {vs} h w) n =
    ap₂ (λ (x : ℕ) (l : List ℕ). x ∷ l)
    (ap (λ (x : ℕ). x % 2 ^ k) (before ks vs (same_length w) (pushed n k v)) ∙ low n k (mod-lt v (pow_pos k)) ∙ mod-eq_of_lt h)
    (split_joined w (pushed n k v))

-- split and joined again: the same number
pub joined_split : (ks : List ℕ) (n : ℕ) → joined (n / 2 ^ total ks) ks (split ks n) ≡ n
joined_split [] n = div-one n
joined_split (k ∷ ks) n =
    ap (λ (x : ℕ). joined x ks (split ks n))
    (ap₂ (λ (a b : ℕ). a * 2 ^ k + b)
    (ap (λ (x : ℕ). n / 2 ^ x) (add_comm k (total ks)) ∙ sym (shr-shr n (total ks) k))
    (mod-mod (n / 2 ^ total ks) (2 ^ k))
    ∙ split_at (n / 2 ^ total ks) k)
    ∙ joined_split ks n

total_append : (ks js : List ℕ) → total (ks ++ js) ≡ total ks + total js
total_append [] js = sym (zero-add (total js))
total_append (k ∷ ks) js = ap (λ (x : ℕ). k + x) (total_append ks js) ∙ sym (add_assoc k (total ks) (total js))

-- the first fields are those of the number without the last ones
pub split_append : (ks js : List ℕ) (n : ℕ) → split (ks ++ js) n ≡ split ks (n / 2 ^ total js) ++ split js n
split_append [] js n = refl
split_append (k ∷ ks) js n =
    ap₂ (λ (x : ℕ) (l : List ℕ). x ∷ l)
    (ap (λ (x : ℕ). x % 2 ^ k) (ap (λ (x : ℕ). n / 2 ^ x) (total_append ks js ∙ add_comm (total ks) (total js)) ∙ sym (shr-shr n (total js) (total ks))))
    (split_append ks js n)

-- a field does not depend on what stands before it
below : (q d s j r : ℕ) → field_of (q * 2 ^ (d + (j + s)) + r) s j ≡ field_of r s j
below q d s j r =
    sym (field_mod (q * 2 ^ (d + (j + s)) + r) j s)
    ∙ ap (λ (x : ℕ). x / 2 ^ s)
    (ap (λ (x : ℕ). (q * x + r) % 2 ^ (j + s)) (pow-add 2 d (j + s))
    ∙ ap (λ (x : ℕ). x % 2 ^ (j + s)) (ap (λ (x : ℕ). x + r) (sym (mul_assoc q (2 ^ d) (2 ^ (j + s)))) ∙ add_comm (q * 2 ^ d * 2 ^ (j + s)) r)
    ∙ add-mul-mod_self_right r (q * 2 ^ d) (2 ^ (j + s)))
    ∙ field_mod r j s

split_below : (js : List ℕ) (q d r : ℕ) → split js (q * 2 ^ (d + total js) + r) ≡ split js r
split_below [] q d r = refl
split_below (j ∷ js) q d r =
    ap₂ (λ (x : ℕ) (l : List ℕ). x ∷ l)
    (below q d (total js) j r)
    (ap (λ (x : ℕ). split js (q * 2 ^ x + r)) (sym (add_assoc d j (total js))) ∙ split_below js q (d + j) r)

-- the fields of two numbers side by side
pub split_two : (ks js : List ℕ) (h l : ℕ) → l < 2 ^ total js → split (ks ++ js) (h * 2 ^ total js + l) ≡ split ks h ++ split js l
split_two ks js h l f =
    split_append ks js (h * 2 ^ total js + l)
    ∙ ap₂ (λ (x : ℕ) (y : List ℕ). split ks x ++ y) (high h (total js) f)
    (ap (λ (x : ℕ). split js (h * 2 ^ x + l)) (sym (zero-add (total js))) ∙ split_below js h 0 l)

-- fields one after the other
pub joined_append : (ks js us vs : List ℕ) → length ks ≡ length us → (n : ℕ) → joined n (ks ++ js) (us ++ vs) ≡ joined (joined n ks us) js vs
joined_append [] js [] vs e n = refl
joined_append [] js (u ∷ us) vs e n = absurd (let z : ◌≡◌ {A = ℕ} 0 1 = omega arith in omega arith)
joined_append (k ∷ ks) js [] vs e n = absurd (let z : ◌≡◌ {A = ℕ} 0 1 = omega arith in omega arith)
joined_append (k ∷ ks) js (u ∷ us) vs e n = joined_append ks js us vs (omega arith) (pushed n k u)

pub split_length : (ks : List ℕ) (n : ℕ) → length (split ks n) ≡ length ks
split_length [] n = refl
split_length (k ∷ ks) n = ap suc (split_length ks n)

-- what stands before the fields counts as many times as the fields' bits say
pub joined_behind : (ks vs : List ℕ) → length ks ≡ length vs → (n : ℕ) → joined n ks vs ≡ n * 2 ^ total ks + joined 0 ks vs
joined_behind [] vs e n = sym (mul-one n) ∙ sym (add-zero (n * 1))
joined_behind (k ∷ ks) [] e n = absurd (let z : ◌≡◌ {A = ℕ} 0 1 = omega arith in omega arith)
joined_behind (k ∷ ks) (v ∷ vs) e n =
    joined_behind ks vs (omega arith) (pushed n k v)
    ∙ ap (λ (x : ℕ). x + joined 0 ks vs) (add-mul (n * 2 ^ k) (v % 2 ^ k) (2 ^ total ks))
    ∙ ap (λ (x : ℕ). x + v % 2 ^ k * 2 ^ total ks + joined 0 ks vs) (mul_assoc n (2 ^ k) (2 ^ total ks) ∙ ap (λ (x : ℕ). n * x) (sym (pow-add 2 k (total ks))))
    ∙ add_assoc (n * 2 ^ (k + total ks)) (v % 2 ^ k * 2 ^ total ks) (joined 0 ks vs)
    ∙ ap (λ (x : ℕ). n * 2 ^ (k + total ks) + x)
    (ap (λ (x : ℕ). x * 2 ^ total ks + joined 0 ks vs) (sym (zero-add (v % 2 ^ k)) ∙ ap (λ (x : ℕ). x + v % 2 ^ k) (sym (zero-mul (2 ^ k))))
    ∙ sym (joined_behind ks vs (omega arith) (pushed 0 k v)))

-- the fields alone fit their bits
pub joined_lt : (ks vs : List ℕ) → length ks ≡ length vs → joined 0 ks vs < 2 ^ total ks
joined_lt ks vs e =
    subst (λ (x : ℕ). joined 0 ks vs < x) (one-mul (2 ^ total ks))
    ((div-lt_iff_lt-mul (pow_pos (total ks))).0 (subst (λ (x : ℕ). x < 1) (sym (before ks vs e 0)) (lit< tt)))

-- one field more pushed behind the fields of a word: nothing is lost while their bits are at most 64
pub next_field : (ks vs : List ℕ) (k v : ℕ) {w r : ℕ} → length ks ≡ length vs → total ks + k ≤ 64 → w ≡ joined 0 ks vs → r ≡ pushed w k v % 2 ^ 64 → r ≡ pushed (joined 0 ks vs) k v
next_field ks vs k v e h p q =
    q
    ∙ ap (λ (x : ℕ). pushed x k v % 2 ^ 64) p
    ∙ mod-eq_of_lt
    (lt_of_lt_of_le
    (subst (λ (x : ℕ). pushed (joined 0 ks vs) k v < x) (sym (pow-add 2 (total ks) k)) (digits_lt (joined_lt ks vs e) (mod-lt v (pow_pos k))))
    (pow_mono h))
