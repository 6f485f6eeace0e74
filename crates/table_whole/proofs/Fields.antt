-- Fields that fill whole bytes, read back, and bytes that are such fields.
-- Assumes nothing.
use Rattle.basis.proofs.Std.{◌≡◌, refl, sym, ap, subst, ◌∙◌, List, [], ◌∷◌, ℕ, zero, suc, ◌^◌, ◌≤◌, ◌<◌, div-eq_of_lt, arith, lit<, length, get_or, take, replicate, length-take-le}
use Rattle.bits.specs.Fields.{total, joined, split, Within, bytes_of, number_of}
use Rattle.bits.specs.Fields.Within.{none, next}
use Rattle.bits.proofs.Fields.{joined_split, split_joined, joined_lt}
use Rattle.bits.proofs.Bytes.{number_bytes, bytes_number, number_lt, bytes_within}

same_length : {ks vs : List ℕ} → Within ks vs → length ks ≡ length vs
same_length none = refl
same_length (next h w) = ap suc (same_length w)

-- bytes are the fields that stand in them
pub fields_sound : (ks bs : List ℕ) → ((i : ℕ) → get_or bs i 0 < 256) → total ks ≡ total (replicate (length bs) 8)
    → bytes_of (length bs) (joined 0 ks (split ks (number_of bs))) ≡ bs
fields_sound ks bs b e =
    let lt : number_of bs < 2 ^ total ks = subst (λ (k : ℕ). number_of bs < 2 ^ k) (sym e) (number_lt bs) in
    ap (bytes_of (length bs)) (ap (λ (m : ℕ). joined m ks (split ks (number_of bs))) (sym (div-eq_of_lt lt)) ∙ joined_split ks (number_of bs))
    ∙ bytes_number bs (bytes_within bs b)

take_bytes : (n : ℕ) (s : List ℕ) → ((i : ℕ) → get_or s i 0 < 256) → (i : ℕ) → get_or (take n s) i 0 < 256
take_bytes zero s h i = lit< tt
take_bytes (suc n) [] h i = lit< tt
take_bytes (suc n) (x ∷ s) h zero = h 0
take_bytes (suc n) (x ∷ s) h (suc i) = take_bytes n s (λ j. h (suc j)) i

-- fields that fit come back
pub fields_complete : (ks vs : List ℕ) → Within ks vs → (n : ℕ) → total ks ≡ total (replicate n 8)
    → split ks (number_of (bytes_of n (joined 0 ks vs))) ≡ vs
fields_complete ks vs w n e =
    let lt : joined 0 ks vs < 2 ^ total (replicate n 8) = subst (λ (k : ℕ). joined 0 ks vs < 2 ^ k) e (joined_lt ks vs (same_length w)) in
    ap (split ks) (number_bytes n (joined 0 ks vs) lt) ∙ split_joined w 0

-- the fields in the first k bytes
module _ (k : ℕ) (ks : List ℕ) (e : total ks ≡ total (replicate k 8)) (s : List ℕ) where
  pub first_sound : ((i : ℕ) → get_or s i 0 < 256) → k ≤ length s → bytes_of k (joined 0 ks (split ks (number_of (take k s)))) ≡ take k s
  first_sound b h =
      let n = number_of (take k s) in
      let l : length (take k s) ≡ k = length-take-le k s h in
      let w : total ks ≡ total (replicate (length (take k s)) 8) = e ∙ ap (λ (m : ℕ). total (replicate m 8)) (sym l) in
      ap (λ (m : ℕ). bytes_of m (joined 0 ks (split ks n))) (sym l) ∙ fields_sound ks (take k s) (take_bytes k s b) w

  pub first_complete : (vs : List ℕ) → Within ks vs → take k s ≡ bytes_of k (joined 0 ks vs) → split ks (number_of (take k s)) ≡ vs
  first_complete vs w t = ap (λ (x : List ℕ). split ks (number_of x)) t ∙ fields_complete ks vs w k e

-- a number of one byte is that byte
pub one_byte : (b : ℕ) → b < 256 → number_of (b ∷ []) ≡ b
one_byte b h = omega arith
