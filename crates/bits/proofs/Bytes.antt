-- Bytes as fields of eight bits: a number of bytes and back, and two numbers side by side.
-- Assumes nothing.
use mathlib.Core.Path.{◌≡◌, sym, ap, ap₂, ◌∙◌}
use mathlib.Core.List.{List, [], ◌∷◌, ◌++◌}
use Prim.Native.Nat.{ℕ, suc, ◌+◌, ◌*◌, ◌%◌, ◌^◌, ◌<◌}
use native.Mathlib.Nat.{div-eq_of_lt}
use native.Mathlib.Numerals.{add-one}
use native.Mathlib.Omega.{arith}
use lib.ListN.{length, get_or, take, replicate, length-append, length-replicate, replicate-append-replicate}
use lib.Seq.{take-suc, length-take-le}
use Rattle.bits.specs.Fields.{pushed, total, joined, Within, none, next, bytes_of, number_of}
use Rattle.bits.proofs.Fields.{joined_append, joined_behind, joined_lt, joined_split, split_joined, split_length}

-- one byte more
pub one_more : (s : List ℕ) (i : ℕ) → i < length s → joined 0 (replicate (i + 1) 8) (take (i + 1) s) ≡ pushed (joined 0 (replicate i 8) (take i s)) 8 (get_or s i 0)
one_more s i h =
    ap₂ (joined 0) (sym (replicate-append-replicate i 1 8)) (ap (λ (n : ℕ). take n s) (add-one i) ∙ take-suc s i 0 h)
    ∙ joined_append (replicate i 8) (8 ∷ []) (take i s) (get_or s i 0 ∷ []) (length-replicate i 8 ∙ sym (length-take-le i s (omega arith))) 0

-- in 64 bits, what was dropped before does not come back
pub carry : (m b : ℕ) → pushed (m % 2 ^ 64) 8 b % 2 ^ 64 ≡ pushed m 8 b % 2 ^ 64
carry m b = omega arith

-- bytes of a number say the number
pub number_bytes : (n v : ℕ) → v < 2 ^ total (replicate n 8) → number_of (bytes_of n v) ≡ v
number_bytes n v h =
    ap (λ (k : ℕ). joined 0 (replicate k 8) (bytes_of n v)) (split_length (replicate n 8) v ∙ length-replicate n 8)
    ∙ ap (λ (m : ℕ). joined m (replicate n 8) (bytes_of n v)) (sym (div-eq_of_lt h))
    ∙ joined_split (replicate n 8) v

-- the bytes of what bytes say are those bytes
pub bytes_number : (bs : List ℕ) → Within (replicate (length bs) 8) bs → bytes_of (length bs) (number_of bs) ≡ bs
bytes_number bs w = split_joined w 0

-- what n bytes say is below 2 ^ (8 * n)
pub number_lt : (bs : List ℕ) → number_of bs < 2 ^ total (replicate (length bs) 8)
number_lt bs = joined_lt (replicate (length bs) 8) bs (length-replicate (length bs) 8)

-- bytes one after the other say two numbers side by side
pub number_two : (us vs : List ℕ) → number_of (us ++ vs) ≡ number_of us * 2 ^ total (replicate (length vs) 8) + number_of vs
number_two us vs =
    ap (λ (ks : List ℕ). joined 0 ks (us ++ vs)) (ap (λ (k : ℕ). replicate k 8) (length-append us vs) ∙ sym (replicate-append-replicate (length us) (length vs) 8))
    ∙ joined_append (replicate (length us) 8) (replicate (length vs) 8) us vs (length-replicate (length us) 8) 0
    ∙ joined_behind (replicate (length vs) 8) vs (length-replicate (length vs) 8) (number_of us)

-- elements below 256 are bytes
pub bytes_within : (bs : List ℕ) → ((i : ℕ) → get_or bs i 0 < 256) → Within (replicate (length bs) 8) bs
bytes_within [] h = none
bytes_within (b ∷ bs) h = next (h 0) (bytes_within bs (λ i. h (suc i)))
