-- Narrow numbers read back from the word that they were joined to.
-- Assumes nothing.
use Rattle.basis.proofs.Std.{◌≡◌, refl, ap, ap₂, subst, ◌∙◌, ◌⊎◌, inl, inr, Bool, true, false, List, [], ◌∷◌, ◌++◌, ℕ, ◌+◌, ◌-◌, ◌%◌, ◌^◌, ◌<◌, ◌≤◌, mod-eq_of_lt, arith, lit≤, length, get_or, take, drop, replicate, take-append-drop, length-drop, get_or-eq_default, length-take-le, take_all, get_or-take, get_or-drop, lt_or_ge, bit}
use Rattle.bits.specs.Fields.{field_of, split, total, bytes_of, number_of}
use Rattle.bits.specs.Fields.Within.{none, next}
use Rattle.bits.proofs.Fields.{split_joined}
use Rattle.bits.proofs.Bytes.{bytes_number, bytes_within, number_lt}
use Rattle.identity.specs.declared.Identity.{Identity}
use Rattle.store_words.specs.Words.{flag}
use Rattle.store_words.specs.Narrow.{upper, lower, pair, quad, identity_from}

module _ (a b : ℕ) (f : a < 4294967296) (g : b < 4294967296) where
  fields : split (32 ∷ 32 ∷ []) (pair a b) ≡ a ∷ b ∷ []
  fields = split_joined (next {k = 32} f (next {k = 32} g none)) 0

  pub upper_pair : upper (pair a b) ≡ a
  upper_pair = ap (λ (l : List ℕ). get_or l 0 0) fields

  pub lower_pair : lower (pair a b) ≡ b
  lower_pair = ap (λ (l : List ℕ). get_or l 1 0) fields

module _ (a b c d : ℕ) (f : a < 65536) (g : b < 65536) (h : c < 65536) (k : d < 65536) where
  all : split (16 ∷ 16 ∷ 16 ∷ 16 ∷ []) (quad a b c d) ≡ a ∷ b ∷ c ∷ d ∷ []
  all = split_joined (next {k = 16} f (next {k = 16} g (next {k = 16} h (next {k = 16} k none)))) 0

  pub quad_0 : field_of (quad a b c d) 48 16 ≡ a
  quad_0 = ap (λ (l : List ℕ). get_or l 0 0) all

  pub quad_1 : field_of (quad a b c d) 32 16 ≡ b
  quad_1 = ap (λ (l : List ℕ). get_or l 1 0) all

  pub quad_2 : field_of (quad a b c d) 16 16 ≡ c
  quad_2 = ap (λ (l : List ℕ). get_or l 2 0) all

  pub quad_3 : field_of (quad a b c d) 0 16 ≡ d
  quad_3 = ap (λ (l : List ℕ). get_or l 3 0) all

pub flag_bit : (b : Bool) → flag (bit b) ≡ b
flag_bit true = refl
flag_bit false = refl

pub bit_small : (b : Bool) → bit b < 2
bit_small true = lit≤ tt
bit_small false = lit≤ tt

-- eight bytes in a word
pub eight : (s : List ℕ) → length s ≡ 8 → ((i : ℕ) → get_or s i 0 < 256) → bytes_of 8 (number_of s % 2 ^ 64) ≡ s
eight s e h =
    let lt : number_of s < 2 ^ 64 = subst (λ (n : ℕ). number_of s < 2 ^ total (replicate n 8)) e (number_lt s) in
    let back : bytes_of (length s) (number_of s) ≡ s = bytes_number s (bytes_within s h) in
    ap (bytes_of 8) (mod-eq_of_lt lt) ∙ subst (λ (n : ℕ). bytes_of n (number_of s) ≡ s) e back

-- the identity of its two halves
pub halves : (x : Identity) → length x.bytes ≡ 16 → ((i : ℕ) → get_or x.bytes i 0 < 256)
    → identity_from (number_of (take 8 x.bytes) % 2 ^ 64) (number_of (take 8 (drop 8 x.bytes)) % 2 ^ 64) ≡ x
unfolding identity_from
halves x e h =
    let s = x.bytes in
    let m : length (take 8 s) ≡ 8 = length-take-le 8 s (omega arith) in
    let n : length (drop 8 s) ≡ 8 = length-drop 8 s ∙ ap (λ (k : ℕ). k - 8) e in
    let t : take 8 (drop 8 s) ≡ drop 8 s = take_all 8 (drop 8 s) (omega arith) in
    let p = eight (take 8 s) m (λ i. low i (lt_or_ge i 8)) in
    let q = eight (drop 8 s) n (λ i. rw (get_or-drop 8 s i 0) (h (8 + i))) in
    ap (λ (l : List ℕ). record { bytes = l }) (ap₂ (λ (u v : List ℕ). u ++ v) p (ap (λ (l : List ℕ). bytes_of 8 (number_of l % 2 ^ 64)) t ∙ q) ∙ take-append-drop 8 s)
  where
    low : (i : ℕ) → (i < 8) ⊎ (8 ≤ i) → get_or (take 8 x.bytes) i 0 < 256
    low i (inl g) = rw (get_or-take 8 x.bytes i 0 g) (h i)
    low i (inr g) =
        let m : length (take 8 x.bytes) ≡ 8 = length-take-le 8 x.bytes (omega arith) in
        rw (get_or-eq_default (take 8 x.bytes) 0 {n = i} (omega arith)) (omega arith)
