-- Identities out of words, one behind the other as bytes.
-- Assumes nothing.
use Rattle.basis.proofs.Std.{◌≡◌, ap, ap₂, ◌∙◌, ◌⊎◌, inl, inr, List, [], ◌∷◌, ◌++◌, ℕ, ◌+◌, ◌*◌, ◌<◌, ◌≤◌, arith, lit≤, length, set, eq_or_ne}
use Rattle.bits.specs.Fields.{field_of, bytes_of}
use Rattle.identity.specs.declared.Identity.{Identity}
use Rattle.store_words.specs.Words.{word, stores, Put}
use Rattle.store_words.specs.Narrow.{identity_from}
use Rattle.store_words.proofs.Stores.{stored, first, next, wider, then, Same, below}
use Rattle.store_link.specs.Rows.{slot_from, slot_with, slot_in, eight_in, id_in, IdsIn}

pub eight_put : (bs : List ℕ) (i x : ℕ) {a b c d e f g h : ℕ} → i + 8 ≤ length bs
    → a ≡ field_of x 56 8 → b ≡ field_of x 48 8 → c ≡ field_of x 40 8 → d ≡ field_of x 32 8 → e ≡ field_of x 24 8 → f ≡ field_of x 16 8 → g ≡ field_of x 8 8 → h ≡ field_of x 0 8
    → Put eight_in 8 bs (stores (set bs i a) i 1 (b ∷ c ∷ d ∷ e ∷ f ∷ g ∷ h ∷ [])) i (bytes_of 8 x)
eight_put bs i x {a} {b} {c} {d} {e} {f} {g} {h} l p q r s t u v w =
    let vs = b ∷ c ∷ d ∷ e ∷ f ∷ g ∷ h ∷ [] in
    let x0 = first bs i a vs l ∙ p in
    let x1 = next bs i a vs l 1 (lit≤ tt) (lit≤ tt) ∙ q in
    let x2 = next bs i a vs l 2 (lit≤ tt) (lit≤ tt) ∙ r in
    let x3 = next bs i a vs l 3 (lit≤ tt) (lit≤ tt) ∙ s in
    let x4 = next bs i a vs l 4 (lit≤ tt) (lit≤ tt) ∙ t in
    let x5 = next bs i a vs l 5 (lit≤ tt) (lit≤ tt) ∙ u in
    let x6 = next bs i a vs l 6 (lit≤ tt) (lit≤ tt) ∙ v in
    let x7 = next bs i a vs l 7 (lit≤ tt) (lit≤ tt) ∙ w in
    record {
      there = λ k. x0 k ∷ x1 k ∷ x2 k ∷ x3 k ∷ x4 k ∷ x5 k ∷ x6 k ∷ x7 k ∷ [];
      kept = stored bs i a vs l;
    }

eight_same : (bs cs : List ℕ) (i : ℕ) → Same bs cs i 8 → eight_in cs i ≡ eight_in bs i
eight_same bs cs i h =
    let x0 = h i (omega arith) (omega arith) in
    let x1 = h (i + 1) (omega arith) (omega arith) in
    let x2 = h (i + 2) (omega arith) (omega arith) in
    let x3 = h (i + 3) (omega arith) (omega arith) in
    let x4 = h (i + 4) (omega arith) (omega arith) in
    let x5 = h (i + 5) (omega arith) (omega arith) in
    let x6 = h (i + 6) (omega arith) (omega arith) in
    let x7 = h (i + 7) (omega arith) (omega arith) in
    λ k. x0 k ∷ x1 k ∷ x2 k ∷ x3 k ∷ x4 k ∷ x5 k ∷ x6 k ∷ x7 k ∷ []

joined : (a b c d : List ℕ) → a ≡ c → b ≡ d → ◌≡◌ {A = Identity} (record { bytes = a ++ b }) (record { bytes = c ++ d })
joined a b c d p q = ap₂ (λ (x y : List ℕ). record { bytes = x ++ y }) p q

pub id_put : (bs cs ds : List ℕ) (i x y : ℕ) → Put eight_in 8 bs cs i (bytes_of 8 x) → Put eight_in 8 cs ds (i + 8) (bytes_of 8 y) → Put id_in 16 bs ds i (identity_from x y)
unfolding identity_from
id_put bs cs ds i x y p q =
    record {
      there = joined (eight_in ds i) (eight_in ds (i + 8)) (bytes_of 8 x) (bytes_of 8 y) (eight_same cs ds i (below i 8 q.kept (omega arith)) ∙ p.there) q.there;
      kept = then (wider i 16 p.kept (omega arith) (omega arith)) (wider i 16 q.kept (omega arith) (omega arith));
    }

id_same : (bs cs : List ℕ) (i : ℕ) → Same bs cs i 16 → id_in cs i ≡ id_in bs i
id_same bs cs i h =
    joined (eight_in cs i) (eight_in cs (i + 8)) (eight_in bs i) (eight_in bs (i + 8))
    (eight_same bs cs i (λ j e f. h j e (omega arith)))
    (eight_same bs cs (i + 8) (λ j e f. h j (omega arith) (omega arith)))

pub ids_next : (ws bs cs : List ℕ) (i k : ℕ) → IdsIn ws i bs k → Put id_in 16 bs cs (16 * k) (identity_from (word ws (i + 4 * k + 2)) (word ws (i + 4 * k + 2 + 1))) → IdsIn ws i cs (k + 1)
ids_next ws bs cs i k s p j g = by (eq_or_ne j k)
  where
    by : (j ≡ k) ⊎ (j ≡ k → ⊥) → id_in cs (16 * j) ≡ identity_from (word ws (i + 4 * j + 2)) (word ws (i + 4 * j + 2 + 1))
    by (inl z) = rw z p.there
    by (inr z) = id_same bs cs (16 * j) (below (16 * j) 16 p.kept (omega (arith, z))) ∙ s j (omega (arith, z))

-- a place with its identity from among the bytes
pub slot_whole : (ws bs : List ℕ) (i j : ℕ) → IdsIn ws i bs 16 → j < 16 → slot_with ws (i + 4 * j) (id_in bs (16 * j)) ≡ slot_in ws (i + 4 * j)
unfolding slot_from
slot_whole ws bs i j s h =
    let e : i + 4 * j + 2 + 1 ≡ i + 4 * j + 3 = omega arith in
    ap (slot_with ws (i + 4 * j)) (s j h ∙ ap (λ (n : ℕ). identity_from (word ws (i + 4 * j + 2)) (word ws n)) e)
