-- Only one number has a rank among values, and the middle has its rank.
-- Assumes nothing.
use Rattle.basis.proofs.Std.{◌≡◌, refl, sym, ap, subst, ◌∙◌, Bool, true, false, not, ⊎_elim, List, [], ◌∷◌, map, ℕ, zero, suc, ◌+◌, ◌/◌, ◌%◌, ◌^◌, ◌≤◌, ◌<◌, arith, lt-ltb, le-ltb, ltb-true, leb-true, ltb, leb, ℤ, pos, negsuc, length, length-map, bit, lt_or_ge, le_or_lt, both_true, untrue}
use lib.Signed.{lt_z}
use Rattle.week_count.specs.Values.{raised}
use Rattle.week_count.specs.Middle.{middle_of, has_rank as has_rank_of, below as below_of}
use Rattle.week_count.proofs.Ranks.{Ranked, middle_is, ranked_is}
use Rattle.week_tally.proofs.Places.{raised_small}
use Rattle.week_promise.specs.Figures.{word_value, below, not_above, has_rank, middle}
use Rattle.week_promise.proofs.Integers.{lowered, lowered_raised}
use Rattle.week_promise.proofs.Folds.{rank_is, middle_of_lem}

-- two numbers are equal, or one is below the other
data Order (m k : ℤ) : Type 0 where
  less : lt_z m k ≡ true → Order m k
  same : m ≡ k → Order m k
  greater : lt_z k m ≡ true → Order m k

order : (m k : ℤ) → Order m k
order (pos a) (pos b) =
    ⊎_elim
    (λ (h : a < b). less (lt-ltb a b h))
    (λ (h : b ≤ a).
    ⊎_elim
    (λ (g : b < a). greater (lt-ltb b a g))
    (λ (g : a ≤ b). same (ap pos (omega arith)))
    (lt_or_ge b a))
    (lt_or_ge a b)
order (pos a) (negsuc b) = greater refl
order (negsuc a) (pos b) = less refl
order (negsuc a) (negsuc b) =
    ⊎_elim
    (λ (h : b < a). less (lt-ltb b a h))
    (λ (h : a ≤ b).
    ⊎_elim
    (λ (g : a < b). greater (lt-ltb a b g))
    (λ (g : b ≤ a). same (ap negsuc (omega arith)))
    (lt_or_ge a b))
    (lt_or_ge b a)

-- on numbers: v not above m, and m below k
nat_step : (m v k : ℕ) → ltb m k ≡ true → bit (not (ltb m v)) ≤ bit (ltb v k)
nat_step m v k h =
    ⊎_elim
    (λ (g : m < v). rw (lt-ltb m v g) (omega arith))
    (λ (g : v ≤ m). rw (le-ltb m v g, lt-ltb v k (omega (arith, ltb-true m k h))) (omega arith))
    (lt_or_ge m v)

-- the same, the other way round
neg_step : (m v k : ℕ) → ltb k m ≡ true → bit (not (ltb v m)) ≤ bit (ltb k v)
neg_step m v k h =
    ⊎_elim
    (λ (g : v < m). rw (lt-ltb v m g) (omega arith))
    (λ (g : m ≤ v). rw (le-ltb v m g, lt-ltb k v (omega (arith, ltb-true k m h))) (omega arith))
    (lt_or_ge v m)

bit_most : (b : Bool) → bit b ≤ 1
bit_most true = omega arith
bit_most false = omega arith

step : (m v k : ℤ) → lt_z m k ≡ true → bit (not (lt_z m v)) ≤ bit (lt_z v k)
step (pos m) (pos v) (pos k) h = nat_step m v k h
step (pos m) (negsuc v) (pos k) h = omega arith
step (pos m) v (negsuc k) h = untrue h
step (negsuc m) (pos v) k h = omega arith
step (negsuc m) (negsuc v) (pos k) h = bit_most (not (ltb v m))
step (negsuc m) (negsuc v) (negsuc k) h = neg_step m v k h

above_below : (m k : ℤ) → lt_z m k ≡ true → (vs : List ℤ) → not_above m vs ≤ below k vs
unfolding not_above below
above_below m k h [] = omega arith
above_below m k h (v ∷ vs) = omega (arith, step m v k h, above_below m k h vs)

apart : (rank : ℕ) (vs : List ℤ) (m k : ℤ) → has_rank rank vs m ≡ true → has_rank rank vs k ≡ true → lt_z m k ≡ true → ⊥
apart rank vs m k a b h =
    let p = both_true (ltb (below m vs) rank) (leb rank (not_above m vs)) a in
    let q = both_true (ltb (below k vs) rank) (leb rank (not_above k vs)) b in
    omega (arith, leb-true rank (not_above m vs) p.1, ltb-true (below k vs) rank q.0, above_below m k h vs)

pub once : (rank : ℕ) (vs : List ℤ) (m k : ℤ) → has_rank rank vs m ≡ true → has_rank rank vs k ≡ true → m ≡ k
once rank vs m k a b = by (order m k)
  where
    by : Order m k → m ≡ k
    by (same e) = e
    by (less h) = absurd (apart rank vs m k a b h)
    by (greater h) = absurd (apart rank vs k m b a h)

-- somewhere between there is one
pub record Some (rank : ℕ) (bs : List ℕ) : Type 0 where
  pub value : ℕ
  pub ranked : Ranked rank bs value

look : (width rank : ℕ) (bs : List ℕ) (from : ℕ) → below_of from bs < rank → rank ≤ below_of (from + width) bs → Some rank bs
look zero rank bs from u o =
    let e : from + 0 ≡ from = omega arith in
    absurd (let z : rank ≤ below_of from bs = rw e at o in omega arith)
look (suc width) rank bs from u o =
    ⊎_elim
    (λ (h : rank ≤ below_of (from + 1) bs). record { value = from; ranked = record { under = u; over = h } })
    (λ (h : below_of (from + 1) bs < rank).
    let e : from + suc width ≡ from + 1 + width = omega arith in
    look width rank bs (from + 1) h (rw e at o))
    (le_or_lt rank (below_of (from + 1) bs))

abbrev up : ℕ → ℕ
up w = raised (w % 2 ^ 32)

all_below : (ws : List ℕ) → below_of (2 ^ 32) (map up ws) ≡ length ws
unfolding below_of
all_below [] = refl
all_below (w ∷ ws) =
    let h : up w < 2 ^ 32 = raised_small (w % 2 ^ 32) refl (omega arith) in
    rw (lt-ltb (up w) (2 ^ 32) h) (omega (arith, all_below ws))

none_below : (bs : List ℕ) → below_of 0 bs ≡ 0
unfolding below_of
none_below [] = refl
none_below (v ∷ vs) = rw (le-ltb v 0 (omega arith)) (omega (arith, none_below vs))

middle_ranked : (rank : ℕ) (ws : List ℕ) → 0 < rank → rank ≤ length ws → has_rank_of rank (map up ws) (middle_of rank (map up ws)) ≡ true
middle_ranked rank ws g h =
    let s = look (2 ^ 32) rank (map up ws) 0 (omega (arith, none_below (map up ws))) (omega (arith, all_below ws)) in
    rw (middle_is rank (map up ws) s.value s.ranked) (ranked_is rank (map up ws) s.value s.ranked)

values_up : (ws : List ℕ) → map lowered (map up ws) ≡ map word_value ws
values_up [] = refl
values_up (w ∷ ws) = cons_alike (lowered_raised (w % 2 ^ 32) (omega arith)) (values_up ws)
  where
    cons_alike : {x y : ℤ} {l m : List ℤ} → x ≡ y → l ≡ m → x ∷ l ≡ y ∷ m
    cons_alike p q = rw (p, q)

pub ranked : (w : ℕ) (ws : List ℕ) → has_rank ((length (w ∷ ws) + 1) / 2) (map word_value (w ∷ ws)) (middle (word_value w) (map word_value ws)) ≡ true
ranked w ws =
    let k = (length (w ∷ ws) + 1) / 2 in
    let n : k ≡ (length (up w ∷ map up ws) + 1) / 2 = ap (λ (i : ℕ). (suc i + 1) / 2) (sym (length-map ws up)) in
    let m : lowered (middle_of k (map up (w ∷ ws))) ≡ middle (word_value w) (map word_value ws) =
    middle_of_lem (up w) (map up ws) k n ∙ middle_alike (lowered_raised (w % 2 ^ 32) (omega arith)) (values_up ws) in
    subst (λ (x : ℤ). has_rank k (map word_value (w ∷ ws)) x ≡ true) m
    (subst (λ (l : List ℤ). has_rank k l (lowered (middle_of k (map up (w ∷ ws)))) ≡ true) (values_up (w ∷ ws))
    (rank_is k (map up (w ∷ ws)) (middle_of k (map up (w ∷ ws))) ∙ middle_ranked k (w ∷ ws) (omega arith) (omega arith)))
  where
    middle_alike : {x y : ℤ} {l m : List ℤ} → x ≡ y → l ≡ m → middle x l ≡ middle y m
    middle_alike p q = rw (p, q)
