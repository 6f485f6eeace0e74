-- The figures of raised values are those of the values.
-- Assumes nothing.
use Rattle.basis.proofs.Std.{◌≡◌, refl, sym, ap, ◌∙◌, Bool, true, false, ⊎_elim, List, [], ◌∷◌, map, ℕ, suc, ◌+◌, ◌*◌, ◌/◌, ◌^◌, ◌≤◌, ◌<◌, arith, lt-ltb, le-ltb, ltb, ℤ, sub_ℕ, ◌+ℤ◌, +ℤ_idl, +ℤ_idr, +ℤ_assoc, length, length-map, pick, bit, count, lt_or_ge}
use Rattle.week_count.specs.declared.Figures.{Figures}
use Rattle.week_count.specs.Figures.{figures_of, no_figures, with_value}
use Rattle.week_count.specs.Middle.{middle_of, has_rank as has_rank_of, first_such as first_of, below as below_of}
use Rattle.week_count.proofs.Starts.{count_is}
use Rattle.week_promise.specs.Figures.{smallest, largest, sum, below, not_above, has_rank, first_such, middle}
use Rattle.week_promise.proofs.Integers.{lowered, sub_add, sub_less, not_above_lem}

lowered_pick : (b : Bool) (x y : ℕ) → lowered (pick b x y) ≡ pick b (lowered x) (lowered y)
lowered_pick true x y = refl
lowered_pick false x y = refl

least_is : (f : Figures) (bs : List ℕ) → lowered (figures_of f bs).least ≡ smallest (lowered f.least) (map lowered bs)
unfolding figures_of smallest
least_is f [] = refl
least_is f (b ∷ bs) =
    least_is (with_value f b) bs
    ∙ ap (λ (z : ℤ). smallest z (map lowered bs))
    (lowered_pick (ltb b f.least) b f.least ∙ ap (λ (t : Bool). pick t (lowered b) (lowered f.least)) (sym (sub_less b f.least (2 ^ 31))))

most_is : (f : Figures) (bs : List ℕ) → lowered (figures_of f bs).most ≡ largest (lowered f.most) (map lowered bs)
unfolding figures_of largest
most_is f [] = refl
most_is f (b ∷ bs) =
    most_is (with_value f b) bs
    ∙ ap (λ (z : ℤ). largest z (map lowered bs))
    (lowered_pick (ltb f.most b) b f.most ∙ ap (λ (t : Bool). pick t (lowered b) (lowered f.most)) (sym (sub_less f.most b (2 ^ 31))))

module _ (b : ℕ) (bs : List ℕ) (h : b < 2 ^ 32) where
  first_least : (with_value no_figures b).least ≡ b
  first_least =
      ⊎_elim
      (λ (g : b < 0xFFFFFFFF). rw (lt-ltb b 0xFFFFFFFF g))
      (λ (g : 0xFFFFFFFF ≤ b). rw (le-ltb b 0xFFFFFFFF g) (omega arith))
      (lt_or_ge b 0xFFFFFFFF)

  first_most : (with_value no_figures b).most ≡ b
  first_most =
      ⊎_elim
      (λ (g : 0 < b). rw (lt-ltb 0 b g))
      (λ (g : b ≤ 0). rw (le-ltb 0 b g) (omega arith))
      (lt_or_ge 0 b)

  pub least_of : lowered (figures_of no_figures (b ∷ bs)).least ≡ smallest (lowered b) (map lowered bs)
  unfolding figures_of
  least_of = least_is (with_value no_figures b) bs ∙ ap (λ (n : ℕ). smallest (lowered n) (map lowered bs)) first_least

  pub most_of : lowered (figures_of no_figures (b ∷ bs)).most ≡ largest (lowered b) (map lowered bs)
  unfolding figures_of
  most_of = most_is (with_value no_figures b) bs ∙ ap (λ (n : ℕ). largest (lowered n) (map lowered bs)) first_most

sum_is : (f : Figures) (bs : List ℕ) (k : ℕ)
    → sub_ℕ f.sum k +ℤ sum (map lowered bs) ≡ sub_ℕ (figures_of f bs).sum (k + length bs * 2 ^ 31)
unfolding figures_of sum
sum_is f [] k = +ℤ_idr (sub_ℕ f.sum k) ∙ ap (sub_ℕ f.sum) (omega arith)
sum_is f (b ∷ bs) k =
    let e : k + 2 ^ 31 + length bs * 2 ^ 31 ≡ k + length (b ∷ bs) * 2 ^ 31 = omega arith in
    sym (+ℤ_assoc (sub_ℕ f.sum k) (lowered b) (sum (map lowered bs)))
    ∙ ap (λ (z : ℤ). z +ℤ sum (map lowered bs)) (sub_add f.sum k b (2 ^ 31))
    ∙ sum_is (with_value f b) bs (k + 2 ^ 31)
    ∙ ap (sub_ℕ (figures_of (with_value f b) bs).sum) e

pub sum_of : (bs : List ℕ) → sub_ℕ (figures_of no_figures bs).sum ((figures_of no_figures bs).count * 2 ^ 31) ≡ sum (map lowered bs)
sum_of bs =
    let e : (figures_of no_figures bs).count * 2 ^ 31 ≡ 0 + length bs * 2 ^ 31 = omega (arith, count_is no_figures bs) in
    ap (sub_ℕ (figures_of no_figures bs).sum) e ∙ sym (sum_is no_figures bs 0) ∙ +ℤ_idl (sum (map lowered bs))

below_is : (m : ℕ) (bs : List ℕ) → below (lowered m) (map lowered bs) ≡ below_of m bs
unfolding below below_of
below_is m [] = refl
below_is m (b ∷ bs) = rw (sub_less b m (2 ^ 31)) (ap (λ (n : ℕ). bit (ltb b m) + n) (below_is m bs))

above_is : (m : ℕ) (bs : List ℕ) → not_above (lowered m) (map lowered bs) ≡ below_of (m + 1) bs
unfolding not_above below_of
above_is m [] = refl
above_is m (b ∷ bs) = rw (not_above_lem b m (2 ^ 31)) (ap (λ (n : ℕ). bit (ltb b (m + 1)) + n) (above_is m bs))

pub rank_is : (k : ℕ) (bs : List ℕ) (m : ℕ) → has_rank k (map lowered bs) (lowered m) ≡ has_rank_of k bs m
rank_is k bs m = rw (below_is m bs, above_is m bs)

first_is : (f : ℤ → Bool) (g : ℕ → Bool) → ((n : ℕ) → f (lowered n) ≡ g n) → (z : ℕ) (bs : List ℕ)
    → lowered (first_of g z bs) ≡ first_such f (lowered z) (map lowered bs)
unfolding first_of first_such
first_is f g h z [] = refl
first_is f g h z (b ∷ bs) =
    lowered_pick (g b) b (first_of g z bs) ∙ rw (h b) (ap (λ (x : ℤ). pick (g b) (lowered b) x) (first_is f g h z bs))

pub middle_of_lem : (b : ℕ) (bs : List ℕ) (k : ℕ) → k ≡ (length (b ∷ bs) + 1) / 2 → lowered (middle_of k (b ∷ bs)) ≡ middle (lowered b) (map lowered bs)
unfolding middle_of middle
middle_of_lem b bs k e =
    first_is (has_rank k (map lowered (b ∷ bs))) (has_rank_of k (b ∷ bs)) (rank_is k (b ∷ bs)) b (b ∷ bs)
    ∙ ap (λ (n : ℕ). first_such (has_rank n (map lowered (b ∷ bs))) (lowered b) (map lowered (b ∷ bs)))
    (e ∙ ap (λ (n : ℕ). (suc n + 1) / 2) (sym (length-map bs lowered)))
