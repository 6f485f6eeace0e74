-- Laws of counting: what a store, a map and a comparison of tests do to a count.
-- Assumes nothing.
use Rattle.basis.proofs.Std.{ℕ, suc, zero, ◌+◌, ◌≤◌, ◌<◌, ◌≡◌, refl, ap, List, [], ◌∷◌, map, Bool, true, false, length, get_or, set, replicate, ltb, eqb, arith, lt-ltb, le-ltb, eq-eqb, ne_eqb, both, bit, count}

pub bit_true : (b : Bool) → b ≡ true → bit b ≡ 1
bit_true b e = rw e

pub bit_false : (b : Bool) → b ≡ false → bit b ≡ 0
bit_false b e = rw e

pub bit_le : (b : Bool) → bit b ≤ 1
bit_le true = omega arith
bit_le false = omega arith

pub bit_and : (a b : Bool) → a ≡ true → bit (both a b) ≡ bit b
bit_and a b e = rw e

pub bit_and_no : (a b : Bool) → a ≡ false → bit (both a b) ≡ 0
bit_and_no a b e = rw e

pub bit_and_le : (a b : Bool) → bit (both a b) ≤ bit a
bit_and_le true b = bit_le b
bit_and_le false b = omega arith

pub bit_lt : (a b : ℕ) → a < b → bit (ltb a b) ≡ 1
bit_lt a b h = bit_true (ltb a b) (lt-ltb a b h)

pub bit_ge : (a b : ℕ) → b ≤ a → bit (ltb a b) ≡ 0
bit_ge a b h = bit_false (ltb a b) (le-ltb a b h)

pub bit_eq : (a b : ℕ) → a ≡ b → bit (eqb a b) ≡ 1
bit_eq a b h = bit_true (eqb a b) (eq-eqb a b h)

pub bit_ne : (a b : ℕ) → (a ≡ b → ⊥) → bit (eqb a b) ≡ 0
bit_ne a b h = bit_false (eqb a b) (ne_eqb a b h)

module _ {A : Type 0} (f : A → Bool) where
  pub count_cons : (x : A) (l : List A) → count f (x ∷ l) ≡ bit (f x) + count f l
  count_cons x l = refl

  pub count_nil : count f [] ≡ 0
  count_nil = refl

  -- what is stored counts in, what stood there out
  pub count_set : (l : List A) (i : ℕ) (a d : A) → i < length l → count f (set l i a) + bit (f (get_or l i d)) ≡ count f l + bit (f a)
  count_set [] i a d h = omega arith
  count_set (x ∷ l) zero a d h = omega arith
  count_set (x ∷ l) (suc i) a d h =
      let ih : count f (set l i a) + bit (f (get_or l i d)) ≡ count f l + bit (f a) = count_set l i a d (omega arith) in
      omega arith

  pub count_at : (l : List A) (i : ℕ) (d : A) → i < length l → bit (f (get_or l i d)) ≤ count f l
  count_at [] i d h = absurd (omega arith)
  count_at (x ∷ l) zero d h = omega arith
  count_at (x ∷ l) (suc i) d h = omega (arith, count_at l i d (omega arith))

  pub count_pos : (l : List A) (i : ℕ) (d : A) → i < length l → f (get_or l i d) ≡ true → 0 < count f l
  count_pos l i d h e = omega (arith, count_at l i d h, bit_true (f (get_or l i d)) e)

  pub count_replicate : (n : ℕ) (a : A) → f a ≡ false → count f (replicate n a) ≡ 0
  count_replicate zero a e = refl
  count_replicate (suc n) a e = omega (arith, bit_false (f a) e, count_replicate n a e)

module _ {A : Type 0} (f g : A → Bool) where
  pub count_le : ((x : A) → bit (f x) ≤ bit (g x)) → (l : List A) → count f l ≤ count g l
  count_le h [] = omega arith
  count_le h (x ∷ l) = omega (arith, h x, count_le h l)

  pub count_same : ((x : A) → f x ≡ g x) → (l : List A) → count f l ≡ count g l
  count_same h [] = refl
  count_same h (x ∷ l) = omega (arith, ap bit (h x), count_same h l)

pub count_map : {A B : Type 0} (f : B → Bool) (g : A → B) (l : List A) → count f (map g l) ≡ count (λ (x : A). f (g x)) l
count_map f g [] = refl
count_map f g (x ∷ l) = ap (λ (n : ℕ). bit (f (g x)) + n) (count_map f g l)
