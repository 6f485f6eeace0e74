-- Laws of lists: an element changed, what is found first, and lists made place by place.
-- Assumes nothing.
use Rattle.basis.proofs.Std.{ℕ, zero, suc, ◌+◌, ◌*◌, ◌≤◌, ◌<◌, ◌≡◌, refl, sym, ap, ap₂, ◌∙◌, Bool, true, false, not, List, [], ◌∷◌, ◌++◌, map, some, none, ◌⊎◌, inl, inr, arith, length, get_or, pick, both, count, Among, bool_cases, le_or_lt, not_both}
use Rattle.basis.specs.Lists.Among.{first, later}
use Rattle.entry.specs.declared.Entry.{Entry}
use Rattle.pool_laws.specs.Upwards.{entries_to}
use Rattle.machine.specs.Words.{maybe, keep, first_that, flat, changed, up_to}
use Rattle.demand_held.proofs.Lists.{bit_true, bit_false}

module _ {A : Type 0} where
  pub get_d_changed_same : (f : A → A) (d : A) (xs : List A) (i : ℕ) → i < length xs → get_or (changed i f xs) i d ≡ f (get_or xs i d)
  get_d_changed_same f d [] i h = absurd (omega arith)
  get_d_changed_same f d (x ∷ xs) zero h = refl
  get_d_changed_same f d (x ∷ xs) (suc i) h = get_d_changed_same f d xs i (omega arith)

  pub get_d_changed_other : (f : A → A) (d : A) (xs : List A) (i j : ℕ) → (j ≡ i → ⊥) → get_or (changed i f xs) j d ≡ get_or xs j d
  get_d_changed_other f d [] i j h = refl
  get_d_changed_other f d (x ∷ xs) zero zero h = absurd (h refl)
  get_d_changed_other f d (x ∷ xs) zero (suc j) h = refl
  get_d_changed_other f d (x ∷ xs) (suc i) zero h = refl
  get_d_changed_other f d (x ∷ xs) (suc i) (suc j) h = get_d_changed_other f d xs i j (λ e. h (ap suc e))

  pub append-nil : (xs : List A) → xs ++ [] ≡ xs
  append-nil [] = refl
  append-nil (x ∷ xs) = ap (λ (l : List A). x ∷ l) (append-nil xs)

  pub append_assoc : (xs ys zs : List A) → (xs ++ ys) ++ zs ≡ xs ++ (ys ++ zs)
  append_assoc [] ys zs = refl
  append_assoc (x ∷ xs) ys zs = ap (λ (l : List A). x ∷ l) (append_assoc xs ys zs)

  -- ---- what is found first
  pub first_passes : (f : A → Bool) (xs : List A) (w : A) → first_that f xs ≡ some w → f w ≡ true
  first_passes f [] w e = absurd (let z : ◌≡◌ {A = ℕ} 0 1 = cc in omega arith)
  first_passes f (x ∷ xs) w e = go (f x) refl e (first_passes f xs w)
    where
      same : (u v : A) → some u ≡ some v → u ≡ v
      same u v e = cc

      go : (b : Bool) → f x ≡ b → pick b (some x) (first_that f xs) ≡ some w → (first_that f xs ≡ some w → f w ≡ true) → f w ≡ true
      go true t e r = rw (← same x w e) t
      go false t e r = r e

  pub first_among : (f : A → Bool) (xs : List A) (w : A) → first_that f xs ≡ some w → Among w xs
  first_among f [] w e = absurd (let z : ◌≡◌ {A = ℕ} 0 1 = cc in omega arith)
  first_among f (x ∷ xs) w e = go (f x) e (first_among f xs w)
    where
      same : (u v : A) → some u ≡ some v → u ≡ v
      same u v e = cc

      go : (b : Bool) → pick b (some x) (first_that f xs) ≡ some w → (first_that f xs ≡ some w → Among w xs) → Among w (x ∷ xs)
      go true e r = rw (same x w e) first
      go false e r = later (r e)

  pub first_last : (f : A → Bool) (xs : List A) (y : A) → first_that f (xs ++ (y ∷ [])) ≡ maybe (pick (f y) (some y) none) some (first_that f xs)
  first_last f [] y = refl
  first_last f (x ∷ xs) y = bool_cases (f x) (λ t. rw t) (λ t. rw t (first_last f xs y))

  -- leaving out those that pass g
  pub first_left : (f g : A → Bool) → ((x : A) → f x ≡ true → g x ≡ false) → (xs : List A) → first_that f (keep (λ x. not (g x)) xs) ≡ first_that f xs
  first_left f g h [] = refl
  first_left f g h (x ∷ xs) =
      bool_cases (g x)
      (λ t. bool_cases (f x) (λ u. not_both t (h x u)) (λ u. rw (t, u) (first_left f g h xs)))
      (λ t. bool_cases (f x) (λ u. rw (t, u)) (λ u. rw (t, u) (first_left f g h xs)))

  pub first_out : (f : A → Bool) (xs : List A) → first_that f (keep (λ x. not (f x)) xs) ≡ none
  first_out f [] = refl
  first_out f (x ∷ xs) = bool_cases (f x) (λ t. rw t (first_out f xs)) (λ t. rw (t, t) (first_out f xs))

  pub count_out : (f : A → Bool) (xs : List A) → count f (keep (λ x. not (f x)) xs) ≡ 0
  count_out f [] = refl
  count_out f (x ∷ xs) = bool_cases (f x) (λ t. rw t (count_out f xs)) (λ t. rw (t, t) (omega (arith, count_out f xs)))

  pub keep_among : (f : A → Bool) {w : A} (xs : List A) → Among w (keep f xs) → Among w xs
  keep_among f [] a = a
  keep_among f (x ∷ xs) a = among_pick (f x) a (keep_among f xs)
    where
      among_pick : (b : Bool) {w x : A} {xs ys : List A} → Among w (pick b (x ∷ ys) ys) → (Among w ys → Among w xs) → Among w (x ∷ xs)
      among_pick true first r = first
      among_pick true (later i) r = later (r i)
      among_pick false i r = later (r i)

  pub last_among : (P : A → Type 0) (xs : List A) (y : A) → ((w : A) → Among w xs → P w) → P y → (w : A) → Among w (xs ++ (y ∷ [])) → P w
  last_among P [] y f p w (later a) = elim a [ ]
  last_among P [] y f p w first = p
  last_among P (x ∷ xs) y f p w first = f x first
  last_among P (x ∷ xs) y f p w (later a) = last_among P xs y (λ v i. f v (later i)) p w a

  pub keep_none : (f : A → Bool) → ((x : A) → f x ≡ false) → (xs : List A) → keep f xs ≡ []
  keep_none f h [] = refl
  keep_none f h (x ∷ xs) = rw (h x) (keep_none f h xs)

  -- where one at most passes f, those that pass f and g are the first that passes f, if it passes g
  pub keep_first : (f g : A → Bool) (xs : List A) → count f xs ≤ 1
      → keep (λ x. both (f x) (g x)) xs ≡ maybe [] (λ x. pick (g x) (x ∷ []) []) (first_that f xs)
  keep_first f g [] h = refl
  keep_first f g (x ∷ xs) h =
      bool_cases (f x)
      (λ t. rw t (bool_cases (g x)
      (λ u. rw u (ap (λ (l : List A). x ∷ l) (no_others xs (omega (arith, bit_true (f x) t)))))
      (λ u. rw u (no_others xs (omega (arith, bit_true (f x) t))))))
      (λ t. rw t (keep_first f g xs (omega arith)))
    where
      no_others : (ys : List A) → count f ys ≡ 0 → keep (λ x. both (f x) (g x)) ys ≡ []
      no_others [] e = refl
      no_others (y ∷ ys) e =
          bool_cases (f y) (λ t. absurd (omega (arith, bit_true (f y) t)))
          (λ t. rw t (no_others ys (omega (arith, bit_false (f y) t))))

pub first_map : {A : Type 0} (f : A → Bool) (g : A → A) → ((x : A) → f (g x) ≡ f x) → (xs : List A)
    → first_that f (map g xs) ≡ maybe none (λ x. some (g x)) (first_that f xs)
first_map f g h [] = refl
first_map f g h (x ∷ xs) = rw (h x) (bool_cases (f x) (λ t. rw t) (λ t. rw t (first_map f g h xs)))

pub count_map : {A : Type 0} (f : A → Bool) (g : A → A) → ((x : A) → f (g x) ≡ f x) → (xs : List A) → count f (map g xs) ≡ count f xs
count_map f g h [] = refl
count_map f g h (x ∷ xs) = rw (h x, count_map f g h xs)

pub map_among : {A B : Type 0} (P : B → Type 0) (g : A → B) (xs : List A) → ((w : A) → Among w xs → P (g w)) → (y : B) → Among y (map g xs) → P y
map_among {A = A} {B = B} P g [] h y x'' = elim x'' [ ]
map_among P g (x ∷ xs) h y first = h x first
map_among P g (x ∷ xs) h y (later a) = map_among P g xs (λ w i. h w (later i)) y a

pub get_d_map : {A B : Type 0} (f : A → B) (xs : List A) (i : ℕ) (d : A) → get_or (map f xs) i (f d) ≡ f (get_or xs i d)
get_d_map f [] i d = refl
get_d_map f (x ∷ xs) zero d = refl
get_d_map f (x ∷ xs) (suc i) d = get_d_map f xs i d

pub length-map : {A B : Type 0} (f : A → B) (xs : List A) → length (map f xs) ≡ length xs
length-map f [] = refl
length-map f (x ∷ xs) = ap suc (length-map f xs)

-- ---- lists made place by place
module _ {B : Type 0} where
  pub flat_last : (f : ℕ → List B) (xs : List ℕ) (y : ℕ) → flat f (xs ++ (y ∷ [])) ≡ flat f xs ++ f y
  flat_last f [] y = append-nil (f y)
  flat_last f (x ∷ xs) y = rw (flat_last f xs y) (sym (append_assoc (f x) (flat f xs) (f y)))

  pub flat_same : (f g : ℕ → List B) (n : ℕ) → ((i : ℕ) → i < n → f i ≡ g i) → flat f (up_to n) ≡ flat g (up_to n)
  flat_same f g zero h = refl
  flat_same f g (suc n) h =
      flat_last f (up_to n) n
      ∙ ap₂ (λ (a b : List B). a ++ b) (flat_same f g n (λ i e. h i (omega arith))) (h n (omega arith))
      ∙ sym (flat_last g (up_to n) n)

  pub flat_none : (f : ℕ → List B) (n : ℕ) → ((i : ℕ) → i < n → f i ≡ []) → flat f (up_to n) ≡ []
  flat_none f zero h = refl
  flat_none f (suc n) h = flat_last f (up_to n) n ∙ rw (flat_none f n (λ i e. h i (omega arith)), h n (omega arith))

  -- nothing beyond n; and something at one place only
  pub flat_beyond : (f : ℕ → List B) (n k : ℕ) → ((i : ℕ) → n ≤ i → i < n + k → f i ≡ []) → flat f (up_to (n + k)) ≡ flat f (up_to n)
  flat_beyond f n zero h = let e : n + 0 ≡ n = omega arith in rw e
  flat_beyond f n (suc k) h =
      let e : n + suc k ≡ suc (n + k) = omega arith in
      rw e (flat_last f (up_to (n + k)) (n + k) ∙ rw (h (n + k) (omega arith) (omega arith)) (append-nil (flat f (up_to (n + k))) ∙ flat_beyond f n k (λ i a b. h i a (omega arith))))

  pub flat_only : (f : ℕ → List B) (k n : ℕ) → k < n → ((i : ℕ) → i < n → (i ≡ k → ⊥) → f i ≡ []) → flat f (up_to n) ≡ f k
  flat_only f k zero h g = absurd (omega arith)
  flat_only f k (suc n) h g = by (le_or_lt n k) (λ e. flat_only f k n e (λ i a. g i (omega arith)))
    where
      by : (n ≤ k) ⊎ (k < n) → (k < n → flat f (up_to n) ≡ f k) → flat f (up_to (suc n)) ≡ f k
      by (inl e) r =
          let same : n ≡ k = omega arith in
          flat_last f (up_to n) n ∙ rw (flat_none f n (λ i a. g i (omega arith) (λ b. absurd (omega arith))), same)
      by (inr e) r =
          flat_last f (up_to n) n ∙ rw (g n (omega arith) (λ b. absurd (omega arith))) (append-nil (flat f (up_to n)) ∙ r e)

pub map-append : {A B : Type 0} (h : A → B) (xs ys : List A) → map h (xs ++ ys) ≡ map h xs ++ map h ys
map-append h [] ys = refl
map-append h (x ∷ xs) ys = ap (λ (l : List _). h x ∷ l) (map-append h xs ys)

pub map_flat : {A B C : Type 0} (h : B → C) (f : A → List B) (xs : List A) → map h (flat f xs) ≡ flat (λ x. map h (f x)) xs
map_flat h f [] = refl
map_flat h f (x ∷ xs) = map-append h (f x) (flat f xs) ∙ ap (λ (l : List _). map h (f x) ++ l) (map_flat h f xs)

-- the records of the places below n, upwards
pub entries_flat : (f : ℕ → List Entry) (n : ℕ) → entries_to f n ≡ flat f (up_to n)
entries_flat f zero = refl
entries_flat f (suc n) = rw (entries_flat f n) (sym (flat_last f (up_to n) n))

entries_more : (f : ℕ → List Entry) (a n : ℕ) → entries_to f (a + n) ≡ entries_to f a ++ entries_to (λ i. f (a + i)) n
entries_more f a zero = let e : a + 0 ≡ a = omega arith in rw e (sym (append-nil (entries_to f a)))
entries_more f a (suc n) =
    let e : a + suc n ≡ suc (a + n) = omega arith in
    rw e (rw (entries_more f a n) (append_assoc (entries_to f a) (entries_to (λ i. f (a + i)) n) (f (a + n))))

-- rows of 32
pub entries_rows : (f : ℕ → List Entry) (n : ℕ) → entries_to f (n * 32) ≡ flat (λ l. flat (λ i. f (l * 32 + i)) (up_to 32)) (up_to n)
entries_rows f zero = refl
entries_rows f (suc n) =
    let e : suc n * 32 ≡ n * 32 + 32 = omega arith in
    rw e (entries_more f (n * 32) 32 ∙ ap₂ (λ (a b : List Entry). a ++ b) (entries_rows f n) (entries_flat (λ i. f (n * 32 + i)) 32)
    ∙ sym (flat_last (λ l. flat (λ i. f (l * 32 + i)) (up_to 32)) (up_to n) n))
