-- What is kept of a table says the table again; the tests on it say that nothing stands there twice.
-- Assumes nothing.
use Rattle.basis.proofs.Std.{◌≡◌, refl, sym, ap, ap₂, subst, ◌∙◌, Bool, true, List, [], ◌∷◌, ◌++◌, map, append_assoc, append-nil, ℕ, zero, suc, ◌+◌, ◌-◌, ◌≤◌, ◌<◌, arith, eqb, length, get_or, take, replicate, length-append, length-map, length-replicate, replicate-append-replicate, get_or-append, get_or-map, take_at, eqb-true, eq-eqb, same_bytes, same_true, same_self, both_true, both_of}
use Rattle.label.specs.Padded.{padded}
use Rattle.label.specs.Label.{label_of, no_label, text_of}
use Rattle.label.specs.declared.Label.{Label}
use Rattle.label.proofs.Padded.{take_padded}
use Rattle.table_item.specs.declared.Item.{Item}
use Rattle.table_item.specs.Item.{no_item, is_item}
use Rattle.table_item.specs.Find.{label_at, item_at, own_labels, own_items}
use Rattle.table_item.proofs.Own.{own_once, once_own}
use Rattle.table_whole.specs.Table.{Row, no_row}
use Rattle.table_whole.specs.Allowed.{SameRow, NoneTwice}
use Rattle.table_whole.specs.Memory.{item_of}

pub text_label : (x : List ℕ) → text_of (label_of x) ≡ x
text_label x = take_padded 32 0 x

-- the first half of a place
pub narrow : {X : Type 0} (z : X) (xs : List X) → length xs ≤ 16 → take 16 (padded 32 z xs) ≡ padded 16 z xs
narrow {X} z xs h =
    let n = length xs in
    let e : 32 - n ≡ (16 - n) + 16 = omega arith in
    let l : length (padded 16 z xs) ≡ 16 = length-append xs (replicate (16 - n) z) ∙ simp length-replicate (omega arith) in
    ap (take 16) (ap (λ (m : ℕ). xs ++ replicate m z) e ∙ ap (λ (r : List X). xs ++ r) (sym (replicate-append-replicate (16 - n) 16 z)) ∙ sym (append_assoc xs (replicate (16 - n) z) (replicate 16 z)))
    ∙ take_at (padded 16 z xs) (replicate 16 z) 16 l

-- where there are as many as places
pub full : {X : Type 0} (n : ℕ) (z : X) (xs : List X) → length xs ≡ n → padded n z xs ≡ xs
full n z xs e =
    let k : n - length xs ≡ 0 = omega arith in
    ap (λ (m : ℕ). xs ++ replicate m z) k ∙ append-nil xs

-- what is read behind a list that is kept
zeros_read : {X : Type 0} (m : ℕ) (z : X) (i : ℕ) → get_or (replicate m z) i z ≡ z
zeros_read zero z i = refl
zeros_read (suc m) z zero = refl
zeros_read (suc m) z (suc i) = zeros_read m z i

pub behind_read : {X : Type 0} (m : ℕ) (z : X) (xs : List X) (i : ℕ) → get_or (xs ++ replicate m z) i z ≡ get_or xs i z
behind_read m z [] i = zeros_read m z i
behind_read m z (x ∷ xs) zero = refl
behind_read m z (x ∷ xs) (suc i) = behind_read m z xs i

-- an element that is kept
pub kept : {A X : Type 0} (f : A → X) (d : A) (n : ℕ) (xs : List A) (i : ℕ) → i < length xs → get_or (padded n (f d) (map f xs)) i (f d) ≡ f (get_or xs i d)
kept f d n xs i h =
    get_or-append (map f xs) (replicate (n - length (map f xs)) (f d)) (f d) i (omega (arith, length-map xs f))
    ∙ get_or-map f xs i d

pub same_bytes_lem : {xs ys : List ℕ} → xs ≡ ys → same_bytes xs ys ≡ true
same_bytes_lem {xs} e = subst (λ (l : List ℕ). same_bytes xs l ≡ true) e (same_self xs)

module _ (cs : List (List ℕ)) where
  abbrev pub kept_labels : List Label
  kept_labels = padded 8 no_label (map label_of cs)

  pub kept_text : (i : ℕ) → i < length cs → text_of (get_or kept_labels i no_label) ≡ get_or cs i []
  kept_text i h = ap text_of (kept label_of [] 8 cs i h) ∙ text_label (get_or cs i [])

  like_label : ℕ → ℕ → Bool
  like_label i j = label_at kept_labels (text_of (get_or kept_labels i no_label)) j

  label_like : (i j : ℕ) → i < length cs → j < length cs → get_or cs i [] ≡ get_or cs j [] → like_label i j ≡ true
  unfolding like_label
  label_like i j hi hj e = same_bytes_lem (kept_text j hj ∙ sym e ∙ sym (kept_text i hi))

  like_label_lem : (i j : ℕ) → i < length cs → j < length cs → like_label i j ≡ true → get_or cs i [] ≡ get_or cs j []
  unfolding like_label
  like_label_lem i j hi hj e = sym (sym (kept_text j hj) ∙ same_true _ _ e ∙ kept_text i hi)

  pub labels_once : own_labels kept_labels (length cs) ≡ true → NoneTwice (λ (a b : List ℕ). a ≡ b) [] cs
  unfolding like_label
  labels_once o i j hi hj e = own_once like_label (length cs) o i j hi hj (label_like i j hi hj e) (label_like j i hj hi (sym e))

  pub once_labels : NoneTwice (λ (a b : List ℕ). a ≡ b) [] cs → own_labels kept_labels (length cs) ≡ true
  unfolding like_label
  once_labels o =
      once_own like_label (length cs) (λ i j hi hj s. o i j hi hj (like_label_lem i j hi hj s)) (λ i h. label_like i i h h refl)

-- a kept row is called so exactly when the row is
pub row_is : (r : Row) (c : ℕ) (code name : List ℕ) → is_item c code name (item_of r) ≡ true → (r.component ≡ c) × ((r.code ≡ code) × (r.name ≡ name))
unfolding is_item
row_is r c code name e =
    let p = both_true (eqb r.component c) _ e in
    let q = both_true (same_bytes (text_of (label_of r.code)) code) _ p.1 in (
      eqb-true r.component c p.0,
      (sym (text_label r.code) ∙ same_true _ _ q.0, sym (text_label r.name) ∙ same_true _ _ q.1),
    )

pub is_row : (r : Row) (c : ℕ) (code name : List ℕ) → r.component ≡ c → r.code ≡ code → r.name ≡ name → is_item c code name (item_of r) ≡ true
unfolding is_item
is_row r c code name p q t =
    both_of (eq-eqb r.component c p) (both_of (same_bytes_lem (text_label r.code ∙ q)) (same_bytes_lem (text_label r.name ∙ t)))

module _ (most : ℕ) (rows : List Row) where
  abbrev pub kept_items : List Item
  kept_items = padded most no_item (map item_of rows)

  pub kept_item : (i : ℕ) → i < length rows → get_or kept_items i no_item ≡ item_of (get_or rows i no_row)
  kept_item i h = kept item_of no_row most rows i h

  like_item : ℕ → ℕ → Bool
  like_item i j = item_at kept_items (get_or kept_items i no_item).component (text_of (get_or kept_items i no_item).code) (text_of (get_or kept_items i no_item).name) j

  -- by the rows themselves
  like_row : (i j : ℕ) → i < length rows → j < length rows
      → like_item i j ≡ is_item (get_or rows i no_row).component (get_or rows i no_row).code (get_or rows i no_row).name (item_of (get_or rows j no_row))
  unfolding like_item
  like_row i j hi hj =
      ap₂ (λ (a b : Item). is_item a.component (text_of a.code) (text_of a.name) b) (kept_item i hi) (kept_item j hj)
      ∙ ap₂ (λ (x y : List ℕ). is_item (get_or rows i no_row).component x y (item_of (get_or rows j no_row)))
      (text_label (get_or rows i no_row).code) (text_label (get_or rows i no_row).name)

  item_like : (i j : ℕ) → i < length rows → j < length rows → SameRow (get_or rows i no_row) (get_or rows j no_row) → like_item i j ≡ true
  item_like i j hi hj e = like_row i j hi hj ∙ is_row (get_or rows j no_row) _ _ _ (sym e.component) (sym e.code) (sym e.name)

  like_item_lem : (i j : ℕ) → i < length rows → j < length rows → like_item i j ≡ true → SameRow (get_or rows i no_row) (get_or rows j no_row)
  like_item_lem i j hi hj e =
      let p = row_is (get_or rows j no_row) _ _ _ (sym (like_row i j hi hj) ∙ e) in
      record { component = sym p.0; code = sym p.1.0; name = sym p.1.1 }

  back : (i j : ℕ) → SameRow (get_or rows i no_row) (get_or rows j no_row) → SameRow (get_or rows j no_row) (get_or rows i no_row)
  back i j e = record { component = sym e.component; code = sym e.code; name = sym e.name }

  pub items_once : own_items kept_items (length rows) ≡ true → NoneTwice SameRow no_row rows
  unfolding like_item
  items_once o i j hi hj e = own_once like_item (length rows) o i j hi hj (item_like i j hi hj e) (item_like j i hj hi (back i j e))

  pub once_items : NoneTwice SameRow no_row rows → own_items kept_items (length rows) ≡ true
  unfolding like_item
  once_items o =
      once_own like_item (length rows) (λ i j hi hj s. o i j hi hj (like_item_lem i j hi hj s))
      (λ i h. item_like i i h h (record { component = refl; code = refl; name = refl }))
