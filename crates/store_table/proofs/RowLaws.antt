-- Labels and rows, read from the bytes where they stand.
-- Assumes nothing.
use Rattle.basis.proofs.Std.{◌≡◌, refl, sym, ap, ap₂, ◌∙◌, List, ℕ, ◌+◌, ◌-◌, ◌*◌, ◌<◌, ◌≤◌, min, sub-zero, arith, length, get_or, take, drop, length-drop, get_or-eq_default, length-take-le, take-take, get_or-take, get_or-drop}
use Rattle.label.specs.declared.Label.{Label}
use Rattle.label.specs.Label.{label_of, no_label, text_of}
use Rattle.label.proofs.Text.{text_part}
use Rattle.table_item.specs.declared.Item.{Item}
use Rattle.table_item.specs.Item.{no_item}
use Rattle.table_whole.proofs.Kept.{full}
use Rattle.store_words.specs.Words.{word, list_of}
use Rattle.store_words.proofs.Elements.{list_at, list_is, list_length}
use Rattle.store_table.specs.Layout.{count_in, label_in, item_in, labels_in, items_in}

-- a part of the bytes
part_is : (bs : List ℕ) (i n : ℕ) → i + n ≤ length bs → take n (drop i bs) ≡ list_of (λ (j : ℕ). word bs (i + j)) n
part_is bs i n h =
    list_is (λ (j : ℕ). word bs (i + j)) n (take n (drop i bs)) 0 (length-take-le n (drop i bs) (omega (arith, length-drop i bs)))
    (λ j g. get_or-take n (drop i bs) j 0 g ∙ get_or-drop i bs j 0)

module _ (bs : List ℕ) (i : ℕ) where
  pub label_get : (p : Label) → i + 33 ≤ length bs → p ≡ label_of (take 32 (take (i + 32 - i) (drop i bs)))
      → ◌≡◌ {A = Label} (record { bytes = p.bytes; length = word bs (i + 32) }) (label_in bs i)
  unfolding label_in
  label_get p h e =
      let n : i + 32 - i ≡ 32 = omega arith in
      let s : take 32 (take (i + 32 - i) (drop i bs)) ≡ list_of (λ (j : ℕ). word bs (i + j)) 32 =
      ap (λ (m : ℕ). take 32 (take m (drop i bs))) n ∙ take-take 32 32 (drop i bs) (omega arith) ∙ part_is bs i 32 (omega arith) in
      let l : length (take 32 (take (i + 32 - i) (drop i bs))) ≡ 32 = ap length s ∙ list_length (λ (j : ℕ). word bs (i + j)) 32 in
      ap (λ (m : List ℕ). record { bytes = m; length = word bs (i + 32) }) (ap (λ (q : Label). q.bytes) e ∙ full 32 0 _ l ∙ s)

  bytes_32 : length (label_in bs i).bytes ≡ 32
  unfolding label_in
  bytes_32 = list_length (λ (j : ℕ). word bs (i + j)) 32

  bytes_are : i + 33 ≤ length bs → take 32 (drop i bs) ≡ (label_in bs i).bytes
  unfolding label_in
  bytes_are h = part_is bs i 32 (omega arith)

  length_is : word bs (i + 32) ≡ (label_in bs i).length
  unfolding label_in
  length_is = refl

  -- the text, as a part of the bytes
  pub text_is : (n : ℕ) → i + 33 ≤ length bs → n ≡ min (word bs (i + 32)) 32 → take (i + n - i) (drop i bs) ≡ text_of (label_in bs i)
  text_is n h e =
      let m : i + n - i ≡ n = omega arith in
      let k : n ≤ 32 = omega arith in
      ap (λ (q : ℕ). take q (drop i bs)) m
      ∙ sym (take-take n 32 (drop i bs) k)
      ∙ ap₂ take (sym (sub-zero n)) (bytes_are h)
      ∙ text_part (label_in bs i) bytes_32 n (e ∙ ap (λ (q : ℕ). min q 32) length_is)

  pub item_get : {c n : Label} → c ≡ label_in bs i → n ≡ label_in bs (i + 33)
      → {low high : ℕ} → low ≡ count_in bs (i + 69) → high ≡ count_in bs (i + 71)
      → ◌≡◌ {A = Item}
      (record { code = c; name = n; component = word bs (i + 66); priority = word bs (i + 67); category = word bs (i + 68); lowest = low; highest = high })
      (item_in bs i)
  unfolding item_in
  item_get e f g h = rw (e, f, g, h)

  pub labels_length : length (labels_in bs i) ≡ 8
  unfolding labels_in
  labels_length = list_length (λ (k : ℕ). label_in bs (i + 33 * k)) 8

  pub items_length : (n : ℕ) → length (items_in bs i n) ≡ n
  unfolding items_in
  items_length n = list_length (λ (k : ℕ). item_in bs (i + 73 * k)) n

  module _ (k : ℕ) where
    pub label_at : k < 8 → label_in bs (i + 33 * k) ≡ get_or (labels_in bs i) k no_label
    unfolding labels_in
    label_at h = sym (list_at (λ (j : ℕ). label_in bs (i + 33 * j)) 8 k no_label h)

    pub label_behind : 8 ≤ k → no_label ≡ get_or (labels_in bs i) k no_label
    label_behind h = sym (get_or-eq_default (labels_in bs i) no_label {n = k} (omega (arith, labels_length)))

    module _ (n : ℕ) where
      pub item_at_lem : k < n → item_in bs (i + 73 * k) ≡ get_or (items_in bs i n) k no_item
      unfolding items_in
      item_at_lem h = sym (list_at (λ (j : ℕ). item_in bs (i + 73 * j)) n k no_item h)

      pub item_behind : n ≤ k → no_item ≡ get_or (items_in bs i n) k no_item
      item_behind h = sym (get_or-eq_default (items_in bs i n) no_item {n = k} (omega (arith, items_length n)))
