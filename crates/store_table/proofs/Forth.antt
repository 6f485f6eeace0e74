-- A table is read back from its own bytes.
-- Assumes nothing.
use Rattle.basis.proofs.Std.{◌≡◌, refl, sym, ap, ap₂, ◌∙◌, List, [], ◌∷◌, ◌++◌, ℕ, zero, suc, ◌+◌, ◌*◌, ◌/◌, ◌%◌, ◌<◌, add-zero, zero-add, arith, length, get_or, length-append, get_or-append, get_or-append-add}
use Rattle.label.specs.declared.Label.{Label}
use Rattle.label.specs.Label.{no_label}
use Rattle.table_item.specs.declared.Item.{Item}
use Rattle.table_item.specs.Item.{no_item}
use Rattle.table_whole.specs.declared.SiteTable.{SiteTable}
use Rattle.table_whole.specs.Bytes.{in_turn}
use Rattle.store_words.specs.Words.{word}
use Rattle.store_words.proofs.Elements.{list_is}
use Rattle.store_table.specs.Layout.{count_in, label_in, item_in, labels_in, items_in, table_of, count_bytes, label_bytes, item_bytes, head_bytes, layout_of}
use Rattle.store_table.specs.Laid.{LabelFits, ItemFits, TableFits}

-- these bytes stand at i
abbrev Holds : List ℕ → ℕ → List ℕ → Type 0
Holds bs i row = (j : ℕ) → j < length row → word bs (i + j) ≡ word row j

first : (bs : List ℕ) (i : ℕ) (xs ys : List ℕ) → Holds bs i (xs ++ ys) → Holds bs i xs
first bs i xs ys h j g = h j (omega (arith, length-append xs ys)) ∙ get_or-append xs ys 0 j g

second : (bs : List ℕ) (i n m : ℕ) (xs ys : List ℕ) → length xs ≡ n → m ≡ i + n → Holds bs i (xs ++ ys) → Holds bs m ys
second bs i n m xs ys e f h j g =
    let p : m + j ≡ i + (length xs + j) = omega arith in
    ap (word bs) p ∙ h (length xs + j) (omega (arith, length-append xs ys)) ∙ get_or-append-add xs ys j 0

head : (bs : List ℕ) (i x : ℕ) (xs : List ℕ) → Holds bs i (x ∷ xs) → word bs i ≡ x
head bs i x xs h = ap (word bs) (sym (add-zero i)) ∙ h 0 (omega arith)

count_forth : (bs : List ℕ) (i n : ℕ) → Holds bs i (count_bytes n) → count_in bs i ≡ n
count_forth bs i n h =
    let a = head bs i (n / 256) (n % 256 ∷ []) h in
    let b : word bs (i + 1) ≡ n % 256 = h 1 (omega arith) in
    omega (arith, a, b)

label_long : (l : Label) → LabelFits l → length (label_bytes l) ≡ 33
unfolding label_bytes
label_long l e = length-append l.bytes (l.length ∷ []) ∙ ap (λ (n : ℕ). n + 1) e

label_forth : (bs : List ℕ) (i : ℕ) (l : Label) → LabelFits l → Holds bs i (label_bytes l) → label_in bs i ≡ l
unfolding label_bytes label_in
label_forth bs i l e h =
    let a = first bs i l.bytes (l.length ∷ []) h in
    let b = head bs (i + 32) l.length [] (second bs i 32 (i + 32) l.bytes (l.length ∷ []) e refl h) in
    let c = list_is (λ (j : ℕ). word bs (i + j)) 32 l.bytes 0 e (λ j g. sym (a j (omega arith))) in
    ap₂ (λ (m : List ℕ) (n : ℕ). record { bytes = m; length = n }) (sym c) b

item_long : (x : Item) → ItemFits x → length (item_bytes x) ≡ 73
unfolding item_bytes
item_long x f =
    let p = label_long x.code f.code in
    let q = label_long x.name f.name in
    let rest = x.component ∷ x.priority ∷ x.category ∷ (count_bytes x.lowest ++ count_bytes x.highest) in
    length-append (label_bytes x.code) (label_bytes x.name ++ rest)
    ∙ ap₂ (λ (m n : ℕ). m + n) p (length-append (label_bytes x.name) rest ∙ ap (λ (n : ℕ). n + 7) q)

item_forth : (bs : List ℕ) (i : ℕ) (x : Item) → ItemFits x → Holds bs i (item_bytes x) → item_in bs i ≡ x
unfolding item_bytes item_in
item_forth bs i x f h =
    let rest = x.component ∷ x.priority ∷ x.category ∷ (count_bytes x.lowest ++ count_bytes x.highest) in
    let p = second bs i 33 (i + 33) (label_bytes x.code) (label_bytes x.name ++ rest) (label_long x.code f.code) refl h in
    let q = second bs (i + 33) 33 (i + 66) (label_bytes x.name) rest (label_long x.name f.name) (omega arith) p in
    let c : word bs (i + 66) ≡ x.component = head bs (i + 66) x.component (x.priority ∷ x.category ∷ (count_bytes x.lowest ++ count_bytes x.highest)) q in
    let d : word bs (i + 67) ≡ x.priority = let z : i + 67 ≡ i + 66 + 1 = omega arith in ap (word bs) z ∙ q 1 (omega arith) in
    let e : word bs (i + 68) ≡ x.category = let z : i + 68 ≡ i + 66 + 2 = omega arith in ap (word bs) z ∙ q 2 (omega arith) in
    let r = second bs (i + 66) 3 (i + 69) (x.component ∷ x.priority ∷ x.category ∷ []) (count_bytes x.lowest ++ count_bytes x.highest) refl (omega arith) q in
    let low = count_forth bs (i + 69) x.lowest (first bs (i + 69) (count_bytes x.lowest) (count_bytes x.highest) r) in
    let high = count_forth bs (i + 71) x.highest (second bs (i + 69) 2 (i + 71) (count_bytes x.lowest) (count_bytes x.highest) refl (omega arith) r) in
    rw (
      label_forth bs i x.code f.code (first bs i (label_bytes x.code) (label_bytes x.name ++ rest) h),
      label_forth bs (i + 33) x.name f.name (first bs (i + 33) (label_bytes x.name) rest p),
      c,
      d,
      e,
      low,
      high,
    )

-- elements of n bytes each, element k at `at k`
module _ {A : Type 0} (f : A → List ℕ) (n : ℕ) (at : ℕ → ℕ) (start : at 0 ≡ 0) (grow : (k : ℕ) → at (suc k) ≡ n + at k) (d : A) where
  turn_long : (l : List A) → ((k : ℕ) → k < length l → length (f (get_or l k d)) ≡ n) → length (in_turn f l) ≡ at (length l)
  turn_long [] e = sym start
  turn_long (x ∷ l) e =
      length-append (f x) (in_turn f l) ∙ ap₂ (λ (a b : ℕ). a + b) (e 0 (omega arith)) (turn_long l (λ k h. e (suc k) (omega arith))) ∙ sym (grow (length l))

  turn_at : (bs : List ℕ) (i : ℕ) (l : List A) → ((k : ℕ) → k < length l → length (f (get_or l k d)) ≡ n) → Holds bs i (in_turn f l)
      → (k : ℕ) → k < length l → Holds bs (i + at k) (f (get_or l k d))
  turn_at bs i [] e h k g = absurd (omega arith)
  turn_at bs i (x ∷ l) e h zero g =
      λ j q.
      let z : i + at 0 + j ≡ i + j = omega (arith, start) in
      ap (word bs) z ∙ first bs i (f x) (in_turn f l) h j q
  turn_at bs i (x ∷ l) e h (suc k) g =
      λ j q.
      let z : i + at (suc k) + j ≡ i + n + at k + j = omega (arith, grow k) in
      ap (word bs) z ∙ turn_at bs (i + n) l (λ m y. e (suc m) (omega arith)) (second bs i n (i + n) (f x) (in_turn f l) (e 0 (omega arith)) refl h) k (omega arith) j q

abbrev labels_at : ℕ → ℕ
labels_at k = 33 * k

abbrev items_at : ℕ → ℕ
items_at k = 73 * k

module _ (bs : List ℕ) (i : ℕ) where
  labels_forth : (l : List Label) → length l ≡ 8 → ((k : ℕ) → k < 8 → LabelFits (get_or l k no_label)) → Holds bs i (in_turn label_bytes l) → labels_in bs i ≡ l
  unfolding labels_in
  labels_forth l e f h =
      let long : (k : ℕ) → k < length l → length (label_bytes (get_or l k no_label)) ≡ 33 = λ k g. label_long (get_or l k no_label) (f k (omega arith)) in
      sym (list_is (λ (k : ℕ). label_in bs (i + 33 * k)) 8 l no_label e
      (λ k g. sym (label_forth bs (i + 33 * k) (get_or l k no_label) (f k g)
      (turn_at label_bytes 33 labels_at refl (λ m. omega arith) no_label bs i l long h k (omega arith)))))

  items_forth : (n : ℕ) (l : List Item) → length l ≡ n → ((k : ℕ) → k < n → ItemFits (get_or l k no_item)) → Holds bs i (in_turn item_bytes l) → items_in bs i n ≡ l
  unfolding items_in
  items_forth n l e f h =
      let long : (k : ℕ) → k < length l → length (item_bytes (get_or l k no_item)) ≡ 73 = λ k g. item_long (get_or l k no_item) (f k (omega arith)) in
      sym (list_is (λ (k : ℕ). item_in bs (i + 73 * k)) n l no_item e
      (λ k g. sym (item_forth bs (i + 73 * k) (get_or l k no_item) (f k g)
      (turn_at item_bytes 73 items_at refl (λ m. omega arith) no_item bs i l long h k (omega arith)))))

labels_long : (l : List Label) → length l ≡ 8 → ((k : ℕ) → k < 8 → LabelFits (get_or l k no_label)) → length (in_turn label_bytes l) ≡ 264
labels_long l e f =
    turn_long label_bytes 33 labels_at refl (λ m. omega arith) no_label l (λ k g. label_long (get_or l k no_label) (f k (omega arith))) ∙ ap labels_at e

items_long : (n : ℕ) (l : List Item) → length l ≡ n → ((k : ℕ) → k < n → ItemFits (get_or l k no_item)) → length (in_turn item_bytes l) ≡ 73 * n
items_long n l e f =
    turn_long item_bytes 73 items_at refl (λ m. omega arith) no_item l (λ k g. item_long (get_or l k no_item) (f k (omega arith))) ∙ ap items_at e

module _ (x : SiteTable) (f : TableFits x) where
  abbrev c : List ℕ
  c = count_bytes x.componentcount

  abbrev a : List ℕ
  a = count_bytes x.alarmcount

  abbrev s : List ℕ
  s = count_bytes x.statuscount

  abbrev k : List ℕ
  k = count_bytes x.commandcount

  abbrev names : List ℕ
  names = label_bytes x.site ++ label_bytes x.sxl

  head_long : length (head_bytes x) ≡ 74
  unfolding head_bytes
  head_long =
      let n : length names ≡ 66 = length-append (label_bytes x.site) (label_bytes x.sxl) ∙ ap₂ (λ (p q : ℕ). p + q) (label_long x.site f.site) (label_long x.sxl f.sxl) in
      omega (arith, n)

  abbrev ls : List ℕ
  ls = in_turn item_bytes x.alarms

  abbrev ss : List ℕ
  ss = in_turn item_bytes x.statuses

  abbrev ks : List ℕ
  ks = in_turn item_bytes x.commands

  abbrev lists : List ℕ
  lists = in_turn label_bytes x.components ++ (ls ++ (ss ++ ks))

  module _ (bs : List ℕ) (h : Holds bs 0 (head_bytes x)) where
    from_2 : Holds bs 2 (a ++ (s ++ (k ++ names)))
    unfolding head_bytes
    from_2 = second bs 0 2 2 c (a ++ (s ++ (k ++ names))) refl refl h

    from_4 : Holds bs 4 (s ++ (k ++ names))
    from_4 = second bs 2 2 4 a (s ++ (k ++ names)) refl refl from_2

    from_6 : Holds bs 6 (k ++ names)
    from_6 = second bs 4 2 6 s (k ++ names) refl refl from_4

    from_8 : Holds bs 8 names
    from_8 = second bs 6 2 8 k names refl refl from_6

    components_forth : count_in bs 0 ≡ x.componentcount
    unfolding head_bytes
    components_forth = count_forth bs 0 x.componentcount (first bs 0 c (a ++ (s ++ (k ++ names))) h)

    alarms_forth : count_in bs 2 ≡ x.alarmcount
    alarms_forth = count_forth bs 2 x.alarmcount (first bs 2 a (s ++ (k ++ names)) from_2)

    statuses_forth : count_in bs 4 ≡ x.statuscount
    statuses_forth = count_forth bs 4 x.statuscount (first bs 4 s (k ++ names) from_4)

    commands_forth : count_in bs 6 ≡ x.commandcount
    commands_forth = count_forth bs 6 x.commandcount (first bs 6 k names from_6)

    site_forth : label_in bs 8 ≡ x.site
    site_forth = label_forth bs 8 x.site f.site (first bs 8 (label_bytes x.site) (label_bytes x.sxl) from_8)

    sxl_forth : label_in bs 41 ≡ x.sxl
    sxl_forth = label_forth bs 41 x.sxl f.sxl (second bs 8 33 41 (label_bytes x.site) (label_bytes x.sxl) (label_long x.site f.site) refl from_8)

  module _ (bs : List ℕ) (h : Holds bs 0 (head_bytes x ++ lists)) where
    rows_74 : Holds bs 74 lists
    rows_74 = second bs 0 74 74 (head_bytes x) lists head_long refl h

    rows_338 : Holds bs 338 (ls ++ (ss ++ ks))
    rows_338 = second bs 74 264 338 (in_turn label_bytes x.components) (ls ++ (ss ++ ks)) (labels_long x.components f.components f.component) refl rows_74

    rows_2674 : Holds bs 2674 (ss ++ ks)
    rows_2674 = second bs 338 2336 2674 ls (ss ++ ks) (items_long 32 x.alarms f.alarms f.alarm) refl rows_338

    rows_5010 : Holds bs 5010 ks
    rows_5010 = second bs 2674 2336 5010 ss ks (items_long 32 x.statuses f.statuses f.status) refl rows_2674

    all_forth : table_of bs ≡ x
    unfolding table_of
    all_forth =
        let g = first bs 0 (head_bytes x) lists h in
        rw (
          components_forth bs g,
          alarms_forth bs g,
          statuses_forth bs g,
          commands_forth bs g,
          site_forth bs g,
          sxl_forth bs g,
          labels_forth bs 74 x.components f.components f.component (first bs 74 (in_turn label_bytes x.components) (ls ++ (ss ++ ks)) rows_74),
          items_forth bs 338 32 x.alarms f.alarms f.alarm (first bs 338 ls (ss ++ ks) rows_338),
          items_forth bs 2674 32 x.statuses f.statuses f.status (first bs 2674 ss ks rows_2674),
          items_forth bs 5010 16 x.commands f.commands f.command rows_5010,
        )

  pub table_forth : table_of (layout_of x) ≡ x
  unfolding layout_of
  table_forth = all_forth (head_bytes x ++ lists) (λ j g. ap (word (head_bytes x ++ lists)) (zero-add j))
