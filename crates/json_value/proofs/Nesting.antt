-- One step of the readers of values, of entries and of what stands between brackets, at a place of a slice.
-- Assumes nothing.
use Rattle.basis.proofs.Std.{ℕ, zero, suc, ◌+◌, ◌-◌, ◌<◌, ◌≤◌, ◌≡◌, refl, sym, ap, ◌∙◌, Bool, true, false, List, [], ◌∷◌, length, get_or, drop, length-drop, arith, ne_eqb, eq-eqb}
use Rattle.json_text.specs.Decoded.{Parsed}
use Rattle.json_text.specs.Decoded.Parsed.{ok, none}
use Rattle.json_text.specs.declared.Read.{Read}
use Rattle.json_text.specs.Ends.{Ends}
use Rattle.json_text.specs.Ends.Ends.{ends, fails}
use Rattle.json_value.specs.declared.Mark.{Mark}
use Rattle.json_value.specs.Grammar.{Json}
use Rattle.json_value.specs.Reader.{read_scalar, read_start, read_mark, Named, named, Entry, marked, after_value, after_start, read_entry, cons_of, after_entry, read_items, whole_of, opened, read_inside, value_by, read_value, inside_of}
use Rattle.json_value.specs.Answers.{Skipped, Marks, last_of}
use Rattle.json_value.specs.Answers.Marks.{closes, commas, neither}
use Rattle.json_character.proofs.Lists.{next, past}
use Rattle.json_text.proofs.Endings.{failed}
use Rattle.json_value.proofs.Places.{from, ended}

-- values

pub value_cons : (l b : ℕ) (t : List ℕ) → read_value l (b ∷ t) ≡ value_by (λ close u. inside_of close l u) (b ∷ t)
unfolding read_value inside_of
value_cons zero b t = refl
value_cons (suc l) b t = refl

value_nil : (l : ℕ) → read_value l [] ≡ none
unfolding read_value
value_nil zero = refl
value_nil (suc l) = refl

module _ (s : List ℕ) (l i : ℕ) where
  pub value_past : length s ≤ i → Ends s i (read_value l (drop i s)) Read.Bad
  value_past h = rw (past s i h, value_nil l) fails

  module _ (h : i < length s) (r : Read) where
    pub value_array : get_or s i 0 ≡ 0x5b → Ends s (i + 1) (inside_of 0x5d l (drop (i + 1) s)) r → Ends s i (read_value l (drop i s)) r
    value_array e x = rw (next s i h, value_cons l (get_or s i 0) (drop (i + 1) s), e) (from (omega arith) x)

    pub value_object : get_or s i 0 ≡ 0x7b → Ends s (i + 1) (inside_of 0x7d l (drop (i + 1) s)) r → Ends s i (read_value l (drop i s)) r
    value_object e x = rw (next s i h, value_cons l (get_or s i 0) (drop (i + 1) s), e) (from (omega arith) x)

    pub value_scalar : ¬ (get_or s i 0 ≡ 0x5b) → ¬ (get_or s i 0 ≡ 0x7b) → Ends s i (read_scalar (drop i s)) r → Ends s i (read_value l (drop i s)) r
    value_scalar a b x = rw (next s i h, value_cons l (get_or s i 0) (drop (i + 1) s), ne_eqb _ _ a, ne_eqb _ _ b) (rw (next s i h) at x)

-- entries

last_marked : (x : Named) (p : Parsed Bool) → last_of (marked x p) ≡ p
last_marked x (ok b r) = refl
last_marked x none = refl

marks_from : {s : List ℕ} {i k : ℕ} {p : Parsed Bool} {m : Mark} → i ≤ k → Marks s k p m → Marks s i p m
marks_from h (closes e a b) = closes e (omega arith) b
marks_from h (commas e a b) = commas e (omega arith) b
marks_from h neither = neither

module _ (s : List ℕ) (close : ℕ) (value : List ℕ → Parsed Json) (i : ℕ) where
  pub entry_none : Ends s i (read_start close (drop i s)) Read.Bad → Marks s i (last_of (read_entry close value (drop i s))) Mark.Neither
  unfolding read_entry
  entry_none x = rw (failed x) neither

  module _ (v : ℕ) (x : Ends s i (read_start close (drop i s)) (Read.End v)) where
    called : List ℕ
    called = (ended x).what

    started : read_entry close value (drop i s) ≡ after_value close called (value (drop v s))
    unfolding read_entry called
    started = ap (after_start close value) (ended x).reads

    pub entry_bad : Ends s v (value (drop v s)) Read.Bad → Marks s i (last_of (read_entry close value (drop i s))) Mark.Neither
    entry_bad y = rw (started, failed y) neither

    pub entry_mark : (e : ℕ) → Ends s v (value (drop v s)) (Read.End e) → (m : Mark) → Marks s e (read_mark close (drop e s)) m → Marks s i (last_of (read_entry close value (drop i s))) m
    entry_mark e y m z =
        let j = (ended y).what in
        let q : last_of (read_entry close value (drop i s)) ≡ read_mark close (drop e s) =
        ap last_of (started ∙ ap (after_value close called) (ended y).reads) ∙ last_marked (named called j) (read_mark close (drop e s)) in
        rw q (marks_from (omega (arith, (ended x).on, (ended y).on)) z)

-- what an entry's mark says of the entries

no_parsed : {A : Type 0} {a : A} {r : List ℕ} → ¬ (none ≡ ok a r)
no_parsed h = let z : ◌≡◌ {A = ℕ} 0 1 = cc in omega arith

module _ (more : List ℕ → Parsed (List Named)) where
  last_true : (p : Parsed Entry) (r : List ℕ) → last_of p ≡ ok true r → (x : Named) × (after_entry more p ≡ ok (x ∷ []) r)
  last_true (ok e u) r h = let a : e.last ≡ true = cc in let b : u ≡ r = cc in (e.item, rw (a, b))
  last_true none r h = absurd (no_parsed h)

  last_false : (p : Parsed Entry) (r : List ℕ) → last_of p ≡ ok false r → (x : Named) × (after_entry more p ≡ cons_of x (more r))
  last_false (ok e u) r h = let a : e.last ≡ false = cc in let b : u ≡ r = cc in (e.item, rw (a, b))
  last_false none r h = absurd (no_parsed h)

  last_none : (p : Parsed Entry) → last_of p ≡ none → after_entry more p ≡ none
  last_none (ok e u) h = absurd (no_parsed (sym h))
  last_none none h = refl

record Stands (s : List ℕ) (i e : ℕ) (p : Parsed Bool) (b : Bool) : Type 0 where
  reads : p ≡ ok b (drop e s)
  on : i < e
  inside : e ≤ length s

close_stands : {s : List ℕ} {i e : ℕ} {p : Parsed Bool} → Marks s i p (Mark.Close e) → Stands s i e p true
close_stands (closes e a b) = record { reads = refl; on = a; inside = b }

comma_stands : {s : List ℕ} {i e : ℕ} {p : Parsed Bool} → Marks s i p (Mark.Comma e) → Stands s i e p false
comma_stands (commas e a b) = record { reads = refl; on = a; inside = b }

pub comma_after : {s : List ℕ} {i e : ℕ} {p : Parsed Bool} → Marks s i p (Mark.Comma e) → i < e
comma_after m = (comma_stands m).on

pub comma_in : {s : List ℕ} {i e : ℕ} {p : Parsed Bool} → Marks s i p (Mark.Comma e) → e ≤ length s
comma_in m = (comma_stands m).inside

neither_reads : {s : List ℕ} {i : ℕ} {p : Parsed Bool} → Marks s i p Mark.Neither → p ≡ none
neither_reads neither = refl

-- the answer to the entries from i on, however many they may be
abbrev pub ItemsAt : List ℕ → ℕ → ℕ → ℕ → Read → Type 0
ItemsAt s close l i r = (n : ℕ) → length s - i ≤ n → Ends s i (read_items close (λ v. read_value l v) n (drop i s)) r

consed : {s : List ℕ} {i : ℕ} {p : Parsed (List Named)} {r : Read} (x : Named) → Ends s i p r → Ends s i (cons_of x p) r
consed x (ends e a b) = ends e a b
consed x fails = fails

module _ (s : List ℕ) (close l i : ℕ) where
  first : Parsed Entry
  first = read_entry close (λ v. read_value l v) (drop i s)

  unrolled : (n : ℕ) → read_items close (λ v. read_value l v) (suc n) (drop i s) ≡ after_entry (λ u. read_items close (λ v. read_value l v) n u) first
  unfolding read_items first
  unrolled n = refl

  pub items_last : (e : ℕ) → Marks s i (last_of (read_entry close (λ v. read_value l v) (drop i s))) (Mark.Close e) → ItemsAt s close l i (Read.End e)
  unfolding first
  items_last e m zero h = absurd (omega (arith, (close_stands m).on, (close_stands m).inside))
  items_last e m (suc n) h =
      let x = last_true (λ u. read_items close (λ v. read_value l v) n u) first (drop e s) (close_stands m).reads in
      rw (unrolled n, x.1) (ends e (omega (arith, (close_stands m).on)) (close_stands m).inside)

  pub items_neither : Marks s i (last_of (read_entry close (λ v. read_value l v) (drop i s))) Mark.Neither → ItemsAt s close l i Read.Bad
  unfolding first read_items
  items_neither m zero h = fails
  items_neither m (suc n) h = rw (last_none (λ u. read_items close (λ v. read_value l v) n u) first (neither_reads m)) fails

  pub items_next : (e : ℕ) → Marks s i (last_of (read_entry close (λ v. read_value l v) (drop i s))) (Mark.Comma e) → (r : Read) → ItemsAt s close l e r → ItemsAt s close l i r
  unfolding first
  items_next e m r y zero h = absurd (omega (arith, (comma_stands m).on, (comma_stands m).inside))
  items_next e m r y (suc n) h =
      let x = last_false (λ u. read_items close (λ v. read_value l v) n u) first (drop e s) (comma_stands m).reads in
      rw (unrolled n, x.1) (consed x.0 (from (omega (arith, (comma_stands m).on)) (y n (omega (arith, (comma_stands m).on)))))

-- what follows an opening bracket or brace

one_less : (l : ℕ) → ¬ (l ≡ 0) → l ≡ suc (l - 1)
one_less l h = omega arith

wholed : {s : List ℕ} {i : ℕ} {p : Parsed (List Named)} {r : Read} (close : ℕ) → Ends s i p r → Ends s i (whole_of close p) r
wholed close (ends e a b) = ends e a b
wholed close fails = fails

pub no_levels : (s : List ℕ) (close l i : ℕ) → l ≡ 0 → Ends s i (inside_of close l (drop i s)) Read.Bad
unfolding inside_of
no_levels s close l i e = rw e fails

module _ (s : List ℕ) (close l at i : ℕ) (pos : ¬ (l ≡ 0)) (ws : Skipped s at i) where
  pub opens : inside_of close l (drop at s) ≡ opened close (λ v. read_value (l - 1) v) (length (drop at s)) (drop i s)
  unfolding inside_of read_inside
  opens =
      ap (λ (k : ℕ). inside_of close k (drop at s)) (one_less l pos)
      ∙ ap (λ (t : List ℕ). opened close (λ v. read_value (l - 1) v) (length (drop at s)) t) ws.rest

  pub inside_past : length s ≤ i → Ends s at (inside_of close l (drop at s)) Read.Bad
  inside_past h = rw (opens, past s i h) fails

  pub inside_empty : i < length s → get_or s i 0 ≡ close → Ends s at (inside_of close l (drop at s)) (Read.End (i + 1))
  inside_empty h e = rw (opens, next s i h, eq-eqb _ _ e) (ends (i + 1) (omega (arith, ws.from)) (omega arith))

  pub inside_items : i < length s → ¬ (get_or s i 0 ≡ close) → (r : Read) → ItemsAt s close (l - 1) i r → Ends s at (inside_of close l (drop at s)) r
  inside_items h e r x =
      rw (opens, next s i h, ne_eqb _ _ e)
      (wholed close (from ws.from (rw (next s i h) at (x (length (drop at s)) (omega (arith, length-drop at s, ws.from))))))

pub ruleset value_steps = (value_past, value_array, value_object, value_scalar)

pub ruleset items_steps = (no_levels, inside_past, inside_empty, inside_items, items_last, items_next, items_neither, comma_after, comma_in)

pub ruleset entry_steps = (entry_none, entry_bad, entry_mark)
