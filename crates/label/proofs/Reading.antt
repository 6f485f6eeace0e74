-- What reading a string at a place gives, case by case.
-- Assumes nothing.
use Rattle.basis.proofs.Std.{◌≡◌, refl, sym, ap, ◌∙◌, ⊎_elim, add-zero, add-one, arith, get_or-drop, drop-drop, drop-cons, take_at, length-take-le, le_or_lt, bool_cases, both_true, true, false, List, ◌∷◌, ◌++◌, ℕ, suc, ◌+◌, ◌-◌, ◌≤◌, ◌<◌, leb, length, get_or, take, drop, length-drop, length-append, take-append-drop, lt-ltb, le-ltb, le-leb, lt-leb, leb-true}
use Rattle.label.proofs.Stands.{Stands}
use Rattle.number.specs.Alphabet.{is_label}
use Rattle.label.specs.declared.LabelRead.{LabelRead}
use Rattle.label.specs.Label.{label_of, string}
use Rattle.label.specs.Reading.{far, text_at, read_at, missed}

-- how long a label is
pub label_some : (s : List ℕ) → is_label s ≡ true → 1 ≤ length s
label_some s h = leb-true 1 (length s) (both_true (leb 1 (length s)) _ h).0

pub label_short : (s : List ℕ) → is_label s ≡ true → length s ≤ 32
label_short s h = leb-true (length s) 32 (both_true (leb (length s) 32) _ (both_true (leb 1 (length s)) _ h).1).0

module _ (s : List ℕ) (at : ℕ) where
  pub read_behind : length s ≤ at → read_at s at ≡ missed
  unfolding read_at
  read_behind h = simp (le-ltb at (length s) h)

  module _ (h : at < length s) where
    pub read_cut : length s - (at + 1) < get_or s at 0 → read_at s at ≡ missed
    unfolding read_at
    read_cut l = simp (lt-ltb at (length s) h, lt-leb (get_or s at 0) (length s - (at + 1)) l)

    module _ (l : get_or s at 0 ≤ length s - (at + 1)) where
      pub read_no_label : is_label (text_at s at) ≡ false → read_at s at ≡ missed
      unfolding read_at
      read_no_label e = simp (lt-ltb at (length s) h, le-leb (get_or s at 0) (length s - (at + 1)) l, e)

      pub read_label : is_label (text_at s at) ≡ true → read_at s at ≡ record { label = label_of (text_at s at); next = at + 1 + get_or s at 0 }
      unfolding read_at
      read_label e = simp (lt-ltb at (length s) h, le-leb (get_or s at 0) (length s - (at + 1)) l, e)

-- the answer where a text stands
abbrev pub labelled : ℕ → List ℕ → LabelRead
labelled at text = record { label = label_of text; next = at + length (string text) }

-- a string that stands there is read
pub read_complete : {s : List ℕ} {at : ℕ} (text : List ℕ) → is_label text ≡ true → Stands s at (string text) → read_at s at ≡ labelled at text
read_complete {s} {at} text l h =
    let n : length s - at ≡ suc (length text) + length h.rest = sym (length-drop at s) ∙ ap length h.parts ∙ length-append (string text) h.rest in
    let some = label_some text l in
    let a : at < length s = omega arith in
    let g : get_or s at 0 ≡ length text = sym (get_or-drop at s 0 0 ∙ ap (λ (m : ℕ). get_or s m 0) (add-zero at)) ∙ ap (λ (d : List ℕ). get_or d 0 0) h.parts in
    let d : drop (at + 1) s ≡ text ++ h.rest = sym (drop-drop 1 at s) ∙ ap (drop 1) h.parts in
    let t : text_at s at ≡ text = ap (λ (m : ℕ). take m (drop (at + 1) s)) g ∙ ap (take (length text)) d ∙ take_at text h.rest (length text) refl in
    let m : get_or s at 0 ≤ length s - (at + 1) = omega arith in
    let k : at + 1 + get_or s at 0 ≡ at + length (string text) = omega arith in
    read_label s at a m (ap is_label t ∙ l) ∙ (λ i. record { label = label_of (t i); next = k i })

-- a string was read
pub record Got (s : List ℕ) (at : ℕ) : Type 0 where
  pub text : List ℕ
  pub label : is_label text ≡ true
  pub stands : Stands s at (string text)
  pub is : read_at s at ≡ labelled at text

module _ (s : List ℕ) (at : ℕ) (a : at < length s) (m : get_or s at 0 ≤ length s - (at + 1)) (l : is_label (text_at s at) ≡ true) where
  text_length : length (text_at s at) ≡ get_or s at 0
  text_length = length-take-le (get_or s at 0) (drop (at + 1) s) (omega (arith, length-drop (at + 1) s))

  text_stands : drop at s ≡ string (text_at s at) ++ drop (get_or s at 0) (drop (at + 1) s)
  text_stands =
      drop-cons s at 0 a
      ∙ ap (λ (k : ℕ). get_or s at 0 ∷ drop k s) (sym (add-one at))
      ∙ ap (λ (d : List ℕ). get_or s at 0 ∷ d) (sym (take-append-drop (get_or s at 0) (drop (at + 1) s)))
      ∙ ap (λ (k : ℕ). k ∷ (text_at s at ++ drop (get_or s at 0) (drop (at + 1) s))) (sym text_length)

  got_label_lem : Got s at
  got_label_lem =
      let k : at + 1 + get_or s at 0 ≡ at + length (string (text_at s at)) = omega (arith, text_length) in
      record {
        text = text_at s at;
        label = l;
        stands = record { rest = drop (get_or s at 0) (drop (at + 1) s); parts = text_stands };
        is = read_label s at a m l ∙ (λ i. record { label = label_of (text_at s at); next = k i });
      }

not_missed : (s : List ℕ) (at : ℕ) {P : Type 0} → length s < far → (read_at s at).next ≤ length s → read_at s at ≡ missed → P
not_missed s at f h e = absurd (let z : (read_at s at).next ≡ far = ap (λ (r : LabelRead). r.next) e in omega arith)

-- what is read stands there
pub read_sound : (s : List ℕ) (at : ℕ) → length s < far → (read_at s at).next ≤ length s → Got s at
read_sound s at f h =
    ⊎_elim
    (λ (b : length s ≤ at). not_missed s at f h (read_behind s at b))
    (λ (a : at < length s).
    ⊎_elim
    (λ (m : get_or s at 0 ≤ length s - (at + 1)).
    bool_cases (is_label (text_at s at))
    (λ l. got_label_lem s at a m l)
    (λ l. not_missed s at f h (read_no_label s at a m l)))
    (λ (m : length s - (at + 1) < get_or s at 0). not_missed s at f h (read_cut s at a m))
    (le_or_lt (get_or s at 0) (length s - (at + 1))))
    (le_or_lt (length s) at)
