-- Marks that stand at the start of the lent ones, and one more.
-- Assumes nothing.
use Rattle.basis.proofs.Std.{ℕ, ◌+◌, ◌-◌, ◌<◌, ◌≤◌, ◌≡◌, refl, sym, ap, ap₂, subst, ◌∙◌, Bool, true, false, List, [], ◌∷◌, ◌++◌, sub-zero, arith, add-one, length, take, set, length-set, length-take-le, take-suc-set, lt-ltb, le-ltb}
use borrow.Rule.Slice.PartMut.{mid_of, put_mid, mid_len, take_put}
use Rattle.json_text.specs.Decoded.{Parsed}
use Rattle.json_value.specs.Reader.{Entry}
use Rattle.json_sure.specs.declared.Seen.{Seen}
use Rattle.json_sure.specs.declared.Entered.{Entered}
use Rattle.json_sure.specs.Sure.{Noted, none_noted, noted_in, is_new, all_of, note_of, left}
use Rattle.json_sure.specs.Judges.{EntersIn}

abbrev seen_of : ℕ → Bool → Seen
seen_of n q = record { count = n; sure = q }

-- what `note` leaves, and what it answers
abbrev pub Notes : List ℕ → Seen → ℕ → Bool → List ℕ → Seen → Type 0
Notes xs t m v ys r = (r.count ≤ length ys) × (noted_in ys r ≡ note_of (length xs) (noted_in xs t) m v)

module _ (xs : List ℕ) (t : Seen) (m : ℕ) (v : Bool) (h : t.count ≤ length xs) where
  counted : length (noted_in xs t).marks ≡ t.count
  unfolding noted_in
  counted = length-take-le t.count xs h

  pub notes_none : 4294967296 ≤ m → (q : Bool) → q ≡ all_of t.sure v true → Notes xs t m v xs (seen_of t.count q)
  unfolding noted_in note_of
  notes_none g q e = (h, rw (le-ltb _ _ g, e))

  pub notes_full : m < 4294967296 → length xs ≤ t.count → Notes xs t m v xs (seen_of t.count false)
  unfolding noted_in note_of
  notes_full g f = (h, rw (lt-ltb _ _ g, counted, le-ltb _ _ f))

  stands : t.count < length xs → take (t.count + 1) (set xs t.count m) ≡ take t.count xs ++ (m ∷ [])
  stands f = ap (λ (n : ℕ). take n (set xs t.count m)) (add-one t.count) ∙ take-suc-set xs t.count m f

  pub notes_new : m < 4294967296 → t.count < length xs → (q : Bool) → q ≡ all_of t.sure v (is_new m (take (t.count - 0) xs)) → Notes xs t m v (set xs t.count m) (seen_of (t.count + 1) q)
  unfolding noted_in note_of
  notes_new g f q e = (rw (length-set xs t.count m) (omega arith), rw (lt-ltb _ _ g, counted, lt-ltb _ _ f, e, sub-zero t.count, stands f))

pub none_noted_lem : (xs : List ℕ) → noted_in xs (seen_of 0 true) ≡ none_noted
unfolding noted_in none_noted
none_noted_lem xs = refl

-- the rest of the lent marks was lent on, and ys came back
module _ (room : ℕ) (xs ys : List ℕ) (t : Seen) (same : length xs ≡ room) (h : t.count ≤ length xs) where
  abbrev back : List ℕ
  back = put_mid t.count (length xs - t.count) xs ys

  rest_room : length (mid_of t.count (length xs - t.count) xs) ≡ left room (noted_in xs t)
  unfolding noted_in
  rest_room = mid_len t.count (length xs) xs (omega arith) ∙ ap₂ (λ (n k : ℕ). n - k) same (sym (length-take-le t.count xs h))

  pub enters_rest : {key : ℕ} {s : List ℕ} {i : ℕ} {p : Parsed Entry} {r : Entered} → EntersIn key (length (mid_of t.count (length xs - t.count) xs)) s i p r → EntersIn key (left room (noted_in xs t)) s i p r
  enters_rest {key} {s} {i} {p} {r} e = subst (λ (n : ℕ). EntersIn key n s i p r) rest_room e

  kept : noted_in back t ≡ noted_in xs t
  unfolding noted_in
  kept = ap (λ (zs : List ℕ). record { marks = zs; sure = t.sure }) (take_put t.count (length xs - t.count) xs ys h)

  pub noted_rest : length back ≡ length xs → (m : ℕ) (v : Bool) (zs : List ℕ) (r : Seen) → Notes back t m v zs r → noted_in zs r ≡ note_of room (noted_in xs t) m v
  noted_rest l m v zs r n = n.1 ∙ ap₂ (λ (k : ℕ) (u : Noted). note_of k u m v) (l ∙ same) kept

  pub sure_rest : length back ≡ length xs → (m : ℕ) (v : Bool) (zs : List ℕ) (r : Seen) → Notes back t m v zs r → (note_of room (noted_in xs t) m v).sure ≡ r.sure
  unfolding noted_in
  sure_rest l m v zs r n = ap (λ (u : Noted). u.sure) (sym (noted_rest l m v zs r n))

pub ruleset note_steps = (notes_none, notes_full)
