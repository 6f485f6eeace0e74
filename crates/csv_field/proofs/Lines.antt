-- A line, field by field: what is noted so far, and what the rest adds to it.
-- Assumes nothing.
use Rattle.basis.proofs.Std.{ℕ, zero, suc, ◌+◌, ◌<◌, ◌≤◌, ◌≡◌, refl, sym, ap, subst, ◌∙◌, Bool, true, false, List, [], ◌∷◌, ◌++◌, arith, add-zero, ⊎_elim, bool_cases, picked, lt_or_ge, untrue, ltb, lt-ltb, le-ltb, pick, length, get_or, set, drop, drop-drop, length-drop, length-map, length-append, length-set, get_or-append, get_or-append-add, get_or-set_same, get_or-set_other}
use Rattle.csv_field.specs.Marks.{is_quote, is_comma, is_break, is_stop, plain_run, quoted_run, line_run, behind_break, unquoted}
use Rattle.csv_field.specs.Split.{Took, field, fault, plain_by, quoted_by, field_of, Split, fields, faulty, push, on_field, split_within, split}
use Rattle.std.specs.Prelude.{Some, None, Ok, Err}
use Rattle.std.specs.Borrow.{Bor}
use Rattle.std.proofs.lemmas.List.{map-set}
use Rattle.csv_field.specs.Places.{Takes, takes, fails, texts_of, noted, Noted, Splits, splits, spoilt}
use Rattle.csv_field.specs.declared.Field.{Field}
use Rattle.csv_field.specs.declared.Notes.{Notes}
use Rattle.csv_field.proofs.Marks.{comma_in, break_in}
use Rattle.csv_field.proofs.Runs.{line_within}

-- a field ends within the text, at a stop
abbrev pub Sure : ℕ → Took → Type 0
Sure n (field d r) = (length r ≤ n) × (is_stop r ≡ true)
Sure n (fault r) = Unit {0}

pub plain_stops : (t : List ℕ) → is_quote (drop (plain_run t) t) ≡ false → is_stop (drop (plain_run t) t) ≡ true
unfolding plain_run
plain_stops [] = λ e. refl
plain_stops (b ∷ t) = go (plain_stops t) (is_quote (b ∷ t)) refl (is_stop (b ∷ t)) refl
  where
    go : (is_quote (drop (plain_run t) t) ≡ false → is_stop (drop (plain_run t) t) ≡ true) → (q : Bool) → is_quote (b ∷ t) ≡ q → (z : Bool) → is_stop (b ∷ t) ≡ z → is_quote (drop (pick q 0 (pick z 0 (suc (plain_run t)))) (b ∷ t)) ≡ false → is_stop (drop (pick q 0 (pick z 0 (suc (plain_run t)))) (b ∷ t)) ≡ true
    go ih true e z f h = untrue (sym h ∙ e)
    go ih false e true f h = f
    go ih false e false f h = ih h

pub sure : (t : List ℕ) → Sure (length t) (field_of t)
unfolding field_of
sure t = picked P (is_quote t) _ _ (λ _. within_quotes (quoted_run false (drop 1 t))) (λ _. without)
  where
    P : Took → Type 0
    P p = Sure (length t) p

    within_quotes : (n : ℕ) → P (quoted_by n (drop 1 t))
    within_quotes n =
        picked P (ltb n (length (drop 1 t))) _ _
        (λ _. picked P (is_stop (drop (n + 1) (drop 1 t))) _ _ (λ e. (omega (arith, length-drop (n + 1) (drop 1 t), length-drop 1 t), e)) (λ _. tt))
        (λ _. tt)

    without : P (plain_by (plain_run t) t)
    without = picked P (is_quote (drop (plain_run t) t)) _ _ (λ _. tt) (λ e. (omega (arith, length-drop (plain_run t) t), plain_stops t e))

-- what is done behind a field's comma is done with a shorter text
alike : (f g : List ℕ → Split) (t : List ℕ) → ((u : List ℕ) → length u < length t → f u ≡ g u) → on_field f (field_of t) ≡ on_field g (field_of t)
alike f g t h = go (field_of t) (sure t)
  where
    go : (p : Took) → Sure (length t) p → on_field f p ≡ on_field g p
    go (field d r) k = bool_cases (is_comma r)
        (λ e. rw e (ap (push d) (h (drop 1 r) (omega (arith, k.0, comma_in r 0 e, length-drop 1 r)))))
        (λ e. rw e)
    go (fault r) k = refl

enough : (n m : ℕ) (t : List ℕ) → length t ≤ n → length t ≤ m → split_within n t ≡ split_within m t
unfolding split_within
enough zero zero t h g = refl
enough zero (suc m) t h g = alike (λ u. fields [] u) (λ u. split_within m u) t (λ u k. absurd (omega arith))
enough (suc n) zero t h g = alike (λ u. split_within n u) (λ u. fields [] u) t (λ u k. absurd (omega arith))
enough (suc n) (suc m) t h g = alike (λ u. split_within n u) (λ u. split_within m u) t (λ u k. enough n m u (omega arith) (omega arith))

-- the definition with no count of fields in it
pub unroll : (s : List ℕ) → split s ≡ on_field (λ t. split t) (field_of s)
unfolding split split_within
unroll s =
    enough (length s) (suc (length s)) s (omega arith) (omega arith)
    ∙ alike (λ t. split_within (length s) t) (λ t. split_within (length t) t) s (λ u k. enough (length s) (length u) u (omega arith) (omega arith))

-- at a place of a slice

pub took : {s : List ℕ} {at : ℕ} {f : Field} {p : Took} → Takes s at p (Ok f) → (p ≡ field (unquoted false f.text.now) (drop f.next s)) × (at ≤ f.next) × (f.next ≤ length s)
took {s} (takes f d i j) = (ap (λ (x : List ℕ). field x (drop f.next s)) d, i, j)

pub missed : {s : List ℕ} {at e : ℕ} {p : Took} → Takes s at p (Err e) → (p ≡ fault (drop e s)) × (at ≤ e) × (e ≤ length s)
missed (fails e i j) = (refl, i, j)

pub comma_after : {s : List ℕ} {at : ℕ} {f : Field} {p : Took} → Takes s at p (Ok f) → is_comma (drop f.next s) ≡ true → f.next < length s
comma_after {s} {f = f} x q = comma_in s f.next q

no_more : (r : List ℕ) → is_stop r ≡ true → is_comma r ≡ false → is_break r ≡ false → drop 2 r ≡ r
no_more [] h f g = refl
no_more (b ∷ r) h f g = untrue (sym (rw (f, g)) ∙ h)

module _ (s : List ℕ) (i : ℕ) (f : Field) (x : Takes s i (field_of (drop i s)) (Ok f)) where
  abbrev its : List ℕ
  its = unquoted false f.text.now

  on_field_lem : split (drop i s) ≡ on_field (λ t. split t) (field its (drop f.next s))
  on_field_lem = unroll (drop i s) ∙ ap (on_field (λ t. split t)) (took x).0

  stopped : is_stop (drop f.next s) ≡ true
  stopped = (subst (λ (p : Took). Sure (length (drop i s)) p) (took x).0 (sure (drop i s))).1

  comma : is_comma (drop f.next s) ≡ true → split (drop i s) ≡ push its (split (drop (f.next + 1) s))
  comma q = on_field_lem ∙ rw (q, drop-drop 1 f.next s)

  next_is : is_comma (drop f.next s) ≡ false → drop 2 (drop f.next s) ≡ drop (behind_break s f.next) s
  next_is q = picked (λ (n : ℕ). drop 2 (drop f.next s) ≡ drop n s) (is_break (drop f.next s)) (f.next + 2) f.next (λ _. drop-drop 2 f.next s) (λ g. no_more (drop f.next s) stopped q g)

  last : is_comma (drop f.next s) ≡ false → split (drop i s) ≡ fields (its ∷ []) (drop (behind_break s f.next) s)
  last q = on_field_lem ∙ rw (q, next_is q)

spoils : (s : List ℕ) (i e : ℕ) → Takes s i (field_of (drop i s)) (Err e) → split (drop i s) ≡ faulty (drop (e + line_run (drop e s)) s)
spoils s i e x = unroll (drop i s) ∙ ap (on_field (λ t. split t)) (missed x).0 ∙ ap faulty (drop-drop (line_run (drop e s)) e s)

-- fields before the rest of a line
abbrev before : List (List ℕ) → Split → Split
before [] p = p
before (d ∷ ds) p = push d (before ds p)

before_one : (ds : List (List ℕ)) (d : List ℕ) (p : Split) → before ds (push d p) ≡ before (ds ++ (d ∷ [])) p
before_one [] d p = refl
before_one (c ∷ ds) d p = ap (push c) (before_one ds d p)

before_last : (ds es : List (List ℕ)) (r : List ℕ) → before ds (fields es r) ≡ fields (ds ++ es) r
before_last [] es r = refl
before_last (c ∷ ds) es r = ap (push c) (before_last ds es r)

before_fault : (ds : List (List ℕ)) (r : List ℕ) → before ds (faulty r) ≡ faulty r
before_fault [] r = refl
before_fault (c ∷ ds) r = ap (push c) (before_fault ds r)

-- one more field is noted
module _ (n : Notes) (ds : List (List ℕ)) (k : Noted n ds) (b : Bor (List ℕ)) where
  abbrev d : List ℕ
  d = unquoted false b.now

  abbrev now : List (List ℕ)
  now = ds ++ (d ∷ [])

  longer : length now ≡ length ds + 1
  longer = length-append ds (d ∷ [])

  module _ (h : length ds < 12) where
    full : noted n b ≡ record { count = n.count + 1; texts = set n.texts n.count b }
    unfolding noted
    full = rw (lt-ltb n.count 12 (omega (arith, k.count (omega arith))))

    texts_are : texts_of (noted n b).texts ≡ set (texts_of n.texts) n.count b.now
    texts_are = rw full (map-set (λ (t : Bor (List ℕ)). t.now) n.texts n.count b)

    at_end : (j : ℕ) → j ≡ length ds → get_or now j [] ≡ unquoted false (get_or (texts_of (noted n b).texts) j [])
    at_end j e =
        let c : n.count ≡ length ds = k.count (omega arith) in
        let l : length (texts_of n.texts) ≡ 12 = length-map n.texts (λ (t : Bor (List ℕ)). t.now) ∙ k.room in
        rw (texts_are, e, c, get_or-set_same (texts_of n.texts) (length ds) b.now [] (omega (arith, l))) (ap (λ (m : ℕ). get_or now m []) (sym (add-zero (length ds))) ∙ get_or-append-add ds (d ∷ []) 0 [])

    earlier : (j : ℕ) → j < length ds → get_or now j [] ≡ unquoted false (get_or (texts_of (noted n b).texts) j [])
    earlier j g =
        let c : n.count ≡ length ds = k.count (omega arith) in
        let o : j ≡ n.count → ⊥ = λ q. omega arith in
        rw (texts_are, get_or-append ds (d ∷ []) [] j g, get_or-set_other (texts_of n.texts) n.count j b.now [] o) (k.each j (omega arith) g)

    with_room : Noted (noted n b) now
    with_room =
        let c : n.count ≡ length ds = k.count (omega arith) in
        record {
          room = rw full (length-set n.texts n.count b ∙ k.room);
          count = λ q. rw full (omega (arith, longer));
          more = λ q. absurd (omega (arith, longer));
          each = λ j q g. ⊎_elim (λ (f : j < length ds). earlier j f) (λ (f : length ds ≤ j). at_end j (omega (arith, longer))) (lt_or_ge j (length ds));
        }

  module _ (h : 12 ≤ length ds) where
    past_12 : 12 ≤ n.count
    past_12 = ⊎_elim (λ (f : length ds < 13). omega (arith, k.count (omega arith))) (λ (f : 13 ≤ length ds). omega (arith, k.more (omega arith))) (lt_or_ge (length ds) 13)

    kept : noted n b ≡ record { count = 13; texts = n.texts }
    unfolding noted
    kept = rw (le-ltb n.count 12 past_12)

    without_room : Noted (noted n b) now
    without_room = record {
      room = rw kept k.room;
      count = λ q. absurd (omega (arith, longer));
      more = λ q. rw kept;
      each = λ j q g. rw (kept, get_or-append ds (d ∷ []) [] j (omega arith)) (k.each j q (omega arith));
    }

  one_more : Noted (noted n b) now
  one_more = ⊎_elim with_room without_room (lt_or_ge (length ds) 12)

-- where the loop has come to
pub record Reached (s : List ℕ) (at : ℕ) (n : Notes) (i : ℕ) : Type 0 where
  pub ds : List (List ℕ)
  pub notes : Noted n ds
  pub is : split (drop at s) ≡ before ds (split (drop i s))
  pub from : at ≤ i
  pub to : i ≤ length s

pub none_yet : (s : List ℕ) (at : ℕ) → at ≤ length s → {n : Notes} → n.count ≡ 0 → length n.texts ≡ 12 → Reached s at n at
none_yet s at h c l = record {
  ds = [];
  notes = record { room = l; count = λ q. c; more = λ q. absurd (omega arith); each = λ j q g. absurd (omega arith) };
  is = refl;
  from = omega arith;
  to = h;
}

module _ {s : List ℕ} {at : ℕ} {n : Notes} {i : ℕ} (z : Reached s at n i) where
  module _ {f : Field} (x : Takes s i (field_of (drop i s)) (Ok f)) where
    pub go_on : is_comma (drop f.next s) ≡ true → Reached s at (noted n f.text) (f.next + 1)
    go_on q = record {
      ds = z.ds ++ (its s i f x ∷ []);
      notes = one_more n z.ds z.notes f.text;
      is = z.is ∙ ap (before z.ds) (comma s i f x q) ∙ before_one z.ds (its s i f x) (split (drop (f.next + 1) s));
      from = omega (arith, z.from, (took x).1);
      to = omega (arith, comma_in s f.next q);
    }

    behind_in : (f.next ≤ behind_break s f.next) × (behind_break s f.next ≤ length s)
    behind_in = picked (λ (k : ℕ). (f.next ≤ k) × (k ≤ length s)) (is_break (drop f.next s)) (f.next + 2) f.next (λ q. (omega arith, omega (arith, break_in s f.next q))) (λ q. (omega arith, (took x).2))

    pub done : is_comma (drop f.next s) ≡ false → {k : ℕ} → k ≡ behind_break s f.next → {m : Notes} → m ≡ noted n f.text → Splits s at (split (drop at s)) (record { notes = Some m; next = k })
    done q {k} g {m} h =
        let e : split (drop at s) ≡ fields (z.ds ++ (its s i f x ∷ [])) (drop (behind_break s f.next) s) = z.is ∙ ap (before z.ds) (last s i f x q) ∙ before_last z.ds (its s i f x ∷ []) (drop (behind_break s f.next) s) in
        rw (e, g, h) (splits (record { notes = Some (noted n f.text); next = behind_break s f.next }) (noted n f.text) refl (one_more n z.ds z.notes f.text) (omega (arith, z.from, (took x).1, behind_in.0)) behind_in.1)

  pub stops : {e : ℕ} → Takes s i (field_of (drop i s)) (Err e) → {k : ℕ} → k ≡ e + line_run (drop e s) → Splits s at (split (drop at s)) (record { notes = None; next = k })
  stops {e} x {k} h =
      let f : split (drop at s) ≡ faulty (drop k s) = z.is ∙ ap (before z.ds) (spoils s i e x) ∙ before_fault z.ds (drop (e + line_run (drop e s)) s) ∙ ap (λ (m : ℕ). faulty (drop m s)) (sym h) in
      rw f (spoilt (record { notes = None; next = k }) refl (omega (arith, z.from, (missed x).1)) (omega (arith, (missed x).2, line_within (drop e s), length-drop e s)))
