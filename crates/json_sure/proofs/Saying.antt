-- What is said of a list of entries, one entry after the other, and of a value.
-- Assumes nothing.
use Rattle.basis.proofs.Std.{ℕ, zero, suc, ◌+◌, ◌-◌, ◌<◌, ◌≤◌, ◌≡◌, refl, sym, ap, ap₂, subst, ◌∙◌, Bool, true, false, List, [], ◌∷◌, eqb, length, get_or, drop, ne_eqb, eq-eqb, pick}
use Rattle.json_character.proofs.Lists.{next}
use Rattle.json_text.specs.Decoded.{Parsed}
use Rattle.json_text.specs.Decoded.Parsed.{ok, none}
use Rattle.json_text.specs.declared.Read.{Read}
use Rattle.json_text.specs.Ends.{Ends}
use Rattle.json_value.specs.Grammar.{Json, Value}
use Rattle.json_value.specs.Grammar.Json.{arr, obj}
use Rattle.json_value.specs.Reader.{Named, Entry, cons_of, if_last, after_entry, read_entry, read_items, jsons, members, whole, whole_of, read_value, inside_of}
use Rattle.json_value.specs.Answers.{Skipped, Marks, last_of}
use Rattle.json_value.specs.Answers.Marks.{closes, commas}
use Rattle.json_value.specs.declared.Mark.TheVariants as Mark
use Rattle.json_value.proofs.Sound as Sound
use Rattle.json_value.proofs.Nesting as Nesting
use Rattle.json_sure.specs.declared.Judged.{Judged}
use Rattle.json_sure.specs.declared.Entered.TheVariants as Entered
use Rattle.json_sure.specs.Sure.{mark_at, Noted, none_noted, note_of, left, sure_in, sure_all, sure_once, sure_entry}
use Rattle.json_sure.specs.Judges.{ended_of, place_of, Says, JudgesIn, EntersIn}
use Rattle.json_sure.proofs.Entries.{no_parsed, mark_for, entry_mark}

-- the entries of an object (true) or of an array, from what was noted before them on
unfoldable pub sure_items : ℕ → ℕ → Bool → Noted → List Named → Bool
sure_items key room b t [] = t.sure
sure_items key room b t (x ∷ xs) = sure_items key room b (note_of room t (mark_for key b x.called) (sure_in key (left room t) x.value)) xs

module _ (key room : ℕ) where
  whole_once : (t : Noted) (xs : List Named) → sure_once key room t (members xs) ≡ sure_items key room true t xs
  unfolding sure_once sure_items
  whole_once t [] = refl
  whole_once t (x ∷ xs) = whole_once (note_of room t (mark_for key true x.called) (sure_in key (left room t) x.value)) xs

  whole_all : (t : Noted) (xs : List Named) → sure_all key room t (jsons xs) ≡ sure_items key room false t xs
  unfolding sure_all sure_items
  whole_all t [] = refl
  whole_all t (x ∷ xs) = whole_all (note_of room t (mark_for key false x.called) (sure_in key (left room t) x.value)) xs

  sure_whole : (close : ℕ) (xs : List Named) → sure_items key room (eqb close 0x7d) none_noted xs ≡ sure_in key room (whole close xs)
  unfolding sure_in
  sure_whole close xs = go (eqb close 0x7d)
    where
      go : (b : Bool) → sure_items key room b none_noted xs ≡ sure_in key room (pick b (obj (members xs)) (arr (jsons xs)))
      go true = sym (whole_once none_noted xs)
      go false = sym (whole_all none_noted xs)

-- q is what is to be said of the entries from i on
abbrev pub ItemsSay : ℕ → ℕ → List ℕ → ℕ → ℕ → ℕ → Noted → Bool → Type 0
ItemsSay key room s close l i t q = (n : ℕ) (xs : List Named) (u : List ℕ) → read_items close (λ v. read_value l v) n (drop i s) ≡ ok xs u → q ≡ sure_items key room (eqb close 0x7d) t xs

module _ (key room : ℕ) (b : Bool) (t : Noted) (x : Named) where
  one_item : (note_of room t (mark_for key b x.called) (sure_in key (left room t) x.value)).sure ≡ sure_items key room b t (x ∷ [])
  unfolding sure_items
  one_item = refl

  more_items : (xs : List Named) → sure_items key room b (note_of room t (mark_for key b x.called) (sure_in key (left room t) x.value)) xs ≡ sure_items key room b t (x ∷ xs)
  unfolding sure_items
  more_items xs = refl

close_reads : {s : List ℕ} {i e : ℕ} {p : Parsed Bool} → Marks s i p (Mark.Close e) → p ≡ ok true (drop e s)
close_reads (closes e a b) = refl

comma_reads : {s : List ℕ} {i e : ℕ} {p : Parsed Bool} → Marks s i p (Mark.Comma e) → p ≡ ok false (drop e s)
comma_reads (commas e a b) = refl

uncons : (x : Named) (p : Parsed (List Named)) (xs : List Named) (u : List ℕ) → cons_of x p ≡ ok xs u → (ys : List Named) × (p ≡ ok ys u) × (xs ≡ x ∷ ys)
uncons x (ok ys r) xs u h = let a : r ≡ u = cc in let b : xs ≡ x ∷ ys = cc in (ys, ap (ok ys) a, b)
uncons x none xs u h = absurd (no_parsed h)

module _ (key room : ℕ) (s : List ℕ) (close l i m : ℕ) (t : Noted) (h : m ≡ mark_at key (eqb close 0x7d) (drop i s)) where
  noted : (q : Bool) (e : Entry) (u : List ℕ) → read_entry close (λ v. read_value l v) (drop i s) ≡ ok e u → q ≡ sure_entry key (left room t) e → note_of room t m q ≡ note_of room t (mark_for key (eqb close 0x7d) e.item.called) (sure_in key (left room t) e.item.value)
  noted q e u r b = ap₂ (λ (a : ℕ) (c : Bool). note_of room t a c) (h ∙ entry_mark key close (λ v. read_value l v) (drop i s) e u r) b

  module _ (e : ℕ) (q : Bool) where
    pub say_last : EntersIn key (left room t) s i (read_entry close (λ v. read_value l v) (drop i s)) (Entered.Close e q) → ItemsSay key room s close l i t (note_of room t m q).sure
    unfolding read_items
    say_last x zero xs u r = absurd (no_parsed r)
    say_last x (suc n) xs u r = go (read_entry close (λ v. read_value l v) (drop i s)) refl (close_reads x.place) r
      where
        go : (p : Parsed Entry) → read_entry close (λ v. read_value l v) (drop i s) ≡ p → last_of p ≡ ok true (drop e s) → after_entry (λ u. read_items close (λ v. read_value l v) n u) p ≡ ok xs u → (note_of room t m q).sure ≡ sure_items key room (eqb close 0x7d) t xs
        go none a k r = absurd (no_parsed r)
        go (ok d w) a k r =
            let b : d.last ≡ true = cc in
            let c : ok (d.item ∷ []) w ≡ ok xs u = subst (λ (z : Bool). if_last z d.item w (read_items close (λ v. read_value l v) n w) ≡ ok xs u) b r in
            let f : d.item ∷ [] ≡ xs = cc in
            ap (λ (z : Noted). z.sure) (noted q d w a (x.says d w a)) ∙ one_item key room (eqb close 0x7d) t d.item ∙ ap (sure_items key room (eqb close 0x7d) t) f

    pub say_next : EntersIn key (left room t) s i (read_entry close (λ v. read_value l v) (drop i s)) (Entered.Comma e q) → (o : Bool) → ItemsSay key room s close l e (note_of room t m q) o → ItemsSay key room s close l i t o
    unfolding read_items
    say_next x o y zero xs u r = absurd (no_parsed r)
    say_next x o y (suc n) xs u r = go (read_entry close (λ v. read_value l v) (drop i s)) refl (comma_reads x.place) r
      where
        go : (p : Parsed Entry) → read_entry close (λ v. read_value l v) (drop i s) ≡ p → last_of p ≡ ok false (drop e s) → after_entry (λ u. read_items close (λ v. read_value l v) n u) p ≡ ok xs u → o ≡ sure_items key room (eqb close 0x7d) t xs
        go none a k r = absurd (no_parsed r)
        go (ok d w) a k r =
            let b : d.last ≡ false = cc in
            let c : cons_of d.item (read_items close (λ v. read_value l v) n w) ≡ ok xs u = subst (λ (z : Bool). if_last z d.item w (read_items close (λ v. read_value l v) n w) ≡ ok xs u) b r in
            let f = uncons d.item (read_items close (λ v. read_value l v) n w) xs u c in
            let g : w ≡ drop e s = cc in
            y n f.0 u (subst (λ (z : List ℕ). read_items close (λ v. read_value l v) n z ≡ ok f.0 u) g f.1)
            ∙ ap (λ (z : Noted). sure_items key room (eqb close 0x7d) z f.0) (noted q d w a (x.says d w a))
            ∙ more_items key room (eqb close 0x7d) t d.item f.0 ∙ ap (sure_items key room (eqb close 0x7d) t) (sym f.2)

-- what follows an opening bracket or brace

unwhole : (close : ℕ) (p : Parsed (List Named)) (j : Json) (u : List ℕ) → whole_of close p ≡ ok j u → (xs : List Named) × (p ≡ ok xs u) × (whole close xs ≡ j)
unwhole close (ok xs r) j u h = let a : r ≡ u = cc in let b : whole close xs ≡ j = cc in (xs, ap (ok xs) a, b)
unwhole close none j u h = absurd (no_parsed h)

sure_none : (key room close : ℕ) → true ≡ sure_in key room (whole close [])
unfolding none_noted sure_items
sure_none key room close = sure_whole key room close []

pub judged_none : (key room : ℕ) (s : List ℕ) (close l i : ℕ) → l ≡ 0 → JudgesIn key room s i (inside_of close l (drop i s)) Judged.Bad
judged_none key room s close l i e = record { place = Nesting.no_levels s close l i e; says = λ j u h. tt }

module _ (key room : ℕ) (s : List ℕ) (close l at i : ℕ) (pos : ¬ (l ≡ 0)) (ws : Skipped s at i) where
  pub judged_past : length s ≤ i → JudgesIn key room s at (inside_of close l (drop at s)) Judged.Bad
  judged_past h = record { place = Nesting.inside_past s close l at i pos ws h; says = λ j u r. tt }

  pub judged_empty : i < length s → get_or s i 0 ≡ close → JudgesIn key room s at (inside_of close l (drop at s)) (Judged.End (i + 1) true)
  judged_empty h e = record { place = Nesting.inside_empty s close l at i pos ws h e; says = told }
    where
      told : (j : Json) (u : List ℕ) → inside_of close l (drop at s) ≡ ok j u → true ≡ sure_in key room j
      told j u r =
          let a : ok (whole close []) (drop (i + 1) s) ≡ ok j u = rw (Nesting.opens s close l at i pos ws, next s i h, eq-eqb _ _ e) at r in
          let b : whole close [] ≡ j = cc in
          sure_none key room close ∙ ap (sure_in key room) b

  pub inside_say : i < length s → ¬ (get_or s i 0 ≡ close) → (q : Bool) → ItemsSay key room s close (l - 1) i none_noted q → (j : Json) (u : List ℕ) → inside_of close l (drop at s) ≡ ok j u → q ≡ sure_in key room j
  inside_say h e q x j u r =
      let a : whole_of close (read_items close (λ v. read_value (l - 1) v) (length (drop at s)) (get_or s i 0 ∷ drop (i + 1) s)) ≡ ok j u = rw (Nesting.opens s close l at i pos ws, next s i h, ne_eqb _ _ e) at r in
      let f = unwhole close (read_items close (λ v. read_value (l - 1) v) (length (drop at s)) (get_or s i 0 ∷ drop (i + 1) s)) j u a in
      x (length (drop at s)) f.0 u (subst (λ (t : List ℕ). read_items close (λ v. read_value (l - 1) v) (length (drop at s)) t ≡ ok f.0 u) (sym (next s i h)) f.1) ∙ sure_whole key room close f.0 ∙ ap (sure_in key room) f.2

-- values

plain : (key room : ℕ) {l : ℕ} {t r : List ℕ} {j : Json} (b : ℕ) (u : List ℕ) → t ≡ b ∷ u → ¬ (b ≡ 0x5b) → ¬ (b ≡ 0x7b) → Value l t r j → true ≡ sure_in key room j
unfolding sure_in
plain key room b u q m n Value.vnull = refl
plain key room b u q m n Value.vtrue = refl
plain key room b u q m n Value.vfalse = refl
plain key room b u q m n (Value.vnum x y z) = refl
plain key room b u q m n (Value.vstr c) = refl
plain key room b u q m n (Value.varr₀ w) = absurd (m cc)
plain key room b u q m n (Value.varr i) = absurd (m cc)
plain key room b u q m n (Value.vobj₀ w) = absurd (n cc)
plain key room b u q m n (Value.vobj i) = absurd (n cc)

same_place : {A : Type 0} {s : List ℕ} {i : ℕ} {p : Parsed A} (r : Read) → Ends s i p r → Ends s i p (place_of (ended_of r))
same_place (Read.End e) x = x
same_place Read.Bad x = x

says_true : (r : Read) (b : Bool) → true ≡ b → Says (ended_of r) b
says_true (Read.End e) b h = h
says_true Read.Bad b h = tt

module _ (key room : ℕ) (s : List ℕ) (l i : ℕ) where
  pub value_past : length s ≤ i → JudgesIn key room s i (read_value l (drop i s)) Judged.Bad
  value_past h = record { place = Nesting.value_past s l i h; says = λ j u r. tt }

  module _ (h : i < length s) where
    pub value_array : (r : Judged) → get_or s i 0 ≡ 0x5b → JudgesIn key room s (i + 1) (inside_of 0x5d l (drop (i + 1) s)) r → JudgesIn key room s i (read_value l (drop i s)) r
    value_array r e x = record { place = Nesting.value_array s l i h (place_of r) e x.place; says = λ j u k. x.says j u (rw (next s i h, Nesting.value_cons l (get_or s i 0) (drop (i + 1) s), e) at k) }

    pub value_object : (r : Judged) → get_or s i 0 ≡ 0x7b → JudgesIn key room s (i + 1) (inside_of 0x7d l (drop (i + 1) s)) r → JudgesIn key room s i (read_value l (drop i s)) r
    value_object r e x = record { place = Nesting.value_object s l i h (place_of r) e x.place; says = λ j u k. x.says j u (rw (next s i h, Nesting.value_cons l (get_or s i 0) (drop (i + 1) s), e) at k) }

    pub value_scalar : (r : Read) → ¬ (get_or s i 0 ≡ 0x5b) → ¬ (get_or s i 0 ≡ 0x7b) → Ends s i (read_value l (drop i s)) r → JudgesIn key room s i (read_value l (drop i s)) (ended_of r)
    value_scalar r m n x = record { place = same_place r x; says = λ j u k. says_true r (sure_in key room j) (told j u k) }
      where
        told : (j : Json) (u : List ℕ) → read_value l (drop i s) ≡ ok j u → true ≡ sure_in key room j
        told j u k = plain key room (get_or s i 0) (drop (i + 1) s) (next s i h) m n (subst (Sound.ValueIf l (drop i s)) k (Sound.value l (drop i s)))
