-- One value or null more of the statuses that are kept is one entry more of their groups.
-- Assumes nothing.
use Rattle.basis.proofs.Std.{◌≡◌, refl, sym, ap, ◌∙◌, Bool, true, false, ⊎_elim, List, [], ◌∷◌, ◌++◌, append-nil, map, ℕ, suc, ◌+◌, ◌-◌, ◌/◌, ◌%◌, ◌^◌, ◌≤◌, ◌<◌, add-zero, arith, lt-ltb, le-ltb, eq-eqb, ne_eqb, ℤ, length, get_or, set, bool_cases, lt_or_ge}
use Rattle.label.specs.Label.{text_of}
use Rattle.week_entry.specs.declared.Entry.{Entry}
use Rattle.week_count.specs.Values.{is_of, value_in, values_of, raised, value_word}
use Rattle.week_tally.specs.Tally.{Status as Kept}
use Rattle.week_tally.specs.Words.{bumped}
use Rattle.week_tally.specs.Noted.{is_for, place_for, place_of, new_status as new_kept, no_status, one_null, entered}
use Rattle.week_tally.proofs.Places.{raised_small}
use Rattle.week_promise.specs.Tally.{Status, value_of, with_entry, add}
use Rattle.week_promise.proofs.Integers.{lowered, lowered_raised}
use Rattle.week_promise.proofs.Lines.{plain, grouped_from}

map-append : (bs cs : List ℕ) → map lowered (bs ++ cs) ≡ map lowered bs ++ map lowered cs
map-append [] cs = refl
map-append (b ∷ bs) cs = ap (λ (l : List ℤ). lowered b ∷ l) (map-append bs cs)

values_more : (p : ℕ) (vs ws : List ℕ) → values_of p (vs ++ ws) ≡ values_of p vs ++ values_of p ws
unfolding values_of
values_more p [] ws = refl
values_more p (v ∷ vs) ws =
    bool_cases (is_of p v)
    (λ e. rw e (ap (λ (l : List ℕ). value_in v ∷ l) (values_more p vs ws)))
    (λ e. rw e (values_more p vs ws))

abbrev low : ℕ → ℕ
low w = w % 2 ^ 32

raised_low : (w : ℕ) → raised (low w) < 2 ^ 32
raised_low w = raised_small (low w) refl (omega arith)

place_in : (q w : ℕ) → value_word q w / 2 ^ 32 ≡ q
place_in q w = omega (arith, raised_low w)

value_in_lem : (q w : ℕ) → value_in (value_word q w) ≡ raised (low w)
value_in_lem q w = omega (arith, raised_low w)

pub values_here : (p w : ℕ) (vs : List ℕ) → values_of p (vs ++ (value_word p w ∷ [])) ≡ values_of p vs ++ (raised (low w) ∷ [])
unfolding values_of
values_here p w vs = values_more p vs (value_word p w ∷ []) ∙ rw (eq-eqb (value_word p w / 2 ^ 32) p (place_in p w), value_in_lem p w)

pub values_there : (p q w : ℕ) (vs : List ℕ) → (q ≡ p → ⊥) → values_of p (vs ++ (value_word q w ∷ [])) ≡ values_of p vs
unfolding values_of
values_there p q w vs n =
    values_more p vs (value_word q w ∷ [])
    ∙ rw (ne_eqb (value_word q w / 2 ^ 32) p (λ e. n (sym (place_in q w) ∙ e))) (append-nil (values_of p vs))

grouped_there : (p q w : ℕ) (fs : List Kept) (vs : List ℕ) → q < p → grouped_from p fs (vs ++ (value_word q w ∷ [])) ≡ grouped_from p fs vs
unfolding grouped_from
grouped_there p q w [] vs h = refl
grouped_there p q w (f ∷ fs) vs h = rw (values_there p q w vs (λ e. omega (arith, e)), grouped_there (suc p) q w fs vs (omega arith))

-- the value that goes into a group
lowered_value : (p : ℕ) (e : Entry) (vs : List ℕ)
    → map lowered (values_of p (vs ++ (value_word p e.word ∷ []))) ≡ map lowered (values_of p vs) ++ (value_of e ∷ [])
lowered_value p e vs =
    ap (map lowered) (values_here p e.word vs)
    ∙ map-append (values_of p vs) (raised (low e.word) ∷ [])
    ∙ ap (λ (z : ℤ). map lowered (values_of p vs) ++ (z ∷ [])) (lowered_raised (low e.word) (omega arith))

module _ (f : Kept) (fs : List Kept) (e : Entry) where
  abbrev pub is : Bool
  is = is_for f (text_of e.component) (text_of e.code) (text_of e.name)

  pub place_hit : is ≡ true → place_of (f ∷ fs) e ≡ 0
  unfolding place_for
  place_hit h = rw h

  pub place_miss : is ≡ false → place_of (f ∷ fs) e ≡ suc (place_of fs e)
  unfolding place_for
  place_miss h = rw h

  pub entered_hit : is ≡ true → entered (f ∷ fs) e ≡ f ∷ fs
  unfolding entered
  entered_hit h = rw (place_hit h, lt-ltb 0 (suc (length fs)) (omega arith))

  pub entered_miss : is ≡ false → entered (f ∷ fs) e ≡ f ∷ entered fs e
  unfolding entered
  entered_miss h =
      ⊎_elim
      (λ (g : place_of fs e < length fs). rw (place_miss h, lt-ltb (suc (place_of fs e)) (suc (length fs)) (omega arith), lt-ltb (place_of fs e) (length fs) g))
      (λ (g : length fs ≤ place_of fs e). rw (place_miss h, le-ltb (suc (place_of fs e)) (suc (length fs)) (omega arith), le-ltb (place_of fs e) (length fs) g))
      (lt_or_ge (place_of fs e) (length fs))

pub bumped_at : List Kept → Entry → List Kept
bumped_at fs e = set (entered fs e) (place_of fs e) (one_null (get_or (entered fs e) (place_of fs e) no_status))

pub bumped_is : (fs : List Kept) (e : Entry) → bumped_at fs e ≡ set (entered fs e) (place_of fs e) (one_null (get_or (entered fs e) (place_of fs e) no_status))
unfolding bumped_at
bumped_is fs e = refl

pub bumped_first : (e : Entry) → bumped_at [] e ≡ one_null (new_kept e) ∷ []
unfolding bumped_at entered place_for
bumped_first e = refl

pub bumped_hit : (f : Kept) (fs : List Kept) (e : Entry) → is f fs e ≡ true → bumped_at (f ∷ fs) e ≡ one_null f ∷ fs
unfolding bumped_at
bumped_hit f fs e h = rw (entered_hit f fs e h, place_hit f fs e h)

pub bumped_miss : (f : Kept) (fs : List Kept) (e : Entry) → is f fs e ≡ false → bumped_at (f ∷ fs) e ≡ f ∷ bumped_at fs e
unfolding bumped_at
bumped_miss f fs e h = rw (entered_miss f fs e h, place_miss f fs e h)

cons_alike : {x y : Status} {l m : List Status} → x ≡ y → l ≡ m → x ∷ l ≡ y ∷ m
cons_alike p q = rw (p, q)

with_value : (f : Kept) (zs : List ℤ) (e : Entry) → e.known ≡ true → with_entry (plain f zs) e ≡ plain f (zs ++ (value_of e ∷ []))
with_value f zs e k = rw k

with_null : (f : Kept) (zs : List ℤ) (e : Entry) → e.known ≡ false → bumped f.nulls ≡ f.nulls + 1 → with_entry (plain f zs) e ≡ plain (one_null f) zs
with_null f zs e k b = rw (k, b)

add_hit : (f : Kept) (fs : List Kept) (zs : List ℤ) (ss : List Status) (e : Entry) → is f fs e ≡ true → add (plain f zs ∷ ss) e ≡ with_entry (plain f zs) e ∷ ss
unfolding add
add_hit f fs zs ss e h = rw h

add_miss : (f : Kept) (fs : List Kept) (zs : List ℤ) (ss : List Status) (e : Entry) → is f fs e ≡ false → add (plain f zs ∷ ss) e ≡ plain f zs ∷ add ss e
unfolding add
add_miss f fs zs ss e h = rw h

-- a known value: of a first status, of one that stands, of a later one
module _ (p : ℕ) (vs : List ℕ) (e : Entry) (k : e.known ≡ true) where
  first_value : values_of (p + 0) vs ≡ [] → grouped_from p (entered [] e) (vs ++ (value_word (p + place_of [] e) e.word ∷ [])) ≡ add [] e
  unfolding grouped_from add entered place_for
  first_value s =
      let none : values_of p vs ≡ [] = ap (λ (n : ℕ). values_of n vs) (sym (add-zero p)) ∙ s in
      ap (λ (n : ℕ). grouped_from p (new_kept e ∷ []) (vs ++ (value_word n e.word ∷ []))) (add-zero p)
      ∙ cons_alike
      (ap (plain (new_kept e)) (lowered_value p e vs ∙ ap (λ (l : List ℕ). map lowered l ++ (value_of e ∷ [])) none) ∙ sym (with_value (new_kept e) [] e k))
      refl

  value_hit : (f : Kept) (fs : List Kept) → is f fs e ≡ true
      → grouped_from p (entered (f ∷ fs) e) (vs ++ (value_word (p + place_of (f ∷ fs) e) e.word ∷ [])) ≡ add (grouped_from p (f ∷ fs) vs) e
  unfolding grouped_from
  value_hit f fs h =
      let q : p + place_of (f ∷ fs) e ≡ p = omega (arith, place_hit f fs e h) in
      ap (λ (l : List Kept). grouped_from p l (vs ++ (value_word (p + place_of (f ∷ fs) e) e.word ∷ []))) (entered_hit f fs e h)
      ∙ ap (λ (n : ℕ). grouped_from p (f ∷ fs) (vs ++ (value_word n e.word ∷ []))) q
      ∙ cons_alike
      (ap (plain f) (lowered_value p e vs) ∙ sym (with_value f (map lowered (values_of p vs)) e k))
      (grouped_there (suc p) p e.word fs vs (omega arith))
      ∙ sym (add_hit f fs (map lowered (values_of p vs)) (grouped_from (suc p) fs vs) e h)

  value_miss : (f : Kept) (fs : List Kept) → is f fs e ≡ false
      → grouped_from (suc p) (entered fs e) (vs ++ (value_word (suc p + place_of fs e) e.word ∷ [])) ≡ add (grouped_from (suc p) fs vs) e
      → grouped_from p (entered (f ∷ fs) e) (vs ++ (value_word (p + place_of (f ∷ fs) e) e.word ∷ [])) ≡ add (grouped_from p (f ∷ fs) vs) e
  unfolding grouped_from
  value_miss f fs h i =
      let q : p + place_of (f ∷ fs) e ≡ suc p + place_of fs e = omega (arith, place_miss f fs e h) in
      ap (λ (l : List Kept). grouped_from p l (vs ++ (value_word (p + place_of (f ∷ fs) e) e.word ∷ []))) (entered_miss f fs e h)
      ∙ ap (λ (n : ℕ). grouped_from p (f ∷ entered fs e) (vs ++ (value_word n e.word ∷ []))) q
      ∙ cons_alike
      (ap (λ (l : List ℕ). plain f (map lowered l)) (values_there p (suc p + place_of fs e) e.word vs (λ z. omega (arith, z))))
      i
      ∙ sym (add_miss f fs (map lowered (values_of p vs)) (grouped_from (suc p) fs vs) e h)

pub grouped_value : (p : ℕ) (fs : List Kept) (vs : List ℕ) (e : Entry) → e.known ≡ true → values_of (p + length fs) vs ≡ []
    → grouped_from p (entered fs e) (vs ++ (value_word (p + place_of fs e) e.word ∷ [])) ≡ add (grouped_from p fs vs) e
unfolding grouped_from
grouped_value p [] vs e k s = first_value p vs e k s
grouped_value p (f ∷ fs) vs e k s =
    bool_cases (is f fs e)
    (λ h. value_hit p vs e k f fs h)
    (λ h. value_miss p vs e k f fs h (grouped_value (suc p) fs vs e k (ap (λ (n : ℕ). values_of n vs) (omega arith) ∙ s)))

-- no status has more than n nulls
pub data Most (n : ℕ) : List Kept → Type 0 where
  none : Most n []
  more : {f : Kept} {fs : List Kept} → f.nulls ≤ n → Most n fs → Most n (f ∷ fs)

one_more : (n m : ℕ) → m ≤ n → n < 2 ^ 64 - 1 → bumped m ≡ m + 1
one_more n m h g = rw (lt-ltb m (2 ^ 64 - 1) (omega arith))

first_null : (p : ℕ) (vs : List ℕ) (e : Entry) → e.known ≡ false → values_of (p + 0) vs ≡ [] → grouped_from p (one_null (new_kept e) ∷ []) vs ≡ add [] e
unfolding grouped_from add
first_null p vs e k s =
    let none : values_of p vs ≡ [] = ap (λ (n : ℕ). values_of n vs) (sym (add-zero p)) ∙ s in
    cons_alike (ap (λ (l : List ℕ). plain (one_null (new_kept e)) (map lowered l)) none ∙ sym (with_null (new_kept e) [] e k refl)) refl

-- a null
pub grouped_null : (p n : ℕ) (fs : List Kept) (vs : List ℕ) (e : Entry) → e.known ≡ false → values_of (p + length fs) vs ≡ [] → Most n fs → n < 2 ^ 64 - 1
    → grouped_from p (bumped_at fs e) vs ≡ add (grouped_from p fs vs) e
unfolding grouped_from
grouped_null p n [] vs e k s m l =
    ap (λ (l : List Kept). grouped_from p l vs) (bumped_first e) ∙ first_null p vs e k s
grouped_null p n (f ∷ fs) vs e k s (more a m) l =
    bool_cases (is f fs e)
    (λ h.
    ap (λ (l : List Kept). grouped_from p l vs) (bumped_hit f fs e h)
    ∙ cons_alike (sym (with_null f (map lowered (values_of p vs)) e k (one_more n f.nulls a l))) refl
    ∙ sym (add_hit f fs (map lowered (values_of p vs)) (grouped_from (suc p) fs vs) e h))
    (λ h.
    ap (λ (l : List Kept). grouped_from p l vs) (bumped_miss f fs e h)
    ∙ cons_alike refl (grouped_null (suc p) n fs vs e k (ap (λ (n : ℕ). values_of n vs) (omega arith) ∙ s) m l)
    ∙ sym (add_miss f fs (map lowered (values_of p vs)) (grouped_from (suc p) fs vs) e h))
