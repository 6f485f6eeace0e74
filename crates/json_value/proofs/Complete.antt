-- What is in the grammar is read.
-- Assumes nothing.
use Rattle.basis.proofs.Std.{ℕ, zero, suc, ◌<◌, ◌≤◌, ◌≡◌, refl, sym, ap, ◌∙◌, Bool, true, false, List, [], ◌∷◌, ◌++◌, eqb, length, pick, arith, ne_eqb}
use Rattle.json_text.specs.Decoded.{Parsed}
use Rattle.json_text.specs.Decoded.Parsed.{ok}
use Rattle.json_text.specs.Grammar.{Chars}
use Rattle.json_text.proofs.Meaning as Strings
use Rattle.json_number.specs.Number.{Number, Ended}
use Rattle.json_number.specs.Machine.{read_number}
use Rattle.json_number.proofs.Kept as Numbers
use Rattle.json_value.specs.Grammar.{Json, Jsons, Members, Space, Ws, Name, Value, Elements, Pairs}
use Rattle.json_value.specs.Grammar.Json.{null, bool, num, str, arr, obj}
use Rattle.json_value.specs.Grammar.Jsons.{jnil, jcons}
use Rattle.json_value.specs.Grammar.Members.{mnil, mcons}
use Rattle.json_value.specs.Reader.{is_space, skip_ws, literal, num_of, read_scalar, read_name, unnamed, read_start, read_mark, Named, named, read_entry, read_items, jsons, members, whole_of, opened, read_inside, read_value}
use Rattle.json_value.proofs.Shorter as Shorter

-- white space

abbrev pub Solid : List ℕ → Type 0
Solid [] = Unit {0}
Solid (b ∷ t) = is_space b ≡ false

pub space : {b : ℕ} → Space b → is_space b ≡ true
space Space.blank = refl
space Space.tab = refl
space Space.line = refl
space Space.return = refl

skip_solid : (t : List ℕ) → Solid t → skip_ws t ≡ t
unfolding skip_ws
skip_solid [] h = refl
skip_solid (b ∷ t) h = rw h

pub skip : {t u : List ℕ} → Ws t u → Solid u → skip_ws t ≡ u
unfolding skip_ws
skip {t} Ws.none h = skip_solid t h
skip (Ws.more s w) h = rw (space s) (skip w h)

pub skip_twice : (t : List ℕ) → skip_ws (skip_ws t) ≡ skip_ws t
unfolding skip_ws
skip_twice [] = refl
skip_twice (b ∷ t) = go (is_space b) refl (skip_twice t)
  where
    go : (q : Bool) → is_space b ≡ q → skip_ws (skip_ws t) ≡ skip_ws t → skip_ws (pick q (skip_ws t) (b ∷ t)) ≡ pick q (skip_ws t) (b ∷ t)
    go true e h = h
    go false e h = skip_solid (b ∷ t) e

pub ws_length : {t u : List ℕ} → Ws t u → length u ≤ length t
ws_length Ws.none = omega arith
ws_length (Ws.more s w) = omega (arith, ws_length w)

-- a value begins with a byte that is no white space and closes nothing
abbrev pub Begins : List ℕ → Type 0
Begins [] = ⊥
Begins (b ∷ t) = (is_space b ≡ false) × (eqb b 0x5d ≡ false)

pub solid : (t : List ℕ) → Begins t → Solid t
solid [] h = tt
solid (b ∷ t) h = h.0

low_space : (b : ℕ) → 0x2d ≤ b → is_space b ≡ false
low_space b h = simp (ne_eqb b 0x20 (λ e. omega arith), ne_eqb b 0x09 (λ e. omega arith), ne_eqb b 0x0a (λ e. omega arith), ne_eqb b 0x0d (λ e. omega arith))

pub begins : {l : ℕ} {t r : List ℕ} {j : Json} → Value l t r j → Begins t
begins Value.vnull = (refl, refl)
begins Value.vtrue = (refl, refl)
begins Value.vfalse = (refl, refl)
begins (Value.vnum n e d) =
    let b = Shorter.begun n in
    rw b.is (low_space b.first b.low, ne_eqb b.first 0x5d (λ x. omega (arith, b.high)))
begins (Value.vstr c) = (refl, refl)
begins (Value.varr₀ w) = (refl, refl)
begins (Value.varr i) = (refl, refl)
begins (Value.vobj₀ w) = (refl, refl)
begins (Value.vobj i) = (refl, refl)

-- what follows is shorter

pub name_length : {t r d : List ℕ} → Name t r d → length r < length t
name_length (Name.name a c b e) = omega (arith, ws_length a, Shorter.chars c, ws_length b, ws_length e)

mutual
  pub value_length : {l : ℕ} {t r : List ℕ} {j : Json} → Value l t r j → length r < length t
  value_length Value.vnull = omega arith
  value_length Value.vtrue = omega arith
  value_length Value.vfalse = omega arith
  value_length (Value.vnum n e d) = Shorter.number n
  value_length (Value.vstr c) = omega (arith, Shorter.chars c)
  value_length (Value.varr₀ w) = omega (arith, ws_length w)
  value_length (Value.varr i) = omega (arith, elements_length i)
  value_length (Value.vobj₀ w) = omega (arith, ws_length w)
  value_length (Value.vobj i) = omega (arith, pairs_length i)

  elements_length : {l : ℕ} {t r : List ℕ} {js : Jsons} → Elements l t r js → length r < length t
  elements_length (Elements.elast a v b) = omega (arith, ws_length a, ws_length b, value_length v)
  elements_length (Elements.enext a v b i) = omega (arith, ws_length a, ws_length b, value_length v, elements_length i)

  pairs_length : {l : ℕ} {t r : List ℕ} {ms : Members} → Pairs l t r ms → length r < length t
  pairs_length (Pairs.plast a v b) = omega (arith, name_length a, ws_length b, value_length v)
  pairs_length (Pairs.pnext a v b i) = omega (arith, name_length a, ws_length b, value_length v, pairs_length i)

-- scalars

scalar_number : (b : ℕ) (t : List ℕ) → 0x2d ≤ b → b < 0x3a → read_scalar (b ∷ t) ≡ num_of (read_number (b ∷ t))
unfolding read_scalar
scalar_number b t l h =
    rw (ne_eqb b 0x22 (λ e. omega arith), ne_eqb b 0x74 (λ e. omega arith), ne_eqb b 0x66 (λ e. omega arith), ne_eqb b 0x6e (λ e. omega arith))

value_number : (l b : ℕ) (t : List ℕ) → 0x2d ≤ b → b < 0x3a → read_value l (b ∷ t) ≡ num_of (read_number (b ∷ t))
unfolding read_value
value_number zero b t lo hi = rw (ne_eqb b 0x5b (λ e. omega arith), ne_eqb b 0x7b (λ e. omega arith)) (scalar_number b t lo hi)
value_number (suc l) b t lo hi = rw (ne_eqb b 0x5b (λ e. omega arith), ne_eqb b 0x7b (λ e. omega arith)) (scalar_number b t lo hi)

num_at : (l : ℕ) {t r d : List ℕ} → Number t r → Ended r → t ≡ d ++ r → read_value l t ≡ ok (num d) r
num_at l {t} n e h =
    let b = Shorter.begun n in
    ap (read_value l) b.is ∙ value_number l b.first b.rest b.low b.high ∙ ap (λ (u : List ℕ). num_of (read_number u)) (sym b.is)
    ∙ ap num_of (Numbers.complete n e h)

null_at : (l : ℕ) {r : List ℕ} → read_value l (0x6e ∷ 0x75 ∷ 0x6c ∷ 0x6c ∷ r) ≡ ok null r
unfolding read_value read_scalar literal
null_at zero = refl
null_at (suc l) = refl

true_at : (l : ℕ) {r : List ℕ} → read_value l (0x74 ∷ 0x72 ∷ 0x75 ∷ 0x65 ∷ r) ≡ ok (bool true) r
unfolding read_value read_scalar literal
true_at zero = refl
true_at (suc l) = refl

false_at : (l : ℕ) {r : List ℕ} → read_value l (0x66 ∷ 0x61 ∷ 0x6c ∷ 0x73 ∷ 0x65 ∷ r) ≡ ok (bool false) r
unfolding read_value read_scalar literal
false_at zero = refl
false_at (suc l) = refl

str_at : (l : ℕ) {t r d : List ℕ} → Chars t r d → read_value l (0x22 ∷ t) ≡ ok (str d) r
unfolding read_value read_scalar
str_at zero c = rw (Strings.complete c)
str_at (suc l) c = rw (Strings.complete c)

-- names, starts and marks

pub name_read : {t r d : List ℕ} → Name t r d → Solid r → read_name (skip_ws t) ≡ ok d r
unfolding read_name
name_read (Name.name a c b e) h = rw (skip a refl, Strings.complete c, skip b refl, skip e h)

pub start_name : {t r d : List ℕ} → Name t r d → Solid r → read_start 0x7d t ≡ ok d r
unfolding read_start
start_name n h = name_read n h

pub start_value : {t u : List ℕ} → Ws t u → Begins u → read_start 0x5d t ≡ ok [] u
unfolding read_start
start_value {u = u} w h = ap unnamed (skip w (solid u h)) ∙ go u h
  where
    go : (u : List ℕ) → Begins u → unnamed u ≡ ok [] u
    go [] h = absurd h
    go (b ∷ u) h = refl

pub close_array : {t r : List ℕ} → Ws t (0x5d ∷ r) → read_mark 0x5d t ≡ ok true r
unfolding read_mark
close_array w = rw (skip w refl)

pub close_object : {t r : List ℕ} → Ws t (0x7d ∷ r) → read_mark 0x7d t ≡ ok true r
unfolding read_mark
close_object w = rw (skip w refl)

pub comma_array : {t r : List ℕ} → Ws t (0x2c ∷ r) → read_mark 0x5d t ≡ ok false r
unfolding read_mark
comma_array w = rw (skip w refl)

pub comma_object : {t r : List ℕ} → Ws t (0x2c ∷ r) → read_mark 0x7d t ≡ ok false r
unfolding read_mark
comma_object w = rw (skip w refl)

-- entries

module _ (close l : ℕ) (t u v r d : List ℕ) (j : Json) (a : read_start close t ≡ ok d u) (x : read_value l u ≡ ok j v) where
  pub entry_read : (b : Bool) → read_mark close v ≡ ok b r → read_entry close (λ w. read_value l w) t ≡ ok (record { item = named d j; last = b }) r
  unfolding read_entry
  entry_read b m = rw (a, x, m)

  at_last : read_mark close v ≡ ok true r → (n : ℕ) → 0 < n → read_items close (λ w. read_value l w) n t ≡ ok (named d j ∷ []) r
  unfolding read_items
  at_last m zero h = absurd (omega arith)
  at_last m (suc n) h = rw (entry_read true m)

  at_next : read_mark close v ≡ ok false r → (xs : List Named) (w : List ℕ) (n : ℕ) → length r < n → ((k : ℕ) → length r ≤ k → read_items close (λ w. read_value l w) k r ≡ ok xs w) → read_items close (λ w. read_value l w) n t ≡ ok (named d j ∷ xs) w
  unfolding read_items
  at_next m xs w zero h ih = absurd (omega arith)
  at_next m xs w (suc n) h ih = rw (entry_read false m, ih n (omega arith))

-- white space before entries changes nothing
items_skip : (close : ℕ) (value : List ℕ → Parsed Json) (n : ℕ) (t : List ℕ) → read_items close value n (skip_ws t) ≡ read_items close value n t
unfolding read_items read_entry read_start
items_skip close value zero t = refl
items_skip close value (suc n) t = rw (skip_twice t)

-- the entries of an array and of an object
abbrev listed : Jsons → List Named
listed jnil = []
listed (jcons j js) = named [] j ∷ listed js

abbrev paired : Members → List Named
paired mnil = []
paired (mcons d j ms) = named d j ∷ paired ms

jsons_listed : (js : Jsons) → jsons (listed js) ≡ js
jsons_listed jnil = refl
jsons_listed (jcons j js) = ap (jcons j) (jsons_listed js)

members_paired : (ms : Members) → members (paired ms) ≡ ms
members_paired mnil = refl
members_paired (mcons d j ms) = ap (mcons d j) (members_paired ms)

pub elements_begin : {l : ℕ} {t r : List ℕ} {js : Jsons} → Elements l t r js → Begins (skip_ws t)
elements_begin (Elements.elast {u = u} a v b) = rw (skip a (solid u (begins v))) (begins v)
elements_begin (Elements.enext {u = u} a v b i) = rw (skip a (solid u (begins v))) (begins v)

opened_items : (close : ℕ) (value : List ℕ → Parsed Json) (n b : ℕ) (t : List ℕ) → eqb b close ≡ false → opened close value n (b ∷ t) ≡ whole_of close (read_items close value n (b ∷ t))
opened_items close value n b t h = rw h

in_array : {l : ℕ} {t r : List ℕ} {js : Jsons} → Elements l t r js → read_items 0x5d (λ v. read_value l v) (length t) t ≡ ok (listed js) r → read_value (suc l) (0x5b ∷ t) ≡ ok (arr js) r
unfolding read_value read_inside
in_array {l} {t} {r} {js} i h =
    go (skip_ws t) (elements_begin i) ∙ ap (whole_of 0x5d) (items_skip 0x5d (λ v. read_value l v) (length t) t ∙ h)
    ∙ ap (λ (ks : Jsons). ok (arr ks) r) (jsons_listed js)
  where
    go : (u : List ℕ) → Begins u → opened 0x5d (λ v. read_value l v) (length t) u ≡ whole_of 0x5d (read_items 0x5d (λ v. read_value l v) (length t) u)
    go [] h = absurd h
    go (b ∷ u) h = opened_items 0x5d (λ v. read_value l v) (length t) b u h.1

-- a text that begins with a quotation mark
abbrev pub Quoted : List ℕ → Type 0
Quoted [] = ⊥
Quoted (b ∷ t) = b ≡ 0x22

name_begin : {t r d : List ℕ} → Name t r d → Quoted (skip_ws t)
name_begin (Name.name a c b e) = rw (skip a refl) refl

pub pairs_begin : {l : ℕ} {t r : List ℕ} {ms : Members} → Pairs l t r ms → Quoted (skip_ws t)
pairs_begin (Pairs.plast a v b) = name_begin a
pairs_begin (Pairs.pnext a v b i) = name_begin a

in_object : {l : ℕ} {t r : List ℕ} {ms : Members} → Pairs l t r ms → read_items 0x7d (λ v. read_value l v) (length t) t ≡ ok (paired ms) r → read_value (suc l) (0x7b ∷ t) ≡ ok (obj ms) r
unfolding read_value read_inside
in_object {l} {t} {r} {ms} i h =
    go (skip_ws t) (pairs_begin i) ∙ ap (whole_of 0x7d) (items_skip 0x7d (λ v. read_value l v) (length t) t ∙ h)
    ∙ ap (λ (ns : Members). ok (obj ns) r) (members_paired ms)
  where
    go : (u : List ℕ) → Quoted u → opened 0x7d (λ v. read_value l v) (length t) u ≡ whole_of 0x7d (read_items 0x7d (λ v. read_value l v) (length t) u)
    go [] h = absurd h
    go (b ∷ u) h = opened_items 0x7d (λ v. read_value l v) (length t) b u (rw h)

-- what the grammar has is read
mutual
  unfolding read_value read_inside

  pub value : {l : ℕ} {t r : List ℕ} {j : Json} → Value l t r j → read_value l t ≡ ok j r
  value (Value.vnull {l = l}) = null_at l
  value (Value.vtrue {l = l}) = true_at l
  value (Value.vfalse {l = l}) = false_at l
  value (Value.vnum {l = l} n e d) = num_at l n e d
  value (Value.vstr {l = l} c) = str_at l c
  value (Value.varr₀ w) = rw (skip w refl)
  value (Value.varr {t = t} i) = in_array i (elements i (length t) (omega arith))
  value (Value.vobj₀ w) = rw (skip w refl)
  value (Value.vobj {t = t} i) = in_object i (pairs i (length t) (omega arith))

  elements : {l : ℕ} {t r : List ℕ} {js : Jsons} → Elements l t r js → (n : ℕ) → length t ≤ n → read_items 0x5d (λ v. read_value l v) n t ≡ ok (listed js) r
  elements (Elements.elast {l = l} {t = t} {u = u} {v = v} {r = r} {j = j} a x b) n h =
      at_last 0x5d l t u v r [] j (start_value a (begins x)) (value x) (close_array b) n (omega (arith, ws_length a, value_length x))
  elements (Elements.enext {l = l} {t = t} {u = u} {v = v} {w = w} {r = r} {j = j} {js = js} a x b i) n h =
      at_next 0x5d l t u v w [] j (start_value a (begins x)) (value x) (comma_array b) (listed js) r n (omega (arith, ws_length a, value_length x, ws_length b)) (elements i)

  pairs : {l : ℕ} {t r : List ℕ} {ms : Members} → Pairs l t r ms → (n : ℕ) → length t ≤ n → read_items 0x7d (λ v. read_value l v) n t ≡ ok (paired ms) r
  pairs (Pairs.plast {l = l} {t = t} {u = u} {v = v} {r = r} {d = d} {j = j} a x b) n h =
      at_last 0x7d l t u v r d j (start_name a (solid u (begins x))) (value x) (close_object b) n (omega (arith, name_length a, value_length x))
  pairs (Pairs.pnext {l = l} {t = t} {u = u} {v = v} {w = w} {r = r} {d = d} {j = j} {ms = ms} a x b i) n h =
      at_next 0x7d l t u v w d j (start_name a (solid u (begins x))) (value x) (comma_object b) (paired ms) r n (omega (arith, name_length a, value_length x, ws_length b)) (pairs i)

-- a text has one meaning
pub once : {l : ℕ} {t r u : List ℕ} {j k : Json} → Value l t r j → Value l t u k → (j ≡ k) × (r ≡ u)
once {r = r} {u = u} {j = j} {k = k} a b = let e : ok j r ≡ ok k u = sym (value a) ∙ value b in (cc, cc)
