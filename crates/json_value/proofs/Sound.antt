-- What the reader reads is in the grammar.
-- Assumes nothing.
use Rattle.basis.proofs.Std.{ℕ, zero, suc, ◌≡◌, refl, sym, subst, Bool, true, false, List, [], ◌∷◌, ◌++◌, length, eqb, eqb-true, pick, text, picked}
use Rattle.json_text.specs.Decoded.{Parsed, decoded}
use Rattle.json_text.specs.Decoded.Parsed.{ok, none}
use Rattle.json_text.specs.Grammar.{Chars}
use Rattle.json_text.proofs.Meaning as Strings
use Rattle.json_number.specs.Machine.{read_number}
use Rattle.json_number.proofs.Sound as Numbers
use Rattle.json_value.specs.Grammar.{Json, Jsons, Members, Space, Ws, Name, Value, Elements, Pairs}
use Rattle.json_value.specs.Grammar.Json.{null, bool}
use Rattle.json_value.specs.Reader.{is_space, skip_ws, literal, str_of, num_of, read_scalar, colon_at, colon, read_name, unnamed, read_start, mark_at, read_mark, Named, named, Entry, marked, after_value, after_start, read_entry, cons_of, if_last, after_entry, read_items, jsons, members, whole_of, opened, read_inside, value_by, read_value}

at : (P : ℕ → Type 0) (b k : ℕ) → P k → eqb b k ≡ true → P b
at P b k h e = subst P (sym (eqb-true b k e)) h

-- white space

abbrev SpaceIf : ℕ → Bool → Type 0
SpaceIf b true = Space b
SpaceIf b false = Unit {0}

space : (b : ℕ) → SpaceIf b (is_space b)
space b =
    picked (SpaceIf b) (eqb b 0x20) _ _ (at Space b 0x20 Space.blank)
    (λ _. picked (SpaceIf b) (eqb b 0x09) _ _ (at Space b 0x09 Space.tab)
    (λ _. picked (SpaceIf b) (eqb b 0x0a) _ _ (at Space b 0x0a Space.line) (λ _. last (eqb b 0x0d) (at Space b 0x0d Space.return))))
  where
    last : (q : Bool) → (q ≡ true → Space b) → SpaceIf b q
    last true f = f refl
    last false f = tt

pub ws : (t : List ℕ) → Ws t (skip_ws t)
unfolding skip_ws
ws [] = Ws.none
ws (b ∷ t) = go (is_space b) (space b) (ws t)
  where
    go : (q : Bool) → SpaceIf b q → Ws t (skip_ws t) → Ws (b ∷ t) (pick q (skip_ws t) (b ∷ t))
    go true s w = Ws.more s w
    go false s w = Ws.none

ws_trans : {t u v : List ℕ} → Ws t u → Ws u v → Ws t v
ws_trans Ws.none w = w
ws_trans (Ws.more s v) w = Ws.more s (ws_trans v w)

-- scalars

abbrev pub ValueIf : ℕ → List ℕ → Parsed Json → Type 0
ValueIf l t (ok j r) = Value l t r j
ValueIf l t none = Unit {0}

-- a word is read: the text is the word and what follows
abbrev WordIf : Json → List ℕ → List ℕ → Parsed Json → Type 0
WordIf j w t (ok k r) = (k ≡ j) × (t ≡ w ++ r)
WordIf j w t none = Unit {0}

word : (j : Json) (w t : List ℕ) → WordIf j w t (literal j w t)
unfolding literal
word j [] t = (refl, refl)
word j (x ∷ w) [] = tt
word j (x ∷ w) (b ∷ t) = go (eqb b x) (eqb-true b x) (word j w t)
  where
    more : b ≡ x → (p : Parsed Json) → WordIf j w t p → WordIf j (x ∷ w) (b ∷ t) p
    more e none h = tt
    more e (ok k r) h = (h.0, cc)

    go : (q : Bool) → (q ≡ true → b ≡ x) → WordIf j w t (literal j w t) → WordIf j (x ∷ w) (b ∷ t) (pick q (literal j w t) none)
    go true e h = more (e refl) (literal j w t) h
    go false e h = tt

-- a word whose first byte is b
word_sound : (l b : ℕ) (j : Json) (w : List ℕ) → ((r : List ℕ) → Value l (b ∷ w ++ r) r j) → (t : List ℕ) → ValueIf l (b ∷ t) (literal j w t)
word_sound l b j w h t = go (literal j w t) (word j w t)
  where
    go : (p : Parsed Json) → WordIf j w t p → ValueIf l (b ∷ t) p
    go none e = tt
    go (ok k r) e = rw (e.0, e.1) (h r)

string_sound : (l : ℕ) (t : List ℕ) (p : Parsed (List ℕ)) → decoded t ≡ p → ValueIf l (0x22 ∷ t) (str_of p)
string_sound l t none h = tt
string_sound l t (ok d r) h = Value.vstr (Strings.sound t r d h)

number_sound : (l : ℕ) (t : List ℕ) (p : Parsed (List ℕ)) → Numbers.NumberIf t p → ValueIf l t (num_of p)
number_sound l t none h = tt
number_sound l t (ok d r) h = Value.vnum h.0 h.1 h.2

scalar_sound : (l : ℕ) (t : List ℕ) → ValueIf l t (read_scalar t)
unfolding read_scalar
scalar_sound l [] = tt
scalar_sound l (b ∷ t) =
    picked (ValueIf l (b ∷ t)) (eqb b 0x22) _ _ (at (λ n. ValueIf l (n ∷ t) (str_of (decoded t))) b 0x22 (string_sound l t (decoded t) refl))
    (λ _. picked (ValueIf l (b ∷ t)) (eqb b 0x74) _ _ (at (λ n. ValueIf l (n ∷ t) (literal (bool true) (text "rue") t)) b 0x74 (word_sound l 0x74 (bool true) (text "rue") (λ r. Value.vtrue) t))
    (λ _. picked (ValueIf l (b ∷ t)) (eqb b 0x66) _ _ (at (λ n. ValueIf l (n ∷ t) (literal (bool false) (text "alse") t)) b 0x66 (word_sound l 0x66 (bool false) (text "alse") (λ r. Value.vfalse) t))
    (λ _. picked (ValueIf l (b ∷ t)) (eqb b 0x6e) _ _ (at (λ n. ValueIf l (n ∷ t) (literal null (text "ull") t)) b 0x6e (word_sound l 0x6e null (text "ull") (λ r. Value.vnull) t))
    (λ _. number_sound l (b ∷ t) (read_number (b ∷ t)) (Numbers.number (b ∷ t))))))

-- names

abbrev pub NameIf : List ℕ → Parsed (List ℕ) → Type 0
NameIf t (ok d r) = Name t r d
NameIf t none = Unit {0}

colon_sound : (t u v w d : List ℕ) → Ws t (0x22 ∷ u) → Chars u v d → Ws v w → NameIf t (colon_at d w)
colon_sound t u v [] d a c b = tt
colon_sound t u v (x ∷ w) d a c b =
    picked (NameIf t) (eqb x 0x3a) _ _ (λ e. Name.name a c (subst (λ (y : ℕ). Ws v (y ∷ w)) (eqb-true x 0x3a e) b) (ws w)) (λ _. tt)

pub name_sound : (t u : List ℕ) → Ws t u → NameIf t (read_name u)
unfolding read_name
name_sound t [] w = tt
name_sound t (b ∷ u) w = picked (NameIf t) (eqb b 0x22) _ _ (λ e. go (subst (λ (x : ℕ). Ws t (x ∷ u)) (eqb-true b 0x22 e) w) (decoded u) refl) (λ _. tt)
  where
    go : Ws t (0x22 ∷ u) → (p : Parsed (List ℕ)) → decoded u ≡ p → NameIf t (colon p)
    go a none e = tt
    go a (ok d v) e = colon_sound t u v (skip_ws v) d a (Strings.sound u v d e) (ws v)

-- entries, where values of l levels are sound. S is what stands before a value, P what the entries are

abbrev pub sign : ℕ → Bool → ℕ
sign close true = close
sign close false = 0x2c

abbrev pub MarkIf : ℕ → List ℕ → Parsed Bool → Type 0
MarkIf close t (ok b r) = Ws t (sign close b ∷ r)
MarkIf close t none = Unit {0}

pub mark_sound : (close : ℕ) (t : List ℕ) → MarkIf close t (read_mark close t)
unfolding read_mark
mark_sound close t = go (skip_ws t) (ws t)
  where
    go : (u : List ℕ) → Ws t u → MarkIf close t (mark_at close u)
    go [] w = tt
    go (b ∷ u) w =
        picked (MarkIf close t) (eqb b close) _ _ (λ e. subst (λ (x : ℕ). Ws t (x ∷ u)) (eqb-true b close e) w)
        (λ _. picked (MarkIf close t) (eqb b 0x2c) _ _ (λ e. subst (λ (x : ℕ). Ws t (x ∷ u)) (eqb-true b 0x2c e) w) (λ _. tt))

module _ (l close : ℕ) (value : List ℕ → Parsed Json) (vs : (u : List ℕ) → ValueIf l u (value u)) (S : List ℕ → List ℕ → List ℕ → Type 0) where
  abbrev StartIf : List ℕ → Parsed (List ℕ) → Type 0
  StartIf t (ok d r) = S t r d
  StartIf t none = Unit {0}

  abbrev EntryIf : List ℕ → Parsed Entry → Type 0
  EntryIf t (ok e r) = (u : List ℕ) × (v : List ℕ) × S t u e.item.called × Value l u v e.item.value × Ws v (sign close e.last ∷ r)
  EntryIf t none = Unit {0}

  entry_sound : (t : List ℕ) → StartIf t (read_start close t) → EntryIf t (read_entry close value t)
  unfolding read_entry
  entry_sound t h = started (read_start close t) h
    where
      ends : (u v d : List ℕ) (j : Json) → S t u d → Value l u v j → (p : Parsed Bool) → MarkIf close v p → EntryIf t (marked (named d j) p)
      ends u v d j a x none m = tt
      ends u v d j a x (ok b r) m = (u, v, a, x, m)

      valued : (u d : List ℕ) → S t u d → (p : Parsed Json) → ValueIf l u p → EntryIf t (after_value close d p)
      valued u d a none x = tt
      valued u d a (ok j v) x = ends u v d j a x (read_mark close v) (mark_sound close v)

      started : (p : Parsed (List ℕ)) → StartIf t p → EntryIf t (after_start close value p)
      started none a = tt
      started (ok d u) a = valued u d a (value u) (vs u)

  module _ (starts : (t : List ℕ) → StartIf t (read_start close t)) (P : List ℕ → List ℕ → List Named → Type 0)
      (last : (t u v r : List ℕ) (x : Named) → S t u x.called → Value l u v x.value → Ws v (close ∷ r) → P t r (x ∷ []))
      (next : (t u v w r : List ℕ) (x : Named) (xs : List Named) → S t u x.called → Value l u v x.value → Ws v (0x2c ∷ w) → P w r xs → P t r (x ∷ xs)) where
    abbrev ItemsIf : List ℕ → Parsed (List Named) → Type 0
    ItemsIf t (ok xs r) = P t r xs
    ItemsIf t none = Unit {0}

    items_sound : (n : ℕ) (t : List ℕ) → ItemsIf t (read_items close value n t)
    unfolding read_items
    items_sound zero t = tt
    items_sound (suc n) t = go (λ u. items_sound n u) (read_entry close value t) (entry_sound t (starts t))
      where
        more : (w : List ℕ) (x : Named) → (u v : List ℕ) → S t u x.called → Value l u v x.value → Ws v (0x2c ∷ w) → (p : Parsed (List Named)) → ItemsIf w p → ItemsIf t (cons_of x p)
        more w x u v a y m none h = tt
        more w x u v a y m (ok xs r) h = next t u v w r x xs a y m h

        lasting : ((u : List ℕ) → ItemsIf u (read_items close value n u)) → (x : Named) (b : Bool) (r : List ℕ) → ((u : List ℕ) × (v : List ℕ) × S t u x.called × Value l u v x.value × Ws v (sign close b ∷ r)) → ItemsIf t (if_last b x r (read_items close value n r))
        lasting ih x true r h = last t h.0 h.1 r x h.2 h.3 h.4
        lasting ih x false r h = more r x h.0 h.1 h.2 h.3 h.4 (read_items close value n r) (ih r)

        go : ((u : List ℕ) → ItemsIf u (read_items close value n u)) → (p : Parsed Entry) → EntryIf t p → ItemsIf t (after_entry (λ u. read_items close value n u) p)
        go ih none h = tt
        go ih (ok e r) h = lasting ih e.item e.last r h

-- arrays and objects, where values of l levels are sound

module _ (l : ℕ) (value : List ℕ → Parsed Json) (vs : (u : List ℕ) → ValueIf l u (value u)) where
  element_starts : (t : List ℕ) → StartIf l 0x5d value vs (λ t r d. Ws t r) t (read_start 0x5d t)
  unfolding read_start
  element_starts t = go (skip_ws t) (ws t)
    where
      go : (u : List ℕ) → Ws t u → StartIf l 0x5d value vs (λ t r d. Ws t r) t (unnamed u)
      go [] w = tt
      go (b ∷ u) w = w

  pair_starts : (t : List ℕ) → StartIf l 0x7d value vs (λ t r d. Name t r d) t (read_start 0x7d t)
  unfolding read_start
  pair_starts t = go (read_name (skip_ws t)) (name_sound t (skip_ws t) (ws t))
    where
      go : (p : Parsed (List ℕ)) → NameIf t p → StartIf l 0x7d value vs (λ t r d. Name t r d) t p
      go none h = tt
      go (ok d r) h = h

  abbrev ElementsIf : List ℕ → Parsed (List Named) → Type 0
  ElementsIf t (ok xs r) = Elements l t r (jsons xs)
  ElementsIf t none = Unit {0}

  elements_sound : (n : ℕ) (t : List ℕ) → ElementsIf t (read_items 0x5d value n t)
  elements_sound n t = go (read_items 0x5d value n t) (items_sound l 0x5d value vs (λ t r d. Ws t r) element_starts (λ t r xs. Elements l t r (jsons xs)) (λ t u v r x a y m. Elements.elast a y m) (λ t u v w r x xs a y m h. Elements.enext a y m h) n t)
    where
      go : (p : Parsed (List Named)) → ItemsIf l 0x5d value vs (λ t r d. Ws t r) element_starts (λ t r xs. Elements l t r (jsons xs)) (λ t u v r x a y m. Elements.elast a y m) (λ t u v w r x xs a y m h. Elements.enext a y m h) t p → ElementsIf t p
      go none h = tt
      go (ok xs r) h = h

  abbrev PairsIf : List ℕ → Parsed (List Named) → Type 0
  PairsIf t (ok xs r) = Pairs l t r (members xs)
  PairsIf t none = Unit {0}

  pairs_sound : (n : ℕ) (t : List ℕ) → PairsIf t (read_items 0x7d value n t)
  pairs_sound n t = go (read_items 0x7d value n t) (items_sound l 0x7d value vs (λ t r d. Name t r d) pair_starts (λ t r xs. Pairs l t r (members xs)) (λ t u v r x a y m. Pairs.plast a y m) (λ t u v w r x xs a y m h. Pairs.pnext a y m h) n t)
    where
      go : (p : Parsed (List Named)) → ItemsIf l 0x7d value vs (λ t r d. Name t r d) pair_starts (λ t r xs. Pairs l t r (members xs)) (λ t u v r x a y m. Pairs.plast a y m) (λ t u v w r x xs a y m h. Pairs.pnext a y m h) t p → PairsIf t p
      go none h = tt
      go (ok xs r) h = h

  elements_ws : {t u r : List ℕ} {js : Jsons} → Ws t u → Elements l u r js → Elements l t r js
  elements_ws w (Elements.elast a v b) = Elements.elast (ws_trans w a) v b
  elements_ws w (Elements.enext a v b m) = Elements.enext (ws_trans w a) v b m

  name_ws : {t u r d : List ℕ} → Ws t u → Name u r d → Name t r d
  name_ws w (Name.name a c b e) = Name.name (ws_trans w a) c b e

  pairs_ws : {t u r : List ℕ} {ms : Members} → Ws t u → Pairs l u r ms → Pairs l t r ms
  pairs_ws w (Pairs.plast a v b) = Pairs.plast (name_ws w a) v b
  pairs_ws w (Pairs.pnext a v b m) = Pairs.pnext (name_ws w a) v b m

  array_sound : (t : List ℕ) → ValueIf (suc l) (0x5b ∷ t) (read_inside 0x5d value t)
  unfolding read_inside
  array_sound t = go (skip_ws t) (ws t)
    where
      items : (u : List ℕ) → Ws t u → (p : Parsed (List Named)) → ElementsIf u p → ValueIf (suc l) (0x5b ∷ t) (whole_of 0x5d p)
      items u w none h = tt
      items u w (ok xs r) h = Value.varr (elements_ws w h)

      go : (u : List ℕ) → Ws t u → ValueIf (suc l) (0x5b ∷ t) (opened 0x5d value (length t) u)
      go [] w = tt
      go (b ∷ u) w =
          picked (ValueIf (suc l) (0x5b ∷ t)) (eqb b 0x5d) _ _ (λ e. Value.varr₀ (subst (λ (x : ℕ). Ws t (x ∷ u)) (eqb-true b 0x5d e) w))
          (λ _. items (b ∷ u) w (read_items 0x5d value (length t) (b ∷ u)) (elements_sound (length t) (b ∷ u)))

  object_sound : (t : List ℕ) → ValueIf (suc l) (0x7b ∷ t) (read_inside 0x7d value t)
  unfolding read_inside
  object_sound t = go (skip_ws t) (ws t)
    where
      items : (u : List ℕ) → Ws t u → (p : Parsed (List Named)) → PairsIf u p → ValueIf (suc l) (0x7b ∷ t) (whole_of 0x7d p)
      items u w none h = tt
      items u w (ok xs r) h = Value.vobj (pairs_ws w h)

      go : (u : List ℕ) → Ws t u → ValueIf (suc l) (0x7b ∷ t) (opened 0x7d value (length t) u)
      go [] w = tt
      go (b ∷ u) w =
          picked (ValueIf (suc l) (0x7b ∷ t)) (eqb b 0x7d) _ _ (λ e. Value.vobj₀ (subst (λ (x : ℕ). Ws t (x ∷ u)) (eqb-true b 0x7d e) w))
          (λ _. items (b ∷ u) w (read_items 0x7d value (length t) (b ∷ u)) (pairs_sound (length t) (b ∷ u)))

value_by_lem : (l : ℕ) (inside : ℕ → List ℕ → Parsed Json) → ((u : List ℕ) → ValueIf l (0x5b ∷ u) (inside 0x5d u)) → ((u : List ℕ) → ValueIf l (0x7b ∷ u) (inside 0x7d u)) → (t : List ℕ) → ValueIf l t (value_by inside t)
value_by_lem l inside f g [] = tt
value_by_lem l inside f g (b ∷ t) =
    picked (ValueIf l (b ∷ t)) (eqb b 0x5b) _ _ (at (λ n. ValueIf l (n ∷ t) (inside 0x5d t)) b 0x5b (f t))
    (λ _. picked (ValueIf l (b ∷ t)) (eqb b 0x7b) _ _ (at (λ n. ValueIf l (n ∷ t) (inside 0x7d t)) b 0x7b (g t)) (λ _. scalar_sound l (b ∷ t)))

-- what the reader reads is in the grammar
pub value : (l : ℕ) (t : List ℕ) → ValueIf l t (read_value l t)
unfolding read_value
value zero t = value_by_lem zero (λ close u. none) (λ u. tt) (λ u. tt) t
value (suc l) t =
    value_by_lem (suc l) (λ close u. read_inside close (λ v. read_value l v) u) (λ u. array_sound l (λ v. read_value l v) (value l) u)
    (λ u. object_sound l (λ v. read_value l v) (value l) u) t
