-- Room for as many marks as a value has names is room enough, and a name takes five bytes of a text.
-- Assumes nothing.
use Rattle.basis.proofs.Std.{ℕ, suc, ◌+◌, ◌*◌, ◌<◌, ◌≤◌, ◌≡◌, refl, ap, subst, ◌∙◌, Bool, List, [], ◌∷◌, arith, ltb, length, drop, length-drop, length-append, lt-ltb, picked}
use Rattle.json_text.specs.Decoded.Parsed.{ok}
use Rattle.json_value.specs.Grammar.{Json, Jsons, Members, Ws, Name, Value, Elements, Pairs}
use Rattle.json_value.specs.Grammar.Json.{null, bool, num, str, arr, obj}
use Rattle.json_value.specs.Grammar.Jsons.{jnil, jcons}
use Rattle.json_value.specs.Grammar.Members.{mnil, mcons}
use Rattle.json_value.specs.Reader.{read_value, inside_of}
use Rattle.json_value.proofs.Sound as Sound
use Rattle.json_value.proofs.Shorter as Shorter
use Rattle.json_sure.specs.declared.Judged.{Judged}
use Rattle.json_sure.specs.Sure.{mark, Noted, none_noted, note_of, left, sure_in, sure_all, sure_once}
use Rattle.json_sure.specs.Judges.{Says, Judges, JudgesIn}

unfoldable mutual
  names : Json → ℕ
  names null = 0
  names (bool b) = 0
  names (num d) = 0
  names (str d) = 0
  names (arr js) = names_all js
  names (obj ms) = names_once ms

  names_all : Jsons → ℕ
  names_all jnil = 0
  names_all (jcons j js) = names j + names_all js

  names_once : Members → ℕ
  names_once mnil = 0
  names_once (mcons d j ms) = suc (names j + names_once ms)

module _ (room : ℕ) (t : Noted) (v : Bool) where
  one_more : (m : ℕ) → length (note_of room t m v).marks ≤ length t.marks + 1
  unfolding note_of
  one_more m = picked P (ltb m 4294967296) _ _ (λ _. picked P (ltb (length t.marks) room) _ _ (λ _. omega (arith, length-append t.marks (m ∷ []))) (λ _. omega arith)) (λ _. omega arith)
    where
      P : Noted → Type 0
      P n = length n.marks ≤ length t.marks + 1

  none_more : length (note_of room t 4294967296 v).marks ≡ length t.marks
  unfolding note_of
  none_more = refl

module _ (a b : ℕ) (t : Noted) (v : Bool) where
  noted : (m : ℕ) → length t.marks < a → length t.marks < b → note_of a t m v ≡ note_of b t m v
  unfolding note_of
  noted m h g = rw (lt-ltb _ _ h, lt-ltb _ _ g)

  passed : note_of a t 4294967296 v ≡ note_of b t 4294967296 v
  unfolding note_of
  passed = refl

mutual
  unfolding names names_all names_once sure_in sure_all sure_once none_noted

  enough : (key a b : ℕ) (j : Json) → names j ≤ a → names j ≤ b → sure_in key a j ≡ sure_in key b j
  enough key a b null h g = refl
  enough key a b (bool x) h g = refl
  enough key a b (num d) h g = refl
  enough key a b (str d) h g = refl
  enough key a b (arr js) h g = enough_all key a b none_noted js (omega arith) (omega arith)
  enough key a b (obj ms) h g = enough_once key a b none_noted ms (omega arith) (omega arith)

  enough_all : (key a b : ℕ) (t : Noted) (js : Jsons) → length t.marks + names_all js ≤ a → length t.marks + names_all js ≤ b → sure_all key a t js ≡ sure_all key b t js
  enough_all key a b t jnil h g = refl
  enough_all key a b t (jcons j js) h g =
      let v = sure_in key (left a t) j in
      let l = none_more a t v in
      enough_all key a b (note_of a t 4294967296 v) js (omega arith) (omega arith)
      ∙ ap (λ (n : Noted). sure_all key b n js) (passed a b t v ∙ ap (note_of b t 4294967296) (enough key (left a t) (left b t) j (omega arith) (omega arith)))

  enough_once : (key a b : ℕ) (t : Noted) (ms : Members) → length t.marks + names_once ms ≤ a → length t.marks + names_once ms ≤ b → sure_once key a t ms ≡ sure_once key b t ms
  enough_once key a b t mnil h g = refl
  enough_once key a b t (mcons d j ms) h g =
      let v = sure_in key (left a t) j in
      let l = one_more a t v (mark key d) in
      enough_once key a b (note_of a t (mark key d) v) ms (omega arith) (omega arith)
      ∙ ap (λ (n : Noted). sure_once key b n ms) (noted a b t v (mark key d) (omega arith) (omega arith) ∙ ap (note_of b t (mark key d)) (enough key (left a t) (left b t) j (omega arith) (omega arith)))

ws : {t r : List ℕ} → Ws t r → length r ≤ length t
ws Ws.none = omega arith
ws (Ws.more b w) = omega (arith, ws w)

called : {t r d : List ℕ} → Name t r d → length r + 3 ≤ length t
called (Name.name a c b e) = omega (arith, ws a, Shorter.chars c, ws b, ws e)

mutual
  unfolding names names_all names_once

  value : {l : ℕ} {t r : List ℕ} {j : Json} → Value l t r j → 5 * names j + length r < length t
  value Value.vnull = omega arith
  value Value.vtrue = omega arith
  value Value.vfalse = omega arith
  value (Value.vnum x y z) = omega (arith, Shorter.number x)
  value (Value.vstr c) = omega (arith, Shorter.chars c)
  value (Value.varr₀ w) = omega (arith, ws w)
  value (Value.varr i) = omega (arith, elements i)
  value (Value.vobj₀ w) = omega (arith, ws w)
  value (Value.vobj i) = omega (arith, pairs i)

  elements : {l : ℕ} {t r : List ℕ} {js : Jsons} → Elements l t r js → 5 * names_all js + length r < length t
  elements (Elements.elast a x b) = omega (arith, ws a, value x, ws b)
  elements (Elements.enext a x b m) = omega (arith, ws a, value x, ws b, elements m)

  pairs : {l : ℕ} {t r : List ℕ} {ms : Members} → Pairs l t r ms → 5 * names_once ms + length r ≤ length t
  pairs (Pairs.plast n x b) = omega (arith, called n, value x, ws b)
  pairs (Pairs.pnext n x b m) = omega (arith, called n, value x, ws b, pairs m)

opened : (l : ℕ) (t : List ℕ) → read_value (suc l) (0x7b ∷ t) ≡ inside_of 0x7d (suc l) t
unfolding read_value inside_of
opened l t = refl

pub judged_short : (key : ℕ) (s : List ℕ) (l i : ℕ) (r : Judged) → length s ≤ 640 → JudgesIn key 128 s i (inside_of 0x7d (suc l) (drop i s)) r → Judges key s i (inside_of 0x7d (suc l) (drop i s)) r
judged_short key s l i r h x = record { place = x.place; says = λ j u e. subst (Says r) (same j u e) (x.says j u e) }
  where
    same : (j : Json) (u : List ℕ) → inside_of 0x7d (suc l) (drop i s) ≡ ok j u → sure_in key 128 j ≡ sure_in key 820 j
    same j u e =
        let w = value (subst (Sound.ValueIf (suc l) (0x7b ∷ drop i s)) (opened l (drop i s) ∙ e) (Sound.value (suc l) (0x7b ∷ drop i s))) in
        enough key 128 820 j (omega (arith, length-drop i s)) (omega (arith, length-drop i s))
