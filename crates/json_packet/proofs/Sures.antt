-- Where the marks of a value's names are sure, no name is twice in an object of it.
-- Assumes nothing.
use Rattle.basis.proofs.Std.{ℕ, ◌<◌, ◌≡◌, refl, sym, ap, ◌∙◌, Bool, true, false, List, [], ◌∷◌, ◌++◌, arith, eqb, ltb, length, lt-ltb, eq-eqb, same_bytes, pick, bool_cases, same_true, untrue}
use Rattle.json_value.specs.Grammar.{Json, Jsons, Members}
use Rattle.json_value.specs.Grammar.Json.{null, bool, num, str, arr, obj}
use Rattle.json_value.specs.Grammar.Jsons.{jnil, jcons}
use Rattle.json_value.specs.Grammar.Members.{mnil, mcons}
use Rattle.json_sure.specs.Sure.{next, mark, mark_from, Noted, none_noted, is_new, all_of, note_of, left, sure_in, sure_all, sure_once}
use Rattle.json_sure.proofs.Marks.{next_low}
use Rattle.json_packet.specs.Names.{called, no_twice, all_once, once}

low : (key h : ℕ) (d : List ℕ) → h < 4294967296 → mark_from key h d < 4294967296
unfolding mark_from
low key h [] l = l
low key h (c ∷ d) l = low key (next key h c) d (next_low key h c)

-- what is sure after a name was before, the value is, and the mark is new and stands behind the others
record New (room : ℕ) (t : Noted) (m : ℕ) (value : Bool) : Type 0 where
  before : t.sure ≡ true
  inside : value ≡ true
  fresh : is_new m t.marks ≡ true
  stands : (note_of room t m value).marks ≡ t.marks ++ (m ∷ [])

all_true : (a v n : Bool) → all_of a v n ≡ true → (a ≡ true) × (v ≡ true) × (n ≡ true)
all_true a v false h = untrue h
all_true true v true h = (refl, h, refl)
all_true false v true h = untrue h

new : (room : ℕ) (t : Noted) (m : ℕ) (v : Bool) → m < 4294967296 → (note_of room t m v).sure ≡ true → New room t m v
unfolding note_of
new room t m v l h = bool_cases (ltb (length t.marks) room) (λ e. fits e) (λ e. untrue (rw (lt-ltb _ _ l, e) at h))
  where
    fits : ltb (length t.marks) room ≡ true → New room t m v
    fits e =
        let a = all_true t.sure v (is_new m t.marks) (rw (lt-ltb _ _ l, e) at h) in
        record { before = a.0; inside = a.1; fresh = a.2; stands = rw (lt-ltb _ _ l, e) }

-- an array's entry has no mark
value_sure : (room : ℕ) (t : Noted) (v : Bool) → (note_of room t 4294967296 v).sure ≡ true → (t.sure ≡ true) × (v ≡ true)
unfolding note_of
value_sure room t v h = let a = all_true t.sure v true h in (a.0, a.1)

-- a mark that was seen stays seen, and so does the last
kept : (m k : ℕ) (ms : List ℕ) → is_new m ms ≡ false → is_new m (ms ++ (k ∷ [])) ≡ false
unfolding is_new
kept m k [] h = untrue (sym h)
kept m k (n ∷ ms) h = go (eqb n m) (λ g. kept m k ms g) h
  where
    go : (e : Bool) → (is_new m ms ≡ false → is_new m (ms ++ (k ∷ [])) ≡ false) → pick e false (is_new m ms) ≡ false → pick e false (is_new m (ms ++ (k ∷ []))) ≡ false
    go true f h = refl
    go false f h = f h

last : (m : ℕ) (ms : List ℕ) → is_new m (ms ++ (m ∷ [])) ≡ false
unfolding is_new
last m [] = rw (eq-eqb m m refl)
last m (n ∷ ms) = go (eqb n m) (last m ms)
  where
    go : (e : Bool) → is_new m (ms ++ (m ∷ [])) ≡ false → pick e false (is_new m (ms ++ (m ∷ []))) ≡ false
    go true h = refl
    go false h = h

abbrev noted : ℕ → ℕ → Noted → List ℕ → Json → Noted
noted key room t d j = note_of room t (mark key d) (sure_in key (left room t) j)

abbrev passed : ℕ → ℕ → Noted → Json → Noted
passed key room t j = note_of room t 4294967296 (sure_in key (left room t) j)

sticky : (key room : ℕ) (t : Noted) (ms : Members) → sure_once key room t ms ≡ true → t.sure ≡ true
unfolding sure_once
sticky key room t mnil h = h
sticky key room t (mcons d j ms) h = (new room t (mark key d) (sure_in key (left room t) j) (low key 1 d (omega arith)) (sticky key room (noted key room t d j) ms h)).before

sticky_all : (key room : ℕ) (t : Noted) (js : Jsons) → sure_all key room t js ≡ true → t.sure ≡ true
unfolding sure_all
sticky_all key room t jnil h = h
sticky_all key room t (jcons j js) h = (value_sure room t (sure_in key (left room t) j) (sticky_all key room (passed key room t j) js h)).0

-- what is known of a member where all are sure
member_new : (key room : ℕ) (t : Noted) (d : List ℕ) (j : Json) (ms : Members) → sure_once key room (noted key room t d j) ms ≡ true → New room t (mark key d) (sure_in key (left room t) j)
member_new key room t d j ms h = new room t (mark key d) (sure_in key (left room t) j) (low key 1 d (omega arith)) (sticky key room (noted key room t d j) ms h)

-- no later member has a name whose mark was seen
uncalled : (key room : ℕ) (d : List ℕ) (t : Noted) (ms : Members) → is_new (mark key d) t.marks ≡ false → sure_once key room t ms ≡ true → called d ms ≡ false
unfolding sure_once
uncalled key room d t mnil k h = refl
uncalled key room d t (mcons e j ms) k h =
    let n = member_new key room t e j ms h in
    let g = uncalled key room d (noted key room t e j) ms (ap (is_new (mark key d)) n.stands ∙ kept (mark key d) (mark key e) t.marks k) h in
    bool_cases (same_bytes e d) (λ q. untrue (sym k ∙ ap (λ (x : List ℕ). is_new (mark key x) t.marks) (sym (same_true e d q)) ∙ n.fresh)) (λ q. rw (q, g))

mutual
  unfolding no_twice all_once once sure_in sure_all sure_once

  pub sure_once_lem : (key room : ℕ) (j : Json) → sure_in key room j ≡ true → no_twice j ≡ true
  sure_once_lem key room null h = refl
  sure_once_lem key room (bool b) h = refl
  sure_once_lem key room (num d) h = refl
  sure_once_lem key room (str d) h = refl
  sure_once_lem key room (arr js) h = all_sure key room none_noted js h
  sure_once_lem key room (obj ms) h = members_sure key room none_noted ms h

  all_sure : (key room : ℕ) (t : Noted) (js : Jsons) → sure_all key room t js ≡ true → all_once js ≡ true
  all_sure key room t jnil h = refl
  all_sure key room t (jcons j js) h =
      let v = value_sure room t (sure_in key (left room t) j) (sticky_all key room (passed key room t j) js h) in
      rw (sure_once_lem key (left room t) j v.1, all_sure key room (passed key room t j) js h)

  members_sure : (key room : ℕ) (t : Noted) (ms : Members) → sure_once key room t ms ≡ true → once ms ≡ true
  members_sure key room t mnil h = refl
  members_sure key room t (mcons d j ms) h =
      let n = member_new key room t d j ms h in
      let k : is_new (mark key d) (noted key room t d j).marks ≡ false = ap (is_new (mark key d)) n.stands ∙ last (mark key d) t.marks in
      rw (uncalled key room d (noted key room t d j) ms k h, sure_once_lem key (left room t) j n.inside, members_sure key room (noted key room t d j) ms h)
