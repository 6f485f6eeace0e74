-- Marks of names, and when they show that no name is twice in an object: where no mark comes twice. Names that are the same have the
-- same mark, so that a value is sure only where no name is twice in it; other names can have the same mark too, and then more is to be read.
-- All this holds with every key, and which other names have the same mark depends on it.
-- The marks of the objects that are open stand one behind the other, and where there is no room for one more the value is not sure.
-- Assumes nothing.
use Rattle.std.specs.Prelude.{ℕ, ◌+◌, ◌-◌, ◌*◌, ◌%◌, Bool, true, false, List, [], ◌∷◌, ◌++◌, ltb, eqb, length, take}
use Rattle.basis.specs.Pick.{pick}
use Rattle.json_text.specs.Decoded.{Parsed, decoded}
use Rattle.json_text.specs.Decoded.Parsed.{ok, none}
use Rattle.json_value.specs.Grammar.{Json, Jsons, Members}
use Rattle.json_value.specs.Grammar.Json.{null, bool, num, str, arr, obj}
use Rattle.json_value.specs.Grammar.Jsons.{jnil, jcons}
use Rattle.json_value.specs.Grammar.Members.{mnil, mcons}
use Rattle.json_value.specs.Reader.{skip_ws, Entry}
use Rattle.json_sure.specs.declared.Seen.{Seen}

abbrev pub next : ℕ → ℕ → ℕ → ℕ
next key h c = (h * key + c) % 4294967291

unfoldable pub mark_from : ℕ → ℕ → List ℕ → ℕ
mark_from key h [] = h
mark_from key h (c ∷ d) = mark_from key (next key h c) d

-- the mark of a name: a number of 32 bits
abbrev pub mark : ℕ → List ℕ → ℕ
mark key d = mark_from key 1 d

abbrev pub mark_read : ℕ → ℕ → Parsed (List ℕ) → ℕ
mark_read key h (ok d r) = mark_from key h d
mark_read key h none = 4294967296

-- of the name of the entry that a text begins with; one that no name has where there is none
abbrev pub name_mark : ℕ → List ℕ → ℕ
name_mark key [] = 4294967296
name_mark key (b ∷ t) = mark_read key 1 (decoded t)

unfoldable pub mark_at : ℕ → Bool → List ℕ → ℕ
mark_at key named t = pick named (name_mark key (skip_ws t)) 4294967296

-- the marks of an object's names so far, and whether all is sure so far
pub record Noted : Type 0 where
  pub marks : List ℕ
  pub sure : Bool

unfoldable pub none_noted : Noted
none_noted = record { marks = []; sure = true }

-- those that stand at the start of the lent marks
unfoldable pub noted_in : List ℕ → Seen → Noted
noted_in xs t = record { marks = take t.count xs; sure = t.sure }

-- none of the marks is m
unfoldable pub is_new : ℕ → List ℕ → Bool
is_new m [] = true
is_new m (k ∷ ks) = pick (eqb k m) false (is_new m ks)

abbrev pub all_of : Bool → Bool → Bool → Bool
all_of before value new = pick new (pick before value false) false

-- one more name, with room for so many marks, and whether its value is sure
unfoldable pub note_of : ℕ → Noted → ℕ → Bool → Noted
note_of room t m value =
    pick (ltb m 4294967296)
    (pick (ltb (length t.marks) room)
    (record { marks = t.marks ++ (m ∷ []); sure = all_of t.sure value (is_new m t.marks) })
    (record { marks = t.marks; sure = false }))
    (record { marks = t.marks; sure = all_of t.sure value true })

-- what is left for the marks of a value behind those
abbrev pub left : ℕ → Noted → ℕ
left room t = room - length t.marks

unfoldable mutual
  pub sure_in : ℕ → ℕ → Json → Bool
  sure_in key room null = true
  sure_in key room (bool b) = true
  sure_in key room (num d) = true
  sure_in key room (str d) = true
  sure_in key room (arr js) = sure_all key room none_noted js
  sure_in key room (obj ms) = sure_once key room none_noted ms

  pub sure_all : ℕ → ℕ → Noted → Jsons → Bool
  sure_all key room t jnil = t.sure
  sure_all key room t (jcons j js) = sure_all key room (note_of room t 4294967296 (sure_in key (left room t) j)) js

  pub sure_once : ℕ → ℕ → Noted → Members → Bool
  sure_once key room t mnil = t.sure
  sure_once key room t (mcons d j ms) = sure_once key room (note_of room t (mark key d) (sure_in key (left room t) j)) ms

-- with room for 820 marks
abbrev pub sure : ℕ → Json → Bool
sure key j = sure_in key 820 j

abbrev pub sure_entry : ℕ → ℕ → Entry → Bool
sure_entry key room e = sure_in key room e.item.value
