-- The lists among the elements of a message. An item is seen by whether it is an object, and by its strings and booleans.
-- Assumes nothing.
use Rattle.std.specs.Prelude.{Bool, true, false, List, [], ◌∷◌, ℕ, eqb, drop}
use Rattle.basis.specs.Pick.{pick}
use Rattle.json_text.specs.declared.Read.{Read}
use Rattle.json_text.specs.declared.Read.TheVariants.{End, Bad}
use Rattle.json_text.specs.Decoded.{Parsed}
use Rattle.json_text.specs.Decoded.Parsed.{ok, none}
use Rattle.json_value.specs.Grammar.{Json, Jsons}
use Rattle.json_value.specs.Grammar.Json.{null, bool, num, str, arr, obj}
use Rattle.json_value.specs.Grammar.Jsons.{jnil, jcons}
use Rattle.json_value.specs.Reader.{skip_ws}
use Rattle.json_find.specs.Lookup.{Found, member}
use Rattle.json_find.specs.Lookup.Found.{found, missing}
use Rattle.json_find.specs.Entries.{member_at, entries_at}
use Rattle.json_packet.specs.Packet.{is_object}
use Rattle.read_head.specs.Word.{Word, word_in, word_at}
use Rattle.read_lists.specs.declared.Flag.{Flag}
use Rattle.read_lists.specs.declared.Flag.TheVariants.{Absent, Other, Is}

pub record Item : Type 0 where
  pub object : Bool
  pub words : List ℕ → Word
  pub flags : List ℕ → Flag

-- what an element is: not there; there, and no list; a list of these items
pub data Items : Type 0 where
  absent : Items
  other : Items
  items : List Item → Items

-- of a meaning

abbrev pub flagged : Json → Flag
flagged null = Other
flagged (bool b) = Is b
flagged (num d) = Other
flagged (str d) = Other
flagged (arr js) = Other
flagged (obj ms) = Other

abbrev pub flag_of : Found → Flag
flag_of (found j) = flagged j
flag_of missing = Absent

unfoldable pub flag_in : Json → List ℕ → Flag
flag_in j name = flag_of (member name j)

abbrev pub item_in : Json → Item
item_in j = record { object = is_object j; words = word_in j; flags = flag_in j }

abbrev pub items_in : Jsons → List Item
items_in jnil = []
items_in (jcons j js) = item_in j ∷ items_in js

abbrev pub listed : Json → Items
listed null = other
listed (bool b) = other
listed (num d) = other
listed (str d) = other
listed (arr js) = items (items_in js)
listed (obj ms) = other

abbrev pub list_of : Found → Items
list_of (found j) = listed j
list_of missing = absent

-- the list of a name
unfoldable pub list_in : Json → List ℕ → Items
list_in j name = list_of (member name j)

-- the same on the text, as the code looks it up; the claims say that it is the same

unfoldable pub begins : ℕ → List ℕ → Bool
begins first [] = false
begins first (b ∷ t) = eqb b first

unfoldable pub flag_here : List ℕ → Flag
flag_here t = pick (begins 0x74 t) (Is true) (pick (begins 0x66 t) (Is false) Other)

abbrev pub flag_behind : Parsed (List ℕ) → Flag
flag_behind (ok x t) = flag_here t
flag_behind none = Absent

-- the element whose value a lookup in s found
unfoldable pub flag_found : List ℕ → Read → Flag
flag_found s (End v) = flag_here (drop v s)
flag_found s Bad = Absent

unfoldable pub flag_at : List ℕ → List ℕ → Flag
flag_at t name = flag_behind (member_at name t)

abbrev pub item_at : List ℕ → Item
item_at t = record { object = begins 0x7b t; words = word_at t; flags = flag_at t }

-- the items whose texts begin, with white space, at these places
abbrev pub items_at : List (List ℕ) → List Item
items_at [] = []
items_at (t ∷ ts) = item_at (skip_ws t) ∷ items_at ts

unfoldable pub list_here : List ℕ → Items
list_here t = pick (begins 0x5b t) (items (items_at (entries_at 0x5b 0x5d t))) other

abbrev pub list_behind : Parsed (List ℕ) → Items
list_behind (ok x t) = list_here t
list_behind none = absent

unfoldable pub list_at : List ℕ → List ℕ → Items
list_at t name = list_behind (member_at name t)
