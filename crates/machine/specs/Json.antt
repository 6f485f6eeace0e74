-- Document 01, "Packets and JSON": elements of a packet's JSON value by their names, identities, numbers, versions, times.
-- Assumes nothing.
use Rattle.std.specs.Prelude.{ℕ, zero, suc, Bool, true, false, not, List, [], ◌∷◌, ◌++◌, map, eqb, leb, ℤ, pos, negsuc, length, take, replicate}
use Prim.Native.String.{String}
use Rattle.std.proofs.Math.Option.{Option, some, none}
use Rattle.basis.specs.Lists.{same_bytes}
use Rattle.basis.specs.Text.{text}
use Rattle.number.specs.Decimal.{digits}
use Rattle.number.specs.Reading.{says}
use Rattle.identity.specs.Hex.{lowered}
use Rattle.identity.specs.Text.{identity_text}
use Rattle.calendar.specs.declared.Time.{Time}
use Rattle.calendar.specs.declared.Time.TheVariants.{Is, No}
use Rattle.calendar.specs.Read.{read_time}
use Rattle.json_value.specs.Grammar.{Json, Jsons, Members}
use Rattle.json_value.specs.Grammar.Json.{null, bool, num, str, arr, obj}
use Rattle.json_value.specs.Grammar.Jsons.{jnil, jcons}
use Rattle.json_value.specs.Grammar.Members.{mnil, mcons}
use Rattle.json_packet.specs.Packet.{is_packet, meaning_of}
use Rattle.machine.specs.Words.{Bytes, if'◌then◌else◌, ◌and◌, ◌or◌, reads, maybe, is_some, or_else, each}

-- "A packet is one JSON object, valid UTF-8, nesting to eight levels (the object is level 1), escapes resolved before comparing,
-- no lone surrogate, no name twice in an object." jsonpacket's claims say that this is the relation `Packet` on RFC 8259's grammar
abbrev pub read_packet : Bytes → Option Json
read_packet s = if' is_packet s then some (meaning_of s) else none

-- "Unknown elements are passed over; element names and type names are compared byte for byte."
abbrev pub named : Bytes → Members → Option Json
named name mnil = none
named name (mcons d j ms) = if' same_bytes d name then some j else named name ms

-- what a JSON value is: an object of members, a string, a boolean, an array of entries; null and numbers are used nowhere
pub record Shape : Type 0 where
  pub members : Option Members
  pub string : Option Bytes
  pub boolean : Option Bool
  pub entries : Option (List Json)

abbrev pub shaped : Option Members → Option Bytes → Option Bool → Option (List Json) → Shape
shaped members string boolean entries = record { members = members; string = string; boolean = boolean; entries = entries }

abbrev pub listed : Jsons → List Json
listed jnil = []
listed (jcons j js) = j ∷ listed js

abbrev pub shape : Json → Shape
shape null = shaped none none none none
shape (bool b) = shaped none none (some b) none
shape (num d) = shaped none none none none
shape (str d) = shaped none (some d) none none
shape (arr js) = shaped none none none (some (listed js))
shape (obj ms) = shaped (some ms) none none none

abbrev pub element : String → Json → Option Json
element name j = maybe none (named (text name)) (shape j).members

-- the string, boolean or array that an element is
abbrev pub string_at : String → Json → Option Bytes
string_at name j = maybe none (λ v. (shape v).string) (element name j)

abbrev pub string_of : String → Json → Bytes
string_of name j = or_else [] (string_at name j)

abbrev pub boolean_of : String → Json → Bool
boolean_of name j = or_else false (maybe none (λ v. (shape v).boolean) (element name j))

abbrev pub entries_of : String → Json → List Json
entries_of name j = or_else [] (maybe none (λ v. (shape v).entries) (element name j))

-- an element is the quoted string
abbrev pub element_is : String → String → Json → Bool
element_is name word j = maybe false (reads word) (string_at name j)

abbrev pub is_type : String → Json → Bool
is_type name j = element_is "type" name j

-- request 04: a type of source document 004, the name of an old one with AckIncluded behind it; and either of the two
abbrev pub is_included : String → Json → Bool
is_included name j = maybe false (λ s. same_bytes s (text name ++ text "AckIncluded")) (string_at "type" j)

abbrev pub asks_for : String → Json → Bool
asks_for name j = is_type name j or is_included name j

-- "Identities are 36 characters, hex 8-4-4-4-12, either case": with x for each digit
abbrev pub is_hex : ℕ → Bool
is_hex b = (leb 48 b and leb b 57) or (leb 65 b and leb b 70) or (leb 97 b and leb b 102)

abbrev pub is_identity : Bytes → Bool
is_identity s = reads "xxxxxxxx-xxxx-xxxx-xxxx-xxxxxxxxxxxx" (map (λ b. if' is_hex b then 120 else if' eqb b 45 then 45 else 0) s)

-- a text is the identity of these sixteen bytes
abbrev pub is_identity_of : Bytes → Bytes → Bool
is_identity_of bytes s = same_bytes (lowered s) (identity_text bytes)

-- "decimal text without leading zeros", up to a limit
abbrev pub number_in : ℕ → Bytes → Option ℕ
number_in limit s = if' leb (says 0 s) limit and same_bytes s (digits (says 0 s)) then some (says 0 s) else none

-- request 01, "v, shortest decimal text": of a signed 32-bit number
abbrev pub below : Option ℕ → Option ℤ
below none = none
below (some zero) = none
below (some (suc n)) = some (negsuc n)

abbrev pub integer_in : Bytes → Option ℤ
integer_in [] = none
integer_in (b ∷ s) = if' eqb b 45 then below (number_in 2147483648 s) else maybe none (λ n. some (pos n)) (number_in 2147483647 (b ∷ s))

-- "one to three dotted numbers, each 0 to 255 without leading zeros": the parts between dots
abbrev pub grown : ℕ → List Bytes → List Bytes
grown b [] = (b ∷ []) ∷ []
grown b (p ∷ ps) = (b ∷ p) ∷ ps

abbrev pub parts : Bytes → List Bytes
parts [] = [] ∷ []
parts (b ∷ s) = if' eqb b 46 then [] ∷ parts s else grown b (parts s)

-- "a missing part is 0"
abbrev pub numbered : List Bytes → List ℕ
numbered ps = take 3 (map (λ p. or_else 0 (number_in 255 p)) ps ++ replicate 3 0)

unfoldable pub version_in : Bytes → Option (List ℕ)
version_in s = if' leb (length (parts s)) 3 and each (λ p. is_some (number_in 255 p)) (parts s) then some (numbered (parts s)) else none

-- "Times are `YYYY-MM-DDThh:mm:ss.mmmZ`, 1970 to 9999, hh to 23, both ways." Request 05: "Reading a time shall accept zero to six decimals,
-- drop those after the third, and say how many stood there."
abbrev pub said : Time → Option ℕ
said (Is t decimals) = some t
said No = none

abbrev pub time_in : Bytes → Option ℕ
time_in s = said (read_time s)

-- Request 05: "The clock hint is given only where three or more stood"
abbrev pub hinted : Time → Option ℕ
hinted (Is t decimals) = if' leb 3 decimals then some t else none
hinted No = none

abbrev pub hint_in : Bytes → Option ℕ
hint_in s = hinted (read_time s)
