-- An executable reader of the grammar of Grammar.antt. The laws of Sound.antt and Complete.antt say that it reads that grammar.
-- Assumes nothing.
use Rattle.std.specs.Prelude.{ℕ, zero, suc, Bool, true, false, List, [], ◌∷◌, length, eqb}
use Rattle.basis.specs.Pick.{pick}
use Rattle.basis.specs.Text.{text}
use Rattle.json_text.specs.Decoded.{Parsed, decoded}
use Rattle.json_text.specs.Decoded.Parsed.{ok, none}
use Rattle.json_number.specs.Machine.{read_number}
use Rattle.json_value.specs.Grammar.{Json, Jsons, Members}
use Rattle.json_value.specs.Grammar.Json.{null, bool, num, str, arr, obj}
use Rattle.json_value.specs.Grammar.Jsons.{jnil, jcons}
use Rattle.json_value.specs.Grammar.Members.{mnil, mcons}

abbrev pub is_space : ℕ → Bool
is_space b = pick (eqb b 0x20) true (pick (eqb b 0x09) true (pick (eqb b 0x0a) true (eqb b 0x0d)))

unfoldable pub skip_ws : List ℕ → List ℕ
skip_ws [] = []
skip_ws (b ∷ t) = pick (is_space b) (skip_ws t) (b ∷ t)

-- the rest of a word that stands for j
unfoldable pub literal : Json → List ℕ → List ℕ → Parsed Json
literal j [] t = ok j t
literal j (w ∷ ws) [] = none
literal j (w ∷ ws) (b ∷ t) = pick (eqb b w) (literal j ws t) none

abbrev pub str_of : Parsed (List ℕ) → Parsed Json
str_of (ok d r) = ok (str d) r
str_of none = none

abbrev pub num_of : Parsed (List ℕ) → Parsed Json
num_of (ok d r) = ok (num d) r
num_of none = none

-- a value that is no array and no object
unfoldable pub read_scalar : List ℕ → Parsed Json
read_scalar [] = none
read_scalar (b ∷ t) =
    pick (eqb b 0x22) (str_of (decoded t))
    (pick (eqb b 0x74) (literal (bool true) (text "rue") t)
    (pick (eqb b 0x66) (literal (bool false) (text "alse") t)
    (pick (eqb b 0x6e) (literal null (text "ull") t) (num_of (read_number (b ∷ t))))))

-- after a name's characters, and after white space
abbrev pub colon_at : List ℕ → List ℕ → Parsed (List ℕ)
colon_at d [] = none
colon_at d (b ∷ t) = pick (eqb b 0x3a) (ok d (skip_ws t)) none

abbrev pub colon : Parsed (List ℕ) → Parsed (List ℕ)
colon (ok d r) = colon_at d (skip_ws r)
colon none = none

-- string ws name-separator ws
unfoldable pub read_name : List ℕ → Parsed (List ℕ)
read_name [] = none
read_name (b ∷ t) = pick (eqb b 0x22) (colon (decoded t)) none

abbrev pub unnamed : List ℕ → Parsed (List ℕ)
unnamed [] = none
unnamed (b ∷ t) = ok [] (b ∷ t)

-- what stands before a value between brackets or braces: white space, and in an object a name
unfoldable pub read_start : ℕ → List ℕ → Parsed (List ℕ)
read_start close t = pick (eqb close 0x7d) (read_name (skip_ws t)) (unnamed (skip_ws t))

-- the closing byte (true), or a comma (false)
abbrev pub mark_at : ℕ → List ℕ → Parsed Bool
mark_at close [] = none
mark_at close (b ∷ t) = pick (eqb b close) (ok true t) (pick (eqb b 0x2c) (ok false t) none)

unfoldable pub read_mark : ℕ → List ℕ → Parsed Bool
read_mark close t = mark_at close (skip_ws t)

-- a value with its name, which in an array is empty
pub record Named : Type 0 where
  pub called : List ℕ
  pub value : Json

abbrev pub named : List ℕ → Json → Named
named d j = record { called = d; value = j }

-- such a value, and whether it is the last
pub record Entry : Type 0 where
  pub item : Named
  pub last : Bool

abbrev pub marked : Named → Parsed Bool → Parsed Entry
marked x (ok b r) = ok (record { item = x; last = b }) r
marked x none = none

abbrev pub after_value : ℕ → List ℕ → Parsed Json → Parsed Entry
after_value close d (ok j r) = marked (named d j) (read_mark close r)
after_value close d none = none

abbrev pub after_start : ℕ → (List ℕ → Parsed Json) → Parsed (List ℕ) → Parsed Entry
after_start close value (ok d r) = after_value close d (value r)
after_start close value none = none

-- start value ws, then the closing byte or a comma
unfoldable pub read_entry : ℕ → (List ℕ → Parsed Json) → List ℕ → Parsed Entry
read_entry close value t = after_start close value (read_start close t)

abbrev pub cons_of : Named → Parsed (List Named) → Parsed (List Named)
cons_of x (ok xs r) = ok (x ∷ xs) r
cons_of x none = none

abbrev pub if_last : Bool → Named → List ℕ → Parsed (List Named) → Parsed (List Named)
if_last true x r z = ok (x ∷ []) r
if_last false x r z = cons_of x z

abbrev pub after_entry : (List ℕ → Parsed (List Named)) → Parsed Entry → Parsed (List Named)
after_entry more (ok e r) = if_last e.last e.item r (more r)
after_entry more none = none

-- at most n entries, up to and with the closing byte
unfoldable pub read_items : ℕ → (List ℕ → Parsed Json) → ℕ → List ℕ → Parsed (List Named)
read_items close value zero t = none
read_items close value (suc n) t = after_entry (λ u. read_items close value n u) (read_entry close value t)

abbrev pub jsons : List Named → Jsons
jsons [] = jnil
jsons (x ∷ xs) = jcons x.value (jsons xs)

abbrev pub members : List Named → Members
members [] = mnil
members (x ∷ xs) = mcons x.called x.value (members xs)

abbrev pub whole : ℕ → List Named → Json
whole close xs = pick (eqb close 0x7d) (obj (members xs)) (arr (jsons xs))

abbrev pub whole_of : ℕ → Parsed (List Named) → Parsed Json
whole_of close (ok xs r) = ok (whole close xs) r
whole_of close none = none

-- after an opening byte and white space: the closing byte, or at most n entries
abbrev pub opened : ℕ → (List ℕ → Parsed Json) → ℕ → List ℕ → Parsed Json
opened close value n [] = none
opened close value n (b ∷ t) = pick (eqb b close) (ok (whole close []) t) (whole_of close (read_items close value n (b ∷ t)))

-- what follows an opening byte, fewer entries than there are bytes
unfoldable pub read_inside : ℕ → (List ℕ → Parsed Json) → List ℕ → Parsed Json
read_inside close value t = opened close value (length t) (skip_ws t)

-- a value, where `inside` reads what follows an opening bracket or brace
abbrev pub value_by : (ℕ → List ℕ → Parsed Json) → List ℕ → Parsed Json
value_by inside [] = none
value_by inside (b ∷ t) = pick (eqb b 0x5b) (inside 0x5d t) (pick (eqb b 0x7b) (inside 0x7d t) (read_scalar (b ∷ t)))

-- a value with at most l levels of arrays and objects
unfoldable pub read_value : ℕ → List ℕ → Parsed Json
read_value zero t = value_by (λ close u. none) t
read_value (suc l) t = value_by (λ close u. read_inside close (λ v. read_value l v) u) t

-- what follows an opening bracket or brace of a value with at most l levels
unfoldable pub inside_of : ℕ → ℕ → List ℕ → Parsed Json
inside_of close zero u = none
inside_of close (suc l) u = read_inside close (λ v. read_value l v) u
