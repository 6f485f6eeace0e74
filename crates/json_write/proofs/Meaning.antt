-- The text of a plain value is in the grammar, and means that value.
-- Assumes nothing.
use Rattle.basis.proofs.Std.{ℕ, ◌≤◌, ◌<◌, zero-le, arith, ⊎_elim, true, false, List, ◌∷◌, ◌++◌, le_or_lt}
use Rattle.json_character.specs.Grammar.{Character, Unescaped}
use Rattle.json_text.specs.Grammar.{Chars}
use Rattle.json_text.specs.Grammar.Chars.{close, more as char}
use Rattle.json_character.specs.Grammar.Character.{unescaped}
use Rattle.json_character.specs.Grammar.Unescaped.{below_quote, below_backslash, above}
use Rattle.json_character.specs.Utf8.Utf8.{utf8_1}
use Rattle.json_value.specs.Grammar.{Json, Jsons, Members, Name, Value, Elements, Pairs}
use Rattle.json_value.specs.Grammar.Ws.{none as no_space}
use Rattle.json_value.specs.Grammar.Name.{name}
use Rattle.json_value.specs.Grammar.Value.{vnull, vtrue, vfalse, vstr, varr₀, varr, vobj₀, vobj}
use Rattle.json_value.specs.Grammar.Elements.{elast, enext}
use Rattle.json_value.specs.Grammar.Pairs.{plast, pnext}
use Rattle.json_write.specs.Text.{quoted, text_onto, elements_onto, members_onto}
use Rattle.json_write.specs.Plain.{PlainByte, PlainText, Plain, PlainElements, PlainMembers}
use Rattle.json_write.specs.Plain.PlainText.{none, more}
use Rattle.json_write.specs.Plain.Plain.{pnull, pbool, pstr, parr₀, parr, pobj₀, pobj}
use Rattle.json_write.specs.Plain.PlainElements.{last_element, element}
use Rattle.json_write.specs.Plain.PlainMembers.{last_member, member}

plain_unescaped : {b : ℕ} → PlainByte b → Unescaped b
plain_unescaped {b} p = ⊎_elim
    (λ (h : b ≤ 0x21). below_quote (record { from = p.from; to = h }))
    (λ (h : 0x21 < b). ⊎_elim
    (λ (g : b ≤ 0x5b). below_backslash (record { from = omega (arith, p.no_quote); to = g }))
    (λ (g : 0x5b < b). above (record { from = omega (arith, p.no_backslash); to = omega (arith, p.to) }))
    (le_or_lt b 0x5b))
    (le_or_lt b 0x21)

plain_char : {b : ℕ} {r : List ℕ} → PlainByte b → Character (b ∷ r) r b
plain_char {b} p = unescaped (utf8_1 {a = b} (record { from = zero-le; to = omega (arith, p.to) })) (plain_unescaped p)

plain_chars : {d : List ℕ} (r : List ℕ) → PlainText d → Chars (d ++ (0x22 ∷ r)) r d
plain_chars r none = close
plain_chars r (more p ps) = char (plain_char p) (plain_chars r ps)

plain_name : {d : List ℕ} (r : List ℕ) → PlainText d → Name (quoted d (0x3a ∷ r)) r d
plain_name r p = name no_space (plain_chars (0x3a ∷ r) p) no_space no_space

mutual
  -- at any level and before anything
  pub means : {l : ℕ} {j : Json} (r : List ℕ) → Plain l j → Value l (text_onto j r) r j
  means r pnull = vnull
  means r (pbool {b = true}) = vtrue
  means r (pbool {b = false}) = vfalse
  means r (pstr p) = vstr (plain_chars r p)
  means r parr₀ = varr₀ no_space
  means r (parr ps) = varr (elements r ps)
  means r pobj₀ = vobj₀ no_space
  means r (pobj ps) = vobj (pairs r ps)

  elements : {l : ℕ} {js : Jsons} (r : List ℕ) → PlainElements l js → Elements l (elements_onto js (0x5d ∷ r)) r js
  elements r (last_element p) = elast no_space (means (0x5d ∷ r) p) no_space
  elements r (element p ps) = enext no_space (means _ p) no_space (elements r ps)

  pairs : {l : ℕ} {ms : Members} (r : List ℕ) → PlainMembers l ms → Pairs l (members_onto ms (0x7d ∷ r)) r ms
  pairs r (last_member d p) = plast (plain_name _ d) (means (0x7d ∷ r) p) no_space
  pairs r (member d p ps) = pnext (plain_name _ d) (means _ p) no_space (pairs r ps)
