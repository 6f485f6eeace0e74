-- The values that we write: no numbers, strings of the table's alphabet, at most so many levels.
-- Assumes nothing.
use Rattle.std.specs.Prelude.{ℕ, suc, ◌≤◌, ◌≡◌, Bool, List, [], ◌∷◌}
use Rattle.json_value.specs.Grammar.{Json, Jsons, Members}
use Rattle.json_value.specs.Grammar.Json.{null, bool, num, str, arr, obj}
use Rattle.json_value.specs.Grammar.Jsons.{jnil, jcons}
use Rattle.json_value.specs.Grammar.Members.{mnil, mcons}

-- a character that stands for itself in a string: 0x20 to 0x7E without `"` and `\`
pub record PlainByte (b : ℕ) : Type 0 where
  pub from : 0x20 ≤ b
  pub to : b ≤ 0x7e
  pub no_quote : ¬ (b ≡ 0x22)
  pub no_backslash : ¬ (b ≡ 0x5c)

pub data PlainText : List ℕ → Type 0 where
  none : PlainText []
  more : {b : ℕ} {d : List ℕ} → PlainByte b → PlainText d → PlainText (b ∷ d)

mutual
  pub data Plain : ℕ → Json → Type 0 where
    pnull : {l : ℕ} → Plain l null
    pbool : {l : ℕ} {b : Bool} → Plain l (bool b)
    pstr : {l : ℕ} {d : List ℕ} → PlainText d → Plain l (str d)
    parr₀ : {l : ℕ} → Plain (suc l) (arr jnil)
    parr : {l : ℕ} {js : Jsons} → PlainElements l js → Plain (suc l) (arr js)
    pobj₀ : {l : ℕ} → Plain (suc l) (obj mnil)
    pobj : {l : ℕ} {ms : Members} → PlainMembers l ms → Plain (suc l) (obj ms)

  pub data PlainElements : ℕ → Jsons → Type 0 where
    last_element : {l : ℕ} {j : Json} → Plain l j → PlainElements l (jcons j jnil)
    element : {l : ℕ} {j k : Json} {js : Jsons} → Plain l j → PlainElements l (jcons k js) → PlainElements l (jcons j (jcons k js))

  pub data PlainMembers : ℕ → Members → Type 0 where
    last_member : {l : ℕ} {d : List ℕ} {j : Json} → PlainText d → Plain l j → PlainMembers l (mcons d j mnil)
    member : {l : ℕ} {d e : List ℕ} {j k : Json} {ms : Members} → PlainText d → Plain l j → PlainMembers l (mcons e k ms) → PlainMembers l (mcons d j (mcons e k ms))
