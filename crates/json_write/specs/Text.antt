-- The text of a JSON value: no spaces, members in their order, strings as they are.
-- Assumes nothing.
use Rattle.std.specs.Prelude.{ℕ, Bool, true, false, List, [], ◌∷◌, ◌++◌}
use Rattle.json_value.specs.Grammar.{Json, Jsons, Members}
use Rattle.json_value.specs.Grammar.Json.{null, bool, num, str, arr, obj}
use Rattle.json_value.specs.Grammar.Jsons.{jnil, jcons}
use Rattle.json_value.specs.Grammar.Members.{mnil, mcons}

-- a string in quotation marks, and r behind it
abbrev pub quoted : List ℕ → List ℕ → List ℕ
quoted d r = 0x22 ∷ (d ++ (0x22 ∷ r))

-- a value, its elements or its members, and r behind them
abbrev mutual
  pub text_onto : Json → List ℕ → List ℕ
  text_onto null r = 0x6e ∷ 0x75 ∷ 0x6c ∷ 0x6c ∷ r
  text_onto (bool true) r = 0x74 ∷ 0x72 ∷ 0x75 ∷ 0x65 ∷ r
  text_onto (bool false) r = 0x66 ∷ 0x61 ∷ 0x6c ∷ 0x73 ∷ 0x65 ∷ r
  text_onto (num d) r = d ++ r
  text_onto (str d) r = quoted d r
  text_onto (arr js) r = 0x5b ∷ elements_onto js (0x5d ∷ r)
  text_onto (obj ms) r = 0x7b ∷ members_onto ms (0x7d ∷ r)

  pub elements_onto : Jsons → List ℕ → List ℕ
  elements_onto jnil r = r
  elements_onto (jcons j jnil) r = text_onto j r
  elements_onto (jcons j (jcons k js)) r = text_onto j (0x2c ∷ elements_onto (jcons k js) r)

  pub members_onto : Members → List ℕ → List ℕ
  members_onto mnil r = r
  members_onto (mcons d j mnil) r = quoted d (0x3a ∷ text_onto j r)
  members_onto (mcons d j (mcons e k ms)) r = quoted d (0x3a ∷ text_onto j (0x2c ∷ members_onto (mcons e k ms) r))

abbrev pub text_of : Json → List ℕ
text_of j = text_onto j []
