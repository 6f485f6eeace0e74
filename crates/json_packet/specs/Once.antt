-- "no name twice in an object", said of a value: the members of each object that stands in it have different names.
-- Names are code points, so escapes are resolved before they are compared.
-- Assumes nothing.
use Rattle.std.specs.Prelude.{ℕ, zero, suc, ◌≡◌, List}
use Rattle.json_value.specs.Grammar.{Json, Jsons, Members}
use Rattle.json_value.specs.Grammar.Json.{arr, obj}
use Rattle.json_value.specs.Grammar.Jsons.{jcons}
use Rattle.json_value.specs.Grammar.Members.{mcons}

-- the element at a place, the member at a place
pub data Element : ℕ → Json → Jsons → Type 0 where
  first_element : {j : Json} {js : Jsons} → Element zero j (jcons j js)
  next_element : {i : ℕ} {j k : Json} {js : Jsons} → Element i j js → Element (suc i) j (jcons k js)

pub data Member : ℕ → List ℕ → Json → Members → Type 0 where
  first_member : {name : List ℕ} {j : Json} {ms : Members} → Member zero name j (mcons name j ms)
  next_member : {i : ℕ} {name other : List ℕ} {j k : Json} {ms : Members} → Member i name j ms → Member (suc i) name j (mcons other k ms)

-- a value stands in another, at any depth
pub data In : Json → Json → Type 0 where
  itself : {j : Json} → In j j
  in_array : {i : ℕ} {x j : Json} {js : Jsons} → Element i j js → In x j → In x (arr js)
  in_object : {i : ℕ} {name : List ℕ} {x j : Json} {ms : Members} → Member i name j ms → In x j → In x (obj ms)

-- members of one name are one member
pub record Distinct (ms : Members) : Type 0 where
  pub one : {i k : ℕ} {name : List ℕ} {x y : Json} → Member i name x ms → Member k name y ms → i ≡ k

pub record NoNameTwice (j : Json) : Type 0 where
  pub objects : {ms : Members} → In (obj ms) j → Distinct ms
