-- Members and elements of a meaning.
-- Assumes nothing.
use Rattle.std.specs.Prelude.{ℕ, zero, suc, List}
use Rattle.basis.specs.Lists.{same_bytes}
use Rattle.basis.specs.Pick.{pick}
use Rattle.json_value.specs.Grammar.{Json, Jsons, Members}
use Rattle.json_value.specs.Grammar.Json.{null, bool, num, str, arr, obj}
use Rattle.json_value.specs.Grammar.Jsons.{jnil, jcons}
use Rattle.json_value.specs.Grammar.Members.{mnil, mcons}

pub data Found : Type 0 where
  found : Json → Found
  missing : Found

-- what has no members has none
abbrev pub members_in : Json → Members
members_in null = mnil
members_in (bool b) = mnil
members_in (num d) = mnil
members_in (str d) = mnil
members_in (arr js) = mnil
members_in (obj ms) = ms

abbrev pub elements_in : Json → Jsons
elements_in null = jnil
elements_in (bool b) = jnil
elements_in (num d) = jnil
elements_in (str d) = jnil
elements_in (arr js) = js
elements_in (obj ms) = jnil

abbrev pub named : List ℕ → Members → Found
named name mnil = missing
named name (mcons d j ms) = pick (same_bytes d name) (found j) (named name ms)

abbrev pub nth_element : ℕ → Jsons → Found
nth_element k jnil = missing
nth_element zero (jcons j js) = found j
nth_element (suc k) (jcons j js) = nth_element k js

abbrev pub count_elements : Jsons → ℕ
count_elements jnil = zero
count_elements (jcons j js) = suc (count_elements js)

-- the member of a name, the k-th element
abbrev pub member : List ℕ → Json → Found
member name j = named name (members_in j)

abbrev pub element : ℕ → Json → Found
element k j = nth_element k (elements_in j)
