-- No name twice in an object, at any depth. Names are code points, so escapes are resolved before they are compared.
-- Assumes nothing.
use Rattle.std.specs.Prelude.{ℕ, Bool, true, false, List}
use Rattle.basis.specs.Lists.{same_bytes}
use Rattle.basis.specs.Pick.{pick, both}
use Rattle.json_value.specs.Grammar.{Json, Jsons, Members}
use Rattle.json_value.specs.Grammar.Json.{null, bool, num, str, arr, obj}
use Rattle.json_value.specs.Grammar.Jsons.{jnil, jcons}
use Rattle.json_value.specs.Grammar.Members.{mnil, mcons}

-- some member has the name
abbrev pub called : List ℕ → Members → Bool
called name mnil = false
called name (mcons d j ms) = pick (same_bytes d name) true (called name ms)

unfoldable mutual
  pub no_twice : Json → Bool
  no_twice null = true
  no_twice (bool b) = true
  no_twice (num d) = true
  no_twice (str d) = true
  no_twice (arr js) = all_once js
  no_twice (obj ms) = once ms

  pub all_once : Jsons → Bool
  all_once jnil = true
  all_once (jcons j js) = both (no_twice j) (all_once js)

  -- no later member has the name of an earlier one
  pub once : Members → Bool
  once mnil = true
  once (mcons d j ms) = pick (called d ms) false (both (no_twice j) (once ms))
