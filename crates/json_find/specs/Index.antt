-- Places that were noted of a packet's object: where each of its entries begins.
-- Assumes nothing.
use Rattle.std.specs.Prelude.{ℕ, ◌≡◌, List, [], ◌∷◌, drop}
use Rattle.json_value.specs.Reader.{skip_ws}
use Rattle.json_find.specs.Entries.{first_named, member_at}

-- the texts that begin at places of s
abbrev pub texts_at : List ℕ → List ℕ → List (List ℕ)
texts_at s [] = []
texts_at s (p ∷ ps) = drop p s ∷ texts_at s ps

-- where places are noted, every name is found among them as in the object itself
pub record Indexed (s places : List ℕ) : Type 0 where
  pub finds : ¬ (places ≡ []) → (name : List ℕ) → first_named name (texts_at s places) ≡ member_at name (skip_ws s)
