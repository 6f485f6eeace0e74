-- A line taken apart, as the code does it: field by field, each by how far it goes.
-- Assumes nothing.
use Rattle.std.specs.Prelude.{false, List, [], ◌∷◌, ℕ, zero, suc, ◌+◌, ltb, length, take, drop}
use Rattle.basis.specs.Pick.{pick}
use Rattle.csv_field.specs.Marks.{is_quote, is_comma, is_stop, plain_run, quoted_run, line_run, unquoted}

-- one field's text and what stands behind it; or the text from a fault on
pub data Took : Type 0 where
  field : List ℕ → List ℕ → Took
  fault : List ℕ → Took

-- behind the closing quote
abbrev pub closed : List ℕ → List ℕ → Took
closed d r = pick (is_stop r) (field d r) (fault r)

-- behind the opening quote, n bytes before the closing one
abbrev pub quoted_by : ℕ → List ℕ → Took
quoted_by n t = pick (ltb n (length t)) (closed (unquoted false (take n t)) (drop (n + 1) t)) (fault [])

-- n bytes without a mark
abbrev pub plain_by : ℕ → List ℕ → Took
plain_by n t = pick (is_quote (drop n t)) (fault (drop n t)) (field (take n t) (drop n t))

unfoldable pub field_of : List ℕ → Took
field_of t = pick (is_quote t) (quoted_by (quoted_run false (drop 1 t)) (drop 1 t)) (plain_by (plain_run t) t)

-- a line's fields and what follows it; or what follows a faulty one
pub data Split : Type 0 where
  fields : List (List ℕ) → List ℕ → Split
  faulty : List ℕ → Split

abbrev pub push : List ℕ → Split → Split
push d (fields ds r) = fields (d ∷ ds) r
push d (faulty r) = faulty r

abbrev pub on_field : (List ℕ → Split) → Took → Split
on_field more (field d r) = pick (is_comma r) (push d (more (drop 1 r))) (fields (d ∷ []) (drop 2 r))
on_field more (fault r) = faulty (drop (line_run r) r)

-- at most n + 1 fields
unfoldable pub split_within : ℕ → List ℕ → Split
split_within zero s = on_field (λ t. fields [] t) (field_of s)
split_within (suc n) s = on_field (λ t. split_within n t) (field_of s)

-- the line that begins at s; it has no more commas than bytes
unfoldable pub split : List ℕ → Split
split s = split_within (length s) s
