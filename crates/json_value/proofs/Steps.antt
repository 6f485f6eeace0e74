-- One step of the readers that call no other, at a place of a slice.
-- Assumes nothing.
use Rattle.basis.proofs.Std.{ℕ, ◌+◌, ◌<◌, ◌≤◌, ◌≡◌, ◌∙◌, ap, true, false, List, length, get_or, drop, arith, ne_eqb, eq-eqb, text, ⊎_elim, lt_or_ge}
use Rattle.json_text.specs.Decoded.{Parsed, decoded}
use Rattle.json_text.specs.declared.Read.{Read}
use Rattle.json_text.specs.Ends.{Ends}
use Rattle.json_text.specs.Ends.Ends.{ends, fails}
use Rattle.json_number.specs.Machine.{read_number}
use Rattle.json_value.specs.declared.Mark.TheVariants as Mark
use Rattle.json_value.specs.Grammar.Json.{null, bool}
use Rattle.json_value.specs.Reader.{is_space, skip_ws, literal, str_of, num_of, read_scalar, colon, colon_at, read_name, read_start, read_mark}
use Rattle.json_value.specs.Answers.{Skipped, Marks}
use Rattle.json_value.specs.Answers.Marks.{closes, commas, neither}
use Rattle.json_character.proofs.Lists.{next, past}
use Rattle.json_text.proofs.Endings.{failed}
use Rattle.json_value.proofs.Places.{from, ended}

-- white space

pub skip_yes : (s : List ℕ) (i : ℕ) → i < length s → is_space (get_or s i 0) ≡ true → skip_ws (drop i s) ≡ skip_ws (drop (i + 1) s)
unfolding skip_ws
skip_yes s i h e = rw (next s i h, e)

pub skip_no : (s : List ℕ) (i : ℕ) → i < length s → is_space (get_or s i 0) ≡ false → skip_ws (drop i s) ≡ drop i s
unfolding skip_ws
skip_no s i h e = rw (next s i h, e)

pub skip_end : (s : List ℕ) (i : ℕ) → length s ≤ i → skip_ws (drop i s) ≡ drop i s
unfolding skip_ws
skip_end s i h = rw (past s i h)

pub ruleset space_steps = (skip_yes, skip_no, skip_end)

-- scalars

stringed : {s : List ℕ} {i : ℕ} {p : Parsed (List ℕ)} {r : Read} → Ends s i p r → Ends s i (str_of p) r
stringed (ends e a b) = ends e a b
stringed fails = fails

numbered : {s : List ℕ} {i : ℕ} {p : Parsed (List ℕ)} {r : Read} → Ends s i p r → Ends s i (num_of p) r
numbered (ends e a b) = ends e a b
numbered fails = fails

module _ (s : List ℕ) (i : ℕ) where
  pub scalar_past : length s ≤ i → Ends s i (read_scalar (drop i s)) Read.Bad
  unfolding read_scalar
  scalar_past h = rw (past s i h) fails

  module _ (h : i < length s) (r : Read) where
    pub scalar_string : get_or s i 0 ≡ 0x22 → Ends s (i + 1) (decoded (drop (i + 1) s)) r → Ends s i (read_scalar (drop i s)) r
    unfolding read_scalar
    scalar_string e x = rw (next s i h, e) (stringed (from (omega arith) x))

    pub scalar_true : get_or s i 0 ≡ 0x74 → Ends s (i + 1) (literal (bool true) (text "rue") (drop (i + 1) s)) r → Ends s i (read_scalar (drop i s)) r
    unfolding read_scalar
    scalar_true e x = rw (next s i h, e) (from (omega arith) x)

    pub scalar_false : get_or s i 0 ≡ 0x66 → Ends s (i + 1) (literal (bool false) (text "alse") (drop (i + 1) s)) r → Ends s i (read_scalar (drop i s)) r
    unfolding read_scalar
    scalar_false e x = rw (next s i h, e) (from (omega arith) x)

    pub scalar_null : get_or s i 0 ≡ 0x6e → Ends s (i + 1) (literal null (text "ull") (drop (i + 1) s)) r → Ends s i (read_scalar (drop i s)) r
    unfolding read_scalar
    scalar_null e x = rw (next s i h, e) (from (omega arith) x)

    pub scalar_number : ¬ (get_or s i 0 ≡ 0x22) → ¬ (get_or s i 0 ≡ 0x74) → ¬ (get_or s i 0 ≡ 0x66) → ¬ (get_or s i 0 ≡ 0x6e) → Ends s i (read_number (drop i s)) r → Ends s i (read_scalar (drop i s)) r
    unfolding read_scalar
    scalar_number a b c d x = rw (next s i h, ne_eqb _ _ a, ne_eqb _ _ b, ne_eqb _ _ c, ne_eqb _ _ d) (numbered (rw (next s i h) at x))

pub ruleset scalar_steps = (scalar_past, scalar_string, scalar_true, scalar_false, scalar_null, scalar_number)

-- names

module _ (s : List ℕ) (i : ℕ) where
  pub name_past : length s ≤ i → Ends s i (read_name (drop i s)) Read.Bad
  unfolding read_name
  name_past h = rw (past s i h) fails

  module _ (h : i < length s) where
    pub name_none : ¬ (get_or s i 0 ≡ 0x22) → Ends s i (read_name (drop i s)) Read.Bad
    unfolding read_name
    name_none e = rw (next s i h, ne_eqb _ _ e) fails

    module _ (q : get_or s i 0 ≡ 0x22) where
      named : read_name (drop i s) ≡ colon (decoded (drop (i + 1) s))
      unfolding read_name
      named = rw (next s i h, q)

      pub name_bad : Ends s (i + 1) (decoded (drop (i + 1) s)) Read.Bad → Ends s i (read_name (drop i s)) Read.Bad
      name_bad x = rw (named, failed x) fails

      -- the characters end at e, and white space goes on to k
      module _ (e k : ℕ) (x : Ends s (i + 1) (decoded (drop (i + 1) s)) (Read.End e)) (ws : Skipped s e k) where
        characters : List ℕ
        characters = (ended x).what

        coloned : read_name (drop i s) ≡ colon_at characters (drop k s)
        unfolding characters
        coloned = named ∙ ap colon (ended x).reads ∙ ap (colon_at (ended x).what) ws.rest

        pub name_other : ¬ (get_or s k 0 ≡ 0x3a) → Ends s i (read_name (drop i s)) Read.Bad
        name_other n = ⊎_elim (λ g. rw (coloned, next s k g, ne_eqb _ _ n) fails) (λ g. rw (coloned, past s k g) fails) (lt_or_ge k (length s))

        pub name_done : k < length s → get_or s k 0 ≡ 0x3a → (m : ℕ) → Skipped s (k + 1) m → Ends s i (read_name (drop i s)) (Read.End m)
        name_done g c m w = rw (coloned, next s k g, c, w.rest) (ends m (omega (arith, (ended x).on, ws.from, w.from)) (w.within (omega arith)))

pub ruleset name_steps = (name_past, name_none, name_bad, name_other, name_done)

-- the start of an entry, and what follows it

module _ (s : List ℕ) (i k close : ℕ) (ws : Skipped s i k) where
  pub start_name : close ≡ 0x7d → (r : Read) → Ends s k (read_name (drop k s)) r → Ends s i (read_start close (drop i s)) r
  unfolding read_start
  start_name e r x = rw (e, ws.rest) (from ws.from x)

  pub start_past : ¬ (close ≡ 0x7d) → length s ≤ k → Ends s i (read_start close (drop i s)) Read.Bad
  unfolding read_start
  start_past e h = rw (ne_eqb _ _ e, ws.rest, past s k h) fails

  pub start_here : ¬ (close ≡ 0x7d) → k < length s → Ends s i (read_start close (drop i s)) (Read.End k)
  unfolding read_start
  start_here e h = rw (ne_eqb _ _ e, ws.rest, next s k h, ← next s k h) (ends k ws.from (omega arith))

  pub mark_past : length s ≤ k → Marks s i (read_mark close (drop i s)) Mark.Neither
  unfolding read_mark
  mark_past h = rw (ws.rest, past s k h) neither

  module _ (h : k < length s) where
    pub mark_close : get_or s k 0 ≡ close → Marks s i (read_mark close (drop i s)) (Mark.Close (k + 1))
    unfolding read_mark
    mark_close e = rw (ws.rest, next s k h, eq-eqb _ _ e) (closes (k + 1) (omega (arith, ws.from)) (omega arith))

    pub mark_comma : ¬ (get_or s k 0 ≡ close) → get_or s k 0 ≡ 0x2c → Marks s i (read_mark close (drop i s)) (Mark.Comma (k + 1))
    unfolding read_mark
    mark_comma n e = rw (ws.rest, next s k h, ne_eqb _ _ n, eq-eqb _ _ e) (commas (k + 1) (omega (arith, ws.from)) (omega arith))

    pub mark_neither : ¬ (get_or s k 0 ≡ close) → ¬ (get_or s k 0 ≡ 0x2c) → Marks s i (read_mark close (drop i s)) Mark.Neither
    unfolding read_mark
    mark_neither n m = rw (ws.rest, next s k h, ne_eqb _ _ n, ne_eqb _ _ m) neither

pub ruleset start_steps = (start_name, start_past, start_here)

pub ruleset mark_steps = (mark_past, mark_close, mark_comma, mark_neither)
