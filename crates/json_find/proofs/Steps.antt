-- Strings at a place, one turn of the loop over entries, and what the lookup makes of the first entry's place.
-- Assumes nothing.
use Rattle.basis.proofs.Std.{ℕ, ◌+◌, ◌<◌, ◌≡◌, ap, ◌∙◌, true, false, List, [], length, get_or, drop, ne_eqb, ⊎_elim, lt_or_ge}
use Rattle.json_text.specs.Decoded.{decoded, is_text}
use Rattle.json_text.specs.declared.Read.{Read}
use Rattle.json_text.specs.Ends.{Ends}
use Rattle.json_text.specs.Ends.Ends.{fails}
use Rattle.json_value.specs.Reader.{read_start}
use Rattle.json_value.specs.Answers.{Skipped}
use Rattle.json_character.proofs.Lists.{next, past}
use Rattle.json_text.proofs.Endings.{failed}
use Rattle.json_value.proofs.Places.{from, ended}
use Rattle.json_find.specs.Kinds.{string_at}
use Rattle.json_find.specs.Entries.{next_entry, entries, inside_at, entries_of, entries_at, first_named, member_at}
use Rattle.json_find.proofs.Walks.{unroll, ends_here, goes_on_lem, step_on, step_in}

-- strings

module _ (s : List ℕ) (i : ℕ) where
  pub string_other : (fixed : List ℕ) → ¬ (get_or s i 0 ≡ 0x22) → false ≡ string_at fixed (drop i s)
  unfolding string_at
  string_other fixed e = ⊎_elim (λ h. rw (next s i h, ne_eqb _ _ e)) (λ h. rw (past s i h)) (lt_or_ge i (length s))

  pub string_here : (fixed : List ℕ) → i < length s → get_or s i 0 ≡ 0x22 → is_text (decoded (drop (i + 1) s)) fixed ≡ string_at fixed (drop i s)
  unfolding string_at
  string_here fixed h e = rw (next s i h, e)

pub ruleset string_steps = (string_other, string_here)

-- a name among entries

module _ (s name : List ℕ) (i k : ℕ) (ws : Skipped s i k) where
  pub seek_here : true ≡ string_at name (drop k s) → (r : Read) → Ends s i (read_start 0x7d (drop i s)) r → Ends s i (first_named name (entries 0x7d (drop i s))) r
  seek_here e r x = rw (unroll 0x7d (drop i s), ws.rest, ← e) x

  pub seek_none : false ≡ string_at name (drop k s) → Ends s i (next_entry 0x7d (drop i s)) Read.Bad → Ends s i (first_named name (entries 0x7d (drop i s))) Read.Bad
  seek_none e x = rw (ends_here s i 0x7d x, ws.rest, ← e) fails

  pub seek_next : false ≡ string_at name (drop k s) → (e : ℕ) → Ends s i (next_entry 0x7d (drop i s)) (Read.End e) → (r : Read) → Ends s e (first_named name (entries 0x7d (drop e s))) r → Ends s i (first_named name (entries 0x7d (drop i s))) r
  seek_next q e x r y =
      let z : first_named name (entries 0x7d (drop i s)) ≡ first_named name (entries 0x7d (drop e s)) =
      ap (first_named name) (goes_on_lem s i 0x7d e x) ∙ rw (ws.rest, ← q) in
      rw z (from (ended x).on y)

pub ruleset seek_steps = (seek_here, seek_none, seek_next, step_on, step_in)

module _ (s : List ℕ) (i first close : ℕ) where
  no_entries : Ends s i (inside_at first close (drop i s)) Read.Bad → entries_at first close (drop i s) ≡ []
  unfolding entries_at
  no_entries x = ap (entries_of close) (failed x)

  some_entries : (e : ℕ) → Ends s i (inside_at first close (drop i s)) (Read.End e) → entries_at first close (drop i s) ≡ entries close (drop e s)
  unfolding entries_at
  some_entries e x = ap (entries_of close) (ended x).reads

module _ (s : List ℕ) (i : ℕ) where
  pub member_none : (name : List ℕ) → Ends s i (inside_at 0x7b 0x7d (drop i s)) Read.Bad → Ends s i (member_at name (drop i s)) Read.Bad
  unfolding member_at
  member_none name x = rw (no_entries s i 0x7b 0x7d x) fails

  pub member_some : (name : List ℕ) (e : ℕ) → Ends s i (inside_at 0x7b 0x7d (drop i s)) (Read.End e) → (r : Read) → Ends s e (first_named name (entries 0x7d (drop e s))) r → Ends s i (member_at name (drop i s)) r
  unfolding member_at
  member_some name e x r y = rw (some_entries s i 0x7b 0x7d e x) (from (ended x).on y)

pub ruleset member_steps = (member_none, member_some)
