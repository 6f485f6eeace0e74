-- The entries from a place on: with no count of calls in them, and at a place of a slice.
-- Assumes nothing.
use Rattle.basis.proofs.Std.{ℕ, zero, suc, ◌+◌, ◌<◌, ◌≤◌, ◌≡◌, refl, subst, ap, ◌∙◌, Bool, true, false, List, [], ◌∷◌, eqb, length, get_or, drop, length-drop, arith, ne_eqb, eq-eqb, picked}
use Rattle.json_text.specs.Decoded.{Parsed}
use Rattle.json_text.specs.Decoded.Parsed.{ok, none}
use Rattle.json_text.specs.declared.Read.{Read}
use Rattle.json_text.specs.Ends.{Ends}
use Rattle.json_text.specs.Ends.Ends.{ends, fails}
use Rattle.json_value.specs.declared.Mark.{Mark}
use Rattle.json_value.specs.Grammar.{Json, Value}
use Rattle.json_value.specs.Reader.{skip_ws, read_name, unnamed, read_start, read_mark, Named, named, Entry, marked, after_value, after_start, read_entry, read_value}
use Rattle.json_value.specs.Answers.{Skipped, Marks, last_of}
use Rattle.json_value.specs.Answers.Marks.{closes, commas, neither}
use Rattle.json_character.proofs.Lists.{next, past}
use Rattle.json_text.proofs.Endings.{failed}
use Rattle.json_value.proofs.Places.{ended}
use Rattle.json_value.proofs.Sound as Sound
use Rattle.json_value.proofs.Complete as Complete
use Rattle.json_find.specs.Entries.{goes_on, next_entry, after_next, entries_from, entries, unless_closed, inside_at}

-- what follows is no longer, or shorter, than the text

abbrev NoLonger : {A : Type 0} → List ℕ → Parsed A → Type 0
NoLonger t (ok a r) = length r ≤ length t
NoLonger t none = Unit {0}

abbrev Shorter : {A : Type 0} → List ℕ → Parsed A → Type 0
Shorter t (ok a r) = length r < length t
Shorter t none = Unit {0}

skip_length : (t : List ℕ) → length (skip_ws t) ≤ length t
skip_length t = Complete.ws_length (Sound.ws t)

start_length : (close : ℕ) (t : List ℕ) → NoLonger t (read_start close t)
unfolding read_start
start_length close t = picked (NoLonger t) (eqb close 0x7d) _ _ (λ _. name (read_name (skip_ws t)) (Sound.name_sound t (skip_ws t) (Sound.ws t))) (λ _. plain (skip_ws t) (skip_length t))
  where
    name : (p : Parsed (List ℕ)) → Sound.NameIf t p → NoLonger t p
    name none h = tt
    name (ok d r) h = omega (arith, Complete.name_length h)

    plain : (u : List ℕ) → length u ≤ length t → NoLonger t (unnamed u)
    plain [] h = tt
    plain (b ∷ u) h = h

entry_length : (close l : ℕ) (t : List ℕ) → Shorter t (read_entry close (λ v. read_value l v) t)
unfolding read_entry
entry_length close l t = started (read_start close t) (start_length close t)
  where
    ended : (u v d : List ℕ) (j : Json) → length u ≤ length t → Value l u v j → (p : Parsed Bool) → Sound.MarkIf close v p → Shorter t (marked (named d j) p)
    ended u v d j a x none m = tt
    ended u v d j a x (ok b r) m = omega (arith, Complete.value_length x, Complete.ws_length m)

    valued : (u d : List ℕ) → length u ≤ length t → (p : Parsed Json) → Sound.ValueIf l u p → Shorter t (after_value close d p)
    valued u d a none x = tt
    valued u d a (ok j v) x = ended u v d j a x (read_mark close v) (Sound.mark_sound close v)

    started : (p : Parsed (List ℕ)) → NoLonger t p → Shorter t (after_start close (λ v. read_value l v) p)
    started none a = tt
    started (ok d u) a = valued u d a (read_value l u) (Sound.value l u)

next_length : (close : ℕ) (t : List ℕ) → Shorter t (next_entry close t)
unfolding next_entry
next_length close t = go (read_entry close (λ v. read_value 7 v) t) (entry_length close 7 t)
  where
    go : (p : Parsed Entry) → Shorter t p → Shorter t (goes_on p)
    go none h = tt
    go (ok e r) h = picked (Shorter t) e.last _ _ (λ _. tt) (λ _. h)

-- with more calls than bytes, more calls change nothing
enough : (close n m : ℕ) (t : List ℕ) → length t < n → length t < m → entries_from close n t ≡ entries_from close m t
unfolding entries_from
enough close zero m t h g = absurd (omega arith)
enough close (suc n) zero t h g = absurd (omega arith)
enough close (suc n) (suc m) t h g = go (λ u. enough close n m u) (next_entry close t) (next_length close t)
  where
    go : ((u : List ℕ) → length u < n → length u < m → entries_from close n u ≡ entries_from close m u) → (p : Parsed Named) → Shorter t p → t ∷ after_next (λ u. entries_from close n u) p ≡ t ∷ after_next (λ u. entries_from close m u) p
    go ih (ok x r) k = ap (λ (ts : List (List ℕ)). t ∷ ts) (ih r (omega arith) (omega arith))
    go ih none k = refl

pub unroll : (close : ℕ) (t : List ℕ) → entries close t ≡ t ∷ after_next (λ u. entries close u) (next_entry close t)
unfolding entries entries_from
unroll close t = go (next_entry close t) (next_length close t)
  where
    go : (p : Parsed Named) → Shorter t p → t ∷ after_next (λ u. entries_from close (length t) u) p ≡ t ∷ after_next (λ u. entries_from close (suc (length u)) u) p
    go (ok x r) k = ap (λ (ts : List (List ℕ)). t ∷ ts) (enough close (length t) (suc (length r)) r (omega arith) (omega arith))
    go none k = refl

-- the first entry

module _ (s : List ℕ) (i first close : ℕ) where
  pub inside_past : length s ≤ i → Ends s i (inside_at first close (drop i s)) Read.Bad
  unfolding inside_at
  inside_past h = rw (past s i h) fails

  module _ (h : i < length s) where
    pub inside_other : ¬ (get_or s i 0 ≡ first) → Ends s i (inside_at first close (drop i s)) Read.Bad
    unfolding inside_at
    inside_other e = rw (next s i h, ne_eqb _ _ e) fails

    module _ (o : get_or s i 0 ≡ first) (k : ℕ) (ws : Skipped s (i + 1) k) where
      opens : inside_at first close (drop i s) ≡ unless_closed close (drop (i + 1) s) (drop k s)
      unfolding inside_at
      opens = rw (next s i h, eq-eqb _ _ o, ws.rest)

      pub inside_short : length s ≤ k → Ends s i (inside_at first close (drop i s)) Read.Bad
      inside_short g = rw (opens, past s k g) fails

      pub inside_closed : k < length s → get_or s k 0 ≡ close → Ends s i (inside_at first close (drop i s)) Read.Bad
      inside_closed g e = rw (opens, next s k g, eq-eqb _ _ e) fails

      pub inside_here : k < length s → ¬ (get_or s k 0 ≡ close) → Ends s i (inside_at first close (drop i s)) (Read.End (i + 1))
      inside_here g e = rw (opens ∙ ap (unless_closed close (drop (i + 1) s)) (next s k g), ne_eqb _ _ e) (ends (i + 1) (omega arith) (omega arith))

pub ruleset inside_steps = (inside_past, inside_other, inside_short, inside_closed, inside_here)

-- the next entry

next_of : (p : Parsed Entry) (r : List ℕ) → last_of p ≡ ok false r → (x : Named) × (goes_on p ≡ ok x r)
next_of (ok e u) r h = let a : e.last ≡ false = cc in let b : u ≡ r = cc in (e.item, rw (a, b))
next_of none r h = let z : ◌≡◌ {A = ℕ} 0 1 = cc in absurd (omega arith)

none_after : (p : Parsed Entry) (r : List ℕ) → last_of p ≡ ok true r → goes_on p ≡ none
none_after (ok e u) r h = let a : e.last ≡ true = cc in rw a
none_after none r h = refl

none_at : (p : Parsed Entry) → last_of p ≡ none → goes_on p ≡ none
none_at (ok e u) h = let z : ◌≡◌ {A = ℕ} 0 1 = cc in absurd (omega arith)
none_at none h = refl

record Stands (s : List ℕ) (i e : ℕ) (p : Parsed Bool) (b : Bool) : Type 0 where
  reads : p ≡ ok b (drop e s)
  on : i < e
  inside : e ≤ length s

close_stands : {s : List ℕ} {i e : ℕ} {p : Parsed Bool} → Marks s i p (Mark.Close e) → Stands s i e p true
close_stands (closes e a b) = record { reads = refl; on = a; inside = b }

comma_stands : {s : List ℕ} {i e : ℕ} {p : Parsed Bool} → Marks s i p (Mark.Comma e) → Stands s i e p false
comma_stands (commas e a b) = record { reads = refl; on = a; inside = b }

neither_reads : {s : List ℕ} {i : ℕ} {p : Parsed Bool} → Marks s i p Mark.Neither → p ≡ none
neither_reads neither = refl

module _ (s : List ℕ) (i close : ℕ) where
  pub step_comma : (e : ℕ) → Marks s i (last_of (read_entry close (λ v. read_value 7 v) (drop i s))) (Mark.Comma e) → Ends s i (next_entry close (drop i s)) (Read.End e)
  unfolding next_entry
  step_comma e m =
      let c = comma_stands m in
      rw (next_of (read_entry close (λ v. read_value 7 v) (drop i s)) (drop e s) c.reads).1 (ends e (omega (arith, c.on)) c.inside)

  pub step_close : (e : ℕ) → Marks s i (last_of (read_entry close (λ v. read_value 7 v) (drop i s))) (Mark.Close e) → Ends s i (next_entry close (drop i s)) Read.Bad
  unfolding next_entry
  step_close e m = rw (none_after (read_entry close (λ v. read_value 7 v) (drop i s)) (drop e s) (close_stands m).reads) fails

  pub step_neither : Marks s i (last_of (read_entry close (λ v. read_value 7 v) (drop i s))) Mark.Neither → Ends s i (next_entry close (drop i s)) Read.Bad
  unfolding next_entry
  step_neither m = rw (none_at (read_entry close (λ v. read_value 7 v) (drop i s)) (neither_reads m)) fails

  -- entries from a place on, by what `step` answers there
  pub ends_here : Ends s i (next_entry close (drop i s)) Read.Bad → entries close (drop i s) ≡ drop i s ∷ []
  ends_here x = unroll close (drop i s) ∙ ap (λ (p : Parsed Named). drop i s ∷ after_next (λ u. entries close u) p) (failed x)

  pub goes_on_lem : (e : ℕ) → Ends s i (next_entry close (drop i s)) (Read.End e) → entries close (drop i s) ≡ drop i s ∷ entries close (drop e s)
  goes_on_lem e x = unroll close (drop i s) ∙ ap (λ (p : Parsed Named). drop i s ∷ after_next (λ u. entries close u) p) (ended x).reads

  pub step_on : (e : ℕ) → Ends s i (next_entry close (drop i s)) (Read.End e) → i < e
  step_on e x =
      let h : length (drop e s) < length (drop i s) = subst (Shorter (drop i s)) (ended x).reads (next_length close (drop i s)) in
      omega (arith, length-drop e s, length-drop i s, (ended x).on, (ended x).inside)

  pub step_in : (e : ℕ) → Ends s i (next_entry close (drop i s)) (Read.End e) → e ≤ length s
  step_in e x = (ended x).inside

pub ruleset step_steps = (step_comma, step_close, step_neither)
