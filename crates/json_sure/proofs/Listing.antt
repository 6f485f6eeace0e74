-- The places of an object's entries, one entry after the other.
-- Assumes nothing.
use Rattle.basis.proofs.Std.{ℕ, suc, ◌+◌, ◌<◌, ◌≤◌, ◌≡◌, refl, sym, ap, ◌∙◌, Bool, true, false, List, [], ◌∷◌, ◌++◌, ltb, length, get_or, take, drop, set, take-suc-set, add-one, arith, eq-eqb, ne_eqb, ltb-false, pick}
use Rattle.json_character.proofs.Lists.{next}
use Rattle.json_value.specs.declared.Mark.TheVariants as Mark
use Rattle.json_value.specs.Reader.{skip_ws, read_name, read_start, after_start, read_entry, read_value}
use Rattle.json_value.specs.Answers.{Skipped, Marks, last_of}
use Rattle.json_value.proofs.Complete.{skip_twice}
use Rattle.json_find.specs.Kinds.{string_at}
use Rattle.json_find.specs.Entries.{goes_on, next_entry, after_next, entries, first_named}
use Rattle.json_find.specs.Index.{texts_at}
use Rattle.json_find.proofs.Walks.{unroll, step_comma, step_close, goes_on_lem, ends_here}
use Rattle.json_sure.specs.declared.Listed.TheVariants as Listed
use Rattle.json_sure.specs.Lists.{Placed, all_or_none, entries_in, Finds}

pub eight : ¬ (◌≡◌ {A = ℕ} 8 0)
eight h = omega arith

pub place_noted : (places : List ℕ) (n at : ℕ) → n < length places → Placed places n at (set places n at)
place_noted places n at h = record { stands = λ _. ap (λ (k : ℕ). take k (set places n at)) (add-one n) ∙ take-suc-set places n at h }

pub no_room : (places : List ℕ) (n at : ℕ) → length places ≤ n → Placed places n at places
no_room places n at h = record { stands = λ g. absurd (omega arith) }

-- a name is found among an entry and those that follow it, whether or not white space stands before it
same_found : (name t u : List ℕ) → skip_ws t ≡ skip_ws u → first_named name (entries 0x7d t) ≡ first_named name (entries 0x7d u)
unfolding next_entry read_entry read_start
same_found name t u h =
    ap (first_named name) (unroll 0x7d t)
    ∙ ap (λ (w : List ℕ). pick (string_at name w) (read_name w) (first_named name (after_next (λ v. entries 0x7d v) (goes_on (after_start 0x7d (λ v. read_value 7 v) (read_name w)))))) h
    ∙ sym (ap (first_named name) (unroll 0x7d u))

texts_join : (s ps : List ℕ) (p : ℕ) (ts : List (List ℕ)) → texts_at s (ps ++ (p ∷ [])) ++ ts ≡ texts_at s ps ++ (drop p s ∷ ts)
texts_join s [] p ts = refl
texts_join s (q ∷ ps) p ts = ap (λ (us : List (List ℕ)). drop q s ∷ us) (texts_join s ps p ts)

texts_last : (s ps : List ℕ) (p : ℕ) → texts_at s (ps ++ (p ∷ [])) ≡ texts_at s ps ++ (drop p s ∷ [])
texts_last s [] p = refl
texts_last s (q ∷ ps) p = ap (λ (us : List (List ℕ)). drop q s ∷ us) (texts_last s ps p)

-- the first n places, and the entries from i on, have what the object has
abbrev pub FoundFrom : List ℕ → ℕ → List ℕ → ℕ → ℕ → Type 0
FoundFrom s at places n i = n ≤ length places → (name : List ℕ) → first_named name (texts_at s (take n places) ++ entries 0x7d (drop i s)) ≡ first_named name (entries_in (drop at s))

abbrev pub FoundIn : List ℕ → ℕ → List ℕ → ℕ → Type 0
FoundIn s at places n = n ≤ length places → (name : List ℕ) → first_named name (texts_at s (take n places)) ≡ first_named name (entries_in (drop at s))

module _ (s : List ℕ) (at i : ℕ) where
  pub found_first : Skipped s at i → i < length s → ¬ (get_or s i 0 ≡ 0x7d) → (places : List ℕ) → FoundFrom s at places 0 i
  found_first ws h e places _ name = same_found name (drop i s) (drop at s) (ap skip_ws (sym ws.rest) ∙ skip_twice (drop at s)) ∙ sym (ap (first_named name) opens)
    where
      opens : entries_in (drop at s) ≡ entries 0x7d (drop at s)
      opens = rw (ws.rest, next s i h, ne_eqb _ _ e)

  module _ (places after : List ℕ) (n : ℕ) (same : length after ≡ length places) (p : Placed places n i after) (x : FoundFrom s at places n i) (e : ℕ) where
    pub found_next : Marks s i (last_of (read_entry 0x7d (λ v. read_value 7 v) (drop i s))) (Mark.Comma e) → FoundFrom s at after (n + 1) e
    found_next m h name =
        ap (λ (ps : List ℕ). first_named name (texts_at s ps ++ entries 0x7d (drop e s))) (p.stands (omega arith))
        ∙ ap (first_named name) (texts_join s (take n places) i (entries 0x7d (drop e s)) ∙ ap (λ (ts : List (List ℕ)). texts_at s (take n places) ++ ts) (sym (goes_on_lem s i 0x7d e (step_comma s i 0x7d e m))))
        ∙ x (omega arith) name

    pub found_last : Marks s i (last_of (read_entry 0x7d (λ v. read_value 7 v) (drop i s))) (Mark.Close e) → FoundIn s at after (n + 1)
    found_last m h name =
        ap (λ (ps : List ℕ). first_named name (texts_at s ps)) (p.stands (omega arith))
        ∙ ap (first_named name) (texts_last s (take n places) i ∙ ap (λ (ts : List (List ℕ)). texts_at s (take n places) ++ ts) (sym (ends_here s i 0x7d (step_close s i 0x7d e m))))
        ∙ x (omega arith) name

-- ---- how many there are
same_count : (t u : List ℕ) → skip_ws t ≡ skip_ws u → length (entries 0x7d t) ≡ length (entries 0x7d u)
unfolding next_entry read_entry read_start
same_count t u h =
    ap length (unroll 0x7d t)
    ∙ ap (λ (w : List ℕ). suc (length (after_next (λ v. entries 0x7d v) (goes_on (after_start 0x7d (λ v. read_value 7 v) (read_name w)))))) h
    ∙ sym (ap length (unroll 0x7d u))

-- the first n, and those from i on, are as many as the object has
abbrev pub CountFrom : List ℕ → ℕ → ℕ → ℕ → Type 0
CountFrom s at n i = n + length (entries 0x7d (drop i s)) ≡ length (entries_in (drop at s))

module _ (s : List ℕ) (at i : ℕ) where
  pub count_first : Skipped s at i → i < length s → ¬ (get_or s i 0 ≡ 0x7d) → CountFrom s at 0 i
  count_first ws h e = omega (arith, same_count (drop i s) (drop at s) (ap skip_ws (sym ws.rest) ∙ skip_twice (drop at s)), ap length opens)
    where
      opens : entries_in (drop at s) ≡ entries 0x7d (drop at s)
      opens = rw (ws.rest, next s i h, ne_eqb _ _ e)

  module _ (n : ℕ) (x : CountFrom s at n i) (e : ℕ) where
    pub count_next : Marks s i (last_of (read_entry 0x7d (λ v. read_value 7 v) (drop i s))) (Mark.Comma e) → CountFrom s at (n + 1) e
    count_next m = omega (arith, x, ap length (goes_on_lem s i 0x7d e (step_comma s i 0x7d e m)))

    pub count_last : Marks s i (last_of (read_entry 0x7d (λ v. read_value 7 v) (drop i s))) (Mark.Close e) → n + 1 ≡ length (entries_in (drop at s))
    count_last m = omega (arith, x, ap length (ends_here s i 0x7d (step_close s i 0x7d e m)))

  -- a closing brace at once
  pub count_none : Skipped s at i → i < length s → get_or s i 0 ≡ 0x7d → length (entries_in (drop at s)) ≡ 0
  count_none ws h e = rw (ws.rest, next s i h, eq-eqb _ _ e)

-- ---- what is left
pub finds_bad : (s : List ℕ) (at : ℕ) (places : List ℕ) → Finds s at places Listed.Bad
finds_bad s at places = record { within = omega arith; finds = λ h. absurd (h refl); all = λ e q n h. absurd (let z : ◌≡◌ {A = ℕ} 0 1 = cc in omega arith) }

none_or_none : (b : Bool) → pick {A = ℕ} b 0 0 ≡ 0
none_or_none true = refl
none_or_none false = refl

module _ (s : List ℕ) (at : ℕ) (places : List ℕ) (e : ℕ) (q : Bool) where
  pub finds_empty : length (entries_in (drop at s)) ≡ 0 → Finds s at places (Listed.End e q 0)
  finds_empty x =
      record {
        within = omega arith;
        finds = λ h. absurd (h refl);
        all = λ f p n h. let same : 0 ≡ n = cc in sym same ∙ sym (rw x (none_or_none (ltb (length places) 0)));
      }

  pub finds_all : (n : ℕ) → FoundIn s at places n → n ≡ length (entries_in (drop at s)) → (r : ℕ) → r ≡ all_or_none n (length places) → Finds s at places (Listed.End e q r)
  finds_all n x count r is = go (ltb (length places) n) refl
    where
      counted : (f : ℕ) (p : Bool) (k : ℕ) → Listed.End e q r ≡ Listed.End f p k → k ≡ all_or_none (length (entries_in (drop at s))) (length places)
      counted f p k h = let same : r ≡ k = cc in sym same ∙ is ∙ ap (λ (z : ℕ). all_or_none z (length places)) count

      go : (b : Bool) → ltb (length places) n ≡ b → Finds s at places (Listed.End e q r)
      go true h =
          let zero-noted : r ≡ 0 = is ∙ ap (λ (b : Bool). pick b 0 n) h in
          record { within = omega (arith, zero-noted); finds = λ g. absurd (g zero-noted); all = counted }
      go false h =
          let all_noted : r ≡ n = is ∙ ap (λ (b : Bool). pick b 0 n) h in
          record { within = omega (arith, all_noted, ltb-false (length places) n h); finds = λ g. rw all_noted (x (ltb-false (length places) n h)); all = counted }

pub ruleset place_steps = (place_noted, no_room)
