-- The scan for names with no count of calls in it, and at a place of a slice.
-- Assumes nothing.
use Rattle.basis.proofs.Std.{ℕ, zero, suc, ◌+◌, ◌<◌, ◌≤◌, ◌≡◌, refl, sym, subst, ap, ◌∙◌, true, false, List, [], ◌∷◌, eqb, length, get_or, drop, length-drop, arith, ne_eqb, ⊎_elim, lt_or_ge, pick, picked}
use Rattle.json_text.specs.Decoded.{Parsed, decoded, same_text}
use Rattle.json_text.specs.Decoded.Parsed.{ok, none}
use Rattle.json_text.specs.declared.Read.{Read}
use Rattle.json_text.specs.Ends.{Ends}
use Rattle.json_text.specs.Ends.Ends.{ends, fails}
use Rattle.json_text.proofs.Meaning as Strings
use Rattle.json_value.specs.Answers.{Skipped}
use Rattle.json_character.proofs.Lists.{next, past}
use Rattle.json_text.proofs.Endings.{failed}
use Rattle.json_value.proofs.Places.{from, ended}
use Rattle.json_value.proofs.Shorter as Shorter
use Rattle.json_find.specs.Entries.{next_entry, entries}
use Rattle.json_find.proofs.Walks.{unroll, ends_here, goes_on_lem, step_on, step_in}
use Rattle.json_packet.specs.Scan.{same_string, any_same, later, again, read_token, after_token, scan_from, scan}

-- strings

module _ (s : List ℕ) (x : Parsed (List ℕ)) (i : ℕ) where
  pub same_other : ¬ (get_or s i 0 ≡ 0x22) → false ≡ same_string x (drop i s)
  unfolding same_string
  same_other e = ⊎_elim (λ h. rw (next s i h, ne_eqb _ _ e)) (λ h. rw (past s i h)) (lt_or_ge i (length s))

  pub same_here : i < length s → get_or s i 0 ≡ 0x22 → same_text x (decoded (drop (i + 1) s)) ≡ same_string x (drop i s)
  unfolding same_string
  same_here h e = rw (next s i h, e)

-- the entries after the one at i

module _ (s : List ℕ) (x : Parsed (List ℕ)) (i : ℕ) where
  pub again_none : Ends s i (next_entry 0x7d (drop i s)) Read.Bad → false ≡ any_same x (later (entries 0x7d (drop i s)))
  again_none y = rw (ends_here s i 0x7d y)

  module _ (e : ℕ) (y : Ends s i (next_entry 0x7d (drop i s)) (Read.End e)) (k : ℕ) (ws : Skipped s e k) where
    after : any_same x (later (entries 0x7d (drop i s))) ≡ pick (same_string x (drop k s)) true (any_same x (later (entries 0x7d (drop e s))))
    after =
        ap (λ (ts : List (List ℕ)). any_same x (later ts)) (goes_on_lem s i 0x7d e y)
        ∙ ap (any_same x) (heads e)
        ∙ ap (λ (u : List ℕ). pick (same_string x u) true (any_same x (later (entries 0x7d (drop e s))))) ws.rest
      where
        heads : (e : ℕ) → entries 0x7d (drop e s) ≡ drop e s ∷ later (entries 0x7d (drop e s))
        heads e = unroll 0x7d (drop e s) ∙ ap (λ (ts : List (List ℕ)). drop e s ∷ later ts) (sym (unroll 0x7d (drop e s)))

    pub again_here : true ≡ same_string x (drop k s) → true ≡ any_same x (later (entries 0x7d (drop i s)))
    again_here q = sym (after ∙ rw (← q))

    pub again_next : false ≡ same_string x (drop k s) → any_same x (later (entries 0x7d (drop i s))) ≡ any_same x (later (entries 0x7d (drop e s)))
    again_next q = after ∙ rw (← q)

pub again_is : (u t : List ℕ) → again u t ≡ any_same (decoded u) (later (entries 0x7d t))
unfolding again
again_is u t = refl

-- tokens

string_token : (t u : List ℕ) → u ≡ 0x22 ∷ t → read_token u ≡ pick (again t u) none (decoded t)
unfolding read_token
string_token t u e = rw e

module _ (s : List ℕ) (i : ℕ) (h : i < length s) where
  pub token_byte : ¬ (get_or s i 0 ≡ 0x22) → Ends s i (read_token (drop i s)) (Read.End (i + 1))
  unfolding read_token
  token_byte e = rw (next s i h, ne_eqb _ _ e) (ends (i + 1) (omega arith) (omega arith))

  pub token_again : get_or s i 0 ≡ 0x22 → true ≡ again (drop (i + 1) s) (drop i s) → Ends s i (read_token (drop i s)) Read.Bad
  token_again e q = rw (string_token (drop (i + 1) s) (drop i s) (next s i h ∙ ap (λ (b : ℕ). b ∷ drop (i + 1) s) e), ← q) fails

  pub token_string : get_or s i 0 ≡ 0x22 → false ≡ again (drop (i + 1) s) (drop i s) → (r : Read) → Ends s (i + 1) (decoded (drop (i + 1) s)) r → Ends s i (read_token (drop i s)) r
  token_string e q r x = rw (string_token (drop (i + 1) s) (drop i s) (next s i h ∙ ap (λ (b : ℕ). b ∷ drop (i + 1) s) e), ← q) (from (omega arith) x)

abbrev Less : List ℕ → Parsed (List ℕ) → Type 0
Less t (ok d r) = length r < length t
Less t none = Unit {0}

token_length : (t : List ℕ) → Less t (read_token t)
unfolding read_token
token_length [] = tt
token_length (b ∷ t) =
    picked (Less (b ∷ t)) (eqb b 0x22) _ _ (λ _. picked (Less (b ∷ t)) (again t (b ∷ t)) _ _ (λ _. tt) (λ _. string (decoded t) refl)) (λ _. omega arith)
  where
    string : (p : Parsed (List ℕ)) → decoded t ≡ p → Less (b ∷ t) p
    string none e = tt
    string (ok d r) e = omega (arith, Shorter.chars (Strings.sound t r d e))

enough : (n m : ℕ) (t : List ℕ) → length t ≤ n → length t ≤ m → scan_from n t ≡ scan_from m t
unfolding scan_from
enough zero zero t h g = refl
enough zero (suc m) [] h g = refl
enough zero (suc m) (b ∷ t) h g = absurd (omega arith)
enough (suc n) zero [] h g = refl
enough (suc n) zero (b ∷ t) h g = absurd (omega arith)
enough (suc n) (suc m) [] h g = refl
enough (suc n) (suc m) (b ∷ t) h g = go (λ u. enough n m u) (read_token (b ∷ t)) (token_length (b ∷ t))
  where
    go : ((u : List ℕ) → length u ≤ n → length u ≤ m → scan_from n u ≡ scan_from m u) → (p : Parsed (List ℕ)) → Less (b ∷ t) p → after_token (λ u. scan_from n u) p ≡ after_token (λ u. scan_from m u) p
    go ih (ok d r) k = ih r (omega arith) (omega arith)
    go ih none k = refl

pub scan_cons : (b : ℕ) (t : List ℕ) → scan (b ∷ t) ≡ after_token (λ u. scan u) (read_token (b ∷ t))
unfolding scan scan_from
scan_cons b t = go (read_token (b ∷ t)) (token_length (b ∷ t))
  where
    go : (p : Parsed (List ℕ)) → Less (b ∷ t) p → after_token (λ u. scan_from (length t) u) p ≡ after_token (λ u. scan_from (length u) u) p
    go (ok d r) k = enough (length t) (length r) r (omega arith) (omega arith)
    go none k = refl

pub scan_nil : scan [] ≡ true
unfolding scan scan_from
scan_nil = refl

module _ (s : List ℕ) (i : ℕ) (h : i < length s) where
  unrolled : scan (drop i s) ≡ after_token (λ u. scan u) (read_token (drop i s))
  unrolled = go (drop i s) (next s i h)
    where
      go : (t : List ℕ) → t ≡ get_or s i 0 ∷ drop (i + 1) s → scan t ≡ after_token (λ u. scan u) (read_token t)
      go t e = rw e (scan_cons (get_or s i 0) (drop (i + 1) s))

  pub scan_bad : Ends s i (read_token (drop i s)) Read.Bad → scan (drop i s) ≡ false
  scan_bad x = unrolled ∙ ap (after_token (λ u. scan u)) (failed x)

  pub scan_on : (e : ℕ) → Ends s i (read_token (drop i s)) (Read.End e) → scan (drop i s) ≡ scan (drop e s)
  scan_on e x = unrolled ∙ ap (after_token (λ u. scan u)) (ended x).reads

  pub token_on : (e : ℕ) → Ends s i (read_token (drop i s)) (Read.End e) → i < e
  token_on e x =
      let g : length (drop e s) < length (drop i s) = subst (Less (drop i s)) (ended x).reads (token_length (drop i s)) in
      omega (arith, length-drop e s, length-drop i s, (ended x).on, (ended x).inside)

  pub token_in : (e : ℕ) → Ends s i (read_token (drop i s)) (Read.End e) → e ≤ length s
  token_in e x = (ended x).inside

pub scan_past : (s : List ℕ) (i : ℕ) → length s ≤ i → scan (drop i s) ≡ true
scan_past s i h = ap scan (past s i h) ∙ scan_nil

pub ruleset same_steps = (same_other, same_here)

pub ruleset again_steps = (again_is, again_none, again_here, again_next, step_on, step_in)

pub ruleset token_steps = (token_byte, token_again, token_string)

pub ruleset scan_steps = (scan_bad, scan_on, scan_past, token_on, token_in)
