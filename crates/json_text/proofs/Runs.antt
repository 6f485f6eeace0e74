-- Plain characters are passed over one by one.
-- Assumes nothing.
use Rattle.basis.proofs.Std.{ℕ, zero, suc, ◌+◌, ◌<◌, ◌≤◌, ◌≡◌, refl, sym, Bool, true, false, List, arith, add-zero, ⊎_elim, bool_cases, picked, lt_or_ge, untrue, ltb, leb, leb-false, length, get_or, drop, take, ap, ◌∙◌}
use Rattle.json_character.specs.Char.{is_plain, char_of}
use Rattle.json_character.proofs.Lists.{next, past}
use Rattle.json_character.proofs.Laws.{at_plain, at_close}
use Rattle.json_text.specs.declared.Read.{Read}
use Rattle.json_text.specs.Decoded.{push, decoded}
use Rattle.json_text.specs.Decoded.Parsed.{ok}
use Rattle.json_text.specs.Ends.{Ends}
use Rattle.json_text.specs.Ends.Ends.{ends, fails}
use Rattle.json_character.specs.declared.Char.TheVariants.{One, Close, Bad}
use Rattle.json_text.specs.Run.{run}
use Rattle.json_text.proofs.Texts.{one, one_in, close, close_in, no_char, pushed}

pub plain_ascii : (b : ℕ) → is_plain b ≡ true → b < 128
unfolding is_plain
plain_ascii b = picked P (ltb b 0x20) _ _ (λ _ f. untrue f) λ _. picked P (leb 0x80 b) _ _ (λ _ f. untrue f) λ g _. leb-false _ _ g
  where
    P : Bool → Type 0
    P q = q ≡ true → b < 128

module _ (s : List ℕ) (i : ℕ) where
  pub run_past : length s ≤ i → run (drop i s) ≡ 0
  unfolding run
  run_past h = rw (past s i h)

  pub run_stop : i < length s → is_plain (get_or s i 0) ≡ false → run (drop i s) ≡ 0
  unfolding run
  run_stop h e = rw (next s i h, e)

  pub run_on : i < length s → is_plain (get_or s i 0) ≡ true → run (drop i s) ≡ suc (run (drop (i + 1) s))
  unfolding run
  run_on h e = rw (next s i h, e)

  passed : is_plain (get_or s i 0) ≡ true → (r : Read) → Ends s (i + 1) (decoded (drop (i + 1) s)) r → Ends s i (decoded (drop i s)) r
  passed p r x = rw (one s i (get_or s i 0) 0 (sym (at_plain s i p))) (pushed (get_or s i 0) step x)
    where
      step : i ≤ i + 1
      step = omega arith

pub ruleset runs = (run_past, run_stop, run_on)

-- whatever answers after the run answers before it
pub run_ends : (s : List ℕ) (n i : ℕ) → run (drop i s) ≡ n → (r : Read) → Ends s (i + n) (decoded (drop (i + n) s)) r → Ends s i (decoded (drop i s)) r
run_ends s zero i e r x = rw (add-zero i) at x
run_ends s (suc n) i e r x = ⊎_elim (λ h. bool_cases (is_plain (get_or s i 0)) (on (run_ends s n (i + 1)) h) (stop h)) beyond (lt_or_ge i (length s))
  where
    shift : i + suc n ≡ i + 1 + n
    shift = omega arith

    on : (run (drop (i + 1) s) ≡ n → (q : Read) → Ends s (i + 1 + n) (decoded (drop (i + 1 + n) s)) q → Ends s (i + 1) (decoded (drop (i + 1) s)) q) → i < length s → is_plain (get_or s i 0) ≡ true → Ends s i (decoded (drop i s)) r
    on ih h p = passed s i p r (ih (omega (arith, run_on s i h p)) r (rw shift at x))

    stop : i < length s → is_plain (get_or s i 0) ≡ false → Ends s i (decoded (drop i s)) r
    stop h p = absurd (omega (arith, run_stop s i h p))

    beyond : length s ≤ i → Ends s i (decoded (drop i s)) r
    beyond h = absurd (omega (arith, run_past s i h))

module _ (s : List ℕ) (i : ℕ) where
  run_first : (n : ℕ) → n < run (drop i s) → (i < length s) × (is_plain (get_or s i 0) ≡ true)
  run_first n h = ⊎_elim (λ g. bool_cases (is_plain (get_or s i 0)) (λ p. (g, p)) (λ p. absurd (omega (arith, run_stop s i g p)))) (λ g. absurd (omega (arith, run_past s i g))) (lt_or_ge i (length s))

-- a run and a quotation mark after it are a string, whose code points are the bytes of the run
pub run_decoded : (s : List ℕ) (n i : ℕ) → run (drop i s) ≡ n → get_or s (i + n) 0 ≡ 0x22 → decoded (drop i s) ≡ ok (take n (drop i s)) (drop (i + n + 1) s)
run_decoded s zero i e q = rw (add-zero i) (close s i (sym (at_close s i (rw (add-zero i) at q))))
run_decoded s (suc n) i e q =
    let f = run_first s i n (omega arith) in
    let shift : i + suc n ≡ i + 1 + n = omega arith in
    let c = get_or s i 0 in
    let rest = run_decoded s n (i + 1) (omega (arith, run_on s i f.0 f.1)) (rw shift at q) in
    one s i c 0 (sym (at_plain s i f.1)) ∙ ap (push c) rest ∙ rw (shift, next s i f.0)

-- k is the place after the run at i
module _ (s : List ℕ) (i k : ℕ) (p : k ≡ i + run (drop i s)) where
  pub run_to : (r : Read) → Ends s k (decoded (drop k s)) r → Ends s i (decoded (drop i s)) r
  run_to r x = run_ends s (run (drop i s)) i refl r (rw p at x)

  pub run_one : (c w : ℕ) → One c w ≡ char_of (drop k s) → (r : Read) → Ends s (k + (1 + w)) (decoded (drop (k + (1 + w)) s)) r → Ends s i (decoded (drop i s)) r
  run_one c w e r x = run_to r (rw (one s k c w e) (pushed c (omega arith) x))

  pub run_last : Close ≡ char_of (drop k s) → Ends s i (decoded (drop i s)) (Read.End (k + 1))
  run_last e = run_to (Read.End (k + 1)) (rw (close s k e) (ends (k + 1) (omega arith) (omega (arith, close_in s k e))))

  pub run_bad : Bad ≡ char_of (drop k s) → Ends s i (decoded (drop i s)) Read.Bad
  run_bad e = run_to Read.Bad (rw (no_char s k e) fails)

  module _ (q : get_or s k 0 ≡ 0x22) where
    pub quote_in : k < length s
    quote_in = close_in s k (sym (at_close s k q))

    pub run_close : Ends s i (decoded (drop i s)) (Read.End (k + 1))
    run_close = run_last (sym (at_close s k q))

pub ruleset char_steps = (one_in, close_in, quote_in, run_one, run_last, run_bad, run_close)
