-- The rest of a word, which a text begins with or not.
-- Assumes nothing.
use Rattle.basis.proofs.Std.{ℕ, ◌+◌, ◌-◌, ◌≤◌, ◌≡◌, refl, sym, ⊎_elim, true, false, List, [], ◌∷◌, eqb, eq-eqb, ne_eqb, eq_or_ne, length, length-drop, drop, drop-drop, take, take_all, arith, pick, untrue, bool_cases}
use Rattle.std.specs.List.{starts_with}
use Rattle.json_text.specs.Decoded.Parsed.{ok, none}
use Rattle.json_text.specs.declared.Read.TheVariants as Read
use Rattle.json_text.specs.Ends.{Ends}
use Rattle.json_text.specs.Ends.Ends.{ends, fails}
use Rattle.json_value.specs.Grammar.{Json}
use Rattle.json_value.specs.Reader.{literal}

read_word : (j : Json) (w t : List ℕ) → literal j w t ≡ pick (starts_with eqb t w) (ok j (drop (length w) t)) none
unfolding literal
read_word j [] t = refl
read_word j (c ∷ w) [] = refl
read_word j (c ∷ w) (b ∷ t) = ⊎_elim (λ e. rw (eq-eqb b c e, eq-eqb c b (sym e)) (read_word j w t)) (λ n. rw (ne_eqb b c n, ne_eqb c b (λ e. n (sym e)))) (eq_or_ne b c)

in_text : (w t : List ℕ) → starts_with eqb t w ≡ true → length w ≤ length t
in_text [] t e = omega arith
in_text (c ∷ w) [] e = untrue e
in_text (c ∷ w) (b ∷ t) e = bool_cases (eqb c b) (λ p. let h : length w ≤ length t = in_text w t (rw p at e) in omega arith) (λ p. untrue (rw p at e))

module _ (s w : List ℕ) (at : ℕ) (h : at ≤ length s) (j : Json) where
  whole : take (length s - at) (drop at s) ≡ drop at s
  whole = take_all (length s - at) (drop at s) (omega (arith, length-drop at s))

  pub word_end : starts_with eqb (take (length s - at) (drop at s)) w ≡ true → Ends s at (literal j w (drop at s)) (Read.End (at + length w))
  word_end e =
      let f = rw whole at e in
      rw (read_word j w (drop at s), f, drop-drop) (ends (at + length w) (omega arith) (omega (arith, in_text w (drop at s) f, length-drop at s)))

  pub word_other : starts_with eqb (take (length s - at) (drop at s)) w ≡ false → Ends s at (literal j w (drop at s)) Read.Bad
  word_other e = rw (read_word j w (drop at s), rw whole at e) fails

pub ruleset word_steps = (word_end, word_other)
