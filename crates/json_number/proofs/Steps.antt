-- One turn of the machine at a place of a slice, and how an answer for the rest is an answer for the whole.
-- Assumes nothing.
use Rattle.basis.proofs.Std.{ℕ, ◌+◌, ◌<◌, ◌≤◌, ◌≡◌, sym, subst, true, false, List, ◌∷◌, length, get_or, drop, arith, both}
use Rattle.json_character.proofs.Lists.{next, past}
use Rattle.json_text.specs.declared.Read.{Read}
use Rattle.json_text.specs.Ends.{Ends}
use Rattle.json_text.specs.Ends.Ends.{ends, fails}
use Rattle.json_text.proofs.Texts.{pushed}
use Rattle.json_number.specs.declared.At.{At}
use Rattle.json_number.specs.declared.At.TheVariants.{Start}
use Rattle.json_number.specs.Machine.{turn_of, is_stop, final_of, apart, stop_at, read_num, read_number}

pub start_past : (s : List ℕ) (at : ℕ) → length s ≤ at → Ends s at (read_number (drop at s)) Read.Bad
unfolding read_number read_num
start_past s at h = rw (past s at h) fails

pub starts : (s : List ℕ) (at : ℕ) (r : Read) → Ends s at (read_num Start (drop at s)) r → Ends s at (read_number (drop at s)) r
unfolding read_number
starts s at r x = x

module _ (s : List ℕ) (q : At) (i : ℕ) where
  -- the machine stops at the byte at i
  module _ (h : i < length s) (e : is_stop (turn_of q (get_or s i 0)) ≡ true) where
    stopped : read_num q (drop i s) ≡ stop_at (both (final_of q) (apart (get_or s i 0))) (get_or s i 0 ∷ drop (i + 1) s)
    unfolding read_num
    stopped = rw (next s i h, e)

    pub stop_here : final_of q ≡ true → apart (get_or s i 0) ≡ true → Ends s i (read_num q (drop i s)) (Read.End i)
    stop_here f a = rw (stopped, f, a, ← next s i h) (ends i (omega arith) (omega arith))

    pub stop_early : final_of q ≡ false → Ends s i (read_num q (drop i s)) Read.Bad
    stop_early f = rw (stopped, f) fails

    pub stop_joined : final_of q ≡ true → apart (get_or s i 0) ≡ false → Ends s i (read_num q (drop i s)) Read.Bad
    stop_joined f a = rw (stopped, f, a) fails

  pub goes_on_lem : (p : At) → i < length s → p ≡ turn_of q (get_or s i 0) → is_stop p ≡ false → (r : Read) → Ends s (i + 1) (read_num p (drop (i + 1) s)) r → Ends s i (read_num q (drop i s)) r
  unfolding read_num
  goes_on_lem p h e f r x = rw (next s i h, ← e, f) (pushed (get_or s i 0) (omega arith) x)

  pub end_here : i ≤ length s → length s ≤ i → final_of q ≡ true → Ends s i (read_num q (drop i s)) (Read.End (length s))
  unfolding read_num
  end_here g h f =
      let last : length s ≡ i = omega arith in
      rw last (subst (λ (u : List ℕ). Ends s i (read_num q u) (Read.End i)) (sym (past s i h)) (rw (f, ← past s i h) (ends i (omega arith) g)))

  pub end_early : length s ≤ i → final_of q ≡ false → Ends s i (read_num q (drop i s)) Read.Bad
  unfolding read_num
  end_early h f = rw (past s i h, f) fails

pub ruleset number_steps = (start_past, starts, stop_here, stop_early, stop_joined, goes_on_lem, end_here, end_early)
