-- A list from a place on.
-- Assumes nothing.
use Rattle.basis.proofs.Std.{ℕ, ◌+◌, ◌<◌, ◌≤◌, ◌≡◌, List, [], ◌∷◌, add-one, length, get_or, drop, drop_of_length-le, drop-cons}

pub next : (s : List ℕ) (i : ℕ) → i < length s → drop i s ≡ get_or s i 0 ∷ drop (i + 1) s
next s i h = rw (add-one, drop-cons s i 0)

pub past : (s : List ℕ) (i : ℕ) → length s ≤ i → drop i s ≡ []
past s i h = drop_of_length-le s h
