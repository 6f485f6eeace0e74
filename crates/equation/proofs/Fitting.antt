-- What was lent fits, or it does not.
-- Assumes nothing.
use Rattle.basis.proofs.Std.{ℕ, zero, suc, ◌<◌, ◌≡◌, refl, List, ◌⊎◌, inl, inr, arith, length, eq_or_ne}
use Rattle.store_site.specs.Layout.{pool_words, site_words}
use Rattle.store_table.specs.Layout.{table_bytes}
use Rattle.sitec.specs.Lent.{Words, WordsAndTable, WithCommands}
use Rattle.equation.specs.Equation.{WordsFit, Fits}

pub above : (n : ℕ) → (n ≡ 0 → ⊥) → 0 < n
above zero h = absurd (h refl)
above (suc n) h = omega arith

abbrev pub Either : Type 0 → Type 0
Either F = F ⊎ (F → ⊥)

either_both : {A B : Type 0} → Either A → Either B → Either (A × B)
either_both (inl a) (inl b) = inl (a, b)
either_both (inl a) (inr b) = inr (λ z. b z.1)
either_both (inr a) b = inr (λ z. a z.0)

either_three : {A B C : Type 0} → Either A → Either B → Either C → Either (A × B × C)
either_three (inl a) (inl b) (inl c) = inl (a, b, c)
either_three (inl a) (inl b) (inr c) = inr (λ z. c z.2)
either_three (inl a) (inr b) c = inr (λ z. b z.1)
either_three (inr a) b c = inr (λ z. a z.0)

either_four : {A B C D : Type 0} → Either A → Either B → Either C → Either D → Either (A × B × C × D)
either_four (inl a) (inl b) (inl c) (inl d) = inl (a, b, c, d)
either_four (inl a) (inl b) (inl c) (inr d) = inr (λ z. d z.3)
either_four (inl a) (inl b) (inr c) d = inr (λ z. c z.2)
either_four (inl a) (inr b) c d = inr (λ z. b z.1)
either_four (inr a) b c d = inr (λ z. a z.0)

pub fits_words : (ps ws : List ℕ) → Either (Words ps ws)
fits_words ps ws = either_both (eq_or_ne (length ps) pool_words) (eq_or_ne (length ws) site_words)

pub fits_with_table : (ps ws ts : List ℕ) → Either (WordsAndTable ps ws ts)
fits_with_table ps ws ts = either_three (eq_or_ne (length ps) pool_words) (eq_or_ne (length ws) site_words) (eq_or_ne (length ts) table_bytes)

pub fits_with_commands : (ps ws ts cs : List ℕ) → Either (WithCommands ps ws ts cs)
fits_with_commands ps ws ts cs = either_four (eq_or_ne (length ps) pool_words) (eq_or_ne (length ws) site_words) (eq_or_ne (length ts) table_bytes) (eq_or_ne (length cs) 16)

pub fitting_both : (ps ws : List ℕ) → Words ps ws → WordsFit ps ws
fitting_both ps ws z = record { pool = z.0; words = z.1 }

pub fitting : (ps ws ts : List ℕ) → WordsAndTable ps ws ts → Fits ps ws ts
fitting ps ws ts z = record { words = record { pool = z.0; words = z.1 }; table = z.2 }

pub fitting_words : (ps ws ts cs : List ℕ) → WithCommands ps ws ts cs → Fits ps ws ts
fitting_words ps ws ts cs z = record { words = record { pool = z.0; words = z.1 }; table = z.2 }
