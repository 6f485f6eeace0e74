-- The text of a label, as a part of its bytes.
-- Assumes nothing.
use Rattle.basis.proofs.Std.{◌≡◌, sym, ap, ◌∙◌, ℕ, ◌-◌, min, sub-zero, length, take}
use Rattle.label.specs.declared.Label.{Label}
use Rattle.label.specs.Label.{text_of}
use Rattle.label.proofs.Padded.{take_short}

pub text_part : (l : Label) → length l.bytes ≡ 32 → (n : ℕ) → n ≡ min l.length 32 → take (n - 0) l.bytes ≡ text_of l
text_part l z n e = ap (λ (m : ℕ). take m l.bytes) (sub-zero n ∙ e ∙ ap (min l.length) (sym z)) ∙ take_short l.length l.bytes
