-- The first byte of a row: its fields say the byte, and the byte its fields.
-- Assumes nothing.
use Rattle.basis.proofs.Std.{◌≡◌, refl, sym, ap, ◌∙◌, List, [], ◌∷◌, ℕ, zero, suc, ◌<◌, mod-lt, lit<, get_or}
use lib.Pow.{pow_pos}
use Rattle.bits.specs.Fields.{field_of, total, joined, split, Within, bytes_of}
use Rattle.bits.specs.Fields.Within.{none, next}
use Rattle.table_whole.specs.Bytes.{fields}
use Rattle.table_whole.proofs.Fields.{fields_sound, fields_complete, one_byte}

alone : (b : ℕ) → b < 256 → (i : ℕ) → get_or (b ∷ []) i 0 < 256
alone b h zero = h
alone b h (suc i) = lit< tt

-- the byte of the fields that stand in it
prefix_sound : (ks : List ℕ) → total ks ≡ 8 → (b : ℕ) → b < 256 → bytes_of 1 (joined 0 ks (split ks b)) ≡ b ∷ []
prefix_sound ks e b h =
    ap (λ (m : ℕ). bytes_of 1 (joined 0 ks (split ks m))) (sym (one_byte b h)) ∙ fields_sound ks (b ∷ []) (alone b h) e

-- the byte of fields
abbrev pub byte_of : List ℕ → List ℕ → ℕ
byte_of ks vs = field_of (joined 0 ks vs) 0 8

pub byte_lt : (ks vs : List ℕ) → byte_of ks vs < 256
byte_lt ks vs = mod-lt _ (pow_pos 8)

prefix_complete : (ks vs : List ℕ) → total ks ≡ 8 → Within ks vs → split ks (byte_of ks vs) ≡ vs
prefix_complete ks vs e w =
    ap (split ks) (sym (one_byte (byte_of ks vs) (byte_lt ks vs))) ∙ fields_complete ks vs w 1 e

abbrev pub alarm_widths : List ℕ
alarm_widths = 3 ∷ 2 ∷ 1 ∷ 2 ∷ []

abbrev pub status_widths : List ℕ
status_widths = 3 ∷ 5 ∷ []

pub alarm_prefix : (b : ℕ) → b < 256 → field_of b 0 2 ≡ 0 → fields alarm_widths (field_of b 5 3 ∷ field_of b 3 2 ∷ field_of b 2 1 ∷ 0 ∷ []) ≡ b ∷ []
alarm_prefix b h z =
    ap (λ (m : ℕ). fields alarm_widths (field_of b 5 3 ∷ field_of b 3 2 ∷ field_of b 2 1 ∷ m ∷ [])) (sym z) ∙ prefix_sound alarm_widths refl b h

pub status_prefix : (b : ℕ) → b < 256 → field_of b 0 5 ≡ 0 → fields status_widths (field_of b 5 3 ∷ 0 ∷ []) ≡ b ∷ []
status_prefix b h z = ap (λ (m : ℕ). fields status_widths (field_of b 5 3 ∷ m ∷ [])) (sym z) ∙ prefix_sound status_widths refl b h

-- what stands in an alarm's first byte
pub record AlarmByte (component priority category b : ℕ) : Type 0 where
  pub component_is : field_of b 5 3 ≡ component
  pub priority_is : field_of b 3 2 ≡ priority
  pub category_is : field_of b 2 1 ≡ category
  pub zeros : field_of b 0 2 ≡ 0

pub alarm_byte : (c p k : ℕ) → c < 8 → p < 4 → k < 2 → AlarmByte c p k (byte_of alarm_widths (c ∷ p ∷ k ∷ 0 ∷ []))
alarm_byte c p k hc hp hk =
    let e = prefix_complete alarm_widths (c ∷ p ∷ k ∷ 0 ∷ []) refl (next hc (next hp (next hk (next (lit< tt) none)))) in
    record {
      component_is = ap (λ (l : List ℕ). get_or l 0 0) e;
      priority_is = ap (λ (l : List ℕ). get_or l 1 0) e;
      category_is = ap (λ (l : List ℕ). get_or l 2 0) e;
      zeros = ap (λ (l : List ℕ). get_or l 3 0) e;
    }

pub record StatusByte (component b : ℕ) : Type 0 where
  pub component_is : field_of b 5 3 ≡ component
  pub zeros : field_of b 0 5 ≡ 0

pub status_byte : (c : ℕ) → c < 8 → StatusByte c (byte_of status_widths (c ∷ 0 ∷ []))
status_byte c hc =
    let e = prefix_complete status_widths (c ∷ 0 ∷ []) refl (next hc (next (lit< tt) none)) in
    record { component_is = ap (λ (l : List ℕ). get_or l 0 0) e; zeros = ap (λ (l : List ℕ). get_or l 1 0) e }
