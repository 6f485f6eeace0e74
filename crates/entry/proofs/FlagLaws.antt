-- What is made into flags is read from them, and which numbers are flags.
-- Assumes nothing.
use Rattle.basis.proofs.Std.{◌≡◌, sym, ap, ◌∙◌, Bool, true, false, [], ◌∷◌, ℕ, ◌/◌, ◌%◌, ◌^◌, ◌≤◌, ◌<◌, eqb, lit≤, arith, bool_cases, eqb-true, eqb-false, bit}
use Rattle.bits.specs.Fields.{field_of, joined, split}
use Rattle.bits.proofs.Fields.{joined_split}
use Rattle.entry.specs.Flags.{is_set, alarm_widths, alarm_flags, status_widths, status_flags, event_of, is_acknowledged, is_active, is_suspended, is_known, is_old}

pub bit_le : (b : Bool) → bit b ≤ 1
bit_le true = lit≤ tt
bit_le false = lit≤ tt

bit_read : (b : Bool) {x : ℕ} → x ≡ bit b → eqb x 1 ≡ b
bit_read true e = ap (λ (n : ℕ). eqb n 1) e
bit_read false e = ap (λ (n : ℕ). eqb n 1) e

-- a bit that was read says what stands there
set_bit : (flags s : ℕ) → bit (is_set flags s) ≡ field_of flags s 1
set_bit flags s = bool_cases (is_set flags s)
    (λ e. let h = eqb-true (field_of flags s 1) 1 e in ap bit e ∙ sym h)
    (λ e. let h = eqb-false (field_of flags s 1) 1 e in ap bit e ∙ omega arith)

module _ (event : ℕ) (acknowledged active suspended : Bool) where
  abbrev flags : ℕ
  flags = alarm_flags event acknowledged active suspended

  pub event_back : event_of flags ≡ event % 4
  unfolding alarm_flags
  event_back = omega (arith, bit_le acknowledged, bit_le active, bit_le suspended)

  pub acknowledged_back : is_acknowledged flags ≡ acknowledged
  unfolding alarm_flags
  acknowledged_back = bit_read acknowledged {x = field_of flags 3 1} (omega (arith, bit_le acknowledged, bit_le active, bit_le suspended))

  pub active_back : is_active flags ≡ active
  unfolding alarm_flags
  active_back = bit_read active {x = field_of flags 2 1} (omega (arith, bit_le acknowledged, bit_le active, bit_le suspended))

  pub suspended_back : is_suspended flags ≡ suspended
  unfolding alarm_flags
  suspended_back = bit_read suspended {x = field_of flags 1 1} (omega (arith, bit_le acknowledged, bit_le active, bit_le suspended))

  pub alarm_flags_lt : event < 3 → flags < 48
  unfolding alarm_flags
  alarm_flags_lt h = omega (arith, bit_le acknowledged, bit_le active, bit_le suspended)

  pub alarm_flags_even : flags % 2 ≡ 0
  unfolding alarm_flags
  alarm_flags_even = omega arith

-- an even number below 64 is the flags of what is read from it
pub alarm_flags_again : (f : ℕ) → f < 64 → f % 2 ≡ 0 → f ≡ alarm_flags (event_of f) (is_acknowledged f) (is_active f) (is_suspended f)
unfolding alarm_flags
alarm_flags_again f h e =
    let z : f / 2 ^ 6 ≡ 0 = omega arith in
    let y : field_of f 0 1 ≡ 0 = omega arith in
    sym (joined_split alarm_widths f)
    ∙ ap (λ (n : ℕ). joined n alarm_widths (split alarm_widths f)) z
    ∙ ap (λ (v : ℕ). joined 0 alarm_widths (event_of f ∷ field_of f 3 1 ∷ field_of f 2 1 ∷ field_of f 1 1 ∷ v ∷ [])) y
    ∙ ap (λ (v : ℕ). joined 0 alarm_widths (event_of f ∷ v ∷ field_of f 2 1 ∷ field_of f 1 1 ∷ 0 ∷ [])) (sym (set_bit f 3))
    ∙ ap (λ (v : ℕ). joined 0 alarm_widths (event_of f ∷ bit (is_acknowledged f) ∷ v ∷ field_of f 1 1 ∷ 0 ∷ [])) (sym (set_bit f 2))
    ∙ ap (λ (v : ℕ). joined 0 alarm_widths (event_of f ∷ bit (is_acknowledged f) ∷ bit (is_active f) ∷ v ∷ 0 ∷ [])) (sym (set_bit f 1))

module _ (known old : Bool) where
  abbrev made : ℕ
  made = status_flags known old

  pub known_back : is_known made ≡ known
  unfolding status_flags
  known_back = bit_read known {x = field_of made 5 1} (omega (arith, bit_le known, bit_le old))

  pub old_back : is_old made ≡ old
  unfolding status_flags
  old_back = bit_read old {x = field_of made 4 1} (omega (arith, bit_le known, bit_le old))

  pub status_flags_lt : made < 64
  unfolding status_flags
  status_flags_lt = omega (arith, bit_le known, bit_le old)

  pub status_flags_zeros : made % 16 ≡ 0
  unfolding status_flags
  status_flags_zeros = omega (arith, bit_le known, bit_le old)

-- a number below 64 with four zeros at the end is the flags of what is read from it
pub status_flags_again : (f : ℕ) → f < 64 → f % 16 ≡ 0 → f ≡ status_flags (is_known f) (is_old f)
unfolding status_flags
status_flags_again f h e =
    let z : f / 2 ^ 6 ≡ 0 = omega arith in
    let y : field_of f 0 4 ≡ 0 = omega arith in
    sym (joined_split status_widths f)
    ∙ ap (λ (n : ℕ). joined n status_widths (split status_widths f)) z
    ∙ ap (λ (v : ℕ). joined 0 status_widths (field_of f 5 1 ∷ field_of f 4 1 ∷ v ∷ [])) y
    ∙ ap (λ (v : ℕ). joined 0 status_widths (v ∷ field_of f 4 1 ∷ 0 ∷ [])) (sym (set_bit f 5))
    ∙ ap (λ (v : ℕ). joined 0 status_widths (bit (is_known f) ∷ v ∷ 0 ∷ [])) (sym (set_bit f 4))

-- of such a number, known is the higher half
pub known_high : (f : ℕ) → 32 ≤ f → f < 64 → is_known f ≡ true
known_high f l h = let e : field_of f 5 1 ≡ 1 = omega arith in ap (λ (n : ℕ). eqb n 1) e

pub unknown_low : (f : ℕ) → f < 32 → is_known f ≡ false
unknown_low f h = let e : field_of f 5 1 ≡ 0 = omega arith in ap (λ (n : ℕ). eqb n 1) e
