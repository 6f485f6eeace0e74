-- Four digits, and the character at a place of a slice.
-- Assumes nothing.
use Rattle.basis.proofs.Std.{ℕ, ◌+◌, ◌*◌, ◌<◌, ◌≤◌, ◌≡◌, ap, ◌∙◌, List, add-zero, add_assoc, length, get_or, drop, get_or-drop, lt-ltb, le-ltb, ne_eqb, ltb-false, leb-false, eqb-false, picked, untrue, Bool, true, ltb, leb, eqb}
use Rattle.json_character.proofs.Lists.{past}
use Rattle.json_character.specs.declared.Char.TheVariants.{One, Close, Bad}
use Rattle.json_character.specs.Char.{hex_of, hex4_of, hex4_at, escape_of, unicode_of, raw_of, char_of, is_plain}

module _ (a b c d : ℕ) where
  pub digits : hex_of a < 16 → hex_of b < 16 → hex_of c < 16 → hex_of d < 16 → hex4_of a b c d ≡ hex_of a * 4096 + hex_of b * 256 + hex_of c * 16 + hex_of d
  unfolding hex4_of
  digits x y z w = simp (lt-ltb _ _ x, lt-ltb _ _ y, lt-ltb _ _ z, lt-ltb _ _ w)

module _ (s : List ℕ) (at : ℕ) where
  first : get_or (drop at s) 0 0 ≡ get_or s at 0
  first = get_or-drop at s 0 0 ∙ ap (λ (k : ℕ). get_or s k 0) (add-zero at)

  pub at_end : length s ≤ at → Bad ≡ char_of (drop at s)
  unfolding char_of raw_of
  at_end h = rw (past s at h)

  pub at_close : get_or s at 0 ≡ 0x22 → char_of (drop at s) ≡ Close
  unfolding char_of
  at_close e = rw (first, e)

  pub at_unicode : get_or s at 0 ≡ 0x5c → get_or s (at + 1) 0 ≡ 0x75 → char_of (drop at s) ≡ unicode_of (hex4_at s (at + 2)) (get_or s (at + 6) 0) (get_or s (at + 7) 0) (hex4_at s (at + 8))
  unfolding char_of
  at_unicode e f = rw (first, e, get_or-drop at s 1 0, f) (simp (get_or-drop at s, add_assoc))

  pub at_escape : get_or s at 0 ≡ 0x5c → ¬ (get_or s (at + 1) 0 ≡ 0x75) → char_of (drop at s) ≡ escape_of (get_or s (at + 1) 0)
  unfolding char_of
  at_escape e f = rw (first, e, get_or-drop at s 1 0, ne_eqb _ _ f)

  pub at_raw : ¬ (get_or s at 0 ≡ 0x22) → ¬ (get_or s at 0 ≡ 0x5c) → char_of (drop at s) ≡ raw_of (get_or s at 0) (get_or s (at + 1) 0) (get_or s (at + 2) 0) (get_or s (at + 3) 0)
  unfolding char_of
  at_raw e f = rw (first, ne_eqb _ _ e, ne_eqb _ _ f) (simp (get_or-drop at s))

-- a plain byte is a character by itself

plain_raw : (b : ℕ) → is_plain b ≡ true → (0x20 ≤ b) × (b < 0x80) × (¬ (b ≡ 0x22)) × (¬ (b ≡ 0x5c))
unfolding is_plain
plain_raw b =
    picked P (ltb b 0x20) _ _ (λ _ f. untrue f) λ h. picked P (leb 0x80 b) _ _ (λ _ f. untrue f) λ g. picked P (eqb b 0x22) _ _ (λ _ f. untrue f) λ m. picked P (eqb b 0x5c) _ _ (λ _ f. untrue f) λ n e. (ltb-false _ _ h, leb-false _ _ g, eqb-false _ _ m, eqb-false _ _ n)
  where
    P : Bool → Type 0
    P q = q ≡ true → (0x20 ≤ b) × (b < 0x80) × (¬ (b ≡ 0x22)) × (¬ (b ≡ 0x5c))

pub at_plain : (s : List ℕ) (at : ℕ) → is_plain (get_or s at 0) ≡ true → char_of (drop at s) ≡ One (get_or s at 0) 0
unfolding raw_of
at_plain s at p =
    let h = plain_raw (get_or s at 0) p in
    at_raw s at h.2 h.3 ∙ rw (le-ltb _ _ h.0, lt-ltb _ _ h.1)

-- what `any` comes to, by the byte at its place
pub ruleset at_place = (at_end, at_close, at_unicode, at_escape, at_raw)
