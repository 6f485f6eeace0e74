-- Differences of two numbers: equal ones, sums, order, decimal text; and the value that a raised word stands for.
-- Assumes nothing.
use Rattle.basis.proofs.Std.{◌≡◌, sym, ap, ◌∙◌, not, ⊎_elim, ◌∷◌, append-nil, ℕ, suc, ◌+◌, ◌-◌, ◌^◌, ◌≤◌, ◌<◌, arith, lt-ltb, le-ltb, le-leb, lt-leb, ltb, ℤ, pos, negsuc, sub_ℕ, ◌+ℤ◌, lt_or_ge}
use lib.Signed.{lt_z}
use Rattle.number.specs.Decimal.{decimal_of}
use Rattle.number.specs.Signed.{signed_of}
use Rattle.output.specs.Put.{concat}
use Rattle.week_count.specs.Values.{raised}
use Rattle.week_text.specs.Pieces.{difference_pieces}

pub sub_neg : (a b : ℕ) → a < b → sub_ℕ a b ≡ negsuc (b - suc a)
sub_neg a b h = rw (lt-ltb a b h)

pub sub_pos : (a b : ℕ) → b ≤ a → sub_ℕ a b ≡ pos (a - b)
sub_pos a b h = rw (le-ltb a b h)

sub_same : (x y u v : ℕ) → x + v ≡ u + y → sub_ℕ x y ≡ sub_ℕ u v
sub_same x y u v e =
    ⊎_elim
    (λ (h : x < y). sub_neg x y h ∙ ap negsuc (omega arith) ∙ sym (sub_neg u v (omega arith)))
    (λ (h : y ≤ x). sub_pos x y h ∙ ap pos (omega arith) ∙ sym (sub_pos u v (omega arith)))
    (lt_or_ge x y)

pub sub_add : (a c b d : ℕ) → sub_ℕ a c +ℤ sub_ℕ b d ≡ sub_ℕ (a + b) (c + d)
sub_add a c b d =
    ⊎_elim
    (λ (h : a < c).
    ⊎_elim
    (λ (g : b < d). rw (sub_neg a c h, sub_neg b d g) (ap negsuc (omega arith) ∙ sym (sub_neg (a + b) (c + d) (omega arith))))
    (λ (g : d ≤ b). rw (sub_neg a c h, sub_pos b d g) (sub_same (b - d) (suc (c - suc a)) (a + b) (c + d) (omega arith)))
    (lt_or_ge b d))
    (λ (h : c ≤ a).
    ⊎_elim
    (λ (g : b < d). rw (sub_pos a c h, sub_neg b d g) (sub_same (a - c) (suc (d - suc b)) (a + b) (c + d) (omega arith)))
    (λ (g : d ≤ b). rw (sub_pos a c h, sub_pos b d g) (ap pos (omega arith) ∙ sym (sub_pos (a + b) (c + d) (omega arith))))
    (lt_or_ge b d))
    (lt_or_ge a c)

same_ltb : (a b x y : ℕ) → (a < b → x < y) → (b ≤ a → y ≤ x) → ltb a b ≡ ltb x y
same_ltb a b x y f g =
    ⊎_elim
    (λ (h : a < b). lt-ltb a b h ∙ sym (lt-ltb x y (f h)))
    (λ (h : b ≤ a). le-ltb a b h ∙ sym (le-ltb x y (g h)))
    (lt_or_ge a b)

-- the order of two differences from one number
pub sub_less : (a b c : ℕ) → lt_z (sub_ℕ a c) (sub_ℕ b c) ≡ ltb a b
sub_less a b c =
    ⊎_elim
    (λ (h : a < c).
    ⊎_elim
    (λ (g : b < c). rw (sub_neg a c h, sub_neg b c g) (same_ltb (c - suc b) (c - suc a) a b (λ l. omega arith) (λ l. omega arith)))
    (λ (g : c ≤ b). rw (sub_neg a c h, sub_pos b c g) (sym (lt-ltb a b (omega arith))))
    (lt_or_ge b c))
    (λ (h : c ≤ a).
    ⊎_elim
    (λ (g : b < c). rw (sub_pos a c h, sub_neg b c g) (sym (le-ltb a b (omega arith))))
    (λ (g : c ≤ b). rw (sub_pos a c h, sub_pos b c g) (same_ltb (a - c) (b - c) a b (λ l. omega arith) (λ l. omega arith)))
    (lt_or_ge b c))
    (lt_or_ge a c)

-- not above is below the next
pub not_above_lem : (a b c : ℕ) → not (lt_z (sub_ℕ b c) (sub_ℕ a c)) ≡ ltb a (b + 1)
not_above_lem a b c =
    rw (sub_less b a c)
    (⊎_elim
    (λ (h : b < a). rw (lt-ltb b a h, le-ltb a (b + 1) (omega arith)))
    (λ (h : a ≤ b). rw (le-ltb b a h, lt-ltb a (b + 1) (omega arith)))
    (lt_or_ge b a))

-- a value from its raised word
abbrev pub lowered : ℕ → ℤ
lowered b = sub_ℕ b (2 ^ 31)

pub lowered_raised : (w : ℕ) → w < 2 ^ 32 → lowered (raised w) ≡ signed_of w
lowered_raised w l =
    ⊎_elim
    (λ (h : w < 2 ^ 31). rw (lt-ltb w (2 ^ 31) h) (sub_pos (w + 2 ^ 31) (2 ^ 31) (omega arith) ∙ ap pos (omega arith)))
    (λ (h : 2 ^ 31 ≤ w). rw (le-ltb w (2 ^ 31) h) (sub_neg (w - 2 ^ 31) (2 ^ 31) (omega arith) ∙ ap negsuc (omega arith)))
    (lt_or_ge w (2 ^ 31))

pub difference_text : (a b : ℕ) → concat (difference_pieces a b) ≡ 9 ∷ decimal_of (sub_ℕ a b)
unfolding difference_pieces decimal_of
difference_text a b =
    ⊎_elim
    (λ (h : a < b).
    let e : b - a ≡ suc (b - suc a) = omega arith in
    rw (lt-leb b a h, sub_neg a b h, e) (rw append-nil))
    (λ (h : b ≤ a). rw (le-leb b a h, sub_pos a b h) (rw append-nil))
    (lt_or_ge a b)
