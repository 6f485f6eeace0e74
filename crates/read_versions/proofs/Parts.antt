-- The parts of a version, read one after the other.
-- Assumes nothing.
use Rattle.basis.proofs.Std.{◌≡◌, refl, sym, ap, ap₂, ◌∙◌, List, ℕ, ◌+◌, ◌-◌, ◌*◌, ◌≤◌, arith, take, drop}
use Rattle.number.specs.declared.Number.{Number}
use Rattle.number.specs.declared.Number.TheVariants.{Is, No}
use Rattle.read_versions.specs.Numeral.{number_in}
use Rattle.read_versions.specs.Version.{Behind, nothing, more, before, behind, rest_of, join_parts, alone, one_part, two_parts}
use Rattle.read_versions.specs.Dot.{Dot}
use Rattle.read_versions.proofs.Numerals.{number_most}
use Rattle.read_versions.proofs.Dots.{part}

module _ (w : ℕ) (g : List ℕ → Number) (s : List ℕ) (e : ℕ) (d : Dot s e) {f r : Number} (p : f ≡ number_in 255 (take (e - 0) (drop 0 s))) (q : r ≡ rest_of g (behind s)) where
  is_joined : join_parts w f r ≡ join_parts w (number_in 255 (before s)) (rest_of g (behind s))
  is_joined = ap₂ (join_parts w) (p ∙ ap (number_in 255) (part s e d)) q

  pub both_there : {a n : ℕ} → f ≡ Is a → r ≡ Is n → Is (a * w + n) ≡ join_parts w (number_in 255 (before s)) (rest_of g (behind s))
  both_there x y = sym (ap₂ (join_parts w) x y) ∙ is_joined

  pub rest_bad : {a : ℕ} → f ≡ Is a → r ≡ No → No ≡ join_parts w (number_in 255 (before s)) (rest_of g (behind s))
  rest_bad x y = sym (ap₂ (join_parts w) x y) ∙ is_joined

  pub first_bad : f ≡ No → No ≡ join_parts w (number_in 255 (before s)) (rest_of g (behind s))
  first_bad x = sym (ap (λ (k : Number). join_parts w k r) x) ∙ is_joined

  pub first_most : {a : ℕ} → f ≡ Is a → a ≤ 255
  first_most {a} x = (number_most 255 (take (e - 0) (drop 0 s)) a (sym p ∙ x)).0

-- the parts of a joined number
pub record Joined (w : ℕ) (f r : Number) (n : ℕ) : Type 0 where
  pub a : ℕ
  pub m : ℕ
  pub first : f ≡ Is a
  pub rest : r ≡ Is m
  pub sum : n ≡ a * w + m

pub apart : (w : ℕ) (f r : Number) (n : ℕ) → join_parts w f r ≡ Is n → Joined w f r n
apart w (Is a) (Is m) n e = record { a = a; m = m; first = refl; rest = refl; sum = cc }
apart w (Is a) No n e = let z : ◌≡◌ {A = ℕ} 0 1 = cc in absurd (omega arith)
apart w No r n e = let z : ◌≡◌ {A = ℕ} 0 1 = cc in absurd (omega arith)

one_most : (s : List ℕ) (b : Behind) (n : ℕ) → alone (number_in 255 (before s)) b ≡ Is n → n ≤ 255
one_most s nothing n e = (number_most 255 (before s) n e).0
one_most s (more t) n e = let z : ◌≡◌ {A = ℕ} 0 1 = cc in absurd (omega arith)

pub one_rest_most : (b : Behind) (n : ℕ) → rest_of one_part b ≡ Is n → n ≤ 255
unfolding one_part
one_rest_most nothing n e = let z : n ≡ 0 = cc in omega arith
one_rest_most (more s) n e = one_most s (behind s) n e

two_most : (s : List ℕ) (n : ℕ) → two_parts s ≡ Is n → n ≤ 65535
unfolding two_parts
two_most s n e =
    let j = apart 256 (number_in 255 (before s)) (rest_of one_part (behind s)) n e in
    omega (arith, j.sum, (number_most 255 (before s) j.a j.first).0, one_rest_most (behind s) j.m j.rest)

pub two_rest_most : (b : Behind) (n : ℕ) → rest_of two_parts b ≡ Is n → n ≤ 65535
two_rest_most nothing n e = let z : n ≡ 0 = cc in omega arith
two_rest_most (more s) n e = two_most s n e
