-- A text is read as a version exactly where it writes one.
-- Assumes nothing.
use Rattle.basis.proofs.Std.{◌≡◌, refl, sym, ap, ap₂, ◌∙◌, Bool, true, false, List, [], ◌∷◌, ◌++◌, ℕ, ◌+◌, ◌*◌, ◌≤◌, arith, eqb, eqb-true, ne_eqb, pick}
use Rattle.number.specs.declared.Number.{Number}
use Rattle.number.specs.declared.Number.TheVariants.{Is, No}
use Rattle.number.specs.Decimal.{digits}
use Rattle.number.proofs.Reading.{reads_written}
use Rattle.number.proofs.Digits.{Row, none, next, digits_row}
use Rattle.read_versions.specs.Numeral.{number_in}
use Rattle.read_versions.specs.Version.{version, Writes, one, two, three, ReadsVersion, is, no, Behind, nothing, more, before, behind, rest_of, join_parts, alone, one_part, two_parts, version_of}
use Rattle.read_versions.proofs.Numerals.{numeral_once, number_most}
use Rattle.read_versions.proofs.Parts.{apart}

-- a text is what stands before its first dot, the dot and what stands behind
no_dot : (s : List ℕ) → behind s ≡ nothing → before s ≡ s
unfolding before behind
no_dot [] e = refl
no_dot (b ∷ s) e = go (eqb b 46) e (no_dot s)
  where
    go : (q : Bool) → pick q (more s) (behind s) ≡ nothing → (behind s ≡ nothing → before s ≡ s) → pick q [] (b ∷ before s) ≡ b ∷ s
    go true f ih = let z : ◌≡◌ {A = ℕ} 0 1 = cc in absurd (omega arith)
    go false f ih = ap (λ (l : List ℕ). b ∷ l) (ih f)

dot_split : (s t : List ℕ) → behind s ≡ more t → s ≡ before s ++ (46 ∷ t)
unfolding before behind
dot_split [] t e = let z : ◌≡◌ {A = ℕ} 0 1 = cc in absurd (omega arith)
dot_split (b ∷ s) t e = go (eqb b 46) (eqb-true b 46) e (dot_split s t)
  where
    go : (q : Bool) → (q ≡ true → b ≡ 46) → pick q (more s) (behind s) ≡ more t → (behind s ≡ more t → s ≡ before s ++ (46 ∷ t)) → b ∷ s ≡ pick q [] (b ∷ before s) ++ (46 ∷ t)
    go true h f ih = let z : s ≡ t = cc in ap₂ (λ (x : ℕ) (l : List ℕ). x ∷ l) (h refl) z
    go false h f ih = ap (λ (l : List ℕ). b ∷ l) (ih f)

-- digits have no dot
row_before : {d : List ℕ} → Row d → (t : List ℕ) → before (d ++ (46 ∷ t)) ≡ d
unfolding before
row_before none t = refl
row_before (next {b} {bs} l u r) t = rw (ne_eqb b 46 (λ e. omega arith)) (ap (λ (x : List ℕ). b ∷ x) (row_before r t))

row_behind : {d : List ℕ} → Row d → (t : List ℕ) → behind (d ++ (46 ∷ t)) ≡ more t
unfolding behind
row_behind none t = refl
row_behind (next {b} {bs} l u r) t = rw (ne_eqb b 46 (λ e. omega arith)) (row_behind r t)

row_alone : {d : List ℕ} → Row d → behind d ≡ nothing
unfolding behind
row_alone none = refl
row_alone (next {b} {bs} l u r) = rw (ne_eqb b 46 (λ e. omega arith)) (row_alone r)

number_written : (a : ℕ) → a ≤ 255 → number_in 255 (digits a) ≡ Is a
number_written a h = sym (numeral_once 255 (digits a) (Is a) (reads_written 255 a h))

-- a part and what follows it
module _ (w : ℕ) (g : List ℕ → Number) (a : ℕ) (h : a ≤ 255) where
  only : join_parts w (number_in 255 (before (digits a))) (rest_of g (behind (digits a))) ≡ Is (a * w + 0)
  only =
      let e : behind (digits a) ≡ nothing = row_alone (digits_row a) in
      rw (no_dot (digits a) e, e, number_written a h)

  before_rest : (t : List ℕ) (n : ℕ) → g t ≡ Is n → join_parts w (number_in 255 (before (digits a ++ (46 ∷ t)))) (rest_of g (behind (digits a ++ (46 ∷ t)))) ≡ Is (a * w + n)
  before_rest t n e = rw (row_before (digits_row a) t, row_behind (digits_row a) t, number_written a h, e)

one_written : (a : ℕ) → a ≤ 255 → one_part (digits a) ≡ Is a
unfolding one_part
one_written a h =
    let e : behind (digits a) ≡ nothing = row_alone (digits_row a) in
    rw (no_dot (digits a) e, e, number_written a h)

two_alone : (a : ℕ) → a ≤ 255 → two_parts (digits a) ≡ Is (a * 256 + 0)
unfolding two_parts
two_alone a h = only 256 one_part a h

two_written : (a b : ℕ) → a ≤ 255 → b ≤ 255 → two_parts (digits a ++ (46 ∷ digits b)) ≡ Is (a * 256 + b)
unfolding two_parts
two_written a b h k = before_rest 256 one_part a h (digits b) b (one_written b k)

pub written : {s : List ℕ} {n : ℕ} → Writes s n → version_of s ≡ Is n
unfolding version_of
written (one a h) = only 65536 two_parts a h ∙ ap Is (omega arith)
written (two a b h k) = before_rest 65536 two_parts a h (digits b) (b * 256 + 0) (two_alone b k) ∙ ap Is (omega arith)
written (three a b c h k l) = before_rest 65536 two_parts a h (digits b ++ (46 ∷ digits c)) (b * 256 + c) (two_written b c k l) ∙ ap Is (omega arith)

-- what is read was written

one_read : (s : List ℕ) (n : ℕ) → one_part s ≡ Is n → (n ≤ 255) × (s ≡ digits n)
unfolding one_part
one_read s n e = by (behind s) refl e
  where
    by : (b : Behind) → behind s ≡ b → alone (number_in 255 (before s)) b ≡ Is n → (n ≤ 255) × (s ≡ digits n)
    by nothing f g = number_most 255 s n (rw (no_dot s f) at g)
    by (more t) f g = let z : ◌≡◌ {A = ℕ} 0 1 = cc in absurd (omega arith)

-- one part and no more, or one and what is read behind it
data Read (g : List ℕ → Number) (w : ℕ) (s : List ℕ) (n : ℕ) : Type 0 where
  last_part : (a : ℕ) → a ≤ 255 → s ≡ digits a → n ≡ a * w → Read g w s n
  and_more : (a : ℕ) (t : List ℕ) (m : ℕ) → a ≤ 255 → s ≡ digits a ++ (46 ∷ t) → g t ≡ Is m → n ≡ a * w + m → Read g w s n

joined_read : (g : List ℕ → Number) (w : ℕ) (s : List ℕ) (n : ℕ) → join_parts w (number_in 255 (before s)) (rest_of g (behind s)) ≡ Is n → Read g w s n
joined_read g w s n e = by (behind s) refl
  where
    by : (b : Behind) → behind s ≡ b → Read g w s n
    by nothing f =
        let j = apart w (number_in 255 (before s)) (Is 0) n (rw f at e) in
        let k = number_most 255 (before s) j.a j.first in
        let z : j.m ≡ 0 = cc j.rest in
        last_part j.a k.0 (sym (no_dot s f) ∙ k.1) (omega (arith, j.sum, z))
    by (more t) f =
        let j = apart w (number_in 255 (before s)) (g t) n (rw f at e) in
        let k = number_most 255 (before s) j.a j.first in
        and_more j.a t j.m k.0 (dot_split s t f ∙ ap (λ (l : List ℕ). l ++ (46 ∷ t)) k.1) j.rest j.sum

two_read : (s : List ℕ) (n : ℕ) → two_parts s ≡ Is n → Read one_part 256 s n
unfolding two_parts
two_read s n e = joined_read one_part 256 s n e

behind_read : (a : ℕ) (t : List ℕ) (m : ℕ) → a ≤ 255 → Read one_part 256 t m → (n : ℕ) → n ≡ a * 65536 + m → Writes (digits a ++ (46 ∷ t)) n
behind_read a t m h (last_part b k e f) n g = let z : n ≡ version a b 0 = omega arith in rw (e, z) (two a b h k)
behind_read a t m h (and_more b u l k e f i) n g =
    let o = one_read u l f in
    let z : n ≡ version a b l = omega arith in
    rw (e, o.1, z) (three a b l h k o.0)

whole_read : (s : List ℕ) (n : ℕ) → Read two_parts 65536 s n → Writes s n
whole_read s n (last_part a h e f) = let z : n ≡ version a 0 0 = omega arith in rw (e, z) (one a h)
whole_read s n (and_more a t m h e f g) = rw e (behind_read a t m h (two_read t m f) n g)

version_read : (s : List ℕ) (n : ℕ) → version_of s ≡ Is n → Writes s n
unfolding version_of
version_read s n e = whole_read s n (joined_read two_parts 65536 s n e)

pub reads : (s : List ℕ) → ReadsVersion s (version_of s)
reads s = by (version_of s) refl
  where
    by : (r : Number) → version_of s ≡ r → ReadsVersion s r
    by (Is n) e = is n (version_read s n e)
    by No e = no (λ n w. let z : No ≡ Is n = sym e ∙ written w in let y : ◌≡◌ {A = ℕ} 0 1 = cc in omega arith)
