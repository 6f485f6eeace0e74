-- The two sites of a box, either as this one and the other: what becomes of both in a turn of one.
-- Assumes nothing.
use Rattle.basis.proofs.Std.{ℕ, zero, suc, ◌≡◌, refl, true, false, Option, some, none, eqb, arith, ne_eqb}
use Rattle.machine.specs.State.{Machine}
use Rattle.machine.specs.Box.{Box, site_of, other_of, found_by, site_is}

-- j is the other site's number
pub record Two (k j : ℕ) : Type 0 where
  pub other_is : (b : Box) → site_of j b ≡ other_of k b
  pub own_is : (b : Box) → other_of j b ≡ site_of k b
  pub own_site : (m : Machine) (b : Box) → site_of k (site_is k m b) ≡ some m
  pub own_other : (m : Machine) (b : Box) → other_of k (site_is k m b) ≡ found_by m (other_of k b)
  pub its_site : (m : Machine) (b : Box) → site_of k (site_is j m b) ≡ found_by m (site_of k b)
  pub its_other : (m : Machine) (b : Box) → other_of k (site_is j m b) ≡ some m
  pub same : eqb k k ≡ true
  pub differ : eqb j k ≡ false
  pub apart : j ≡ k → ⊥

pub record NoSite (k i : ℕ) : Type 0 where
  pub nobody : (b : Box) → site_of i b ≡ none
  pub nothing : (m : Machine) (b : Box) → site_is i m b ≡ b
  pub differ : eqb i k ≡ false

pub data Which (k j : ℕ) : ℕ → Type 0 where
  own : Which k j k
  other : Which k j j
  no_site : {i : ℕ} → NoSite k i → Which k j i

nowhere : (k i : ℕ) → eqb (suc (suc i)) k ≡ false → NoSite k (suc (suc i))
nowhere k i e = record { nobody = λ b. refl; nothing = λ m b. refl; differ = e }

pub north_two : Two 0 1
north_two = record {
  other_is = λ b. refl;
  own_is = λ b. refl;
  own_site = λ m b. refl;
  own_other = λ m b. refl;
  its_site = λ m b. refl;
  its_other = λ m b. refl;
  same = refl;
  differ = refl;
  apart = λ e. omega arith;
}

pub south_two : Two 1 0
south_two = record {
  other_is = λ b. refl;
  own_is = λ b. refl;
  own_site = λ m b. refl;
  own_other = λ m b. refl;
  its_site = λ m b. refl;
  its_other = λ m b. refl;
  same = refl;
  differ = refl;
  apart = λ e. omega arith;
}

pub north_which : (i : ℕ) → Which 0 1 i
north_which zero = own
north_which (suc zero) = other
north_which (suc (suc i)) = no_site (nowhere 0 i (ne_eqb (suc (suc i)) 0 (λ e. omega arith)))

pub south_which : (i : ℕ) → Which 1 0 i
south_which zero = other
south_which (suc zero) = own
south_which (suc (suc i)) = no_site (nowhere 1 i (ne_eqb (suc (suc i)) 1 (λ e. omega arith)))
