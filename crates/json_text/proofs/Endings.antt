-- What an answer says of the reading, and that there is no other.
-- Assumes nothing.
use Rattle.basis.proofs.Std.{ℕ, ◌≤◌, ◌≡◌, refl, ap, List, arith, length, drop, length-drop}
use Rattle.json_text.specs.declared.Read.{Read}
use Rattle.json_text.specs.declared.Read.TheVariants.{End, Bad}
use Rattle.json_text.specs.Decoded.{Parsed}
use Rattle.json_text.specs.Decoded.Parsed.{ok, none}
use Rattle.json_text.specs.Ends.{Ends}
use Rattle.json_text.specs.Ends.Ends.{ends, fails}

pub ended : {A : Type 0} {s : List ℕ} {at e : ℕ} {p : Parsed A} → Ends s at p (End e) → (a : A) × (p ≡ ok a (drop e s)) × (at ≤ e) × (e ≤ length s)
ended (ends {a = a} e h g) = (a, refl, h, g)

pub failed : {A : Type 0} {s : List ℕ} {at : ℕ} {p : Parsed A} → Ends s at p Bad → p ≡ none
failed fails = refl

never : {A : Type 0} (p : Parsed A) (a : A) (r : List ℕ) → p ≡ ok a r → p ≡ none → ⊥
never p a r x y = let z : ◌≡◌ {A = ℕ} 0 1 = cc in omega arith

same_end : {A : Type 0} (s : List ℕ) (e f : ℕ) (p : Parsed A) (a b : A) → p ≡ ok a (drop e s) → p ≡ ok b (drop f s) → e ≤ length s → f ≤ length s → e ≡ f
same_end s e f p a b x y h g =
    let z : drop e s ≡ drop f s = cc in
    omega (arith, length-drop e s, length-drop f s, ap length z)

pub answered : {A : Type 0} {s : List ℕ} {at : ℕ} {p : Parsed A} {q r : Read} → Ends s at p q → Ends s at p r → q ≡ r
answered {s = s} {p = p} {q = End e} {r = End f} x y = let i = ended x in let j = ended y in ap End (same_end s e f p i.0 j.0 i.1 j.1 i.3 j.3)
answered {s = s} {p = p} {q = End e} {r = Bad} x y = let i = ended x in absurd (never p i.0 (drop e s) i.1 (failed y))
answered {s = s} {p = p} {q = Bad} {r = End f} x y = let j = ended y in absurd (never p j.0 (drop f s) j.1 (failed x))
answered {q = Bad} {r = Bad} x y = refl
