-- The first dot of a text, searched from its start.
-- Assumes nothing.
use Rattle.basis.proofs.Std.{◌≡◌, refl, sym, ap, ◌∙◌, List, [], ◌∷◌, ◌++◌, append-nil, ℕ, suc, ◌+◌, ◌-◌, ◌≤◌, ◌<◌, add-one, sub-zero, arith, length, take, drop, get_or, length-drop, drop-cons, take-suc, take_all, append_snoc, eq-eqb, ne_eqb}
use Rattle.number.specs.declared.Number.{Number}
use Rattle.number.specs.declared.Number.TheVariants.{Is, No}
use Rattle.read_versions.specs.Numeral.{number_in}
use Rattle.read_versions.specs.Version.{before, behind, rest_of, one_part}
use Rattle.read_versions.specs.Dot.{Dot}

-- no dot stands before i
pub record Undotted (s : List ℕ) (i : ℕ) : Type 0 where
  pub within : i ≤ length s
  pub first : before s ≡ take i s ++ before (drop i s)
  pub rest : behind s ≡ behind (drop i s)

pub at_start : (s : List ℕ) → Undotted s 0
at_start s = record { within = omega arith; first = refl; rest = refl }

module _ (s : List ℕ) (i : ℕ) (u : Undotted s i) where
  pub passes : i < length s → (get_or s i 0 ≡ 46 → ⊥) → Undotted s (i + 1)
  unfolding before behind
  passes h n =
      let e : drop i s ≡ get_or s i 0 ∷ drop (suc i) s = drop-cons s i 0 h in
      record {
        within = omega arith;
        first = u.first ∙ rw (e, ne_eqb (get_or s i 0) 46 n, add-one, take-suc s i 0 h) (sym (append_snoc (take i s) (get_or s i 0) (before (drop (suc i) s))));
        rest = u.rest ∙ rw (e, ne_eqb (get_or s i 0) 46 n, add-one);
      }

  pub stops : i < length s → get_or s i 0 ≡ 46 → Dot s i
  unfolding before behind
  stops h n =
      let e : drop i s ≡ get_or s i 0 ∷ drop (suc i) s = drop-cons s i 0 h in
      record {
        within = u.within;
        first = u.first ∙ rw (e, eq-eqb (get_or s i 0) 46 n) (append-nil (take i s));
        dotted = λ l. u.rest ∙ rw (e, eq-eqb (get_or s i 0) 46 n, add-one);
        undotted = λ l. absurd (omega arith);
      }

drop_past : (s : List ℕ) (i : ℕ) → length s ≤ i → drop i s ≡ []
drop_past s i h = empty (drop i s) (length-drop i s ∙ omega arith)
  where
    empty : (l : List ℕ) → length l ≡ 0 → l ≡ []
    empty [] e = refl
    empty (x ∷ l) e = absurd (omega arith)

pub ends : (s : List ℕ) (i : ℕ) → Undotted s i → length s ≤ i → Dot s i
unfolding before behind
ends s i u h =
    let e : drop i s ≡ [] = drop_past s i h in
    record {
      within = u.within;
      first = u.first ∙ rw e (append-nil (take i s));
      dotted = λ l. absurd (omega arith);
      undotted = λ l. u.rest ∙ rw e;
    }

-- what is lent up to the dot
pub part : (s : List ℕ) (e : ℕ) → Dot s e → take (e - 0) (drop 0 s) ≡ before s
part s e d = ap (λ (n : ℕ). take n s) (sub-zero e) ∙ sym d.first

module _ (s : List ℕ) (e : ℕ) (d : Dot s e) where
  pub one_more : e < length s → No ≡ one_part s
  unfolding one_part
  one_more h = sym (rw (d.dotted h))

  pub one_end : length s ≤ e → (r : Number) → r ≡ number_in 255 (take (e - 0) (drop 0 s)) → r ≡ one_part s
  unfolding one_part
  one_end h r f = f ∙ rw (part s e d, d.undotted h)

  pub rest_none : (f : List ℕ → Number) → length s ≤ e → Is 0 ≡ rest_of f (behind s)
  rest_none f h = sym (rw (d.undotted h))

  pub after_dot : (f : List ℕ → Number) → e < length s → (r : Number) → r ≡ f (take (length s - (e + 1)) (drop (e + 1) s)) → r ≡ rest_of f (behind s)
  after_dot f h r g = g ∙ ap f (take_all (length s - (e + 1)) (drop (e + 1) s) (omega (arith, length-drop (e + 1) s))) ∙ sym (rw (d.dotted h))
