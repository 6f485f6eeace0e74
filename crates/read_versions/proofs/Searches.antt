-- `any` is each of the searches; the latest of a list with one more at its end.
-- Assumes nothing.
use Rattle.std.specs.List.{list_any}
use Rattle.basis.proofs.Std.{◌≡◌, refl, ap, ◌∙◌, List, [], ◌∷◌, ◌++◌, ℕ, arith, eqb, ltb, pick, bool_cases, ltb-true, ltb-false, lt-ltb, le-ltb}
use Rattle.number.specs.declared.Number.{Number}
use Rattle.number.specs.declared.Number.TheVariants.{Is, No}
use Rattle.label.specs.declared.Label.{Label}
use Rattle.read_versions.specs.Judge.{same_label, has, later, shared, latest, lists, meet}

pub has_is : (v : ℕ) (xs : List ℕ) → list_any (λ x. eqb x v) xs ≡ has xs v
unfolding has
has_is v [] = refl
has_is v (x ∷ xs) = bool_cases (eqb x v) (λ t. rw t) (λ t. rw t (has_is v xs))

pub lists_is : (l : Label) (xs : List Label) → list_any (λ x. same_label x l) xs ≡ lists xs l
unfolding lists
lists_is l [] = refl
lists_is l (x ∷ xs) = bool_cases (same_label x l) (λ t. rw t) (λ t. rw t (lists_is l xs))

pub meet_is : (theirs xs : List Label) → list_any (lists theirs) xs ≡ meet xs theirs
unfolding meet
meet_is theirs [] = refl
meet_is theirs (x ∷ xs) = bool_cases (lists theirs x) (λ t. rw t) (λ t. rw t (meet_is theirs xs))

later_twice : (a b c : Number) → later a (later b c) ≡ later (later a b) c
later_twice No b c = refl
later_twice (Is a) No c = refl
later_twice (Is a) (Is b) No = refl
later_twice (Is a) (Is b) (Is d) = ap Is (most a b d)
  where
    most : (a b d : ℕ) → pick (ltb a (pick (ltb b d) d b)) (pick (ltb b d) d b) a ≡ pick (ltb (pick (ltb a b) b a) d) d (pick (ltb a b) b a)
    most a b d =
        bool_cases (ltb a b)
        (λ p. bool_cases (ltb b d)
        (λ q. rw (p, q, lt-ltb a d (omega (arith, ltb-true a b p, ltb-true b d q))))
        (λ q. rw (p, q, p)))
        (λ p. bool_cases (ltb b d)
        (λ q. rw (p, q))
        (λ q. rw (p, q, p, le-ltb a d (omega (arith, ltb-false a b p, ltb-false b d q)))))

pub latest_more : (own theirs : List ℕ) (v : ℕ) → latest (own ++ (v ∷ [])) theirs ≡ later (latest own theirs) (shared theirs v)
unfolding latest
latest_more [] theirs v = end (shared theirs v)
  where
    end : (n : Number) → later n No ≡ n
    end (Is a) = refl
    end No = refl
latest_more (x ∷ own) theirs v = ap (later (shared theirs x)) (latest_more own theirs v) ∙ later_twice (shared theirs x) (latest own theirs) (shared theirs v)
