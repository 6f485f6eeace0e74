-- A call's answer under the checks: the first refusal of the list that applies, exactly.
-- Assumes nothing.
use Rattle.basis.proofs.Std.{◌≡◌, refl, subst, Bool, List, [], ◌∷◌, ℕ, arith, bool_cases}
use Rattle.answer.specs.declared.Refusal.{Refusal}
use Rattle.answer.specs.declared.Report.{Report}
use Rattle.answer.specs.declared.Answer.{Answer}
use Rattle.answer.specs.declared.Answer.TheVariants.{Done, Refused}
use Rattle.answer.specs.Order.{judged, None, none, more, First, here, later}

pub none_refuses : {applies : Refusal → Bool} {rs : List Refusal} (a : Answer) → None applies rs → judged applies rs a ≡ a
none_refuses a none = refl
none_refuses a (more e n) = rw e (none_refuses a n)

pub first_refuses : {applies : Refusal → Bool} {r : Refusal} {rs : List Refusal} (a : Answer) → First applies r rs → judged applies rs a ≡ Refused r
first_refuses a (here e) = rw e
first_refuses a (later e f) = rw e (first_refuses a f)

-- and a number is given only so
pub refused_first : (applies : Refusal → Bool) (rs : List Refusal) (d : Report) (r : Refusal) → judged applies rs (Done d) ≡ Refused r → First applies r rs
refused_first applies [] d r e = absurd (let z : ◌≡◌ {A = ℕ} 0 1 = cc in omega arith)
refused_first applies (s ∷ rs) d r e = bool_cases (applies s)
    (λ t. let k : Refused s ≡ Refused r = rw t at e in let q : s ≡ r = cc in subst (λ (x : Refusal). First applies x (s ∷ rs)) q (here t))
    (λ f. later f (refused_first applies rs d r (rw f at e)))

pub done_none : (applies : Refusal → Bool) (rs : List Refusal) (d c : Report) → judged applies rs (Done d) ≡ Done c → None applies rs
done_none applies [] d c e = none
done_none applies (s ∷ rs) d c e = bool_cases (applies s)
    (λ t. absurd (let k : Refused s ≡ Done c = rw t at e in let z : ◌≡◌ {A = ℕ} 0 1 = cc in omega arith))
    (λ f. more f (done_none applies rs d c (rw f at e)))
