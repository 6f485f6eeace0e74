-- The numbers are 1 to 12, each of one refusal; 0 is exactly done; the order of the checks by its numbers.
-- Assumes nothing.
use Rattle.basis.proofs.Std.{◌≡◌, refl, sym, ap, ◌∙◌, List, [], ◌∷◌, map, ℕ, ◌-◌, ◌≤◌, arith, get_or}
use Rattle.answer.specs.declared.Refusal.{Refusal}
use Rattle.answer.specs.declared.Refusal.TheVariants.{Ignored, NoSuchLink, NoSuchItem, ShortOutput, BadTime, WrongPhase, NothingDue, ManyAwaited, IdentityAwaited, SequenceSpent, NotAccepted, LongPacket}
use Rattle.answer.specs.declared.Report.{Report}
use Rattle.answer.specs.declared.Answer.{Answer}
use Rattle.answer.specs.declared.Answer.TheVariants.{Done, Refused}
use Rattle.answer.specs.Number.{refusal_number, number_of}
use Rattle.answer.specs.Given.{given_by}
use Rattle.answer.specs.Order.{in_order}

-- document 01, without the number that nothing meets: checked in the order 2, 3, 4, 12, 5, 6, 1, 7, 8, 9, 10
pub order : map refusal_number in_order ≡ 2 ∷ 3 ∷ 4 ∷ 12 ∷ 5 ∷ 6 ∷ 1 ∷ 7 ∷ 8 ∷ 9 ∷ 10 ∷ []
order = refl

by_number : List Refusal
by_number =
    Ignored
    ∷ NoSuchLink
    ∷ NoSuchItem
    ∷ ShortOutput
    ∷ BadTime
    ∷ WrongPhase
    ∷ NothingDue
    ∷ ManyAwaited
    ∷ IdentityAwaited
    ∷ SequenceSpent
    ∷ NotAccepted
    ∷ LongPacket
    ∷ []

back : (r : Refusal) → get_or by_number (refusal_number r - 1) Ignored ≡ r
unfolding by_number
back Ignored = refl
back NoSuchLink = refl
back NoSuchItem = refl
back ShortOutput = refl
back BadTime = refl
back WrongPhase = refl
back NothingDue = refl
back ManyAwaited = refl
back IdentityAwaited = refl
back SequenceSpent = refl
back NotAccepted = refl
back LongPacket = refl

-- a number stands for one refusal
pub distinct : (a b : Refusal) → refusal_number a ≡ refusal_number b → a ≡ b
distinct a b e = sym (back a) ∙ ap (λ (n : ℕ). get_or by_number (n - 1) Ignored) e ∙ back b

pub range : (r : Refusal) → (1 ≤ refusal_number r) × (refusal_number r ≤ 12)
range Ignored = omega arith
range NoSuchLink = omega arith
range NoSuchItem = omega arith
range ShortOutput = omega arith
range BadTime = omega arith
range WrongPhase = omega arith
range NothingDue = omega arith
range ManyAwaited = omega arith
range IdentityAwaited = omega arith
range SequenceSpent = omega arith
range NotAccepted = omega arith
range LongPacket = omega arith

-- 0 is exactly done
pub done_is_0 : (r : Report) → number_of (Done r) ≡ 0
done_is_0 r = refl

pub 0-is-done : (a : Answer) → number_of a ≡ 0 → (r : Report) × (a ≡ Done r)
0-is-done (Done r) e = (r, refl)
0-is-done (Refused r) e = absurd (omega (arith, (range r).0))

-- refusals of one number are one answer
pub same_number : (a b : Refusal) → number_of (Refused a) ≡ number_of (Refused b) → Refused a ≡ Refused b
same_number a b e = ap Refused (distinct a b e)

pub number_given : (a : Answer) → (given_by a).number ≡ number_of a
number_given (Done r) = refl
number_given (Refused r) = refl
