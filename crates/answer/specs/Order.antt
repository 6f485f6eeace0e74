-- The order of the checks: a call gives the first number whose condition applies.
-- Assumes nothing.
use Rattle.std.specs.Prelude.{◌≡◌, Bool, true, false, List, [], ◌∷◌}
use Rattle.basis.specs.Pick.{pick}
use Rattle.answer.specs.declared.Refusal.{Refusal}
use Rattle.answer.specs.declared.Refusal.TheVariants.{
  Ignored,
  NoSuchLink,
  NoSuchItem,
  ShortOutput,
  BadTime,
  WrongPhase,
  NothingDue,
  ManyAwaited,
  IdentityAwaited,
  SequenceSpent,
  LongPacket,
}
use Rattle.answer.specs.declared.Answer.{Answer}
use Rattle.answer.specs.declared.Answer.TheVariants.{Refused}

abbrev pub in_order : List Refusal
in_order =
    NoSuchLink
    ∷ NoSuchItem
    ∷ ShortOutput
    ∷ LongPacket
    ∷ BadTime
    ∷ WrongPhase
    ∷ Ignored
    ∷ NothingDue
    ∷ ManyAwaited
    ∷ IdentityAwaited
    ∷ SequenceSpent
    ∷ []

-- the first refusal of the list that applies; where none does, a
abbrev pub judged : (Refusal → Bool) → List Refusal → Answer → Answer
judged applies [] a = a
judged applies (r ∷ rs) a = pick (applies r) (Refused r) (judged applies rs a)

-- none of the list applies
pub data None (applies : Refusal → Bool) : List Refusal → Type 0 where
  none : None applies []
  more : {r : Refusal} {rs : List Refusal} → applies r ≡ false → None applies rs → None applies (r ∷ rs)

-- r is the first of the list that applies
pub data First (applies : Refusal → Bool) (r : Refusal) : List Refusal → Type 0 where
  here : {rs : List Refusal} → applies r ≡ true → First applies r (r ∷ rs)
  later : {s : Refusal} {rs : List Refusal} → applies s ≡ false → First applies r rs → First applies r (s ∷ rs)
