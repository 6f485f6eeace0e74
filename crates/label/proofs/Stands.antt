-- Bytes that stand in a slice at a place: pieces one behind the other, and the whole.
-- Assumes nothing.
use Rattle.basis.proofs.Std.{◌≡◌, refl, sym, ap, ◌∙◌, List, [], ◌∷◌, ◌++◌, append_assoc, append-nil, ℕ, ◌+◌, arith, length, drop, length-append, drop-drop, drop-append_seam}

pub record Stands (s : List ℕ) (at : ℕ) (bs : List ℕ) : Type 0 where
  pub rest : List ℕ
  pub parts : drop at s ≡ bs ++ rest

pub behind : (s : List ℕ) (at : ℕ) (bs rest : List ℕ) → drop at s ≡ bs ++ rest → drop (at + length bs) s ≡ rest
behind s at bs rest e = sym (drop-drop (length bs) at s) ∙ ap (drop (length bs)) e ∙ drop-append_seam bs rest

pub first : (s : List ℕ) (at : ℕ) (bs cs : List ℕ) → Stands s at (bs ++ cs) → Stands s at bs
first s at bs cs h = record { rest = cs ++ h.rest; parts = h.parts ∙ append_assoc bs cs h.rest }

pub second : (s : List ℕ) (at : ℕ) (bs cs : List ℕ) → Stands s at (bs ++ cs) → Stands s (at + length bs) cs
second s at bs cs h = record { rest = h.rest; parts = behind s at bs (cs ++ h.rest) (h.parts ∙ append_assoc bs cs h.rest) }

pub joined : (s : List ℕ) (at : ℕ) (bs cs : List ℕ) → Stands s at bs → Stands s (at + length bs) cs → Stands s at (bs ++ cs)
joined s at bs cs h k =
    record {
      rest = k.rest;
      parts =
          h.parts
          ∙ ap (λ (l : List ℕ). bs ++ l) (sym (behind s at bs h.rest h.parts) ∙ k.parts)
          ∙ sym (append_assoc bs cs k.rest);
    }

empty : (l : List ℕ) → length l ≡ 0 → l ≡ []
empty [] e = refl
empty (x ∷ l) e = absurd (omega arith)

-- the whole, exactly
pub whole : {s bs : List ℕ} → Stands s 0 bs → length bs ≡ length s → bs ≡ s
whole {s} {bs} h e =
    let n : length h.rest ≡ 0 = omega (arith, length-append bs h.rest, ap length h.parts) in
    sym (append-nil bs) ∙ ap (λ (l : List ℕ). bs ++ l) (sym (empty h.rest n)) ∙ sym h.parts

pub itself : (s : List ℕ) → Stands s 0 s
itself s = record { rest = []; parts = sym (append-nil s) }
