-- Reading an identity: the function gives the answer, there is one answer only, and what was written is read back.
-- Assumes nothing.
use Rattle.basis.proofs.Std.{◌≡◌, refl, sym, ap, subst, ◌∙◌, true, List, ℕ, ◌+◌, ◌<◌, arith, lit≤, length, get_or, bool_cases, picked, same_bytes, same_true, same_self, not_both, untrue}
use Rattle.identity.specs.declared.ReadIdentity.{ReadIdentity}
use Rattle.identity.specs.Hex.{lowered}
use Rattle.identity.specs.Text.{identity_text}
use Rattle.identity.specs.Read.{SixteenBytes, Says, found, not_found, starts, byte_at, bytes_of, read_identity, Answers, IdentityRead}
use Rattle.identity.proofs.Fill.{mapped, mapped_below}
use Rattle.identity.proofs.Hex.{value_below}
use Rattle.identity.proofs.Text.{text_length, bytes_said, text_lowered}
use Rattle.identity.proofs.Lowered.{lowered_length}

byte_below : (l : List ℕ) (p : ℕ) → byte_at l p < 256
byte_below l p = omega (arith, value_below (get_or l p 0), value_below (get_or l (p + 1) 0))

pub byte_read : (l : List ℕ) (i : ℕ) → i < 16 → get_or (bytes_of l) i 0 ≡ byte_at l (get_or starts i 0)
unfolding bytes_of
byte_read l i h = mapped (byte_at l) starts i h

sixteen_said : (l : List ℕ) → SixteenBytes (bytes_of l)
unfolding bytes_of
sixteen_said l = record { sixteen = refl; bytes = mapped_below 256 (lit≤ tt) (byte_at l) (byte_below l) starts }

-- the bytes that a text says are the ones that its digits say
said_bytes : (s bs : List ℕ) → Says s bs → bytes_of (lowered s) ≡ bs
said_bytes s bs h = ap bytes_of h.said ∙ bytes_said bs h.valid

pub answers : (s : List ℕ) → Answers s (read_identity s)
unfolding read_identity
answers s =
    let b = same_bytes (lowered s) (identity_text (bytes_of (lowered s))) in
    picked (Answers s) b (found (bytes_of (lowered s))) not_found
    (λ e. record {
      accepted = λ _. record { valid = sixteen_said (lowered s); said = same_true (lowered s) (identity_text (bytes_of (lowered s))) e };
      refused = λ f. not_both refl f;
    })
    (λ e. record {
      accepted = λ t. untrue t;
      refused = λ _. (
        refl,
        λ bs h.
            let k : lowered s ≡ identity_text (bytes_of (lowered s)) = h.said ∙ ap identity_text (sym (said_bytes s bs h)) in
            not_both (subst (λ (l : List ℕ). same_bytes (lowered s) l ≡ true) k (same_self (lowered s))) e,
      );
    })

-- a text has one answer only
pub one_answer : (s : List ℕ) (a b : ReadIdentity) → Answers s a → Answers s b → a ≡ b
one_answer s a b p q =
    bool_cases a.found
    (λ t. bool_cases b.found
    (λ u.
    let e : a.id.bytes ≡ b.id.bytes = sym (said_bytes s a.id.bytes (p.accepted t)) ∙ said_bytes s b.id.bytes (q.accepted u) in
    let f : a.found ≡ b.found = t ∙ sym u in
    λ i. record { found = f i; id = record { bytes = e i } })
    (λ u. absurd ((q.refused u).1 a.id.bytes (p.accepted t))))
    (λ t. bool_cases b.found
    (λ u. absurd ((p.refused t).1 b.id.bytes (q.accepted u)))
    (λ u. (p.refused t).0 ∙ sym (q.refused u).0))

-- reading what was written gives the same bytes
pub read_written : (bs : List ℕ) → SixteenBytes bs → read_identity (identity_text bs) ≡ found bs
read_written bs v =
    let s : Says (identity_text bs) bs = record { valid = v; said = text_lowered bs v } in
    one_answer (identity_text bs) (read_identity (identity_text bs)) (found bs) (answers (identity_text bs))
    (record { accepted = λ _. s; refused = λ f. not_both refl f })

-- what equals the function is the answer
pub read_as : (s : List ℕ) (r : ReadIdentity) → r ≡ read_identity s → IdentityRead s r
read_as s r e = record { answers = subst (Answers s) (sym e) (answers s); equals = e }

-- a text of another length is none
pub short : (s : List ℕ) → (length s ≡ 36 → ⊥) → not_found ≡ read_identity s
unfolding read_identity
short s n = rw (← (lowered_length s (identity_text (bytes_of (lowered s))) (λ e. n (e ∙ text_length (bytes_of (lowered s))))))
