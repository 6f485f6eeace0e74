-- The characters that a request's head keeps are its mId's.
-- Assumes nothing.
use Rattle.basis.proofs.Std.{ℕ, ◌-◌, ◌≡◌, refl, sym, ◌∙◌, ap, subst, Bool, true, List, [], ◌∷◌, ◌++◌, arith, length, replicate, length-map, text, same_bytes, picked, untrue}
use Rattle.identity.specs.declared.ReadIdentity.{ReadIdentity}
use Rattle.identity.specs.Hex.{lower_hex}
use Rattle.identity.specs.Read.{Says, read_identity}
use Rattle.identity.proofs.Read.{answers}
use Rattle.identity.proofs.Text.{text_length}
use Rattle.names.specs.declared.Found.{Found}
use Rattle.names.specs.declared.Found.TheVariants.{At, Nothing}
use Rattle.json_value.specs.Reader.{skip_ws}
use Rattle.json_packet.specs.Packet.{is_packet}
use Rattle.write_laws.specs.Formed.{Received}
use Rattle.read_head.specs.declared.Verdict.{Verdict}
use Rattle.read_head.specs.declared.Verdict.TheVariants.{Good, Missing, Bad}
use Rattle.read_head.specs.declared.Kind.{Kind}
use Rattle.read_head.specs.declared.Class.{Class}
use Rattle.read_head.specs.declared.Class.TheVariants.{Ignored, Acked, NotAcked, Asked}
use Rattle.read_head.specs.declared.Head.{Head}
use Rattle.read_head.specs.Word.{Word, absent, other, word, word_at}
use Rattle.read_head.specs.Values.{verdict_of}
use Rattle.read_head.specs.Head.{identity_of, characters, type_of, is_type, kind_for, included_for, ignored, answered, asked, head_for, head_of, head_by, head_at}
use Rattle.call_laws.specs.Formedness.{ReceivedIn}

-- a request's characters are those of an identity
abbrev Kept : Head → Type 0
Kept h = (v : Verdict) (k : Kind) → h.class ≡ Asked v k → Received h.received.bytes

abbrev which : Class → ℕ
which Ignored = 0
which Acked = 1
which NotAcked = 2
which (Asked v k) = 3

ignored_kept : Kept ignored
ignored_kept v k e = absurd (omega (arith, ap which e))

-- an identity's text has 36 characters
said_length : (d bs : List ℕ) → Says d bs → length d ≡ 36
said_length d bs h = sym (length-map d lower_hex) ∙ ap length h.said ∙ text_length bs

append-nil : (d : List ℕ) → d ≡ d ++ []
append-nil [] = refl
append-nil (x ∷ d) = ap (λ (r : List ℕ). x ∷ r) (append-nil d)

all_of_it : (d : List ℕ) → length d ≡ 36 → d ≡ d ++ replicate (36 - length d) 0
all_of_it d e = subst (λ (n : ℕ). d ≡ d ++ replicate (36 - n) 0) (sym e) (append-nil d)

characters_kept : (w : Word) → (identity_of w).found ≡ true → Received (characters w)
characters_kept absent e = untrue e
characters_kept other e = untrue e
characters_kept (word d) e =
    let h = (answers d).accepted e in
    subst Received (all_of_it d (said_length d (read_identity d).id.bytes h)) (record { bytes = (read_identity d).id.bytes; says = h })

asked_kept : (k : Kind) (included : Bool) (v : Verdict) (w : Word) → Kept (asked k included v w)
asked_kept k included v w =
    picked Kept (identity_of w).found _ ignored (λ e. λ a b c. characters_kept w e) (λ e. ignored_kept)

answer_kept : (c : Class) → ((v : Verdict) (k : Kind) → c ≡ Asked v k → ⊥) → (v : Verdict) (o : ReadIdentity) → Kept (answered c v o)
answer_kept c n Good o = picked Kept o.found _ ignored (λ e. λ a b d. absurd (n a b d)) (λ e. ignored_kept)
answer_kept c n Missing o = ignored_kept
answer_kept c n Bad o = ignored_kept

for_kept : (i : ℕ) (v : Verdict) (f : List ℕ → Word) → Kept (head_for i v f)
for_kept i v f =
    picked Kept (is_type "MessageAck" i) _ _ (λ e. answer_kept Acked (λ a b d. omega (arith, ap which d)) v (identity_of (f (text "oMId"))))
    (λ e. picked Kept (is_type "MessageNotAck" i) _ _ (λ g. answer_kept NotAcked (λ a b d. omega (arith, ap which d)) v (identity_of (f (text "oMId"))))
    (λ g. asked_kept (kind_for i) (included_for i) v (f (text "mId"))))

of_kept : (t : Found) (v : Verdict) (f : List ℕ → Word) → Kept (head_of t v f)
of_kept (At i) v f = for_kept i v f
of_kept Nothing v f = asked_kept _ _ v (f (text "mId"))

by_kept : (f : List ℕ → Word) → Kept (head_by f)
unfolding head_by
by_kept f = of_kept (type_of (f (text "type"))) (verdict_of (λ d. same_bytes d (text "rSMsg")) (f (text "mType"))) f

pub received : ReceivedIn
unfolding head_at
received packet = picked Kept (is_packet packet) (head_by (word_at (skip_ws packet))) ignored (λ e. by_kept (word_at (skip_ws packet))) (λ e. ignored_kept)
