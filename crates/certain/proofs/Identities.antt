-- A text is the identity of these bytes where the reader finds them.
-- Assumes nothing.
use Rattle.basis.proofs.Std.{ℕ, ◌≡◌, refl, ap, subst, ◌∙◌, true, List, same_bytes, same_true, same_self, not_both}
use Rattle.identity.specs.declared.ReadIdentity.{ReadIdentity}
use Rattle.identity.specs.Hex.{lowered}
use Rattle.identity.specs.Text.{identity_text}
use Rattle.identity.specs.Read.{SixteenBytes, found, read_identity}
use Rattle.identity.proofs.Read.{answers, one_answer}
use Rattle.entry.specs.Valid.{Decides}
use Rattle.machine.specs.Json.{is_identity_of}

pub identity_of_lem : (bs s : List ℕ) → SixteenBytes bs → Decides (is_identity_of bs s) (read_identity s ≡ found bs)
identity_of_lem bs s v =
    record {
      yes = λ e.
          one_answer s (read_identity s) (found bs) (answers s)
          (record { accepted = λ t. record { valid = v; said = same_true (lowered s) (identity_text bs) e }; refused = λ f. not_both refl f });
      only = λ e.
          let said : lowered s ≡ identity_text bs = ((answers s).accepted (ap (λ (r : ReadIdentity). r.found) e)).said ∙ ap (λ (r : ReadIdentity). identity_text r.id.bytes) e in
          subst (λ (l : List ℕ). same_bytes (lowered s) l ≡ true) said (same_self (lowered s));
    }
