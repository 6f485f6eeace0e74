-- An awaited identity by its text.
-- Assumes nothing.
use Rattle.basis.proofs.Std.{ℕ, ◌≡◌, sym, ap, ◌∙◌, List, none, same_bytes, Among, bool_cases, same_is, same_true, same_self}
use Rattle.identity.specs.declared.Identity.{Identity}
use Rattle.identity.specs.Hex.{lowered}
use Rattle.identity.specs.Text.{identity_text}
use Rattle.identity.specs.Read.{SixteenBytes, Says, bytes_of}
use Rattle.identity.proofs.Text.{bytes_said}
use Rattle.machine.specs.Words.{first_that, but_first}
use Rattle.machine.specs.Json.{is_identity_of}
use Rattle.machine.specs.State.{Awaited}
use Rattle.refine_parts.proofs.LifeLists.{first_same, first_never, but_first_same}
use Rattle.refine_parts.proofs.Waits.{is_of}

one_said : (s a b : List ℕ) → Says s a → Says s b → a ≡ b
one_said s a b p q = sym (bytes_said a p.valid) ∙ ap bytes_of (sym p.said ∙ q.said) ∙ bytes_said b q.valid

-- a text has the identity of sixteen bytes where they are the ones that it says
by_text : (s : List ℕ) (id : Identity) → Says s id.bytes → (bs : List ℕ) → SixteenBytes bs → is_identity_of bs s ≡ same_bytes bs id.bytes
by_text s id q bs v =
    same_is bs id.bytes (is_identity_of bs s)
    (λ e. one_said s bs id.bytes (record { valid = v; said = same_true (lowered s) (identity_text bs) e }) q)
    (λ e. rw (q.said, e) (same_self (identity_text id.bytes)))

module _ (ws : List Awaited) (bytes : (w : Awaited) → Among w ws → SixteenBytes w.identity) (s : List ℕ) where
  pub first_by : (id : Identity) → Says s id.bytes → first_that (λ (w : Awaited). is_identity_of w.identity s) ws ≡ first_that (is_of id) ws
  first_by id q = first_same (λ (w : Awaited). is_identity_of w.identity s) (is_of id) ws (λ w a. by_text s id q w.identity (bytes w a))

  pub but_first_by : (id : Identity) → Says s id.bytes → but_first (λ (w : Awaited). is_identity_of w.identity s) ws ≡ but_first (is_of id) ws
  but_first_by id q = but_first_same (λ (w : Awaited). is_identity_of w.identity s) (is_of id) ws (λ w a. by_text s id q w.identity (bytes w a))

  pub none_by : ((bs : List ℕ) → Says s bs → ⊥) → first_that (λ (w : Awaited). is_identity_of w.identity s) ws ≡ none
  none_by n =
      first_never (λ (w : Awaited). is_identity_of w.identity s) ws
      (λ w a. bool_cases (is_identity_of w.identity s)
      (λ e. absurd (n w.identity (record { valid = bytes w a; said = same_true (lowered s) (identity_text w.identity) e })))
      (λ e. e))
