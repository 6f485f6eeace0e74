-- Being the same identity: each is the same as itself, and what is the same as one is the same as its like.
-- Assumes nothing.
use Rattle.basis.proofs.Std.{◌≡◌, sym, ◌∙◌, subst, true, List, ℕ, same_bytes}
use Rattle.basis.proofs.Same as bytes
use Rattle.identity.specs.declared.Identity.{Identity}
use Rattle.awaited.specs.Slot.{same_identity}

pub same_self : (a : Identity) → same_identity a a ≡ true
unfolding same_identity
same_self a = bytes.same_self a.bytes

pub same_like : (a b d : Identity) → same_identity a b ≡ true → same_identity a d ≡ true → same_identity b d ≡ true
unfolding same_identity
same_like a b d p q =
    let e : b.bytes ≡ d.bytes = sym (bytes.same_true a.bytes b.bytes p) ∙ bytes.same_true a.bytes d.bytes q in
    subst (λ (l : List ℕ). same_bytes b.bytes l ≡ true) e (bytes.same_self b.bytes)
