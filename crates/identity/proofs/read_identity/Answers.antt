use Rattle.basis.proofs.Std.{sym, ◌∙◌}
use Rattle.identity.proofs.Read.{read_as, short}
use Rattle.identity.specs.Read.{read_identity}
use Rattle.identity.proofs.read_identity.Goals as goal

pub returns-then-s-ne36 : goal.returns-then-s-ne36
returns-then-s-ne36 c =
    let s = c.args.s.now in
    read_as s _ (c.not_found.ensures ∙ short s c.if-s-ne36.true)

pub returns-then-same_lowered : goal.returns-then-same_lowered
unfolding read_identity
returns-then-same_lowered c =
    let s = c.args.s.now in
    let b = c.bytes_of.ensures in
    let t = c.identity_text-t.ensures in
    read_as s _ (sym (rw (← b, ← t, ← c.same_lowered.ensures, c.if-same_lowered.true)))

pub returns-else-same_lowered : goal.returns-else-same_lowered
unfolding read_identity
returns-else-same_lowered c =
    let s = c.args.s.now in
    let b = c.bytes_of.ensures in
    let t = c.identity_text-t.ensures in
    read_as s _ (c.not_found-else-same_lowered.ensures ∙ sym (rw (← b, ← t, ← c.same_lowered.ensures, c.if-same_lowered.false)))
