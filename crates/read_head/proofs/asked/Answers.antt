use Rattle.basis.proofs.Std.{true, false, text, rules, ◌≡◌, sym, ap, ◌∙◌}
use Rattle.identity.specs.declared.ReadIdentity.{ReadIdentity}
use Rattle.json_value.specs.Reader.{skip_ws}
use Rattle.read_head.specs.declared.Element.{Element}
use Rattle.read_head.specs.Word.{word_of, word_at}
use Rattle.read_head.proofs.Copies.{says, has_characters, found_at}
use Rattle.read_head.specs.Head.{identity_of}
use Rattle.read_head.proofs.asked.Goals as goal

pub returns-then-o : goal.returns-then-o
returns-then-o c =
    let t = skip_ws c.args.s.now in
    let f = found_at t (text "mId") in
    let q = c.identity_of-o.ensures ∙ ap identity_of (ap word_of c.element_of-e.ensures ∙ says f) in
    let k : (identity_of (word_at t (text "mId"))).found ≡ true = ap (λ (o : ReadIdentity). o.found) (sym q) ∙ c.if-o.true in
    let b = ap (λ (e : Element). e.copy.bytes) c.element_of-e.ensures ∙ has_characters f in
    rw b (sym (rw k))

pub returns-else-o : goal.returns-else-o
returns-else-o c =
    let t = skip_ws c.args.s.now in
    let q = c.identity_of-o.ensures ∙ ap identity_of (ap word_of c.element_of-e.ensures ∙ says (found_at t (text "mId"))) in
    let k : (identity_of (word_at t (text "mId"))).found ≡ false = ap (λ (o : ReadIdentity). o.found) (sym q) ∙ c.if-o.false in
    c.ignored.ensures ∙ sym (rw k)
