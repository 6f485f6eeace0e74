use Rattle.basis.proofs.Std.{sym, ap, ap₂, ◌∙◌, same_bytes, text, rules}
use Rattle.names.specs.declared.Found.{Found}
use Rattle.json_value.specs.Reader.{skip_ws}
use Rattle.read_head.specs.Word.{word_of, word_at}
use Rattle.read_head.specs.Head.{type_of, head_of, head_by}
use Rattle.read_head.specs.Values.{verdict_of}
use Rattle.read_head.specs.declared.Verdict.{Verdict}
use Rattle.read_head.proofs.Copies.{says, found_at}
use Rattle.read_head.proofs.head_by.Goals as goal

pub returns-in-At : goal.returns-in-At
unfolding head_by
returns-in-At c =
    let ty = sym (c.type_of-t.ensures ∙ ap type_of (ap word_of c.element_of-2.ensures ∙ says (found_at _ _))) ∙ c.in-At.is in
    let ve = c.verdict_of-v.ensures ∙ ap (verdict_of (λ d. same_bytes d (text "rSMsg"))) (ap word_of c.element_of.ensures ∙ says (found_at _ _)) in
    c.head_for.ensures ∙ ap₂ (λ (t : Found) (v : Verdict). head_of t v (word_at (skip_ws c.args.s.now))) (sym ty) ve

pub returns-in-Nothing : goal.returns-in-Nothing
unfolding head_by
returns-in-Nothing c =
    let ty = sym (c.type_of-t.ensures ∙ ap type_of (ap word_of c.element_of-2.ensures ∙ says (found_at _ _))) ∙ c.in-Nothing.is in
    let ve = c.verdict_of-v.ensures ∙ ap (verdict_of (λ d. same_bytes d (text "rSMsg"))) (ap word_of c.element_of.ensures ∙ says (found_at _ _)) in
    c.asked.ensures ∙ ap₂ (λ (t : Found) (v : Verdict). head_of t v (word_at (skip_ws c.args.s.now))) (sym ty) ve
