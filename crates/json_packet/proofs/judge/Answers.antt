-- `json_packet::judge` meets its contract.
-- Assumes nothing.
use Rattle.basis.proofs.Std.{◌∙◌, sym}
use Rattle.json_packet.proofs.Whole.{none_there, no_object, no_value_lem, more_follows, by_marks, by_names}
use Rattle.json_packet.proofs.Judging.{refused, value_judged, taken}
use Rattle.json_packet.proofs.judge.Goals as goal

pub returns-then-s-i : goal.returns-then-s-i
returns-then-s-i c = refused _ _ (none_there _ _ c.space-i.ensures c.if-s-i.true)

pub returns-then-s-i-ne123 : goal.returns-then-s-i-ne123
returns-then-s-i-ne123 c = refused _ _ (no_object _ _ c.space-i.ensures c.if-s-i.false c.if-s-i-ne123.true)

pub returns-then-space-s : goal.returns-then-space-s
returns-then-space-s c =
    let ws = c.space-i.ensures in
    let there = c.if-s-i.false in
    let brace = c.if-s-i-ne123.false in
    let o = rw c.in-End.is at c.object-o.ensures in
    let v = value_judged _ _ there brace _ o.0 in
    refused _ _ (more_follows _ _ ws there brace _ v.place _ c.space.ensures c.if-space-s.true)

pub returns-then-sure : goal.returns-then-sure
returns-then-sure c =
    let ws = c.space-i.ensures in
    let there = c.if-s-i.false in
    let brace = c.if-s-i-ne123.false in
    let o = rw c.in-End.is at c.object-o.ensures in
    let v = value_judged _ _ there brace _ o.0 in
    taken _ _ there brace ws _ _ _ _ o.1 (by_marks _ _ ws there brace _ v.place _ c.space.ensures _ c.if-space-s.false (λ j u h. sym (v.says j u h) ∙ c.if-sure.true))

pub returns-then-names_once : goal.returns-then-names_once
returns-then-names_once c =
    let ws = c.space-i.ensures in
    let there = c.if-s-i.false in
    let brace = c.if-s-i-ne123.false in
    let o = rw c.in-End.is at c.object-o.ensures in
    let v = value_judged _ _ there brace _ o.0 in
    taken _ _ there brace ws _ _ _ _ o.1 (sym c.if-names_once.true ∙ by_names _ _ ws there brace _ v.place _ c.space.ensures c.if-space-s.false _ c.names_once.ensures)

pub returns-in-Bad : goal.returns-in-Bad
returns-in-Bad c =
    let ws = c.space-i.ensures in
    let there = c.if-s-i.false in
    let brace = c.if-s-i-ne123.false in
    let o = rw c.in-Bad.is at c.object-o.ensures in
    let v = value_judged _ _ there brace _ o.0 in
    refused _ _ (no_value_lem _ _ ws v.place)

pub returns-else-names_once : goal.returns-else-names_once
returns-else-names_once c =
    let ws = c.space-i.ensures in
    let there = c.if-s-i.false in
    let brace = c.if-s-i-ne123.false in
    let o = rw c.in-End.is at c.object-o.ensures in
    let v = value_judged _ _ there brace _ o.0 in
    refused _ _ (sym c.if-names_once.false ∙ by_names _ _ ws there brace _ v.place _ c.space.ensures c.if-space-s.false _ c.names_once.ensures)
