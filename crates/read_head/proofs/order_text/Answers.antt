use Rattle.basis.proofs.Std.{◌∙◌, rules}
use Rattle.read_head.proofs.Leaves.{requests, acknowledges, suspends, resumes, orders_nothing}
use Rattle.read_head.proofs.order_text.Goals as goal

pub returns-then-is_word : goal.returns-then-is_word
returns-then-is_word c = c.an_order.ensures ∙ requests c.args.d.now c.is_word.ensures c.if-is_word.true

pub returns-then-is_word-2 : goal.returns-then-is_word-2
returns-then-is_word-2 c = c.an_order-then-is_word-2.ensures ∙ acknowledges c.args.d.now c.is_word.ensures c.if-is_word.false c.is_word-2.ensures c.if-is_word-2.true

pub returns-then-is_word-3 : goal.returns-then-is_word-3
returns-then-is_word-3 c = c.an_order-then-is_word-3.ensures ∙ suspends c.args.d.now c.is_word.ensures c.if-is_word.false c.is_word-2.ensures c.if-is_word-2.false c.is_word-3.ensures c.if-is_word-3.true

pub returns-then-is_word-4 : goal.returns-then-is_word-4
returns-then-is_word-4 c = c.an_order-then-is_word-4.ensures ∙ resumes c.args.d.now c.is_word.ensures c.if-is_word.false c.is_word-2.ensures c.if-is_word-2.false c.is_word-3.ensures c.if-is_word-3.false c.is_word-4.ensures c.if-is_word-4.true

pub returns : goal.returns
returns c = c.an_order-2.ensures ∙ orders_nothing c.args.d.now c.is_word.ensures c.if-is_word.false c.is_word-2.ensures c.if-is_word-2.false c.is_word-3.ensures c.if-is_word-3.false c.is_word-4.ensures c.if-is_word-4.false
