-- `sitec::messages::rsmp_lent_packet` meets its contract.
-- Assumes nothing.
use Rattle.identity.specs.Version.{identity_of}
use Rattle.store_table.specs.Layout.{table_of}
use Rattle.packet_command.specs.Handing.{commands_in}
use Rattle.sitec.proofs.Laws.{told_misfits, tells, hand_misfits, hands_over, named_only}
use Rattle.sitec.proofs.messages.rsmp_lent_packet.Goals as goal

pub returns-then-p-ne-POOL_WORDS : goal.returns-then-p-ne-POOL_WORDS
returns-then-p-ne-POOL_WORDS c =
    (told_misfits (λ f. c.if-p-ne-POOL_WORDS.true f.0) c.misfit.ensures, hand_misfits (λ f. c.if-p-ne-POOL_WORDS.true f.0))

pub returns-then-w-ne-WORDS : goal.returns-then-w-ne-WORDS
returns-then-w-ne-WORDS c =
    (told_misfits (λ f. c.if-w-ne-WORDS.true f.1) c.misfit-then-w-ne-WORDS.ensures, hand_misfits (λ f. c.if-w-ne-WORDS.true f.1))

pub returns-then-t-ne-BYTES : goal.returns-then-t-ne-BYTES
returns-then-t-ne-BYTES c =
    (told_misfits (λ f. c.if-t-ne-BYTES.true f.2) c.misfit-then-t-ne-BYTES.ensures, hand_misfits (λ f. c.if-t-ne-BYTES.true f.2))

pub returns-then-commands-ne16 : goal.returns-then-commands-ne16
returns-then-commands-ne16 c =
    (told_misfits (λ f. c.if-commands-ne16.true f.3) c.misfit-then-commands-ne16.ensures, hand_misfits (λ f. c.if-commands-ne16.true f.3))

pub returns : goal.returns
returns c =
    let t = table_of c.args.t.now in
    let gives = c.packet-a.ensures in
    let only = named_only t c.args.p.now c.args.w.now c.args.link c.args.time (identity_of c.args.random) c.args.received.now in (
      tells (c.if-p-ne-POOL_WORDS.false, c.if-w-ne-WORDS.false, c.if-t-ne-BYTES.false, c.if-commands-ne16.false) c.packet-a.auto.p c.packet-a.auto.w gives c.outcome_of.ensures,
      hands_over (commands_in t c.args.received.now) only gives c.outcome_of.ensures c.hand.ensures,
    )
