-- `packet_greet::accepted` meets its contract.
-- Assumes nothing.
use Rattle.packet_greet.proofs.accepted.Goals as goal

pub returns : goal.returns
returns c =
    let put = c.put_link.ensures in
    record {
      site = λ ps t. rw (← c.link-k.ensures ps t, ← c.version_accepted.ensures) (put.site ps t);
      plain = put.plain;
    }
