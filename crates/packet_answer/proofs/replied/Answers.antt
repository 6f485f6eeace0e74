-- `packet_answer::replied` meets its contract.
-- Assumes nothing.
use Rattle.basis.proofs.Std.{ap, ◌∙◌}
use Rattle.store_site.specs.Layout.{with_last}
use Rattle.site.specs.declared.Site.{Site}
use Rattle.packet_answer.proofs.replied.Goals as goal

pub returns : goal.returns
returns c =
    let put = c.put_link.ensures in
    let last = c.put_last.ensures in
    record {
      site = λ ps t. last.site ps t ∙ rw (← c.link-k.ensures ps t, ← c.other_out.ensures) (ap (λ (s : Site). with_last s c.args.q.time) (put.site ps t));
      plain = λ p. last.plain (put.plain p);
    }
