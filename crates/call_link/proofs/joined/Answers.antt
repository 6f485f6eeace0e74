-- `call_link::joined` meets its contract.
-- Assumes nothing.
use Rattle.basis.proofs.Std.{ap, ◌∙◌}
use Rattle.site.specs.declared.Site.{Site}
use Rattle.store_site.specs.Layout.{with_last}
use Rattle.call_link.proofs.joined.Goals as goal

pub returns : goal.returns
returns c =
    let put = c.put_link in
    let last = c.put_last in
    record {
      site = λ ps t. last.ensures.site ps t ∙ rw (← c.link-k.ensures ps t, ← c.connect.ensures) (ap (λ (s : Site). with_last s c.args.time) (put.ensures.site ps t));
      plain = λ p. last.ensures.plain (put.ensures.plain p);
    }
