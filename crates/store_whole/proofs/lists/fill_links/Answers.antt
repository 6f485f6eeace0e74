-- `store_whole::lists::fill_links` meets its contract.
-- Assumes nothing.
use Rattle.basis.proofs.Std.{sym, arith, replicate, length-replicate, get_or-replicate}
use Rattle.link.specs.Fields.{closed_link}
use Rattle.store_site.proofs.SiteLaws.{link_turns}
use Rattle.store_whole.proofs.FillLaws.{upto_none, upto_next, upto_all}
use Rattle.store_whole.proofs.ListLaws.{links_part, plain_next}
use Rattle.store_whole.proofs.lists.fill_links.Goals as goal

pub loop-k-init : goal.loop-k-init
loop-k-init c = (upto_none links_part closed_link c.args.w.now (replicate 4 c.args.x), λ j h. absurd (omega arith))

pub loop-k-preserved : goal.loop-k-preserved
loop-k-preserved c =
    let l = c.loop-k in
    (upto_next links_part closed_link c.args.w.now l.w c.put_link_at.new.w (replicate 4 c.args.x) l.k l.invariant.0 (omega arith) (length-replicate 4 c.args.x) c.args.x (sym (get_or-replicate 4 l.k c.args.x closed_link (omega arith))) (link_turns l.w c.put_link_at.new.w l.k c.args.x (omega arith) c.put_link_at.ensures), plain_next l.w c.put_link_at.new.w l.k c.args.x c.put_link_at.ensures l.invariant.1)

pub returns : goal.returns
returns c =
    let l = c.loop-k in
    let all = upto_all links_part closed_link c.args.w.now l.w (replicate 4 c.args.x) l.k (omega arith) (length-replicate 4 c.args.x) l.invariant.0 in
    record { site = all.site; plain = λ j h. l.invariant.1 j (omega arith) }
