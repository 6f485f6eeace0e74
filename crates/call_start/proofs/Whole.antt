-- Start is what document 01 says of it, and there is one result for each input.
-- Assumes nothing.
use Rattle.basis.proofs.Std.{ℕ, ◌≡◌, refl, sym, ap, subst, ◌∙◌, true, false, true≢false, List, bool_cases}
use Rattle.answer.specs.declared.Answer.TheVariants.{Done}
use Rattle.table_whole.specs.declared.TableRead.{TableRead}
use Rattle.table_whole.specs.Reads.{Reads}
use Rattle.table_whole.specs.Reads.Reads.{reads, refuses as no_table}
use Rattle.table_whole.proofs.Whole.{once as one_table}
use Rattle.site.specs.declared.Step.{Step}
use Rattle.site.specs.Call.{nothing_of}
use Rattle.pool.specs.declared.Pool.{Pool}
use Rattle.call_start.specs.Fresh.{site_for, pool_for, fresh, primary_of}
use Rattle.call_start.specs.Starts.{Starts}
use Rattle.call_start.specs.Starts.Starts.{starts, refuses}
use Rattle.call_start.specs.Making.{is_within, not_accepted, judged_by, make_of}
use Rattle.call_start.proofs.Values.{within_all, all_within_lem}

module _ (p : Pool) (site links primary period first time : ℕ) where
  pub taken : (r : TableRead) → is_within site links primary period first time ≡ true
      → make_of r p site links primary period first time ≡ judged_by r.verdict (fresh (pool_for site p) (site_for site) r.table links (primary_of primary) period first time)
  unfolding make_of
  taken r e = rw e refl

  pub not_taken : (r : TableRead) → is_within site links primary period first time ≡ false → make_of r p site links primary period first time ≡ not_accepted
  unfolding make_of
  not_taken r e = rw e refl

  pub starts_so : (b : List ℕ) (r : TableRead) → Reads b r → Starts b p site links primary period first time (make_of r p site links primary period first time)
  starts_so b r q =
      bool_cases (is_within site links primary period first time)
      (λ e. subst (Starts b p site links primary period first time) (sym (taken r e)) (made r q e))
      (λ e.
      subst (Starts b p site links primary period first time) (sym (not_taken r e))
      (refuses (λ edition t v q w. true≢false (sym (all_within_lem site links primary period first time w) ∙ e))))
    where
      made : (r : TableRead) → Reads b r → is_within site links primary period first time ≡ true
          → Starts b p site links primary period first time (judged_by r.verdict (fresh (pool_for site p) (site_for site) r.table links (primary_of primary) period first time))
      made r (reads v q) e = starts v q (within_all site links primary period first time e)
      made r (no_table n) e = refuses (λ edition t v q w. n edition t v q)

  -- one result for each input
  pub once : {b : List ℕ} {r q : Step} → Starts b p site links primary period first time r → Starts b p site links primary period first time q → r ≡ q
  once (starts v u w) (starts x y z) =
      ap (λ (d : TableRead). record { site = fresh (pool_for site p) (site_for site) d.table links (primary_of primary) period first time; answer = Done nothing_of })
      (one_table (reads v u) (reads x y))
  once (starts {edition = m} {t = t} v u w) (refuses n) = absurd (n m t v u w)
  once (refuses n) (starts {edition = m} {t = t} v u w) = absurd (n m t v u w)
  once (refuses n) (refuses m) = refl
