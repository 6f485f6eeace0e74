-- The code's start is the machine's.
-- Assumes nothing.
use Rattle.basis.proofs.Std.{ℕ, ◌≤◌, ◌<◌, ◌≡◌, refl, sym, ap, ◌∙◌, subst, true, List, [], Option, some, none, ◌⊎◌, inl, inr, arith, replicate, ne_eqb, bool_cases, not_both}
use Rattle.pool.specs.declared.Pool.{Pool}
use Rattle.pool.specs.Pool.{empty_of}
use Rattle.table_whole.specs.Table.{Table}
use Rattle.table_whole.specs.Memory.{memory_of}
use Rattle.table_whole.proofs.Whole.{same_table}
use Rattle.site.specs.declared.Step.{Step}
use Rattle.call_start.specs.Fresh.{alone, site_for, cleared_for, pool_for, fresh, primary_of}
use Rattle.call_start.specs.Starts.{Within, Starts}
use Rattle.call_start.specs.Starts.Starts.{starts, refuses}
use Rattle.machine.specs.State.{Share, no_share, Pool as Listed, shared_pool, with_beside, Start, Machine}
use Rattle.machine.specs.Table.{good_start, first as first_of, Begins}
use Rattle.machine.specs.Table.Begins.{begins, not_good, no_table}
use Rattle.machine.specs.Box.{with_pool}
use Rattle.refine_parts.specs.Same.{Beside, nobody, SamePool}
use Rattle.refine_parts.proofs.Beside.{same_beside}
use Rattle.refine_calls.specs.Abstracts.{Abstracts}
use Rattle.refine_calls.specs.Start.{start_for, SameBeginning, Starting}
use Rattle.refine_calls.proofs.Values.{good, within, within_alone}
use Rattle.refine_calls.proofs.First.{first_same}

-- k is the machine's site, `site` what the code is asked for
module _ (table : List ℕ) (p : Pool) (k site links primary period first time : ℕ) where
  abbrev start : Start
  start = start_for k table links primary period first time

  module _ (few : Within site links primary period first time → k ≤ 1) (back : good_start start ≡ true → Within site links primary period first time) where
    beginning : (x : Step) → Starts table p site links primary period first time x → SameBeginning start x
    beginning x (starts {edition = d} {t = t} v e w) =
        record { machine = some (first_of t start); begins = begins v e (good k table links primary period first time w (few w)); only = only; answer = refl }
      where
        only : (m : Option Machine) → Begins start m → m ≡ some (first_of t start)
        only m (begins {t = u} a q g) = ap (λ (y : Table). some (first_of y start)) (same_table u t a v (q ∙ sym e))
        only m (not_good g) = not_both (good k table links primary period first time w (few w)) g
        only m (no_table n) = absurd (n d t v e)
    beginning x (refuses n) =
        record {
          machine = none;
          begins = bool_cases (good_start start) (λ g. no_table (λ d t v e. n d t v e (back g))) not_good;
          only = only;
          answer = refl;
        }
      where
        only : (m : Option Machine) → Begins start m → m ≡ none
        only m (begins {edition = d} {t = t} v e g) = absurd (n d t v e (back g))
        only m (not_good g) = refl
        only m (no_table e) = refl

    standing : {beside : Beside} (share : Share) → site_for site ≡ k
        → (Within site links primary period first time → SamePool links beside k (pool_for site p) first (shared_pool k first [] (replicate links 0) share))
        → (x : Step) → Starts table p site links primary period first time x → (m : Machine) → Begins start (some m) → Abstracts beside x.site (with_pool (with_beside share m.pool) m)
    standing {beside} share z same x (starts {edition = d} {t = t} v e w) m (begins {t = u} a q g) =
        let other : Listed = shared_pool k first [] (replicate links 0) share in
        subst (λ (y : Table). Abstracts beside (fresh (pool_for site p) (site_for site) (memory_of t) links (primary_of primary) period first time) (with_pool other (first_of y start)))
        (sym (same_table u t a v (q ∙ sym e)))
        (subst (λ (j : ℕ). Abstracts beside (fresh (pool_for site p) j (memory_of t) links (primary_of primary) period first time) (with_pool other (first_of t start))) (sym z)
        (first_same d t v (pool_for site p) k table links primary period first time w other (same w)))
    standing share z same x (refuses n) m (begins {edition = d} {t = u} a q g) = absurd (n d u a q (back g))

-- ---- of a site that is not alone
module _ (p : Pool) (site : ℕ) (h : site ≡ alone → ⊥) where
  its_site : site_for site ≡ site
  its_site = rw (ne_eqb site alone h)

  its_pool : pool_for site p ≡ cleared_for site p
  unfolding pool_for
  its_pool = rw (ne_eqb site alone h)

  one_of_two : {links primary period first time : ℕ} → Within site links primary period first time → site ≤ 1
  one_of_two w = by w.a_site_or_alone_lem
    where
      by : (site < 2) ⊎ (site ≡ alone) → site ≤ 1
      by (inl b) = omega (arith, b)
      by (inr e) = absurd (h e)

-- ---- of an only one
no_pool : (p : Pool) → pool_for alone p ≡ empty_of 8
unfolding pool_for
no_pool p = refl

alone_few : {n links primary period first time : ℕ} → Within n links primary period first time → 0 ≤ 1
alone_few w = omega arith

pub starting : Starting
starting =
    record {
      begins = λ table p site links primary period first time x st h.
          beginning table p site site links primary period first time (one_of_two p site h) (within site table links primary period first time) x st;
      stands = λ table p site links primary period first time x st h m b {beside} {share} rest.
          standing table p site site links primary period first time (one_of_two p site h) (within site table links primary period first time) share (its_site p site h)
          (λ w. subst (λ (q : Pool). SamePool links beside site q first (shared_pool site first [] (replicate links 0) share)) (sym (its_pool p site h))
          (same_beside.starts rest (one_of_two p site h w) links first w.most_links w.highest_first))
          x st m b;
      begins_alone = λ table p links primary period first time x st.
          beginning table p 0 alone links primary period first time alone_few (within_alone 0 table links primary period first time) x st;
      stands_alone = only_site;
    }
  where
    only_site : (table : List ℕ) (p : Pool) (links primary period first time : ℕ) (x : Step) → Starts table p alone links primary period first time x
        → (m : Machine) → Begins (start_for 0 table links primary period first time) (some m) → Abstracts nobody x.site m
    only_site table p links primary period first time x st m (begins a q g) =
        standing table p 0 alone links primary period first time alone_few (within_alone 0 table links primary period first time) no_share refl
        (λ w. subst (λ (r : Pool). SamePool links nobody 0 r first (shared_pool 0 first [] (replicate links 0) no_share)) (sym (no_pool p))
        (same_beside.alone links first w.most_links w.highest_first))
        x st m (begins a q g)
