-- What is due on a link of the site, in document 01's order.
-- Assumes nothing.
use Rattle.basis.proofs.Std.{ℕ, ◌≡◌, refl, ap, Bool, true, false, arith, eqb, eq-eqb, eqb-true, pick}
use Rattle.pool.specs.Pool.{oldest_unsent}
use Rattle.link.specs.declared.Role.TheVariants.{Primary, Secondary}
use Rattle.link.specs.Promises.{Order}
use Rattle.link.proofs.Kept.{order}
use Rattle.site.specs.declared.Site.{Site}
use Rattle.site.specs.Site.{link_at, role_of, owner_of}
use Rattle.call_pump.specs.Pump.{is_held}
use Rattle.call_pump.specs.Claims.{Passing, Passed, InOrder}

is_primary : (b : Bool) → pick b Primary Secondary ≡ Primary → b ≡ true
is_primary true e = refl
is_primary false e = let z : ◌≡◌ {A = ℕ} 0 1 = cc in absurd (omega arith)

pub in_order : (s : Site) (l time : ℕ) → InOrder s l time
in_order s l time =
    let u : Bool = is_held (oldest_unsent s.pool (owner_of s l)) in
    let o : Order (link_at s l) time s.period s.table.alarmcount (role_of s l) u = order (link_at s l) time s.period s.table.alarmcount (role_of s l) u in
    record {
      watchdog = o.watchdog;
      aggregated = o.aggregated;
      alarm = λ (p : Passing s l time) e k. o.alarm p.up p.soon p.aggregated (rw (eq-eqb l s.primary e) refl) k;
      entry = λ (p : Passing s l time) (d : Passed s l time) x f.
          o.entry p.up p.soon p.aggregated (λ e. d (eqb-true l s.primary (is_primary (eqb l s.primary) e))) (ap is_held f);
      nothing = λ (p : Passing s l time) (d : Passed s l time) f.
          o.nothing p.up p.soon p.aggregated (λ e. d (eqb-true l s.primary (is_primary (eqb l s.primary) e))) (ap is_held f);
    }
