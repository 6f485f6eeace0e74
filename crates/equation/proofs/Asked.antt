-- What a contract allows is what the call's definition gives.
-- Assumes nothing.
use Rattle.basis.proofs.Std.{ℕ, ◌<◌, ◌≡◌, refl, sym, ap, ap₂, ◌∙◌, List, [], ◌∷◌, map, arith, ltb, length, take, get_or}
use Rattle.answer.specs.Number.{number_of}
use Rattle.identity.specs.declared.Identity.{Identity}
use Rattle.identity.specs.Version.{identity_of}
use Rattle.pool.specs.declared.Sought.{Sought}
use Rattle.pool.specs.declared.Sought.TheVariants.{Found, Nothing as NoEntry}
use Rattle.pool.specs.Pool.{oldest_unsent}
use Rattle.link.specs.declared.Due.{Due}
use Rattle.link.specs.declared.Due.TheVariants.{Nothing, Version, Watchdog, Aggregated, Alarm, Entry}
use Rattle.site.specs.declared.Site.{Site}
use Rattle.site.specs.Site.{owner_of}
use Rattle.call_pump.specs.Pump.{due_at, entry_plan, plan_for}
use Rattle.packet_command.specs.Handing.{command_word}
use Rattle.store_site.specs.Layout.{site_of, pool_words, site_words}
use Rattle.store_table.specs.Layout.{table_of, table_bytes}
use Rattle.sitec.specs.declared.Outcome.{Outcome}
use Rattle.sitec.specs.Outcome.{outcome_of}
use Rattle.sitec.specs.Lent.{Called, Told, Handed}
use Rattle.call_laws.specs.Calls.{Call, time_of, output_of, refuses, plan_of, step_by, out_by}
use Rattle.call_laws.specs.Calls.Call.{connect, disconnect, packet, alarm, status, aggregated, tick, pump}
use Rattle.call_laws.proofs.Kept.{kept as calls_kept}
use Rattle.call_laws.specs.Typed.{Typed}
use Rattle.machine.specs.State.{Call as MachineCall}
use Rattle.refine_calls.specs.Calls.{call_for}
use Rattle.equation.specs.Seen.{Seen, TypedAct}
use Rattle.equation.specs.Seen.Ask.{call}
use Rattle.equation.specs.Allows.{Allows, packet_seen, outcome_seen}
use Rattle.equation.proofs.Boxed.{BytesIn}
use Rattle.equation.proofs.Handed.{first_words}
use Rattle.equation.specs.Allows.Allows.{connects, disconnects, packets, alarms, statuses, aggregates, ticks, pumps}

-- the call of the code that an ask is, and what its definition gives on the site s; the pool's words go from ps to qs, its own from ws to vs, its table stands in ts
pub record Opened (ts ps ws : List ℕ) (k : MachineCall) (output : List ℕ) (x : Seen) (qs vs : List ℕ) : Type 0 where
  pub code : Call
  pub same_call : call_for code ≡ k
  pub same_output : output_of code ≡ output
  pub typed : TypedAct k.act → Typed code × BytesIn code
  -- the words lent for commands, as they are afterwards: they begin with those of a done call
  pub words : List ℕ
  pub handed : number_of (step_by (site_of ps ws (table_of ts)) code).answer ≡ 0
      → take (length (plan_of (site_of ps ws (table_of ts)) code).commands) words ≡ map command_word (plan_of (site_of ps ws (table_of ts)) code).commands
  pub seen : x ≡ packet_seen (out_by (site_of ps ws (table_of ts)) code) words (outcome_of (step_by (site_of ps ws (table_of ts)) code).answer)
  pub after_it : site_of qs vs (table_of ts) ≡ (step_by (site_of ps ws (table_of ts)) code).site
  pub pool_sized : length qs ≡ pool_words
  pub sized : length vs ≡ site_words

nil : (xs : List ℕ) → length xs ≡ 0 → xs ≡ []
nil [] e = refl
nil (x ∷ xs) e = absurd (omega arith)

-- pump hands nothing over
entry_none : (x : Sought) (s : Site) (l t : ℕ) (id : Identity) → (entry_plan x s l t id).commands ≡ []
entry_none (Found x) s l t id = refl
entry_none NoEntry s l t id = refl

due_none : (d : Due) (s : Site) (l t : ℕ) (id : Identity) → (plan_for d s l t id).commands ≡ []
due_none Nothing s l t id = refl
due_none Version s l t id = refl
due_none Watchdog s l t id = refl
due_none Aggregated s l t id = refl
due_none (Alarm k) s l t id = refl
due_none Entry s l t id = entry_none (oldest_unsent s.pool (owner_of s l)) s l t id

module _ (ts ps ws : List ℕ) (pool : length ps ≡ pool_words) (words : length ws ≡ site_words) (table : length ts ≡ table_bytes) where
  abbrev s : Site
  s = site_of ps ws (table_of ts)

  none_handed : (c : Call) → (plan_of s c).commands ≡ [] → take (length (plan_of s c).commands) [] ≡ map command_word (plan_of s c).commands
  none_handed c n = rw n

  -- a call without an output
  plain : {F : Type 0} (c : Call) (qs vs : List ℕ) (o : Outcome) → F → length (output_of c) ≡ 0 → (plan_of s c).commands ≡ [] → (TypedAct (call_for c).act → Typed c × BytesIn c)
      → Called F (table_of ts) (step_by s c) ps qs ws vs o → Opened ts ps ws (call_for c) [] (outcome_seen [] o) qs vs
  plain c qs vs o f n none typed p =
      record {
        code = c;
        same_call = refl;
        same_output = nil (output_of c) n;
        typed = typed;
        words = [];
        handed = λ z. none_handed c none;
        seen = ap₂ outcome_seen (sym (nil (out_by s c) ((calls_kept.numbered s c).same_length ∙ n))) (p.outcome f);
        after_it = p.site f;
        pool_sized = p.pool_sized ∙ pool;
        sized = p.sized ∙ words;
      }

  -- one with an output
  lent : {F : Type 0} (c : Call) (qs vs ys ds : List ℕ) (o : Outcome) → F → (TypedAct (call_for c).act → Typed c × BytesIn c)
      → (number_of (step_by s c).answer ≡ 0 → take (length (plan_of s c).commands) ds ≡ map command_word (plan_of s c).commands)
      → Told F (table_of ts) (time_of c) (refuses s c) (plan_of s c) ps qs ws vs (output_of c) ys o → Opened ts ps ws (call_for c) (output_of c) (packet_seen ys ds o) qs vs
  lent c qs vs ys ds o f typed handed p =
      record {
        code = c;
        same_call = refl;
        same_output = refl;
        typed = typed;
        words = ds;
        handed = handed;
        seen = ap₂ (λ (zs : List ℕ) (q : Outcome). packet_seen zs ds q) (p.out f) (p.called.outcome f);
        after_it = p.called.site f;
        pool_sized = p.called.pool_sized ∙ pool;
        sized = p.called.sized ∙ words;
      }

  -- a packet
  lent_words : {F : Type 0} (c : Call) (qs vs ys cs ds : List ℕ) (o : Outcome) → F → Told F (table_of ts) (time_of c) (refuses s c) (plan_of s c) ps qs ws vs (output_of c) ys o → Handed F (plan_of s c).commands cs ds o
      → number_of (step_by s c).answer ≡ 0 → take (length (plan_of s c).commands) ds ≡ map command_word (plan_of s c).commands
  lent_words c qs vs ys cs ds o f p h z =
      ap (take (length (plan_of s c).commands)) (h.handed f (ap (λ (q : Outcome). q.number) (p.called.outcome f) ∙ z)) ∙ first_words (plan_of s c).commands cs

pub opened : (ts ps ws : List ℕ) → length ps ≡ pool_words → length ws ≡ site_words → length ts ≡ table_bytes → (k : MachineCall) (output : List ℕ) (x : Seen) (qs vs : List ℕ) → Allows ts ps ws (call k output) x qs vs → Opened ts ps ws k output x qs vs
opened ts ps ws f h g k output x qs vs (connects κs q w l t o e p) = plain ts ps ws f h g (connect l t) qs vs o (f, h) refl refl (λ u. (u, tt)) (p (table_of ts))
opened ts ps ws f h g k output x qs vs (disconnects κs q w l t o e p) = plain ts ps ws f h g (disconnect l t) qs vs o (f, h) refl refl (λ u. (u, tt)) (p (table_of ts))
opened ts ps ws f h g k output x qs vs (packets κs q w table l t random rc cs xs o e p n) =
    let c : Call = packet l t random rc.now xs.now in
    let ys = e.1.1.1.1.1.1.1.1.0.now in
    let ds = e.1.1.1.1.1.1.1.0.now in
    lent ts ps ws f h g c qs vs ys ds o (f, h, g, n) (λ u. u) (lent_words ts ps ws f h g c qs vs ys cs.now ds o (f, h, g, n) p.0 p.1) p.0
opened ts ps ws f h g k output x qs vs (alarms κs q w table i active t o e p) = plain ts ps ws f h g (alarm i (ltb 0 active) t) qs vs o (f, h, g) refl refl (λ u. (u, tt)) p
opened ts ps ws f h g k output x qs vs (statuses κs q w table i v t o e p) = plain ts ps ws f h g (status i v t) qs vs o (f, h, g) refl refl (λ u. (u, tt)) p
opened ts ps ws f h g k output x qs vs (aggregates κs q w v t o e p) = plain ts ps ws f h g (aggregated v t) qs vs o (f, h) refl refl (λ u. (u, tt)) (p (table_of ts))
opened ts ps ws f h g k output x qs vs (ticks κs q w t o e p) = plain ts ps ws f h g (tick t) qs vs o (f, h) refl refl (λ u. (u, tt)) (p (table_of ts))
opened ts ps ws f h g k output x qs vs (pumps κs q w table l t random xs o e p) =
    let s : Site = site_of ps ws (table_of ts) in
    lent ts ps ws f h g (pump l t random xs.now) qs vs e.1.1.1.1.1.1.0.now [] o (f, h, g) (λ u. (u, tt))
    (λ z. none_handed ts ps ws f h g (pump l t random xs.now) (due_none (due_at s l t) s l t (identity_of random))) p
