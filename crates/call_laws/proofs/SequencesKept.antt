-- Every call keeps a site sound, the site's own and that of a site beside it, and so does every sequence.
-- Assumes nothing.
use Rattle.basis.proofs.Std.{ℕ, ◌/◌, ◌%◌, ◌≡◌, refl, sym, ◌∙◌, ap, subst, Bool, List, [], arith, lit≤, eqb-true}
use Rattle.answer.specs.declared.Refusal.{Refusal}
use Rattle.answer.specs.declared.Report.{Report}
use Rattle.answer.specs.declared.Answer.{Answer}
use Rattle.answer.specs.declared.Answer.TheVariants.{Done, Refused}
use Rattle.identity.specs.Version.{identity_of}
use Rattle.entry.specs.declared.Entry.{Entry}
use Rattle.pool.specs.declared.Pool.{Pool}
use Rattle.site.specs.declared.Site.{Site}
use Rattle.site.specs.declared.Step.{Step}
use Rattle.site.specs.Site.{with_pool}
use Rattle.site.specs.Call.{Plan, report_of, answer_of, step_of, written_to, out_after}
use Rattle.call_start.specs.Fresh.{pool_for, fresh}
use Rattle.call_start.specs.Starts.{Starts}
use Rattle.call_start.specs.Starts.Starts.{starts, refuses}
use Rattle.call_laws.specs.Steps.{Steps}
use Rattle.write_message.specs.Message.{Message}
use Rattle.call_laws.proofs.Given.{numbers}
use Rattle.call_laws.proofs.Stepped.{steps}
use Rattle.call_laws.specs.Sound.{EachHeld, HeldOf, Sound}
use Rattle.call_laws.proofs.Started.{which, started}
use Rattle.call_laws.proofs.SoundKept.{kept as keeps}
use Rattle.call_laws.proofs.SoundCalls.{planned}
use Rattle.call_laws.proofs.BesideKept.{held_after, held_start}
use Rattle.call_laws.proofs.Parts.{with_pool_lem}
use Rattle.call_laws.specs.Formedness.{Wrote}
use Rattle.call_laws.proofs.Plans.{plans}
use Rattle.call_laws.proofs.PacketsKept.{kept as whole}
use Rattle.call_laws.specs.Calls.{Call, time_of, refuses as refuses_of, plan_of, end_of, output_of, step_by, out_by}
use Rattle.call_laws.specs.Calls.Call.{connect, disconnect, packet, alarm, status, aggregated, tick, pump}
use Rattle.call_laws.specs.Typed.{Typed}
use Rattle.call_laws.specs.Sequences.{Beside, Since, Sequences}
use Rattle.call_laws.specs.Sequences.Since.{first, own, other, begun}

-- ---- a call of the site itself
one : (s : Site) → Sound s → (c : Call) → Typed c → Sound (step_by s c).site
one s h c t = keeps s (time_of c) (refuses_of s c) (plan_of s c) (end_of s c) h (planned s h c t)

same_number : (s : Site) → Sound s → (c : Call) → Typed c → (step_by s c).site.site ≡ s.site
same_number s h c t = by (answer_of (refuses_of s c) (plan_of s c) (end_of s c)) refl
  where
    all : Steps s (time_of c) (refuses_of s c) (plan_of s c) (end_of s c)
    all = steps s (time_of c) (refuses_of s c) (plan_of s c) (end_of s c)

    by : (a : Answer) → answer_of (refuses_of s c) (plan_of s c) (end_of s c) ≡ a → (step_by s c).site.site ≡ s.site
    by (Refused r) e = ap (λ (u : Site). u.site) (all.same_site r (all.answer ∙ e))
    by (Done d) e = ap (λ (u : Site). u.site) (all.next_site d (all.answer ∙ e)) ∙ (planned s h c t ((numbers (refuses_of s c) (plan_of s c) (end_of s c)).done_only_so d e).0).number

-- ---- of the site beside it
elsewhere : (s : Site) (n : ℕ) → (n ≡ s.site → ⊥) → (e : Entry) → e.link / 4 ≡ n → HeldOf s s.last e
elsewhere s n apart e its o = absurd (apart (sym its ∙ eqb-true (e.link / 4) s.site o))

beside : (s : Site) → Sound s → (t : Site) → Sound t → Beside s t → (c : Call) → Typed c → Sound (with_pool s (step_by t c).site.pool)
beside s h t g b c typed =
    with_pool_lem s.last s h (step_by t c).site.pool
    (held_after (HeldOf s s.last) t (elsewhere s t.site b.apart) (time_of c) (refuses_of t c) (plan_of t c) (end_of t c) (planned t g c typed)
    (subst (λ (p : Pool). EachHeld (HeldOf s s.last) p.places) (sym b.pool) h.held))

beginning_beside : (s : Site) → Sound s → (b : List ℕ) (site links primary period from time : ℕ) (r : Step) (d : Report)
    → Starts b s.pool site links primary period from time r → r.answer ≡ Done d → Sound (with_pool s r.site.pool)
unfolding fresh
beginning_beside s h b site links primary period from time r d (starts {t = t} a e w) done =
    with_pool_lem s.last s h (pool_for site s.pool) (held_start (HeldOf s s.last) site s.pool h.held)
beginning_beside s h b site links primary period from time r d (refuses n) done = absurd (omega (arith, ap which done))

every : (s u : Site) → Sound s → Since s u → Sound u
every s u h first = h
every s u h (own {u = v} c t w) = one v (every s v h w) c t
every s u h (other {u = v} t g b c typed w) = beside v (every s v h w) t g b c typed
every s u h (begun {u = v} b site links primary period from time r d st done w) = beginning_beside v (every s v h w) b site links primary period from time r d st done

-- a done call without messages and without an output counts no bytes
silent : (s : Site) (time : ℕ) (stops : Refusal → Bool) (p : Plan) (d : Report) → p.messages ≡ [] → (step_of s time stops p (written_to [] p.messages).end).answer ≡ Done d
    → Wrote p.messages [] (out_after [] p.messages (step_of s time stops p (written_to [] p.messages).end).answer) d
silent s time stops p d e done =
    let end = (written_to [] p.messages).end in
    let report : d ≡ report_of p end = ((numbers stops p end).done_only_so d (sym (steps s time stops p end).answer ∙ done)).1 in
    let none : end ≡ 0 = ap (λ (ms : List Message). (written_to [] ms).end) e in
    let counts : d.written ≡ 0 = ap (λ (x : Report). x.written) report ∙ ap (λ (n : ℕ). n % 4294967296) none in
    let output : out_after [] p.messages (step_of s time stops p end).answer ≡ [] = ap (out_after [] p.messages) done ∙ ap (λ (ms : List Message). (written_to [] ms).bytes) e in
    rw (output, e) (record { counted = counts; most = rw counts (lit≤ tt); first = rw counts refl; behind = refl; read_back = tt })

writes : (s : Site) → Sound s → (c : Call) → Typed c → (d : Report) → (step_by s c).answer ≡ Done d → Wrote (plan_of s c).messages (output_of c) (out_by s c) d
writes s h (pump l time random out) t d e =
    whole.pump_writes s h l time (identity_of random) (plans.identity random.bytes t) out (out_by s (pump l time random out)) (step_by s (pump l time random out)) d
    (record { step = refl; out = refl }) e
writes s h (packet l time random received out) t d e =
    whole.packet_writes s h l time (identity_of random) (plans.identity random.bytes t) received out (out_by s (packet l time random received out))
    (step_by s (packet l time random received out)) d (record { step = refl; out = refl }) e
writes s h (connect l time) t d e = silent s time (refuses_of s (connect l time)) (plan_of s (connect l time)) d refl e
writes s h (disconnect l time) t d e = silent s time (refuses_of s (disconnect l time)) (plan_of s (disconnect l time)) d refl e
writes s h (alarm k active time) t d e = silent s time (refuses_of s (alarm k active time)) (plan_of s (alarm k active time)) d refl e
writes s h (status k value time) t d e = silent s time (refuses_of s (status k value time)) (plan_of s (status k value time)) d refl e
writes s h (aggregated value time) t d e = silent s time (refuses_of s (aggregated value time)) (plan_of s (aggregated value time)) d refl e
writes s h (tick time) t d e = silent s time (refuses_of s (tick time)) (plan_of s (tick time)) d refl e

pub kept : Sequences
kept =
    record {
      started = started;
      sound = every;
      number = same_number;
      writes = writes;
    }
