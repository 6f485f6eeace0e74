-- What the proofs of the code cite.
-- Assumes nothing.
use Rattle.basis.proofs.Std.{ℕ, ◌+◌, ◌*◌, ◌%◌, ◌≤◌, ◌<◌, ◌≡◌, refl, sym, ap, subst, ◌∙◌, Bool, true, false, List, [], append-nil, arith, ltb, leb, length, ltb-true, pick, picked}
use Rattle.answer.specs.declared.Refusal.{Refusal}
use Rattle.answer.specs.declared.Refusal.TheVariants.{NoSuchLink, ShortOutput, BadTime, WrongPhase, NothingDue, ManyAwaited, IdentityAwaited, SequenceSpent}
use Rattle.answer.specs.declared.Report.{Report}
use Rattle.answer.specs.declared.Answer.{Answer}
use Rattle.answer.specs.declared.Answer.TheVariants.{Done, Refused}
use Rattle.answer.specs.Order.{in_order, judged}
use Rattle.identity.specs.declared.Identity.{Identity}
use Rattle.entry.specs.declared.Entry.{Entry as HeldEntry}
use Rattle.pool.specs.declared.Sought.{Sought}
use Rattle.pool.specs.declared.Sought.TheVariants.{Found, Nothing as NoEntry}
use Rattle.pool.specs.Pool.{oldest_unsent}
use Rattle.pool_laws.specs.declared.Batch.{Batch}
use Rattle.pool_laws.specs.Batch.{beginning, issued_all}
use Rattle.link.specs.declared.Link.{Link}
use Rattle.link.specs.declared.Role.{Role}
use Rattle.link.specs.declared.Role.TheVariants.{Primary, Secondary}
use Rattle.link.specs.declared.Phase.{Phase}
use Rattle.link.specs.declared.Phase.TheVariants.{Down, Greeting, Beating, Up}
use Rattle.link.specs.declared.Due.{Due}
use Rattle.link.specs.declared.Due.TheVariants.{Nothing, Version, Watchdog, Aggregated, Alarm, Entry}
use Rattle.link.specs.Phase.{phase_of}
use Rattle.link.specs.Due.{alarms_for, due_up, due_in, due_of}
use Rattle.output.specs.Put.{Out, output, put_all, Wrote}
use Rattle.write_message.specs.Message.{Message}
use Rattle.write_message.specs.Pieces.{pieces}
use Rattle.table_whole.specs.declared.SiteTable.{SiteTable}
use Rattle.site.specs.declared.Site.{Site}
use Rattle.site.specs.declared.Step.{Step}
use Rattle.site.specs.Site.{no_link_at, bad_time_at, owner_of, link_at, down_at, with_issued}
use Rattle.site.specs.Call.{Plan, only, batch_of, never, when, issuing, report_of, stepped, refused, answer_of, step_of, nothing_of, written_to, out_after, Gives}
use Rattle.site.proofs.Checks.{link_below}
use Rattle.awaited.specs.Awaited.{find_of, is_awaited}
use Rattle.link.specs.Steps.{crowded_of}
use Rattle.store_site.specs.Layout.{site_of, with_last}
use Rattle.store_site.specs.Turns.{Turns, Moves}
use Rattle.store_site.proofs.TurnsLaws.{turns_moves, moves_then}
use Rattle.store_call.specs.Called.{GivesIn}
use Rattle.store_call.proofs.CallLaws.{gives_refused, gives_done}
use Rattle.call_pump.specs.Pump.{due_at, is_nothing, pump_refuses, sends, entry_plan, plan_for, pump_plan, verdict_of, finished, Below}

abbrev done_number : Answer → ℕ
done_number (Done r) = 0
done_number (Refused x) = 1

pub not_done : {P : Type 0} {x : Refusal} {r : Report} → Refused x ≡ Done r → P
not_done e = let z : ◌≡◌ {A = ℕ} 1 0 = ap done_number e in absurd (omega arith)

not_refused : {P : Type 0} {x : Refusal} {r : Report} → Done r ≡ Refused x → P
not_refused e = not_done (sym e)

unless : (b : Bool) (x : Refusal) (a : Answer) {r : Report} → pick b (Refused x) a ≡ Done r → b ≡ false
unless true x a e = not_done e
unless false x a e = refl

pub verdict_below : (s : Site) (l time : ℕ) (id : Identity) (room : ℕ) {v : Answer} {r : Report} → v ≡ verdict_of s l time id room → v ≡ Done r → l < 4
verdict_below s l time id room e d = link_below s l (unless (no_link_at s l) NoSuchLink _ (sym e ∙ d))

-- an alarm that is due has a number below the number of alarms
few_for : (role : Role) (n : ℕ) → alarms_for role n ≤ n
few_for Primary n = omega arith
few_for Secondary n = omega arith

fewer : (k a n m : ℕ) → k < a → a ≤ n → n ≤ m → k < m
fewer k a n m x y z = omega arith

up_below : (l : Link) (time period : ℕ) (role : Role) (n : ℕ) (unsent : Bool) (m : ℕ) → n ≤ m → Below m (due_up l time period role n unsent)
unfolding due_up
up_below l time period role n unsent m h =
    picked (Below m) (leb (l.beat + period * 1000) time) _ _ (λ e. tt)
    (λ e. picked (Below m) l.aggregatedout _ _
    (λ e. picked (Below m) (ltb l.alarm (alarms_for role n)) _ _
    (λ t. fewer l.alarm (alarms_for role n) n m (ltb-true _ _ t) (few_for role n) h)
    (λ e. picked (Below m) unsent _ _ (λ e. tt) (λ e. tt)))
    (λ e. tt))

in_below : (f : Phase) (l : Link) (up : Due) (m : ℕ) → Below m up → Below m (due_in f l up)
in_below Down l up m h = tt
in_below Greeting l up m h = picked (Below m) l.versionout _ _ (λ e. tt) (λ e. tt)
in_below Beating l up m h = picked (Below m) l.watchdogout _ _ (λ e. tt) (λ e. tt)
in_below Up l up m h = h

pub due_below : (l : Link) (time period : ℕ) (role : Role) (n : ℕ) (unsent : Bool) (m : ℕ) → n ≤ m → Below m (due_of l time period role n unsent)
unfolding due_of
due_below l time period role n unsent m h = in_below (phase_of l) l _ m (up_below l time period role n unsent m h)

pub alarm_below : {d : Due} {m k : ℕ} → Below m d → d ≡ Alarm k → k < m
alarm_below {d} {m} b e = subst (Below m) e b

-- the seven conditions
abbrev pub seven : Bool → Bool → Bool → Bool → Bool → Bool → Bool → Refusal → Bool
seven a b c d e f g =
    when NoSuchLink a (when ShortOutput b (when BadTime c (when WrongPhase d (when NothingDue e (when ManyAwaited f (when IdentityAwaited g never))))))

abbrev pub first : Bool → Bool → Bool → Bool → Bool → Bool → Bool → Answer
first a b c d e f g = judged (seven a b c d e f g) in_order (Done nothing_of)

-- one of them refuses whatever is issued
stays : (a b c d e f g : Bool) (w : Batch) (o : Answer) (x : Refusal) → first a b c d e f g ≡ Refused x → judged (issuing w (seven a b c d e f g)) in_order o ≡ Refused x
stays true b c d e f g w o x h = h
stays false true c d e f g w o x h = h
stays false false true d e f g w o x h = h
stays false false false true e f g w o x h = h
stays false false false false true f g w o x h = h
stays false false false false false true g w o x h = h
stays false false false false false false true w o x h = h
stays false false false false false false false w o x h = not_refused h

-- where none does, number 10 is left
clear : (a b c d e f g : Bool) (w : Batch) (o : Answer) (q : Report) → first a b c d e f g ≡ Done q
    → judged (issuing w (seven a b c d e f g)) in_order o ≡ pick w.spent (Refused SequenceSpent) o
clear true b c d e f g w o q h = not_done h
clear false true c d e f g w o q h = not_done h
clear false false true d e f g w o q h = not_done h
clear false false false true e f g w o q h = not_done h
clear false false false false true f g w o q h = not_done h
clear false false false false false true g w o q h = not_done h
clear false false false false false false true w o q h = not_done h
clear false false false false false false false w o q h = refl

done_answer : (b : Batch) (p : Site) (o : Answer) → b ≡ beginning p.pool p.next → pick b.spent (Refused SequenceSpent) o ≡ o
done_answer b p o e = ap (λ (w : Batch). pick w.spent (Refused SequenceSpent) o) e

no_batch : (p : Plan) → p.issued ≡ [] → batch_of p ≡ beginning p.site.pool p.site.next
no_batch p i = ap (λ (es : List HeldEntry). issued_all 8 p.site.pool p.site.next es) i

-- pump issues nothing
entry_issues : (x : Sought) (s : Site) (l time : ℕ) (id : Identity) → (entry_plan x s l time id).issued ≡ []
entry_issues NoEntry s l time id = refl
entry_issues (Found x) s l time id = refl

pub plan_issues : (d : Due) (s : Site) (l time : ℕ) (id : Identity) → (plan_for d s l time id).issued ≡ []
plan_issues Nothing s l time id = refl
plan_issues Version s l time id = refl
plan_issues Watchdog s l time id = refl
plan_issues Aggregated s l time id = refl
plan_issues (Alarm k) s l time id = refl
plan_issues Entry s l time id = entry_issues (oldest_unsent s.pool (owner_of s l)) s l time id

-- what the answer is, where the checks gave their own
module _ (s : Site) (l time : ℕ) (id : Identity) (room : ℕ) where
  pub refuses : {x : Refusal} (p : Plan) (end : ℕ) → verdict_of s l time id room ≡ Refused x → answer_of (pump_refuses s l time id room) p end ≡ Refused x
  refuses {x} p end e = stays (no_link_at s l) (ltb room 4096) (bad_time_at s time) (down_at s l) (is_nothing (due_at s l time)) (crowded_of (link_at s l)) (is_awaited (find_of (link_at s l).awaited id)) (batch_of p) (Done (report_of p end)) x e

  pub does : {q : Report} (p : Plan) (end : ℕ) → p.issued ≡ [] → verdict_of s l time id room ≡ Done q → answer_of (pump_refuses s l time id room) p end ≡ Done (report_of p end)
  does {q} p end i e = clear (no_link_at s l) (ltb room 4096) (bad_time_at s time) (down_at s l) (is_nothing (due_at s l time)) (crowded_of (link_at s l)) (is_awaited (find_of (link_at s l).awaited id)) (batch_of p) (Done (report_of p end)) q e ∙ done_answer (batch_of p) p.site _ (no_batch p i)

  steps : {q : Report} (p : Plan) (end : ℕ) → p.issued ≡ [] → verdict_of s l time id room ≡ Done q → step_of s time (pump_refuses s l time id room) p end ≡ finished p time end
  steps p end i e =
      ap (stepped s (with_issued p.site (batch_of p) time)) (does p end i e)
      ∙ ap (λ (b : Batch). stepped s (with_issued p.site b time) (Done (report_of p end))) (no_batch p i)

pub refused_gives : (s : Site) (l time : ℕ) (id : Identity) {xs : List ℕ} {x : Refusal} {r : Step} (p : Plan) → verdict_of s l time id (length xs) ≡ Refused x → r ≡ refused s x
    → Gives s time (pump_refuses s l time id (length xs)) p xs xs r
refused_gives s l time id {xs} {x} {r} p e d =
    record {
      step = d ∙ sym (ap (stepped s (with_issued p.site (batch_of p) time)) (refuses s l time id (length xs) p (written_to xs p.messages).end e));
      out = sym (ap (λ (z : Step). out_after xs p.messages z.answer) d);
    }

-- In place. The end of a call that issues nothing, written up to `end`
abbrev pub Ends : ℕ → ℕ → List ℕ → List ℕ → Answer → Type 0
Ends time end us vs r = (r ≡ Done (record { hint = 0; written = end % 4294967296; closed = 0; hinted = 0; commands = 0 })) × Turns (λ (s : Site). with_last s time) us vs

-- nothing written
pub quiet : {t : SiteTable} {time : ℕ} {ws vs xs : List ℕ} {r : Answer} (ps : List ℕ) → Ends time 0 ws vs r → GivesIn t time never (only (site_of ps ws t)) ps ps ws vs xs xs r
quiet {t} {ws = ws} ps e = rw e.0 (gives_done t ps ws _ (turns_moves ps e.1) (record { step = refl; out = refl }))

-- a message that was written from the beginning on, then the change
pub sent : {t : SiteTable} {f : Site → Site} {m : Message} {time end : ℕ} {ps qs ws us vs xs ys : List ℕ} {r : Answer}
    → Wrote xs 0 (pieces m) ys end → Moves f ps qs ws us → Ends time end us vs r → GivesIn t time never (sends (f (site_of ps ws t)) m) ps qs ws vs xs ys r
sent {t} {f} {m} {time} {end} {ps} {qs} {ws} {us} {vs} {xs} w c e =
    let a = w.all ∙ ap (λ (zs : List (List ℕ)). put_all (output xs 0) zs) (sym (append-nil (pieces m))) in
    rw e.0 (gives_done t ps ws _ (moves_then c (turns_moves qs e.1)) (record { step = ap (λ (o : Out). finished (only (f (site_of ps ws t))) time o.end) a; out = ap (λ (o : Out). o.bytes) a }))

never_clear : (w : Batch) (o : Answer) → judged (issuing w never) in_order o ≡ pick w.spent (Refused SequenceSpent) o
never_clear w o = refl

never_steps : (s : Site) (time : ℕ) (p : Plan) (end : ℕ) → p.issued ≡ [] → step_of s time never p end ≡ finished p time end
never_steps s time p end i =
    ap (stepped s (with_issued p.site (batch_of p) time)) (never_clear (batch_of p) _ ∙ done_answer (batch_of p) p.site _ (no_batch p i))
    ∙ ap (λ (b : Batch). stepped s (with_issued p.site b time) (Done (report_of p end))) (no_batch p i)

module _ (t : SiteTable) (ps ws : List ℕ) (l time : ℕ) (id : Identity) where
  abbrev pub Pumped : List ℕ → List ℕ → List ℕ → List ℕ → Answer → Type 0
  Pumped xs qs vs ys r = GivesIn t time (pump_refuses (site_of ps ws t) l time id (length xs)) (pump_plan (site_of ps ws t) l time id) ps qs ws vs xs ys r

  pub refused_in : {xs : List ℕ} {v : Answer} {x : Refusal} → v ≡ verdict_of (site_of ps ws t) l time id (length xs) → v ≡ Refused x → Pumped xs ps ws xs (Refused x)
  refused_in {x = x} e d = gives_refused t ps ws x (refused_gives (site_of ps ws t) l time id (pump_plan (site_of ps ws t) l time id) (sym e ∙ d) refl)

  -- where none of the checks refuses, what is due is all
  pub done_in : {xs qs vs ys : List ℕ} {v : Answer} {q : Report} {r : Answer} → v ≡ verdict_of (site_of ps ws t) l time id (length xs) → v ≡ Done q
      → GivesIn t time never (pump_plan (site_of ps ws t) l time id) ps qs ws vs xs ys r → Pumped xs qs vs ys r
  done_in {xs = xs} e d g =
      let s = site_of ps ws t in
      let p = pump_plan s l time id in
      let end = (written_to xs p.messages).end in
      let i = plan_issues (due_at s l time) s l time id in
      record {
        gives = record { step = g.gives.step ∙ never_steps s time p end i ∙ sym (steps s l time id (length xs) p end i (sym e ∙ d)); out = g.gives.out };
        plain = g.plain;
        kept = g.kept;
      }
