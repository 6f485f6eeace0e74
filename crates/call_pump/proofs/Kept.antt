-- The claims are kept.
-- Assumes nothing.
use Rattle.basis.proofs.Std.{ℕ, ◌+◌, ◌%◌, ◌≤◌, zero-add, arith, ◌≡◌, refl, sym, ap, subst, ◌∙◌, Bool, List, [], ◌∷◌, append-nil, length}
use Rattle.answer.specs.declared.Refusal.{Refusal}
use Rattle.answer.specs.declared.Report.{Report}
use Rattle.answer.specs.declared.Answer.{Answer}
use Rattle.answer.specs.declared.Answer.TheVariants.{Done, Refused}
use Rattle.answer.specs.Given.Hint.{none}
use Rattle.identity.specs.declared.Identity.{Identity}
use Rattle.output.specs.Put.{Out, output, put_all, Wrote, concat}
use Rattle.output.proofs.Laws.{fits, behind, sent, same_length}
use Rattle.pool.specs.declared.Sought.{Sought}
use Rattle.link.specs.declared.Due.{Due}
use Rattle.link.specs.declared.Due.TheVariants.{Alarm}
use Rattle.write_message.specs.Message.{Message}
use Rattle.write_message.specs.Listing.{bytes_of}
use Rattle.write_message.specs.Pieces.{pieces}
use Rattle.write_message.proofs.Kept.{kept as written_kept}
use Rattle.alarm.specs.Issued.{issued_of}
use Rattle.site.specs.declared.Site.{Site}
use Rattle.site.specs.declared.Step.{Step}
use Rattle.site.specs.Site.{with_issued, owner_of}
use Rattle.site.specs.Parts.{alarm_at}
use Rattle.site.specs.Call.{Plan, batch_of, report_of, stepped, answer_of, step_of, written_to, out_after}
use Rattle.send_message.specs.Sending.{alarm_message}
use Rattle.send_after.specs.declared.Carried.{Carried}
use Rattle.send_after.specs.declared.Carried.TheVariants.{Held, NoRecord}
use Rattle.send_after.specs.Outgoing.{carried_of, carried_at, alarm_sent_with}
use Rattle.call_pump.specs.Pump.{due_at, pump_refuses, sends, entry_plan, plan_for, pump_plan}
use Rattle.call_pump.specs.Claims.{Ready, Written, Gave, Claims}
use Rattle.call_pump.proofs.Laws.{does, plan_issues}
use Rattle.call_pump.proofs.Ready.{verdict_ready, answer_ready}
use Rattle.call_pump.proofs.Due.{in_order}
use Rattle.call_pump.proofs.Plans.{found, one_for, most_for, quiet_for, held_for, reached_for, carries, carries_none}

stepped_answer : (s t : Site) (a : Answer) → (stepped s t a).answer ≡ a
stepped_answer s t (Done r) = refl
stepped_answer s t (Refused x) = refl

step_answer : (s : Site) (time : ℕ) (f : Refusal → Bool) (p : Plan) (end : ℕ) → (step_of s time f p end).answer ≡ answer_of f p end
step_answer s time f p end = stepped_answer s (with_issued p.site (batch_of p) time) (answer_of f p end)

module _ (s : Site) (l time : ℕ) (id : Identity) (xs ys : List ℕ) (r : Step) (g : Gave s l time id xs ys r) where
  abbrev plan : Plan
  plan = pump_plan s l time id

  abbrev out : Out
  out = written_to xs plan.messages

  abbrev against : Refusal → Bool
  against = pump_refuses s l time id (length xs)

  given : r.answer ≡ answer_of against plan out.end
  given = ap (λ (z : Step). z.answer) g.step ∙ step_answer s time against plan out.end

  pub done_with : Ready s l time id (length xs) → r.answer ≡ Done (report_of plan out.end)
  done_with h = given ∙ does s l time id (length xs) plan out.end (plan_issues (due_at s l time) s l time id) (verdict_ready s l time id (length xs) h)

  pub only_then : (q : Report) → r.answer ≡ Done q → Ready s l time id (length xs)
  only_then q e = answer_ready s l time id (length xs) (batch_of plan) (Done (report_of plan out.end)) q (sym given ∙ e)

  pub left : Ready s l time id (length xs) → ys ≡ out.bytes
  left h = g.out ∙ ap (out_after xs plan.messages) (done_with h)

report_small : (p : Plan) (n : ℕ) → p.closed ≡ 0 → p.hint ≡ none → p.commands ≡ [] → n ≤ 4096 → report_of p n ≡ record { hint = 0; written = n; closed = 0; hinted = 0; commands = 0 }
report_small p n c h m k =
    let e : n % 4294967296 ≡ n = omega arith in
    rw (c, h, m, e) refl

-- one message that fits
writes : (m : Message) (xs : List ℕ) → length (bytes_of m) ≤ length xs → Written m xs (written_to xs (m ∷ [])).bytes × ((written_to xs (m ∷ [])).end ≡ length (bytes_of m))
writes m xs h =
    let o : Out = written_to xs (m ∷ []) in
    let w : Wrote xs 0 (pieces m) o.bytes o.end = record { all = ap (λ (ps : List (List ℕ)). put_all (output xs 0) ps) (append-nil (pieces m)) } in
    let whole : concat (pieces m) ≡ bytes_of m = written_kept.whole m in
    let room : 0 + length (concat (pieces m)) ≤ length xs = rw (whole, zero-add (length (bytes_of m))) h in
    let e : o.end ≡ length (bytes_of m) = (fits w room).1 ∙ zero-add (length (concat (pieces m))) ∙ ap length whole in
    let within : o.end ≤ length o.bytes = omega (arith, e, h, same_length w) in
    (record { begins = rw (← e) (sent w within ∙ whole); behind = rw (← e) (behind w) }, e)

text : (s : Site) (l time : ℕ) (id : Identity) (xs ys : List ℕ) (r : Step) (m : Message) → Gave s l time id xs ys r → Ready s l time id (length xs)
    → (pump_plan s l time id).messages ≡ m ∷ [] → length (bytes_of m) ≤ 4096
    → Written m xs ys × (r.answer ≡ Done (record { hint = 0; written = length (bytes_of m); closed = 0; hinted = 0; commands = 0 }))
text s l time id xs ys r m g h e k =
    let p : Plan = pump_plan s l time id in
    let w = writes m xs (omega (arith, k, h.enough)) in
    let q = quiet_for s l time id (due_at s l time) in
    let bytes : ys ≡ (written_to xs (m ∷ [])).bytes = left s l time id xs ys r g h ∙ ap (λ (ms : List Message). (written_to xs ms).bytes) e in
    let count : (written_to xs p.messages).end ≡ length (bytes_of m) = ap (λ (ms : List Message). (written_to xs ms).end) e ∙ w.1 in (
      subst (Written m xs) (sym bytes) w.0,
      done_with s l time id xs ys r g h ∙ ap (λ (n : ℕ). Done (report_of p n)) count ∙ ap Done (report_small p (length (bytes_of m)) q.0 q.1 q.2 k),
    )

with_carried : (s : Site) (l time : ℕ) (id : Identity) (k : ℕ) (c : Carried) → due_at s l time ≡ Alarm k → carried_at s l k ≡ c
    → pump_plan s l time id ≡ sends (alarm_sent_with c s l time id) (alarm_message s id.bytes k)
with_carried s l time id k c d e =
    ap (λ (x : Due). plan_for x s l time id) d ∙ ap (λ (x : Carried). sends (alarm_sent_with x s l time id) (alarm_message s id.bytes k)) e

pub kept : Claims
kept =
    record {
      in_order = in_order;
      done = λ s l time id xs ys r g h. (_, done_with s l time id xs ys r g h);
      only_then = λ s l time id xs ys r q g e. only_then s l time id xs ys r g q e;
      one = λ s l time id room h. one_for s l time id (due_at s l time) h.due (found s l time);
      text = text;
      most = λ s l time id. most_for s l time id (due_at s l time);
      issues_none = λ s l time id. plan_issues (due_at s l time) s l time id;
      held = λ s l time id q m k. held_for s l time id (due_at s l time) q m k;
      reached = λ s l time id q. reached_for s l time id (due_at s l time) q;
      found = found;
      entry = λ s l time id x d e. ap (λ (y : Due). plan_for y s l time id) d ∙ ap (λ (o : Sought). entry_plan o s l time id) e;
      carries = λ s l time id k x d f h. with_carried s l time id k (Held x.entry.sequence) d (carries s l k x f h);
      other = λ s l time id k x d f n. with_carried s l time id k NoRecord d (carries_none s l k x f n);
      none = λ s l time id k d f. with_carried s l time id k NoRecord d (ap (carried_of (issued_of (alarm_at s k) (owner_of s l) k)) f);
    }
