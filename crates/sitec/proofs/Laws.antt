-- From what a call in place gives to what is handed out of it.
-- Assumes nothing.
use Rattle.basis.proofs.Std.{ℕ, ◌<◌, ◌≡◌, refl, sym, ap, subst, ◌∙◌, Bool, true, false, true≢false, List, [], ◌∷◌, arith, length, ltb-true, ltb-false, pick, bool_cases}
use Rattle.answer.specs.declared.Refusal.{Refusal}
use Rattle.answer.specs.declared.Report.{Report}
use Rattle.answer.specs.declared.Answer.{Answer}
use Rattle.answer.specs.declared.Answer.TheVariants.{Done, Refused}
use Rattle.answer.specs.Number.{number_of, is_done}
use Rattle.answer.specs.Order.{in_order, judged}
use Rattle.answer.proofs.Checks.{none_refuses, done_none}
use Rattle.answer.proofs.Numbers.{range}
use Rattle.identity.specs.declared.Identity.{Identity}
use Rattle.table_whole.specs.declared.SiteTable.{SiteTable}
use Rattle.site.specs.declared.Site.{Site}
use Rattle.site.specs.declared.Step.{Step}
use Rattle.site.specs.Site.{with_issued}
use Rattle.site.specs.Call.{Command, Plan, batch_of, issuing, report_of, stepped, answer_of, written_to, out_after}
use Rattle.store_site.specs.Layout.{site_of}
use Rattle.store_site.proofs.SiteLaws.{table_of_lem}
use Rattle.store_call.specs.Called.{StepsIn, GivesIn}
use Rattle.packet_command.specs.Handing.{handed_over, commands_in}
use Rattle.call_packet.specs.Packet.{packet_taken}
use Rattle.call_packet.proofs.Handing.{packet_hands}
use Rattle.call_start.specs.Begun.{StartsIn}
use Rattle.sitec.specs.declared.Outcome.{Outcome}
use Rattle.sitec.specs.Outcome.{hands_of, outcome_of, misfit}
use Rattle.sitec.specs.Lent.{Words, WordsAndTable, Called, Told, Handed, Started, Read}

stepped_answer : (s after : Site) (a : Answer) → (stepped s after a).answer ≡ a
stepped_answer s after (Done r) = refl
stepped_answer s after (Refused x) = refl

-- a number above 0 is a refusal's
refusal : {P : Type 0} (a : Answer) {r : Outcome} → r ≡ outcome_of a → ((why : Refusal) → a ≡ Refused why → P) → 0 < r.number → P
refusal {P} a e f z = by a refl (rw e at z)
  where
    by : (b : Answer) → a ≡ b → 0 < number_of b → P
    by (Done y) q z = absurd (omega arith)
    by (Refused y) q z = f y q

pub misfits : {Fits : Type 0} {t : SiteTable} {x : Step} {ps ws : List ℕ} {r : Outcome} → (Fits → ⊥) → r ≡ misfit → Called Fits t x ps ps ws ws r
misfits n e =
    record {
      outcome = λ f. absurd (n f);
      site = λ f. absurd (n f);
      plain = λ p. p;
      pool_sized = refl;
      sized = refl;
      pool_kept = λ z. refl;
      kept = λ z. refl;
      other = λ m. e;
    }

pub calls : {Fits : Type 0} {t : SiteTable} {x : Step} {ps qs ws vs : List ℕ} {a : Answer} {r : Outcome}
    → Fits
    → length qs ≡ length ps
    → length vs ≡ length ws
    → StepsIn t x ps qs ws vs a
    → r ≡ outcome_of a
    → Called Fits t x ps qs ws vs r
calls {a = a} fits m n s e =
    record {
      outcome = λ f. e ∙ ap (λ (y : Step). outcome_of y.answer) s.step;
      site = λ f. ap (λ (y : Step). y.site) s.step;
      plain = s.plain;
      pool_sized = m;
      sized = n;
      pool_kept = refusal a e (λ why q. (s.kept why q).0);
      kept = refusal a e (λ why q. (s.kept why q).1);
      other = λ z. absurd (z fits);
    }

pub told_misfits : {Fits : Type 0} {t : SiteTable} {time : ℕ} {refuses : Refusal → Bool} {p : Plan} {ps ws xs : List ℕ} {r : Outcome}
    → (Fits → ⊥)
    → r ≡ misfit
    → Told Fits t time refuses p ps ps ws ws xs xs r
told_misfits n e = record { called = misfits n e; out = λ f. absurd (n f); unwritten = λ z. refl }

pub tells : {Fits : Type 0} {t : SiteTable} {time : ℕ} {refuses : Refusal → Bool} {p : Plan} {ps qs ws vs xs ys : List ℕ} {a : Answer} {r : Outcome}
    → Fits
    → length qs ≡ length ps
    → length vs ≡ length ws
    → GivesIn t time refuses p ps qs ws vs xs ys a
    → r ≡ outcome_of a
    → Told Fits t time refuses p ps qs ws vs xs ys r
tells {p = p} {xs = xs} {a = a} fits m n g e =
    record {
      called = calls fits m n (record { step = g.gives.step; plain = g.plain; kept = g.kept }) e;
      out = λ f. g.gives.out ∙ ap (λ (y : Step). out_after xs p.messages y.answer) g.gives.step;
      unwritten = refusal a e (λ why q. g.gives.out ∙ ap (out_after xs p.messages) q);
    }

-- a done call reports its plan
done_reports : {t : SiteTable} {time : ℕ} {refuses : Refusal → Bool} {p : Plan} {ps qs ws vs xs ys : List ℕ} {a : Answer} {x : Report}
    → GivesIn t time refuses p ps qs ws vs xs ys a
    → a ≡ Done x
    → x.commands ≡ length p.commands
done_reports {t} {time} {refuses} {p} {ps} {ws = ws} {xs = xs} {x = x} g e =
    let end = (written_to xs p.messages).end in
    let d : judged (issuing (batch_of p) refuses) in_order (Done (report_of p end)) ≡ Done x = sym (stepped_answer (site_of ps ws t) (with_issued p.site (batch_of p) time) (answer_of refuses p end)) ∙ ap (λ (y : Step). y.answer) (sym g.gives.step) ∙ e in
    let q : Done (report_of p end) ≡ Done x = sym (none_refuses (Done (report_of p end)) (done_none (issuing (batch_of p) refuses) in_order (report_of p end) x d)) ∙ d in
    let k : report_of p end ≡ x = cc in
    ap (λ (y : Report). y.commands) (sym k)

-- the words for commands: as they were where the memory does not fit, or the call hands nothing over
pub hand_misfits : {Fits : Type 0} {commands : List Command} {cs : List ℕ} {r : Outcome} → (Fits → ⊥) → Handed Fits commands cs cs r
hand_misfits n = record { handed = λ f. absurd (n f); unhanded = λ z. refl }

module _ {Fits : Type 0} {t : SiteTable} {time : ℕ} {refuses : Refusal → Bool} {p : Plan} {ps qs ws vs xs ys cs : List ℕ} {a : Answer} {r : Outcome} where
  hands_none : GivesIn t time refuses p ps qs ws vs xs ys a → r ≡ outcome_of a → hands_of a ≡ false → Handed Fits p.commands cs cs r
  hands_none g e h = record { handed = λ f z. by a refl (rw e at z); unhanded = λ z. refl }
    where
      none : (ms : List Command) → length ms ≡ 0 → cs ≡ handed_over ms cs
      none [] n = refl
      none (m ∷ ms) n = absurd (omega (arith, n))

      by : (b : Answer) → a ≡ b → number_of b ≡ 0 → cs ≡ handed_over p.commands cs
      by (Done x) q z =
          let f : hands_of (Done x) ≡ false = sym (ap hands_of q) ∙ h in
          none p.commands (omega (arith, ltb-false 0 x.commands f, done_reports g q))
      by (Refused why) q z = absurd (omega (arith, (range why).0, z))

  hands_some : (given : List Command) {ds : List ℕ}
      → (0 < length p.commands → p.commands ≡ given)
      → GivesIn t time refuses p ps qs ws vs xs ys a
      → r ≡ outcome_of a
      → hands_of a ≡ true
      → ds ≡ handed_over given cs
      → Handed Fits p.commands cs ds r
  hands_some given {ds} only g e h w = by a refl
    where
      by : (b : Answer) → a ≡ b → Handed Fits p.commands cs ds r
      by (Done x) q =
          let f : hands_of (Done x) ≡ true = sym (ap hands_of q) ∙ h in
          let n : 0 < length p.commands = omega (arith, ltb-true 0 x.commands f, done_reports g q) in
          let z : r.number ≡ 0 = ap (λ (y : Outcome). y.number) e ∙ ap number_of q in
          record { handed = λ k m. w ∙ ap (λ (ms : List Command). handed_over ms cs) (sym (only n)); unhanded = λ m. absurd (omega (arith, z, m)) }
      by (Refused why) q = absurd (true≢false (sym h ∙ ap hands_of q))

  pub hands_over : (given : List Command) {ds : List ℕ}
      → (0 < length p.commands → p.commands ≡ given)
      → GivesIn t time refuses p ps qs ws vs xs ys a
      → r ≡ outcome_of a
      → ds ≡ pick (hands_of a) (handed_over given cs) cs
      → Handed Fits p.commands cs ds r
  hands_over given only g e w = bool_cases (hands_of a)
      (λ h. hands_some given only g e h (w ∙ ap (λ (b : Bool). pick b (handed_over given cs) cs) h))
      (λ h. subst (λ (z : List ℕ). Handed Fits p.commands cs z r) (sym (w ∙ ap (λ (b : Bool). pick b (handed_over given cs) cs) h)) (hands_none g e h))

-- what a packet hands over it names
pub named_only : (t : SiteTable) (ps ws : List ℕ) (l time : ℕ) (id : Identity) (p : List ℕ)
    → 0 < length (packet_taken (site_of ps ws t) l time id p).plan.commands
    → (packet_taken (site_of ps ws t) l time id p).plan.commands ≡ commands_in t p
named_only t ps ws l time id p = packet_hands (λ (ms : List Command). 0 < length ms → ms ≡ commands_in t p) (site_of ps ws t) l time id p
    (λ h. absurd (omega (arith, h)))
    (λ h. ap (λ (u : SiteTable). commands_in u p) (table_of_lem ps ws t))

module _ {b : List ℕ} {site links primary period first time : ℕ} {r : Outcome} where
  pub start_misfits : {ps ws ts : List ℕ} → (WordsAndTable ps ws ts → ⊥) → r ≡ misfit → Started b site links primary period first time ps ps ws ws ts ts r
  start_misfits n e =
      record {
        made = λ f. absurd (n f);
        pool_sized = refl;
        sized = refl;
        table_sized = refl;
        pool_kept = λ z. refl;
        kept = λ z. refl;
        table_kept = λ z. refl;
        other = λ m. e;
      }

  pub begins : {ps qs ws vs ts us : List ℕ} {a : Answer}
      → WordsAndTable ps ws ts
      → length qs ≡ length ps
      → length vs ≡ length ws
      → length us ≡ length ts
      → StartsIn b site links primary period first time ps qs ws vs ts us a
      → r ≡ outcome_of a
      → Started b site links primary period first time ps qs ws vs ts us r
  begins {a = a} fits l n m s e =
      record {
        made = λ f. (
          s.step,
          s.starts,
          record {
            outcome = e ∙ ap outcome_of s.begun.answer;
            pool = λ d. s.begun.pool (ap is_done s.begun.answer ∙ d);
            words = λ d. s.begun.words (ap is_done s.begun.answer ∙ d);
            bytes = λ d. s.begun.bytes (ap is_done s.begun.answer ∙ d);
          },
        );
        pool_sized = l;
        sized = n;
        table_sized = m;
        pool_kept = refusal a e (λ why q. s.begun.pool_kept (ap is_done q));
        kept = refusal a e (λ why q. s.begun.words_kept (ap is_done q));
        table_kept = refusal a e (λ why q. s.begun.bytes_kept (ap is_done q));
        other = λ q. absurd (q fits);
      }

module _ {A : Type 0} {f : Site → A} {none : A} {ps ws : List ℕ} {r : A} where
  pub reads : Words ps ws → ((t : SiteTable) → r ≡ f (site_of ps ws t)) → Read f none ps ws r
  reads h e = record { reads = λ g. e; other = λ n. absurd (n h) }

  pub unread : (Words ps ws → ⊥) → r ≡ none → Read f none ps ws r
  unread n e = record { reads = λ g. absurd (n g); other = λ m. e }
