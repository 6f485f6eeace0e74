-- Of any memory: a refused call changes nothing and tells its number alone, a call writes only what it counts, and on other memory than an ask needs there is
-- number 14 and zeros.
-- Assumes nothing.
use Rattle.basis.proofs.Std.{ℕ, ◌%◌, ◌<◌, ◌≡◌, refl, sym, ap, ap₂, ◌∙◌, subst, List, [], ◌∷◌, inl, inr, arith, length, drop}
use Rattle.answer.specs.declared.Report.{Report}
use Rattle.answer.specs.declared.Answer.{Answer}
use Rattle.answer.specs.declared.Answer.TheVariants.{Done, Refused}
use Rattle.output.specs.Put.{Wrote}
use Rattle.output.proofs.Laws.{most}
use Rattle.pool.specs.declared.Reading.{Reading}
use Rattle.table_whole.specs.declared.SiteTable.{SiteTable}
use Rattle.table_whole.specs.Memory.{no_table}
use Rattle.site.specs.declared.Site.{Site}
use Rattle.site.specs.declared.Step.{Step}
use Rattle.site.specs.Call.{pieces_of, written_to, out_after}
use Rattle.store_site.specs.Layout.{site_of}
use Rattle.store_table.specs.Layout.{table_of}
use Rattle.call_read.specs.declared.ChosenVersion.{ChosenVersion}
use Rattle.call_laws.specs.Calls.{Call, time_of, output_of, refuses, plan_of, end_of, step_by}
use Rattle.call_laws.specs.Calls.Call.{packet, pump}
use Rattle.call_laws.proofs.Kept.{kept as calls_kept}
use Rattle.sitec.specs.declared.Outcome.{Outcome}
use Rattle.sitec.specs.Outcome.{report_in, outcome_of}
use Rattle.sitec.specs.Lent.{Words, Called, Told}
use Rattle.machine.specs.State.{Call as MachineCall}
use Rattle.machine.specs.State.Outcome.{refused}
use Rattle.equation.specs.Seen.{Ask, Seen, numbered, tells, unfit}
use Rattle.equation.specs.Seen.Ask.{call, held, lost, phase, version, record_of}
use Rattle.equation.specs.Seen.Seen.{told, count, numbers, entry}
use Rattle.equation.specs.Allows.{Allows, packet_seen, outcome_seen}
use Rattle.equation.specs.Allows.Allows.{connects, disconnects, packets, alarms, statuses, aggregates, ticks, pumps, reads_held, reads_lost, reads_phase, reads_version, reads_record}
use Rattle.equation.specs.Equation.{ServesCall, Serves}
use Rattle.equation.proofs.Fitting.{above, Either, fits_words, fits_with_table, fits_with_commands, fitting_both, fitting, fitting_words}

abbrev number_in : Seen → ℕ
number_in (told o ys commands) = o.number
number_in (count n) = 0
number_in (numbers ns) = 0
number_in (entry found bytes) = 0

abbrev Behind : List ℕ → Seen → Type 0
Behind output (told o ys commands) = drop o.written ys ≡ drop o.written output
Behind output (count n) = Unit {0}
Behind output (numbers ns) = Unit {0}
Behind output (entry found bytes) = Unit {0}

pub record Lawful (Needs : Type 0) (ps ws output : List ℕ) (x : Seen) (qs vs : List ℕ) : Type 0 where
  pub same_pool : (number_in x ≡ 0 → ⊥) → qs ≡ ps
  pub same_words : (number_in x ≡ 0 → ⊥) → vs ≡ ws
  pub number_only : (number_in x ≡ 0 → ⊥) → x ≡ tells output (refused (number_in x))
  pub only_counted : length output < 4294967295 → Behind output x
  pub no_site : (Needs → ⊥) → x ≡ tells output (refused 14)

-- a refused call hands out its number and zeros
module _ {F : Type 0} (t : SiteTable) (y : Step) (ps qs ws vs : List ℕ) (o : Outcome) (p : Called F t y ps qs ws vs o) (wrong : o.number ≡ 0 → ⊥) where
  alone : (n : ℕ) → o ≡ numbered n → o ≡ numbered o.number
  alone n e = e ∙ ap numbered (sym (ap (λ (q : Outcome). q.number) e))

  answered : (a : Answer) → o ≡ outcome_of a → o ≡ numbered o.number
  answered (Done r) e = absurd (wrong (ap (λ (q : Outcome). q.number) e))
  answered (Refused r) e = alone _ e

  numbered_so : Either F → o ≡ numbered o.number
  numbered_so (inl f) = answered y.answer (p.outcome f)
  numbered_so (inr n) = alone 14 (p.other n)

lawful_of : {F N : Type 0} → Either F → (F → N) → (t : SiteTable) (y : Step) (ps qs ws vs xs ys ds : List ℕ) (o : Outcome) → Called F t y ps qs ws vs o → (0 < o.number → ys ≡ xs)
    → (length xs < 4294967295 → drop o.written ys ≡ drop o.written xs) → Lawful N ps ws xs (packet_seen ys ds o) qs vs
lawful_of fits f t y ps qs ws vs xs ys ds o p same counted =
    record {
      same_pool = λ h. p.pool_kept (above o.number h);
      same_words = λ h. p.kept (above o.number h);
      number_only = λ h. ap₂ (λ (zs : List ℕ) (q : Outcome). packet_seen zs ds q) (same (above o.number h)) (numbered_so t y ps qs ws vs o p h fits);
      only_counted = counted;
      no_site = λ h.
          let e = p.other (λ z. h (f z)) in
          let number : o.number ≡ 14 = ap (λ (q : Outcome). q.number) e in
          ap₂ (λ (zs : List ℕ) (q : Outcome). packet_seen zs ds q) (same (omega (arith, number))) e;
    }

plain : {F N : Type 0} → Either F → (F → N) → (t : SiteTable) (y : Step) (ps qs ws vs : List ℕ) (o : Outcome) → Called F t y ps qs ws vs o → Lawful N ps ws [] (outcome_seen [] o) qs vs
plain fits f t y ps qs ws vs o p = lawful_of fits f t y ps qs ws vs [] [] [] o p (λ h. refl) (λ h. refl)

-- a call with an output
module _ {F : Type 0} (ts ps qs ws vs : List ℕ) (c : Call) (ys : List ℕ) (o : Outcome) (p : Told F (table_of ts) (time_of c) (refuses (site_of ps ws (table_of ts)) c) (plan_of (site_of ps ws (table_of ts)) c) ps qs ws vs (output_of c) ys o) where
  abbrev s : Site
  s = site_of ps ws (table_of ts)

  wrote : Wrote (output_of c) 0 (pieces_of (plan_of s c).messages) (written_to (output_of c) (plan_of s c).messages).bytes (end_of s c)
  wrote = record { all = refl }

  end_counted : F → (d : Report) → (step_by s c).answer ≡ Done d → length (output_of c) < 4294967295 → o.written ≡ end_of s c
  end_counted f d e short =
      let end : end_of s c % 4294967296 ≡ end_of s c = omega (arith, most wrote (omega arith), short) in
      ap (λ (q : Outcome). q.written) (p.called.outcome f)
      ∙ ap (λ (a : Answer). (report_in a).written) e
      ∙ ap (λ (r : Report). r.written) ((calls_kept.numbered s c).done_only_so d e).1
      ∙ end

  by_answer : F → length (output_of c) < 4294967295 → (a : Answer) → (step_by s c).answer ≡ a → drop o.written ys ≡ drop o.written (output_of c)
  by_answer f short (Refused r) e = ap (drop o.written) (p.out f ∙ ap (out_after (output_of c) (plan_of s c).messages) e)
  by_answer f short (Done d) e =
      ap (drop o.written) (p.out f ∙ ap (out_after (output_of c) (plan_of s c).messages) e)
      ∙ subst (λ (n : ℕ). drop n (written_to (output_of c) (plan_of s c).messages).bytes ≡ drop n (output_of c)) (sym (end_counted f d e short)) (calls_kept.numbered s c).written.others

  counted : Either F → length (output_of c) < 4294967295 → drop o.written ys ≡ drop o.written (output_of c)
  counted (inl f) short = by_answer f short (step_by s c).answer refl
  counted (inr n) short = let number : o.number ≡ 14 = ap (λ (q : Outcome). q.number) (p.called.other n) in ap (drop o.written) (p.unwritten (omega (arith, number)))

  lent : {N : Type 0} → Either F → (F → N) → (ds : List ℕ) → Lawful N ps ws (output_of c) (packet_seen ys ds o) qs vs
  lent fits f ds = lawful_of fits f (table_of ts) (step_by s c) ps qs ws vs (output_of c) ys ds o p.called p.unwritten (counted fits)

pub lawful : (ts ps ws : List ℕ) (k : MachineCall) (output : List ℕ) (x : Seen) (qs vs : List ℕ) → Allows ts ps ws (call k output) x qs vs → Lawful (ServesCall k.act ps ws ts) ps ws output x qs vs
lawful ts ps ws k output x qs vs (connects κs q w l t o e p) = plain (fits_words ps ws) (fitting_both ps ws) no_table _ ps qs ws vs o (p no_table)
lawful ts ps ws k output x qs vs (disconnects κs q w l t o e p) = plain (fits_words ps ws) (fitting_both ps ws) no_table _ ps qs ws vs o (p no_table)
lawful ts ps ws k output x qs vs (packets κs q w table l t random rc cs xs o e p n) =
    lent ts ps qs ws vs (packet l t random rc.now xs.now) e.1.1.1.1.1.1.1.1.0.now o p.0 (fits_with_commands ps ws ts cs.now) (fitting_words ps ws ts cs.now) e.1.1.1.1.1.1.1.0.now
lawful ts ps ws k output x qs vs (alarms κs q w table i active t o e p) = plain (fits_with_table ps ws ts) (fitting ps ws ts) _ _ ps qs ws vs o p
lawful ts ps ws k output x qs vs (statuses κs q w table i v t o e p) = plain (fits_with_table ps ws ts) (fitting ps ws ts) _ _ ps qs ws vs o p
lawful ts ps ws k output x qs vs (aggregates κs q w v t o e p) = plain (fits_words ps ws) (fitting_both ps ws) no_table _ ps qs ws vs o (p no_table)
lawful ts ps ws k output x qs vs (ticks κs q w t o e p) = plain (fits_words ps ws) (fitting_both ps ws) no_table _ ps qs ws vs o (p no_table)
lawful ts ps ws k output x qs vs (pumps κs q w table l t random xs o e p) =
    lent ts ps qs ws vs (pump l t random xs.now) e.1.1.1.1.1.1.0.now o p (fits_with_table ps ws ts) (fitting ps ws ts) []

misread : {N : Type 0} (ps ws : List ℕ) → (N → ⊥) → (Words ps ws → N) → Words ps ws → ⊥
misread ps ws wrong f z = wrong (f z)

pub misfit : (ts ps ws : List ℕ) (a : Ask) (x : Seen) (qs vs : List ℕ) → Allows ts ps ws a x qs vs → (Serves a ps ws ts → ⊥) → x ≡ unfit a
misfit ts ps ws (call c output) x qs vs p wrong = (lawful ts ps ws c output x qs vs p).no_site wrong
misfit ts ps ws (held l) x qs vs (reads_held κs q w k n e p) wrong = ap count (p.other (misread ps ws wrong (fitting_both ps ws)))
misfit ts ps ws (lost l) x qs vs (reads_lost κs q w k n e p) wrong = ap count (p.other (misread ps ws wrong (fitting_both ps ws)))
misfit ts ps ws (phase l) x qs vs (reads_phase κs q w k n e p) wrong = ap count (p.other (misread ps ws wrong (fitting_both ps ws)))
misfit ts ps ws (version l) x qs vs (reads_version κs q w k v e p) wrong =
    ap (λ (u : ChosenVersion). numbers (u.major ∷ u.minor ∷ u.patch ∷ [])) (p.other (misread ps ws wrong (fitting_both ps ws)))
misfit ts ps ws (record_of l r) x qs vs (reads_record κs q w k j y e p) wrong = ap (λ (u : Reading). entry u.found u.bytes) (p.other (misread ps ws wrong (fitting_both ps ws)))
