-- The words of the commands that a packet call hands over.
-- Assumes nothing.
use Rattle.basis.proofs.Std.{ℕ, ◌+◌, ◌*◌, ◌/◌, ◌%◌, ◌^◌, ◌≡◌, refl, sym, ap, ap₂, ◌∙◌, List, ◌∷◌, map, inl, inr, arith, ℤ, length, take, drop, length-map, take_at, drop_at, eq_or_ne}
use Rattle.answer.specs.declared.Report.{Report}
use Rattle.answer.specs.declared.Answer.{Answer}
use Rattle.answer.specs.Number.{number_of}
use Rattle.answer.proofs.Numbers.{0-is-done}
use Rattle.number.specs.Signed.{Signed32, word_of, signed_of}
use Rattle.number.proofs.RoundTrip.{signed_word, word_lt}
use Rattle.site.specs.declared.Site.{Site}
use Rattle.site.specs.Call.{Command}
use Rattle.store_site.specs.Layout.{site_of}
use Rattle.store_table.specs.Layout.{table_of}
use Rattle.packet_command.specs.Handing.{command_word, handed_over}
use Rattle.call_laws.specs.Calls.{Call, plan_of, step_by}
use Rattle.call_laws.specs.Calls.Call.{packet}
use Rattle.call_laws.proofs.Kept.{kept as calls_kept}
use Rattle.sitec.specs.declared.Outcome.{Outcome}
use Rattle.sitec.specs.Outcome.{report_in}
use Rattle.sitec.specs.Lent.{WithCommands}
use Rattle.machine.specs.State.{Command as MachineCommand, command_of}
use Rattle.refine_calls.specs.Calls.{SameCommands}
use Rattle.refine_calls.specs.Calls.SameCommands.{no_command, one_command}
use Rattle.equation.specs.Seen.{numbered}
use Rattle.equation.specs.Allows.{command_in, Packets}
use Rattle.equation.specs.Allows.Packets.{packet_call}
use Rattle.equation.proofs.Fitting.{above, Either, fits_with_commands}

-- a command out of its word
word_back : (number : ℕ) (value : ℤ) → Signed32 value → command_in (command_word (record { number = number; value = value })) ≡ command_of number value
word_back number value s =
    let word = number * 2 ^ 32 + word_of value in
    let small = word_lt value s in
    let high : word / 2 ^ 32 ≡ number = omega (arith, small) in
    let low : word % 2 ^ 32 ≡ word_of value = omega (arith, small) in
    ap₂ command_of high (ap signed_of low ∙ signed_word value s)

pub words_back : {cs : List Command} {ds : List MachineCommand} → SameCommands cs ds → map command_in (map command_word cs) ≡ ds
words_back no_command = refl
words_back (one_command {number = n} {value = v} h s same) = ap₂ (λ (d : MachineCommand) (ds : List MachineCommand). d ∷ ds) (word_back n v s) (words_back same)

pub first_words : (cs : List Command) (ws : List ℕ) → take (length cs) (handed_over cs ws) ≡ map command_word cs
first_words cs ws = take_at (map command_word cs) (drop (length cs) ws) (length cs) (length-map cs command_word)

rest_words : (cs : List Command) (ws : List ℕ) → drop (length cs) (handed_over cs ws) ≡ drop (length cs) ws
rest_words cs ws = drop_at (map command_word cs) (drop (length cs) ws) (length cs) (length-map cs command_word)

rest_so : (cs : List Command) (ws vs : List ℕ) (n : ℕ) → n ≡ length cs → vs ≡ handed_over cs ws → drop n vs ≡ drop n ws
rest_so cs ws vs n e h = rw (e, h) (rest_words cs ws)

-- a done call counts its commands
counts : (s : Site) (c : Call) → number_of (step_by s c).answer ≡ 0 → (report_in (step_by s c).answer).commands ≡ length (plan_of s c).commands
counts s c z =
    let d = 0-is-done (step_by s c).answer z in
    ap (λ (a : Answer). (report_in a).commands) d.1 ∙ ap (λ (r : Report). r.commands) ((calls_kept.numbered s c).done_only_so d.0 d.1).1

-- ---- of any memory
pub unhanded : (ts ps ws cs output : List ℕ) (o : Outcome) (qs vs ds ys : List ℕ) → Packets ts ps ws cs output o qs vs ds ys → (o.number ≡ 0 → ⊥) → ds ≡ cs
unhanded ts ps ws cs output o qs vs ds ys (packet_call κs pool w table l t random received commands out q e p) wrong = p.1.unhanded (above o.number wrong)

pub commands_misfit : (ts ps ws cs output : List ℕ) (o : Outcome) (qs vs ds ys : List ℕ) → Packets ts ps ws cs output o qs vs ds ys → (length cs ≡ 16 → ⊥)
    → (o ≡ numbered 14) × (qs ≡ ps) × (vs ≡ ws) × (ys ≡ output)
commands_misfit ts ps ws cs output o qs vs ds ys (packet_call κs pool w table l t random received commands out q e p) wrong =
    let all = p.0.called.other (λ z. wrong z.3) in
    let number : o.number ≡ 14 = ap (λ (x : Outcome). x.number) all in
    (all, p.0.called.pool_kept (omega (arith, number)), p.0.called.kept (omega (arith, number)), p.0.unwritten (omega (arith, number)))

pub behind : (ts ps ws cs output : List ℕ) (o : Outcome) (qs vs ds ys : List ℕ) → Packets ts ps ws cs output o qs vs ds ys → drop o.commands ds ≡ drop o.commands cs
behind ts ps ws cs output o qs vs ds ys (packet_call κs pool w table l t random received commands out q e p) = by (eq_or_ne o.number 0) (fits_with_commands ps ws ts cs)
  where
    by : Either (o.number ≡ 0) → Either (WithCommands ps ws ts cs) → drop o.commands ds ≡ drop o.commands cs
    by (inr n) f = ap (drop o.commands) (p.1.unhanded (above o.number n))
    by (inl z) (inr f) = absurd (let number : o.number ≡ 14 = ap (λ (x : Outcome). x.number) (p.0.called.other f) in omega (arith, z, number))
    by (inl z) (inl f) =
        let c : Call = packet l t random received.now output in
        let done = p.0.called.outcome f in
        let count = ap (λ (x : Outcome). x.commands) done ∙ counts (site_of ps ws (table_of ts)) c (sym (ap (λ (x : Outcome). x.number) done) ∙ z) in
        rest_so (plan_of (site_of ps ws (table_of ts)) c).commands cs ds o.commands count (p.1.handed f z)
