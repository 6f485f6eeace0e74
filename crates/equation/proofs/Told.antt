-- What is seen of a call that is the machine's.
-- Assumes nothing.
use Rattle.basis.proofs.Std.{ℕ, suc, ◌≡◌, refl, sym, ap, ap₂, ◌∙◌, List, [], ◌∷◌, ◌++◌, map, Option, some, none, length, take, drop, take-append-drop}
use Rattle.answer.specs.declared.Answer.{Answer}
use Rattle.answer.specs.Number.{number_of}
use Rattle.answer.specs.Given.{Hint}
use Rattle.site.specs.declared.Site.{Site}
use Rattle.site.specs.Call.{Command as Planned, hint_time, hint_bit, report_of}
use Rattle.sitec.specs.declared.Outcome.{Outcome}
use Rattle.sitec.specs.Outcome.{outcome_of}
use Rattle.call_laws.specs.Sound.{Sound}
use Rattle.call_laws.specs.Formedness.{all_bytes, Wrote}
use Rattle.call_laws.specs.Calls.{Call, output_of, plan_of, end_of, step_by, out_by}
use Rattle.call_laws.proofs.Kept.{kept as calls_kept}
use Rattle.call_laws.specs.Typed.{Typed}
use Rattle.call_laws.proofs.SequencesKept.{kept as sequences_kept}
use Rattle.write_message.specs.Message.{Message}
use Rattle.write_message.specs.Listing.{bytes_of}
use Rattle.packet_command.specs.Handing.{command_word}
use Rattle.machine.specs.Words.{maybe, or_else}
use Rattle.machine.specs.State.{Command, Outcome as MachineOutcome}
use Rattle.demand_told.specs.Life.{closed_by}
use Rattle.refine_calls.specs.Calls.{SameCommands, SameOutcome, hint_for}
use Rattle.refine_calls.specs.Calls.SameCommands.{no_command, one_command}
use Rattle.refine_calls.specs.Calls.SameOutcome.{refuses_both, does_both}
use Rattle.equation.specs.Seen.{Seen, written, bits, tells}
use Rattle.equation.specs.Seen.Seen.{told}
use Rattle.equation.specs.Allows.{command_in, packet_seen}
use Rattle.equation.proofs.Closed.{Same}
use Rattle.equation.proofs.Handed.{words_back}

same_time : (h : Option ℕ) → hint_time (hint_for h) ≡ or_else 0 h
same_time none = refl
same_time (some t) = refl

same_bit : (h : Option ℕ) → hint_bit (hint_for h) ≡ maybe 0 (λ t. 1) h
same_bit none = refl
same_bit (some t) = refl

same_count : {cs : List Planned} {ds : List Command} → SameCommands cs ds → length cs ≡ length ds
same_count no_command = refl
same_count (one_command h v same) = ap suc (same_count same)

abbrev answer_seen : List ℕ → List ℕ → Answer → Seen
answer_seen words ys a = packet_seen ys words (outcome_of a)

abbrev done_with : ℕ → ℕ → ℕ → ℕ → ℕ → Outcome
done_with written closed hint hinted commands = record { hint = hint; number = 0; written = written; closed = closed; hinted = hinted; commands = commands }

all_written : (ms : List Message) → all_bytes ms ≡ written ms
all_written [] = refl
all_written (m ∷ ms) = ap (λ (xs : List ℕ). bytes_of m ++ xs) (all_written ms)

-- the words lent for commands begin with those of a done call
pub told_same : (s : Site) → Sound s → (c : Call) → Typed c → (words : List ℕ)
    → (number_of (step_by s c).answer ≡ 0 → take (length (plan_of s c).commands) words ≡ map command_word (plan_of s c).commands)
    → (a : Answer) (x : MachineOutcome) → Same (closed_by x) → (step_by s c).answer ≡ a → SameOutcome s c a x
    → packet_seen (out_by s c) words (outcome_of (step_by s c).answer) ≡ tells (output_of c) x
told_same s sound c typed words handed a x links e (refuses_both r) = ap₂ (answer_seen words) ((calls_kept.numbered s c).same_bytes_lem r e) e
told_same s sound c typed words handed a x links e (does_both closed hint commands ec eh same) =
    let ms : List Message = (plan_of s c).messages in
    let w : Wrote ms (output_of c) (out_by s c) (report_of (plan_of s c) (end_of s c)) = sequences_kept.writes s sound c typed (report_of (plan_of s c) (end_of s c)) e in
    let counted : (report_of (plan_of s c) (end_of s c)).written ≡ length (written ms) = w.counted ∙ ap (λ (xs : List ℕ). length xs) (all_written ms) in
    let bytes : out_by s c ≡ written ms ++ drop (length (written ms)) (output_of c) =
    sym (take-append-drop (report_of (plan_of s c) (end_of s c)).written (out_by s c))
    ∙ ap₂ (λ (p q : List ℕ). p ++ q) (w.first ∙ all_written ms) w.behind
    ∙ ap (λ (n : ℕ). written ms ++ drop n (output_of c)) counted in
    let p = plan_of s c in
    let out : List ℕ = written ms ++ drop (length (written ms)) (output_of c) in
    let given = map command_in (take (length p.commands) words) in
    let all : given ≡ commands = ap (map command_in) (handed (ap number_of e)) ∙ words_back same in
    ap (answer_seen words (out_by s c)) e
    ∙ ap₂ (λ (ys : List ℕ) (n : ℕ). told (done_with n p.closed (hint_time p.hint) (hint_bit p.hint) (length p.commands)) ys given) bytes counted
    ∙ ap₂ (λ (k : ℕ) (h : Hint). told (done_with (length (written ms)) k (hint_time h) (hint_bit h) (length p.commands)) out given) (ec ∙ links) eh
    ∙ ap₂ (λ (t b : ℕ). told (done_with (length (written ms)) (bits closed) t b (length p.commands)) out given) (same_time hint) (same_bit hint)
    ∙ ap₂ (λ (n : ℕ) (cs : List Command). told (done_with (length (written ms)) (bits closed) (or_else 0 hint) (maybe 0 (λ t. 1) hint) n) out cs) (same_count same) all
