-- The claims about packets without lists are kept.
-- Assumes nothing.
use Rattle.basis.proofs.Std.{ℕ, arith, ◌≡◌, refl, sym, ap, ◌∙◌, Bool, true, false, some, none, pick, both, same_bytes}
use Rattle.identity.specs.Read.{read_identity}
use Rattle.json_value.specs.Grammar.{Json}
use Rattle.json_packet.specs.Packet.{Packet, is_packet, meaning_of}
use Rattle.json_packet.proofs.Kept as Packets
use Rattle.read_head.specs.Head.{ignored, head_at}
use Rattle.read_head.proofs.Kept as Heads
use Rattle.machine.specs.Words.{Bytes, maybe}
use Rattle.machine.specs.Json.{read_packet}
use Rattle.refine_read.specs.Head.{head_of}
use Rattle.refine_read.specs.Ignored.{ignored_by}
use Rattle.refine_read.specs.Claims.{Claims}
use Rattle.refine_read.proofs.Identity.{readable, says_bytes}
use Rattle.refine_read.proofs.Head.{head_is}
use Rattle.refine_read.proofs.Ignored.{awaited_is, answered_is, ignored_is}
use Rattle.refine_read.proofs.Reasons.{reason_is, further_is}
use Rattle.refine_read.proofs.Types.{typed}
use Rattle.refine_read.proofs.Watchdog.{watchdog_reads}
use Rattle.refine_read.proofs.Fields.{kept_text, alarm_reads, aggregated_reads}

reads : {s : Bytes} {j : Json} → Packet s j → read_packet s ≡ some j
reads p = let c = (Packets.kept).complete p in rw c.0 (ap some c.1)

pub only : {s : Bytes} {j : Json} → read_packet s ≡ some j → Packet s j
only {s} {j} e = by (is_packet s) refl e
  where
    by : (b : Bool) → is_packet s ≡ b → pick b (some (meaning_of s)) none ≡ some j → Packet s j
    by true t e = let z : meaning_of s ≡ j = cc in rw z at ((Packets.kept).sound s t)
    by false t e = absurd (let z : ◌≡◌ {A = ℕ} 0 1 = cc in omega arith)

head : (s : Bytes) → head_at s ≡ maybe ignored head_of (read_packet s)
head s = by (is_packet s) refl
  where
    by : (b : Bool) → is_packet s ≡ b → head_at s ≡ maybe ignored head_of (pick b (some (meaning_of s)) none)
    by true t = (Heads.kept).head ((Packets.kept).sound s t) ∙ head_is (meaning_of s)
    by false t = (Heads.kept).no_packet s (λ j p. (Packets.kept).refused t p)

pub kept : Claims
kept =
    record {
      reads = reads;
      only = only;
      head = head;
      typed = typed;
      identity = λ a s v. says_bytes a s v ∙ ap (λ (b : Bool). both b (same_bytes a (read_identity s).id.bytes)) (sym (readable s));
      awaited = λ k s v. awaited_is k v s;
      answered = λ k s v. answered_is k v s;
      ignored = λ k s v. ignored_is k v (read_packet s) ∙ ap (ignored_by k) (sym (head s));
      reason = reason_is;
      further = further_is;
      alarm = λ s j e. rw ((Heads.kept).alarm (only e)) (alarm_reads j);
      watchdog = λ s j e. rw ((Heads.kept).watchdog (only e)) (watchdog_reads j);
      aggregated = λ s j e. rw ((Heads.kept).aggregated (only e)) (aggregated_reads j);
      kept = kept_text;
    }
