-- A done call with well-formed messages that have room writes exactly their bytes.
-- Assumes nothing.
use Rattle.basis.proofs.Std.{ℕ, ◌%◌, ◌≤◌, ◌≡◌, refl, sym, ◌∙◌, ap, List, [], ◌∷◌, ◌++◌, arith, length}
use Rattle.answer.specs.declared.Report.{Report}
use Rattle.output.specs.Put.{Wrote as Puts, concat}
use Rattle.output.proofs.Laws as laws
use Rattle.write_message.specs.Message.{Message}
use Rattle.write_message.specs.Pieces.{pieces}
use Rattle.write_message.proofs.Whole.{whole}
use Rattle.write_laws.proofs.Kept.{kept as lawful}
use Rattle.site.specs.declared.Step.{Step}
use Rattle.site.specs.Call.{report_of, pieces_of, written_to, out_after}
use Rattle.call_laws.proofs.Given.{numbers}
use Rattle.call_laws.proofs.Stepped.{steps}
use Rattle.call_laws.specs.Formedness.{EachFormed, all_bytes, Sendable, EachReadsBack, Wrote, Outputs}

append_too : (a b c : List ℕ) → a ++ (b ++ c) ≡ (a ++ b) ++ c
append_too [] b c = refl
append_too (x ∷ a) b c = ap (λ (r : List ℕ). x ∷ r) (append_too a b c)

concat_append : (bs cs : List (List ℕ)) → concat (bs ++ cs) ≡ concat bs ++ concat cs
concat_append [] cs = refl
concat_append (b ∷ bs) cs = ap (λ (r : List ℕ). b ++ r) (concat_append bs cs) ∙ append_too b (concat bs) (concat cs)

pieces_whole : (ms : List Message) → concat (pieces_of ms) ≡ all_bytes ms
pieces_whole [] = refl
pieces_whole (m ∷ ms) = concat_append (pieces m) (pieces_of ms) ∙ rw (whole m, pieces_whole ms) refl

reads_back : (ms : List Message) → EachFormed ms → EachReadsBack ms
reads_back [] f = tt
reads_back (m ∷ ms) (f, g) = (record { packet = lawful.packet m f; fields = lawful.back m f }, reads_back ms g)

module _ (xs : List ℕ) (ms : List Message) (long : 4096 ≤ length xs) (h : Sendable ms) where
  wrote : Puts xs 0 (pieces_of ms) (written_to xs ms).bytes (written_to xs ms).end
  wrote = record { all = refl }

  size : length (concat (pieces_of ms)) ≡ length (all_bytes ms)
  size = ap length (pieces_whole ms)

  end_is : (written_to xs ms).end ≡ length (all_bytes ms)
  end_is =
      let room = h.room in
      omega (arith, (laws.fits wrote (omega (arith, size, room, long))).1, size)

  counted_is : (written_to xs ms).end % 4294967296 ≡ (written_to xs ms).end
  counted_is = let room = h.room in omega (arith, end_is, room)

  -- what a report of that count says of the output
  said : (n : ℕ) → n ≡ (written_to xs ms).end % 4294967296 → (d : Report) → d.written ≡ n → (ys : List ℕ) → ys ≡ (written_to xs ms).bytes → Wrote ms xs ys d
  said n a d b ys c =
      let room = h.room in
      let e : d.written ≡ (written_to xs ms).end = b ∙ a ∙ counted_is in
      record {
        counted = e ∙ end_is;
        most = omega (arith, e, end_is, room);
        first = rw (e, c) (laws.sent wrote (omega (arith, laws.same_length wrote, end_is, room, long)) ∙ pieces_whole ms);
        behind = rw (e, c) (laws.behind wrote);
        read_back = reads_back ms h.formed;
      }

pub outputs : Outputs
outputs s time refuses p xs ys r d g done long h =
    let end = (written_to xs p.messages).end in
    let answer = sym (ap (λ (x : Step). x.answer) g.step) ∙ done in
    let report : d ≡ report_of p end = ((numbers refuses p end).done_only_so d (sym (steps s time refuses p end).answer ∙ answer)).1 in
    said xs p.messages long h (end % 4294967296) refl d (ap (λ (x : Report). x.written) report) ys (g.out ∙ ap (out_after xs p.messages) done)
