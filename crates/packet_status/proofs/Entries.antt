-- The entries of a StatusResponse, put one by one between its head and its tail.
-- Assumes nothing.
use Rattle.basis.proofs.Std.{ℕ, zero, suc, ◌+◌, ◌≡◌, refl, sym, ap, subst, ◌∙◌, Bool, true, List, [], ◌∷◌, ◌++◌, add-one, arith, eqb, length, length-append}
use Rattle.label.specs.Label.{text_of}
use Rattle.output.specs.Put.{Wrote}
use Rattle.output.proofs.Laws.{then}
use Rattle.write_message.specs.declared.Value.{Value}
use Rattle.write_message.specs.declared.Told.TheVariants.{Response}
use Rattle.write_message.specs.Message.{status}
use Rattle.write_message.specs.Pieces.{entry_pieces, entries_pieces, status_tail, pieces}
use Rattle.write_message.proofs.Kept.{kept}
use Rattle.read_lists.specs.declared.StatusEntry.{StatusEntry}
use Rattle.read_lists.specs.declared.StatusFields.{StatusFields}
use Rattle.packet_lookup.specs.declared.Sought.{Sought}
use Rattle.packet_lookup.specs.Sought.{entry_at}
use Rattle.site.specs.declared.Site.{Site}
use Rattle.packet_answer.specs.declared.Question.{Question}
use Rattle.packet_answer.specs.Ending.{response_of, response_head}
use Rattle.packet_answer.proofs.Responses.{whole_response}
use Rattle.packet_status.specs.StatusReply.{value_in, told_of, told_to, told}

pub none_told : (xs : List ℕ) (at : ℕ) → Wrote xs at (entries_pieces Response true []) xs at
none_told xs at = subst (λ (x : List (List ℕ)). Wrote xs at x xs at) (sym (kept.no_entry Response)) (record { all = refl })

module _ (s : Site) (component : Sought) where
  pub one_told : (e : StatusEntry) (first : Bool) {v : Value} {xs ys : List ℕ} {at r : ℕ}
      → v ≡ value_in s component e
      → Wrote xs at (entry_pieces Response first (status (text_of e.code) (text_of e.name) v)) ys r
      → Wrote xs at (entry_pieces Response first (told_of s component e)) ys r
  unfolding told_of
  one_told e first {xs = xs} {ys = ys} {at = at} {r = r} f w =
      subst (λ (x : Value). Wrote xs at (entry_pieces Response first (status (text_of e.code) (text_of e.name) x)) ys r) f w

  module _ (entries : List StatusEntry) where
    told_length : (n : ℕ) → length (told_to s component entries n) ≡ n
    told_length zero = refl
    told_length (suc n) =
        omega (arith, length-append (told_to s component entries n) (told_of s component (entry_at entries n) ∷ []), told_length n)

    pub one_more_told : (i : ℕ) {e : StatusEntry} {xs ys zs : List ℕ} {at m r : ℕ}
        → Wrote xs at (entries_pieces Response true (told_to s component entries i)) ys m
        → e ≡ entry_at entries i
        → Wrote ys m (entry_pieces Response (eqb i 0) (told_of s component e)) zs r
        → Wrote xs at (entries_pieces Response true (told_to s component entries (i + 1))) zs r
    one_more_told i {xs = xs} {ys = ys} {zs = zs} {at = at} {m = m} {r = r} a h w =
        let b = subst (λ (e : StatusEntry). Wrote ys m (entry_pieces Response (eqb i 0) (told_of s component e)) zs r) h w in
        let x = told_of s component (entry_at entries i) in
        let first : entry_pieces Response (eqb (length (told_to s component entries i)) 0) x ≡ entry_pieces Response (eqb i 0) x = ap (λ (n : ℕ). entry_pieces Response (eqb n 0) x) (told_length i) in
        let all : entries_pieces Response true (told_to s component entries i ++ (x ∷ [])) ≡ entries_pieces Response true (told_to s component entries i) ++ entry_pieces Response (eqb i 0) x =
        kept.one_more Response (told_to s component entries i) x ∙ ap (λ (p : List (List ℕ)). entries_pieces Response true (told_to s component entries i) ++ p) first in
        rw add-one (subst (λ (p : List (List ℕ)). Wrote xs at p zs r) (sym all) (then a b))

  pub whole_told : (q : Question) (f : StatusFields) {xs ys zs ws : List ℕ} {at m n r : ℕ}
      → Wrote xs at (response_head q Response (text_of f.component)) ys m
      → Wrote ys m (entries_pieces Response true (told_to s component f.entries f.count)) zs n
      → Wrote zs n status_tail ws r
      → Wrote xs at (pieces (response_of q Response (text_of f.component) (told s component f))) ws r
  unfolding told
  whole_told q f a b c = whole_response q Response (text_of f.component) (told_to s component f.entries f.count) a b c
