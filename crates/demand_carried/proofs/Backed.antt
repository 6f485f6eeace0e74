-- What the awaited identities of a link stand for: each that is awaited for a record for a message carrying it, unanswered; sixteen bytes; no two
-- of one text.
-- Assumes nothing.
use Rattle.basis.proofs.Std.{ℕ, ◌≤◌, ◌≡◌, refl, sym, ◌∙◌, ap, Bool, true, false, List, [], ◌∷◌, ◌++◌, some, arith, same_bytes, count, Among, bool_cases, not_both, same_true, same_self}
use Rattle.basis.specs.Lists.Among.{later}
use Rattle.identity.specs.Hex.{lowered}
use Rattle.identity.specs.Text.{identity_text}
use Rattle.identity.specs.Read.{SixteenBytes, bytes_of}
use Rattle.identity.proofs.Text.{bytes_said}
use Rattle.machine.specs.Words.{Bytes, any, but_first}
use Rattle.machine.specs.State.{Awaited, Start}
use Rattle.machine.specs.Json.{is_identity_of}
use Rattle.machine.specs.Effects.{carried}
use Rattle.machine.specs.Run.{Past}
use Rattle.demand_held.proofs.Lists.{bit_true, bit_false, count_last, count_left, Each, each_append, each_but_first}
use Rattle.demand_held.proofs.Lists.Each.{no_more, one_more}
use Rattle.demand_told.specs.Life.{opens, ends, going_on}
use Rattle.demand_told.proofs.Tests.{neither}
use Rattle.demand_carried.specs.Carried.{AnswerCame, Carried}
use Rattle.demand_carried.specs.Carried.Unanswered.{and_then}
use Rattle.demand_carried.proofs.Lists.{both_each}

-- ---- one more call
still_lived : {q : Past} (p : Past) (life : List Past) → Among q life → Among q (going_on p life)
still_lived {q = q} p [] a = elim a [ ]
still_lived p (x ∷ life) a = later a

pub carried_on : {s : Start} {h : List Past} {l n : ℕ} {id : Bytes} (p : Past) → opens l p ≡ false → ends l p ≡ false → (AnswerCame l id p → ⊥)
    → Carried s h l n id → Carried s (p ∷ h) l n id
carried_on p o e quiet c =
    record {
      before = c.before;
      machine = c.machine;
      run = c.run;
      call = c.call;
      random = c.random;
      room = c.room;
      pumped = c.pumped;
      content = c.content;
      held = c.held;
      sent = c.sent;
      since = and_then o e quiet c.since;
      life = rw (o, e) (still_lived p _ c.life);
    }

-- ---- two identities of one text are one
one_identity : (a b t : Bytes) → SixteenBytes a → SixteenBytes b → is_identity_of a t ≡ true → is_identity_of b t ≡ true → a ≡ b
one_identity a b t p q e f =
    sym (bytes_said a p) ∙ ap bytes_of (sym (same_true (lowered t) (identity_text a) e) ∙ same_true (lowered t) (identity_text b) f) ∙ bytes_said b q

abbrev pub named : Bytes → Awaited → Bool
named t a = is_identity_of a.identity t

others : (id t : Bytes) → SixteenBytes id → is_identity_of id t ≡ true → (ids : List Awaited) → Each (λ (a : Awaited). SixteenBytes a.identity) ids
    → any (λ (a : Awaited). same_bytes a.identity id) ids ≡ false → count (named t) ids ≡ 0
others id t p e [] no_more f = refl
others id t p e (a ∷ ids) (one_more q r) f =
    let n = neither (same_bytes a.identity id) (any (λ (a : Awaited). same_bytes a.identity id) ids) f in
    omega (arith, others id t p e ids r n.1, bit_false (named t a) (bool_cases (named t a) (λ g. not_both (rw (one_identity a.identity id t q p g e) (same_self id)) n.0) (λ g. g)))

-- ---- the invariant
module _ (s : Start) (l : ℕ) where
  abbrev pub Went : List Past → Awaited → Type 0
  Went h a = (n : ℕ) → carried a.message ≡ some n → Carried s h l n a.identity

  pub record Backed (h : List Past) (ids : List Awaited) : Type 0 where
    pub went : Each (Went h) ids
    pub sixteen : Each (λ (a : Awaited). SixteenBytes a.identity) ids
    pub once : (t : Bytes) → count (named t) ids ≤ 1

  pub none_backed : (h : List Past) → Backed h []
  none_backed h = record { went = no_more; sixteen = no_more; once = λ t. omega arith }

  pub on : {h : List Past} {ids : List Awaited} (p : Past) → opens l p ≡ false → ends l p ≡ false → Each (λ (a : Awaited). AnswerCame l a.identity p → ⊥) ids
      → Backed h ids → Backed (p ∷ h) ids
  on p o e quiet b =
      record { went = both_each (λ a q w n c. carried_on p o e q (w n c)) quiet b.went; sixteen = b.sixteen; once = b.once }

  pub more : {h : List Past} {ids : List Awaited} → Backed h ids → (a : Awaited) → Went h a → SixteenBytes a.identity
      → any (λ (x : Awaited). same_bytes x.identity a.identity) ids ≡ false → Backed h (ids ++ (a ∷ []))
  more {h} {ids} b a w q f =
      record {
        went = each_append b.went (one_more w no_more);
        sixteen = each_append b.sixteen (one_more q no_more);
        once = λ t. bool_cases (named t a)
            (λ e. omega (arith, count_last (named t) ids a, bit_true (named t a) e, others a.identity t q e ids b.sixteen f))
            (λ e. omega (arith, count_last (named t) ids a, bit_false (named t a) e, b.once t));
      }

  pub fewer : {h : List Past} {ids : List Awaited} → Backed h ids → (f : Awaited → Bool) → Backed h (but_first f ids)
  fewer {h} {ids} b f =
      record {
        went = each_but_first f b.went;
        sixteen = each_but_first f b.sixteen;
        once = λ t. omega (arith, b.once t, count_left f (named t) ids);
      }
