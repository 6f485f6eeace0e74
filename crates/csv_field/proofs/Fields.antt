-- One field: what the code's answer says of it, from how far it goes.
-- Assumes nothing.
use Rattle.basis.proofs.Std.{ℕ, ◌+◌, ◌-◌, ◌<◌, ◌≤◌, ◌≡◌, sym, ap, subst, ◌∙◌, true, false, List, arith, ltb, lt-ltb, le-ltb, length, take, drop, drop-drop, length-drop}
use Rattle.csv_field.specs.Marks.{is_quote, is_stop, plain_run, quoted_run, unquoted}
use Rattle.csv_field.specs.Split.{Took, fault, plain_by, quoted_by, field_of}
use Rattle.std.specs.Prelude.{Result, Ok, Err}
use Rattle.std.specs.Borrow.{Bor}
use Rattle.csv_field.specs.Places.{Takes, takes, fails}
use Rattle.csv_field.specs.declared.Field.{Field}
use Rattle.csv_field.proofs.Marks.{past}
use Rattle.csv_field.proofs.Runs.{plain_within, plain_text}

-- n bytes on
onward : (s : List ℕ) (at n e : ℕ) → e ≡ at + n → drop n (drop at s) ≡ drop e s
onward s at n e h = drop-drop n at s ∙ ap (λ (k : ℕ). drop k s) (sym h)

module _ (s : List ℕ) (at e : ℕ) (h : at ≤ length s) where
  module _ (g : e ≡ at + plain_run (drop at s)) where
    pub plain_in : (at ≤ e) × (e ≤ length s)
    plain_in = (omega arith, omega (arith, plain_within (drop at s), length-drop at s))

    pub plain_bad : is_quote (drop e s) ≡ true → Takes s at (plain_by (plain_run (drop at s)) (drop at s)) (Err e)
    plain_bad q = rw (onward s at (plain_run (drop at s)) e g, q) (fails e plain_in.0 plain_in.1)

    pub plain_good : {b : Bor (List ℕ)} → b.now ≡ take (e - at) (drop at s) → is_quote (drop e s) ≡ false → Takes s at (plain_by (plain_run (drop at s)) (drop at s)) (Ok (record { text = b; next = e }))
    plain_good {b} w q =
        let n : plain_run (drop at s) ≡ e - at = omega arith in
        let d : take (plain_run (drop at s)) (drop at s) ≡ unquoted false b.now = plain_text (drop at s) ∙ ap (λ (k : ℕ). unquoted false (take k (drop at s))) n ∙ ap (unquoted false) (sym w) in
        let i = plain_in in
        rw (onward s at (plain_run (drop at s)) e g, q) (takes (record { text = b; next = e }) d i.0 i.1)

  module _ (g : e ≡ at + quoted_run false (drop at s)) where
    pub quoted_open : length s ≤ e → Takes s at (quoted_by (quoted_run false (drop at s)) (drop at s)) (Err (length s))
    quoted_open k =
        rw (le-ltb (quoted_run false (drop at s)) (length (drop at s)) (omega (arith, length-drop at s)))
        (subst (λ (r : List ℕ). Takes s at (fault r) (Err (length s))) (past s (length s) (omega arith)) (fails (length s) h (omega arith)))

    module _ (k : e < length s) where
      closes : ltb (quoted_run false (drop at s)) (length (drop at s)) ≡ true
      closes = lt-ltb (quoted_run false (drop at s)) (length (drop at s)) (omega (arith, length-drop at s))

      behind : drop (quoted_run false (drop at s) + 1) (drop at s) ≡ drop (e + 1) s
      behind = onward s at (quoted_run false (drop at s) + 1) (e + 1) (omega arith)

      pub quoted_bad : is_stop (drop (e + 1) s) ≡ false → Takes s at (quoted_by (quoted_run false (drop at s)) (drop at s)) (Err (e + 1))
      quoted_bad q = rw (closes, behind, q) (fails (e + 1) (omega arith) (omega arith))

      pub quoted_good : {b : Bor (List ℕ)} → b.now ≡ take (e - at) (drop at s) → is_stop (drop (e + 1) s) ≡ true → Takes s at (quoted_by (quoted_run false (drop at s)) (drop at s)) (Ok (record { text = b; next = e + 1 }))
      quoted_good {b} w q =
          let n : quoted_run false (drop at s) ≡ e - at = omega arith in
          rw (closes, behind, q)
          (takes (record { text = b; next = e + 1 }) (ap (λ (k : ℕ). unquoted false (take k (drop at s))) n ∙ ap (unquoted false) (sym w)) (omega arith) (omega arith))

earlier : {s : List ℕ} {at on : ℕ} {p : Took} {r : Result Field ℕ} → at ≤ on → Takes s on p r → Takes s at p r
earlier h (takes f d i j) = takes f d (omega arith) j
earlier h (fails e i j) = fails e (omega arith) j

module _ (s : List ℕ) (at : ℕ) {r : Result Field ℕ} where
  pub is_quoted : is_quote (drop at s) ≡ true → Takes s (at + 1) (quoted_by (quoted_run false (drop (at + 1) s)) (drop (at + 1) s)) r → Takes s at (field_of (drop at s)) r
  unfolding field_of
  is_quoted q x = rw (q, drop-drop 1 at s) (earlier (omega arith) x)

  pub is_plain_lem : is_quote (drop at s) ≡ false → Takes s at (plain_by (plain_run (drop at s)) (drop at s)) r → Takes s at (field_of (drop at s)) r
  unfolding field_of
  is_plain_lem q x = rw q x
