-- What a string says, once it was tested.
-- Assumes nothing.
use Rattle.basis.proofs.Std.{◌≡◌, sym, ◌∙◌, Bool, true, false, List, ℕ, take, take_all, same_bytes, text}
use Rattle.number.specs.Alphabet.{is_label}
use Rattle.label.specs.declared.Label.{Label}
use Rattle.label.specs.Label.{label_of}
use Rattle.label.proofs.Reading.{label_short}
use Rattle.read_head.specs.declared.Verdict.TheVariants.{Good, Bad}
use Rattle.read_head.specs.declared.Order.TheVariants.{Request, Acknowledge, Suspend, Resume}
use Rattle.read_head.specs.Word.{word}
use Rattle.read_head.specs.Values.{got_label, no_text, an_order, order_for}

module _ (d : List ℕ) {b : Bool} (e : b ≡ is_label d) where
  pub label_good : b ≡ true → {l : Label} → l ≡ label_of (take 32 d) → record { verdict = Good; label = l } ≡ got_label (word d)
  label_good h f =
      let k : is_label d ≡ true = sym e ∙ h in
      rw (f, take_all 32 d (label_short d k), k)

  pub label_bad : b ≡ false → no_text Bad ≡ got_label (word d)
  label_bad h = let k : is_label d ≡ false = sym e ∙ h in sym (rw k)

module _ (d : List ℕ) {a : Bool} (e : a ≡ same_bytes d (text "Request")) where
  pub requests : a ≡ true → an_order Good Request ≡ order_for d
  requests h = let k : same_bytes d (text "Request") ≡ true = sym e ∙ h in sym (rw k)

  module _ (x : a ≡ false) {b : Bool} (f : b ≡ same_bytes d (text "Acknowledge")) where
    pub acknowledges : b ≡ true → an_order Good Acknowledge ≡ order_for d
    acknowledges h = sym (rw (sym e ∙ x, sym f ∙ h))

    module _ (y : b ≡ false) {p : Bool} (g : p ≡ same_bytes d (text "Suspend")) where
      pub suspends : p ≡ true → an_order Good Suspend ≡ order_for d
      suspends h = sym (rw (sym e ∙ x, sym f ∙ y, sym g ∙ h))

      module _ (z : p ≡ false) {q : Bool} (i : q ≡ same_bytes d (text "Resume")) where
        pub resumes : q ≡ true → an_order Good Resume ≡ order_for d
        resumes h = sym (rw (sym e ∙ x, sym f ∙ y, sym g ∙ z, sym i ∙ h))

        pub orders_nothing : q ≡ false → an_order Bad Request ≡ order_for d
        orders_nothing h = sym (rw (sym e ∙ x, sym f ∙ y, sym g ∙ z, sym i ∙ h))
