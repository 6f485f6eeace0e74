use Rattle.basis.proofs.Std.{◌≡◌, ℕ, [], ap, sym, ◌∙◌, refl, length, get_or}
use Rattle.std.specs.Prelude.{Option, Err, ok_or}
use Rattle.csv_field.specs.Places.{texts_of}
use Rattle.csv_entry.specs.declared.Reason.TheVariants.{Kind}
use Rattle.csv_entry.proofs.Twelve.{texts_length}
use Rattle.csv_entry.proofs.Judging.{kind_none, kind_some, unnamed, absent, held}
use Rattle.basis.proofs.Std.{rules}
use Rattle.csv_entry.proofs.judge.judge.Goals as goal

pub returns-in_err-k : goal.returns-in_err-k
returns-in_err-k c =
    let ds = texts_of c.args.texts.now in
    let n = kind_none (get_or ds 1 []) (ap (λ (o : Option ℕ). ok_or o Kind) (sym c.kind.ensures) ∙ sym c.ok_or.ensures.value ∙ c.in_err-k.was) in
    let twelve : length ds ≡ 12 = texts_length c.args.texts.now ∙ search rules in
    let is : c.from_residual.result ≡ Err Kind = search rules in
    rw is (unnamed ds _ twelve refl n.0)

pub returns-then-not-is_present : goal.returns-then-not-is_present
returns-then-not-is_present c =
    let ds = texts_of c.args.texts.now in
    let n = kind_some (get_or ds 1 []) (ap (λ (o : Option ℕ). ok_or o Kind) (sym c.kind.ensures) ∙ sym c.ok_or.ensures.value ∙ c.in_ok-k.was) in
    let twelve : length ds ≡ 12 = texts_length c.args.texts.now ∙ search rules in
    absent ds c.in_ok-k.k twelve n.0 n.1 (sym c.is_present.ensures ∙ c.if-not-is_present.true)

pub returns : goal.returns
returns c =
    let ds = texts_of c.args.texts.now in
    let n = kind_some (get_or ds 1 []) (ap (λ (o : Option ℕ). ok_or o Kind) (sym c.kind.ensures) ∙ sym c.ok_or.ensures.value ∙ c.in_ok-k.was) in
    let twelve : length ds ≡ 12 = texts_length c.args.texts.now ∙ search rules in
    held ds c.in_ok-k.k twelve n.0 n.1 (sym c.is_present.ensures ∙ c.if-not-is_present.false) c.contents.ensures
