use Rattle.basis.proofs.Std.{◌≡◌, ℕ, subst, arith, rules}
use Rattle.csv_field.specs.Places.{texts_of, Noted}
use Rattle.csv_field.specs.declared.Notes.{Notes}
use Rattle.csv_entry.specs.Fields.{fields_of}
use Rattle.csv_entry.proofs.Held.{line_written, line_noted, line_agrees}
use Rattle.csv_entry.proofs.judge.is_line_of.Goals as goal

pub slice_bounds-take_line-end : goal.slice_bounds-take_line-end
slice_bounds-take_line-end c =
    let h = (line_written c.args.e c.put_line-end.ensures (search rules) c.requires).0 in
    search rules

pub returns-in-Some : goal.returns-in-Some
returns-in-Some c =
    let e = c.args.e in
    let k = line_noted e (line_written e c.put_line-end.ensures (search rules) c.requires).1 c.take_line-line.ensures in
    let same : k.0 ≡ c.in-Some.n = cc (k.1) in
    line_agrees e (texts_of c.args.texts.now) (subst (λ (n : Notes). Noted n (fields_of e)) same k.2) c.agree.ensures

pub returns-in-None : goal.returns-in-None
returns-in-None c =
    let e = c.args.e in
    let k = line_noted e (line_written e c.put_line-end.ensures (search rules) c.requires).1 c.take_line-line.ensures in
    absurd (let z : ◌≡◌ {A = ℕ} 0 1 = cc (k.1) in omega arith)
