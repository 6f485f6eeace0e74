-- The claims hold.
-- Assumes nothing.
use Rattle.basis.proofs.Std.{◌≡◌, refl, sym, ap, ◌∙◌, true, false, List, [], ◌∷◌, ◌++◌, ℕ, ◌+◌, ◌^◌, ◌<◌, arith, length, bool_cases}
use Rattle.output.specs.Put.{concat}
use Rattle.output.proofs.Laws.{sent}
use Rattle.week_entry.specs.declared.Entry.{Entry}
use Rattle.week_count.specs.Values.{values_of}
use Rattle.week_tally.specs.Tally.{Status as Kept, Tally}
use Rattle.week_tally.specs.Tally.Tally.{too_many, within}
use Rattle.week_tally.specs.Noted.{noted, noted_all, limited}
use Rattle.week_text.specs.Line.{header, too_many_line}
use Rattle.week_text.specs.Pieces.{report_pieces}
use Rattle.week_promise.specs.Tally.{Status, add, tally_from, total, fits}
use Rattle.week_promise.specs.Report.{lines_of, text_of_tally, report_text}
use Rattle.week_promise.specs.ReportClaims.{Claims}
use Rattle.week_promise.proofs.Lines.{grouped_from, lines_text}
use Rattle.week_promise.proofs.Groups.Most.{none}
use Rattle.week_promise.proofs.Room.{room}
use Rattle.week_promise.proofs.Steps.{Told, next, told_limited, fits_not}

fits_never : (es : List Entry) (ss : List Status) → fits ss ≡ false → fits (tally_from ss es) ≡ false
unfolding tally_from
fits_never [] ss h = h
fits_never (e ∷ es) ss h = fits_never es (add ss e) (fits_not ss e h)

over_stays : (es : List Entry) → noted_all too_many es ≡ too_many
unfolding noted_all noted
over_stays [] = refl
over_stays (e ∷ es) = over_stays es

over_text : (ss : List Status) → fits ss ≡ false → text_of_tally ss ≡ too_many_line
unfolding text_of_tally
over_text ss h = rw h

within_text : {fs : List Kept} {vs : List ℕ} {ss : List Status} {n : ℕ} → Told fs vs ss n → fits ss ≡ true → concat (report_pieces (within fs vs)) ≡ text_of_tally ss
unfolding text_of_tally report_pieces
within_text {fs} {vs} {ss} t h =
    rw h (ap (λ (l : List ℕ). header ++ l) (lines_text fs vs ∙ ap lines_of t.groups))

run : (es : List Entry) {fs : List Kept} {vs : List ℕ} {ss : List Status} {n : ℕ} → Told fs vs ss n → fits ss ≡ true → n + length es < 2 ^ 64
    → concat (report_pieces (noted_all (within fs vs) es)) ≡ text_of_tally (tally_from ss es)
unfolding noted_all tally_from report_pieces
run [] t f h = within_text t f
run (e ∷ es) {fs} {vs} {ss} {n} t f h =
    let x = next t e (omega arith) in
    let l : noted (within fs vs) e ≡ limited x.statuses x.values = x.is in
    bool_cases (fits (add ss e))
    (λ g.
    ap (λ (y : Tally). concat (report_pieces (noted_all y es))) (l ∙ told_limited x.told ∙ rw g)
    ∙ run es x.told g (omega arith))
    (λ g.
    ap (λ (y : Tally). concat (report_pieces (noted_all y es))) (l ∙ told_limited x.told ∙ rw g)
    ∙ ap (λ (y : Tally). concat (report_pieces y)) (over_stays es)
    ∙ sym (over_text (tally_from (add ss e) es) (fits_never es (add ss e) g)))

begun : Told [] [] [] 0
unfolding grouped_from values_of total
begun = record { groups = refl; stray = λ p h. refl; all = refl; most = none }

fits_begun : fits [] ≡ true
unfolding fits total
fits_begun = refl

report : (es : List Entry) → length es < 2 ^ 64 → concat (report_pieces (noted_all (within [] []) es)) ≡ report_text es
report es h = run es begun fits_begun (omega arith)

pub kept : Claims
kept = record { report = report; printed = λ es h w r. sent w r ∙ report es h; room = room }
