-- The claims about a stream's report are kept.
-- Assumes nothing.
use Rattle.basis.proofs.Std.{◌≡◌, refl, sym, ap, subst, ◌∙◌, Bool, true, false, List, [], ℕ, ◌^◌, ◌≤◌, ◌<◌, arith, leb, length, get_or, take, leb-true, le-leb, pick}
use Rattle.output.specs.Put.{Wrote}
use Rattle.output.proofs.Laws.{same_length, fits}
use Rattle.week_tally.specs.Tally.{Tally}
use Rattle.week_tally.specs.Tally.Tally.{within}
use Rattle.week_tally.specs.Words.{tally_of}
use Rattle.week_tally.specs.Noted.{noted_all}
use Rattle.week_stream.specs.Packets.{entries_of}
use Rattle.week_stream.specs.Feed.{State, fed, fresh, state_of}
use Rattle.week_stream.proofs.Kept as Stream
use Rattle.week_text.specs.Pieces.{report_pieces}
use Rattle.week_promise.specs.Report.{report_text}
use Rattle.week_promise.proofs.ReportKept as Report
use Rattle.weekc.specs.declared.Told.{Told}
use Rattle.week_promise.specs.Reading.{Reading, Prints, Free}
use Rattle.week_promise.specs.Reading.Reading.{begun, further}
use Rattle.week_promise.specs.Reading.Prints.{prints}
use Rattle.week_promise.proofs.Ranks.{once, ranked}
use Rattle.week_promise.specs.Claims.{Claims}

nothing : (s : State) → s ≡ fed s []
unfolding fed
nothing s = refl

state : {stream w held : List ℕ} {used : ℕ} → Reading stream w held used → state_of w held used ≡ fed (fresh (within [] [])) stream
state (begun κs w r e b l) = ap fresh (b.done l).1 ∙ nothing (fresh (within [] []))
state (further {stream} κs w held used piece r e f l h x) =
    (f.done l h).1
    ∙ ap (λ (s : State). fed s piece.now) (state x)
    ∙ sym ((Stream.kept).in_two (fresh (within [] [])) stream piece.now)

tally : {stream w held : List ℕ} {used : ℕ} → Reading stream w held used → tally_of w ≡ noted_all (within [] []) (entries_of stream)
tally {stream} x = ap (λ (s : State). s.tally) (state x) ∙ (Stream.kept).whole (within [] []) stream

has_room : (a b : ℕ) → ◌≡◌ {A = ℕ} (pick (leb a b) 0 2) 0 → a ≤ b
has_room a b = by (leb a b) refl
  where
    by : (q : Bool) → leb a b ≡ q → ◌≡◌ {A = ℕ} (pick q 0 2) 0 → a ≤ b
    by true e h = leb-true a b e
    by false e h = absurd (omega (arith, h))

report : {stream w held out after : List ℕ} {used : ℕ} {r : Told} → Reading stream w held used → length (entries_of stream) < 2 ^ 64 → length w ≡ 5027
    → Prints w out after r → r.number ≡ 0 → take r.written after ≡ report_text (entries_of stream)
report {stream} {out = out} {after = after} {r = r} x n l (prints κs w lent q e t) z =
    let d = t.done l in
    let wrote : Wrote out 0 (report_pieces (noted_all (within [] []) (entries_of stream))) after r.written = subst (λ (y : Tally). Wrote out 0 (report_pieces y) after r.written) (tally x) d.0 in
    let room = has_room r.written (length out) (sym d.1 ∙ z) in
    (Report.kept).printed (entries_of stream) n wrote (omega (arith, room, same_length wrote))

room : {w out after : List ℕ} {r : Told} → length w ≡ 5027 → ((i : ℕ) → get_or w i 0 < 2 ^ 64) → 16384 ≤ length out → Prints w out after r → r.number ≡ 0
room {w} {out} {after} {r} l small h (prints κs v lent q e t) =
    let d = t.done l in
    let small-enough = (Report.kept).room w l small in
    let long = (fits d.0 (omega (arith, h, small-enough))).1 in
    d.1 ∙ rw (le-leb r.written (length out) (omega (arith, h, small-enough, long)))

free : Free
free = record { begin = λ κs given. tt; feed = λ κs given. tt; report = λ κs given. tt }

pub kept : Claims
kept = record { free = free; report = report; room = room; once = once; ranked = ranked }
