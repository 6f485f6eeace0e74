-- What an element's string says where it is a used string, a time, an order or an identity; and the reason where it is none.
-- Assumes nothing.
use Rattle.std.specs.Prelude.{Bool, true, false, List, [], ◌∷◌, ℕ, replicate}
use Rattle.basis.specs.Pick.{pick}
use Rattle.basis.specs.Lists.{same_bytes}
use Rattle.basis.specs.Text.{text}
use Rattle.number.specs.Alphabet.{is_label}
use Rattle.label.specs.Label.{label_of, no_label}
use Rattle.calendar.specs.declared.Time.{Time}
use Rattle.calendar.specs.declared.Time.TheVariants.{Is, No}
use Rattle.calendar.specs.Read.{read_time}
use Rattle.read_head.specs.declared.Verdict.{Verdict}
use Rattle.read_head.specs.declared.Verdict.TheVariants.{Good, Missing, Bad}
use Rattle.read_head.specs.declared.Order.{Order}
use Rattle.read_head.specs.declared.Order.TheVariants.{Request, Acknowledge, Suspend, Resume}
use Rattle.read_head.specs.declared.GotLabel.{GotLabel}
use Rattle.read_head.specs.declared.GotTime.{GotTime}
use Rattle.read_head.specs.declared.GotOrder.{GotOrder}
use Rattle.read_head.specs.Word.{Word, absent, other, word}

-- the first reason that applies to two elements: Missing element anywhere, then Bad value anywhere
abbrev pub worst : Verdict → Verdict → Verdict
worst Missing v = Missing
worst Bad Missing = Missing
worst Bad Bad = Bad
worst Bad Good = Bad
worst Good v = v

-- the reason of an element that must be a string which passes a test
abbrev pub verdict_of : (List ℕ → Bool) → Word → Verdict
verdict_of good absent = Missing
verdict_of good other = Bad
verdict_of good (word d) = pick (good d) Good Bad

-- 1 to 32 bytes of the table's alphabet
abbrev pub no_text : Verdict → GotLabel
no_text v = record { verdict = v; label = no_label }

abbrev pub got_label : Word → GotLabel
got_label absent = no_text Missing
got_label other = no_text Bad
got_label (word d) = pick (is_label d) (record { verdict = Good; label = label_of d }) (no_text Bad)

-- a time, and how many decimals stood there
abbrev pub no_time : Verdict → GotTime
no_time v = record { verdict = v; time = 0; decimals = 0 }

abbrev pub timed : Time → GotTime
timed (Is t k) = record { verdict = Good; time = t; decimals = k }
timed No = no_time Bad

abbrev pub got_time : Word → GotTime
got_time absent = no_time Missing
got_time other = no_time Bad
got_time (word d) = timed (read_time d)

-- Request, Acknowledge, Suspend or Resume
abbrev pub an_order : Verdict → Order → GotOrder
an_order v o = record { verdict = v; order = o }

abbrev pub order_for : List ℕ → GotOrder
order_for d =
    pick (same_bytes d (text "Request")) (an_order Good Request)
    (pick (same_bytes d (text "Acknowledge")) (an_order Good Acknowledge)
    (pick (same_bytes d (text "Suspend")) (an_order Good Suspend)
    (pick (same_bytes d (text "Resume")) (an_order Good Resume) (an_order Bad Request))))

abbrev pub got_order : Word → GotOrder
got_order absent = an_order Missing Request
got_order other = an_order Bad Request
got_order (word d) = order_for d
