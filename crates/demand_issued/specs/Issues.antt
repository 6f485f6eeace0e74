-- Demand 2: "Each call issues .. what that document lays down and nothing else".
-- Assumes nothing.
use Rattle.std.specs.Prelude.{ℕ, ◌≡◌, Bool, true, false, not, List, [], ◌∷◌, ◌++◌, map, eqb, ℤ, pos, negsuc, length}
use Rattle.std.proofs.Math.Option.{Option, some, none}
use Rattle.json_value.specs.Grammar.{Json}
use Rattle.machine.specs.Words.{if'◌then◌else◌, ◌and◌, ◌or◌, maybe, flat, up_to}
use Rattle.machine.specs.State.{Event, Setup, Issued, issued_for, Start, Machine, life_at, Call}
use Rattle.machine.specs.State.Event.{Issue, Acknowledge, Suspend}
use Rattle.machine.specs.State.Content.{of_alarm, of_status, of_aggregated}
use Rattle.machine.specs.Json.{entries_of, is_type}
use Rattle.machine.specs.Life.{is_up}
use Rattle.machine.specs.Step.{step}
use Rattle.machine.specs.Run.{Past, past, Run}
use Rattle.demand_held.specs.Held.{IsDone, issued_by}
use Rattle.demand_issued.specs.History.{did, alarm_named, status_named, was_suspended, event_of, alarm_after, last_aggregated, is_other, value_to, last_value, Standing, is_over, standing}

abbrev pub equal : ℤ → ℤ → Bool
equal (pos a) (pos b) = eqb a b
equal (pos a) (negsuc b) = false
equal (negsuc a) (pos b) = false
equal (negsuc a) (negsuc b) = eqb a b

abbrev pub is_issue : Event → Bool
is_issue Issue = true
is_issue Acknowledge = false
is_issue Suspend = false

-- of a call p after those of h, since a start at a time; `up` are the links that are Up after it
module _ (u : Setup) (start : ℕ) (up : ℕ → Bool) (p : Past) (h : List Past) where
  -- the alarm that p is an input of or an acknowledged order to
  abbrev pub alarm_meant : Option ℕ
  alarm_meant = maybe (maybe none (λ x. if' is_type "Alarm" x.1 then alarm_named u.table x.1 else none) (did p).took) (λ x. some x.0) (did p).input

  -- "Alarm records are issued for the primary alone": an event makes one, with the states after it, but "Issue events while suspended make no record"
  abbrev pub alarm_record : ℕ → Event → List Issued
  alarm_record i e =
      if' is_issue e and was_suspended u.table i h then []
      else maybe [] (λ l. issued_for l (of_alarm i (alarm_after u.table i start (p ∷ h))) ∷ []) u.primary

  abbrev pub alarm_issues : List Issued
  alarm_issues = maybe [] (λ i. maybe [] (alarm_record i) (event_of u.table i p h)) alarm_meant

  -- the status' last value, old where the link is not Up
  abbrev pub status_record : ℕ → ℕ → Issued
  status_record l i = issued_for l (of_status i (last_value i (p ∷ h)) (not (up l)) p.call.time)

  -- "A subscription issues a record at once": the entries in order
  abbrev pub subscribes : ℕ × Json → List Issued
  subscribes x =
      if' is_type "StatusSubscribe" x.1 then flat (λ e. maybe [] (λ i. status_record x.0 i ∷ []) (status_named u.table x.1 e)) (entries_of "sS" x.1) else []

  -- "with sOc at a first or changed value, with uRt above 0 at a tick": links upwards, statuses upwards
  abbrev pub is_news : ℕ → Bool
  is_news i = maybe false (λ v. maybe true (λ w. not (equal v w)) (last_value i h)) (value_to i p)

  abbrev pub asks : ℕ → ℕ → Bool
  asks l i = maybe false (λ s. ((did p).ticked and is_over p.call.time s) or (is_news i and s.on_change)) (standing u.table l i h)

  abbrev pub updates : List Issued
  updates = flat (λ l. flat (λ i. if' asks l i then status_record l i ∷ [] else []) (up_to (length u.table.statuses))) (up_to u.links)

  -- "a changed one issues a record for every link"
  abbrev pub aggregated_issues : List Issued
  aggregated_issues = if' is_other p h then map (λ l. issued_for l (of_aggregated (last_aggregated (p ∷ h)) p.call.time)) (up_to u.links) else []

  abbrev pub issued : List Issued
  issued = alarm_issues ++ (maybe [] subscribes (did p).took ++ (updates ++ aggregated_issues))

-- a done call issues exactly these, in this order
pub record DemandIssues : Type 0 where
  pub issues : (s : Start) (h : List Past) (m : Machine) → Run s h m → (c : Call) → IsDone m c
      → issued_by m c ≡ issued m.setup s.time (λ l. is_up (life_at (step m c).1 l)) (past m c) h
