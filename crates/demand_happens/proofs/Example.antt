-- The example's start is accepted, and calls go on from it.
-- Assumes nothing.
use Rattle.basis.proofs.Std.{ℕ, zero, suc, ◌<◌, ◌≡◌, refl, ap, List, [], ◌∷◌, lit≤, get_or, arith}
use Rattle.table_whole.specs.Allowed.{Allowed}
use Rattle.table_whole.specs.Allowed.Every.{none, more}
use Rattle.table_whole.specs.Allowed.EditionOf.{second}
use Rattle.machine.specs.Words.{Bytes}
use Rattle.machine.specs.Table.Begins.{begins}
use Rattle.machine.specs.State.{Start, Machine, Call}
use Rattle.machine.specs.Step.{step, leaves}
use Rattle.machine.specs.Run.{Past, past, Run}
use Rattle.machine.specs.Run.Run.{begun, next}
use Rattle.machine.specs.Example.{table, started}
use Rattle.demand_happens.specs.Example.{start, pasts, second_start, second_started}

-- of one place there are no two
one_place : (i j : ℕ) → i < 1 → j < 1 → i ≡ j
one_place i j p q = omega (arith, p, q)

two_ids : (i j : ℕ) → i < 2 → j < 2 → get_or table.components i [] ≡ get_or table.components j [] → i ≡ j
two_ids zero zero p q e = refl
two_ids zero (suc zero) p q e = absurd (let z : ◌≡◌ {A = ℕ} 48 49 = ap (λ (s : Bytes). get_or s 1 0) e in omega arith)
two_ids zero (suc (suc j)) p q e = absurd (omega arith)
two_ids (suc zero) zero p q e = absurd (let z : ◌≡◌ {A = ℕ} 49 48 = ap (λ (s : Bytes). get_or s 1 0) e in omega arith)
two_ids (suc zero) (suc zero) p q e = refl
two_ids (suc zero) (suc (suc j)) p q e = absurd (omega arith)
two_ids (suc (suc i)) j p q e = absurd (omega arith)

pub allowed : Allowed 2 table
allowed =
    record {
      edition_of = second;
      fewest_components = lit≤ tt;
      most_components = lit≤ tt;
      most_alarms = lit≤ tt;
      most_statuses = lit≤ tt;
      most_commands = lit≤ tt;
      site = refl;
      sxl = refl;
      components = more refl (more refl none);
      alarms = more (record { component = lit≤ tt; lowest = lit≤ tt; highest = lit≤ tt; category = lit≤ tt; code = refl; name = refl; no_range = record { lowest = refl; highest = refl } }) none;
      statuses = more (record { component = lit≤ tt; priority = refl; category = refl; code = refl; name = refl; no_range = record { lowest = refl; highest = refl } }) none;
      commands =
          more (record { component = lit≤ tt; priority = refl; category = refl; code = refl; name = refl; lowest = lit≤ tt; highest = lit≤ tt; range = refl }) none;
      no_component_twice = two_ids;
      no_alarm_twice = λ i j p q same. one_place i j p q;
      no_status_twice = λ i j p q same. one_place i j p q;
      no_command_twice = λ i j p q same. one_place i j p q;
    }

pub begun_example : Run start [] (started 2)
begun_example = begun (begins {edition = 2} {t = table} allowed refl refl)

pub begun_second : Run second_start [] second_started
begun_second = begun (begins {edition = 2} {t = table} allowed refl refl)

pub goes_on_lem : {s : Start} {m : Machine} {h : List Past} → Run s h m → (cs : List Call) → Run s (pasts h m cs) (leaves m cs)
goes_on_lem r [] = r
goes_on_lem {m = m} {h = h} r (c ∷ cs) = goes_on_lem {m = (step m c).1} {h = past m c ∷ h} (next c r) cs
