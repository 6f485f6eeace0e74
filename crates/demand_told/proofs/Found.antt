-- Numbers that a packet asks for and that no reason refuses are numbers of the table.
-- Assumes nothing.
use Rattle.basis.proofs.Std.{ℕ, suc, ◌+◌, ◌<◌, ◌≡◌, refl, Bool, true, false, not, List, [], ◌∷◌, Option, some, none, length, arith, pick, both, not_both}
use Rattle.basis.specs.Lists.Among.{first, later}
use Rattle.json_value.specs.Grammar.{Json}
use Rattle.machine.specs.Words.{maybe, is_some, or_else, any, place_from}
use Rattle.machine.specs.State.{Machine}
use Rattle.machine.specs.Json.{string_of, entries_of, is_type, asks_for}
use Rattle.machine.specs.Table.{alarm_number, status_number}
use Rattle.machine.specs.Answers.{component_asked, alarm_asked, status_asked, unknown_status, reasons, reason_of}
use Rattle.machine.specs.Items.{number_asked}
use Rattle.demand_held.proofs.Lists.{Each}
use Rattle.demand_held.proofs.Lists.Each.{no_more, one_more}
use Rattle.demand_told.proofs.Replies.{none_at}
use Rattle.demand_told.proofs.Tests.{must, neither}

place_below : {A : Type 0} (k : ℕ) (f : A → Bool) (xs : List A) (i : ℕ) → place_from k f xs ≡ some i → i < k + length xs
place_below k f [] i e = absurd (let z : ◌≡◌ {A = ℕ} 0 1 = cc in omega arith)
place_below k f (x ∷ xs) i e = go (f x) e (place_below (suc k) f xs i)
  where
    go : (b : Bool) → pick b (some k) (place_from (suc k) f xs) ≡ some i → (place_from (suc k) f xs ≡ some i → i < suc k + length xs) → i < k + suc (length xs)
    go true g r = let same : k ≡ i = cc in omega arith
    go false g r = omega (arith, r g)

-- what is found by a component and a place in a list
found_below : (n : ℕ → Option ℕ) (bound : ℕ) → ((c i : ℕ) → n c ≡ some i → i < bound) → (o : Option ℕ) → is_some (maybe none n o) ≡ true → or_else 0 (maybe none n o) < bound
found_below n bound h none e = not_both e refl
found_below n bound h (some c) e = go (n c) refl e
  where
    go : (o : Option ℕ) → n c ≡ o → is_some o ≡ true → or_else 0 o < bound
    go none f g = not_both g refl
    go (some i) f g = h c i f

pub alarm_there : (m : Machine) (j : Json) → is_some (alarm_asked m j) ≡ true → or_else 0 (alarm_asked m j) < length m.setup.table.alarms
alarm_there m j e =
    found_below (λ c. alarm_number m.setup.table c (string_of "aCId" j)) (length m.setup.table.alarms)
    (λ c i f. omega (arith, place_below 0 _ m.setup.table.alarms i f)) (component_asked m j) e

pub status_there : (m : Machine) (j e : Json) → is_some (status_asked m j e) ≡ true → number_asked m j e < length m.setup.table.statuses
status_there m j e f =
    found_below (λ c. status_number m.setup.table c (string_of "sCI" e) (string_of "n" e)) (length m.setup.table.statuses)
    (λ c i g. omega (arith, place_below 0 _ m.setup.table.statuses i g)) (component_asked m j) f

pub none_of_any : {A : Type 0} (f : A → Bool) (xs : List A) → any f xs ≡ false → Each (λ (x : A). f x ≡ false) xs
none_of_any f [] e = no_more
none_of_any f (x ∷ xs) e = let n : (f x ≡ false) × (any f xs ≡ false) = neither (f x) (any f xs) e in one_more n.0 (none_of_any f xs n.1)

module _ (m : Machine) (l : ℕ) (j : Json) (unrefused : reason_of m l j ≡ none) where
  pub alarm_known : is_type "Alarm" j ≡ true → is_some (alarm_asked m j) ≡ true
  unfolding reasons
  alarm_known is =
      must (is_type "Alarm" j) (is_some (alarm_asked m j)) is
      (none_at (reasons m l j) unrefused (later (later (later (later (later (later (later (later (later (later (later first))))))))))))

  status_refusal : unknown_status m j ≡ false
  unfolding reasons
  status_refusal = none_at (reasons m l j) unrefused (later (later (later (later (later (later (later (later (later (later (later (later first))))))))))))

  pub statuses_known : is_type "StatusSubscribe" j ≡ true → Each (λ (e : Json). not (is_some (status_asked m j e)) ≡ false) (entries_of "sS" j)
  statuses_known is =
      none_of_any (λ e. not (is_some (status_asked m j e))) (entries_of "sS" j)
      (go (is_some (component_asked m j)) (asks_for "StatusRequest" j) (is_type "StatusSubscribe" j) (is_type "StatusUnsubscribe" j) _ is status_refusal)
    where
      go : (a b c d x : Bool) → c ≡ true → pick a (both (pick b true (pick c true d)) x) (pick c true d) ≡ false → x ≡ false
      go true true c d x e f = f
      go true false true d x e f = f
      go true false false d x e f = not_both e refl
      go false b true d x e f = not_both refl f
      go false b false d x e f = not_both e refl
