-- What has at most l levels has at most m, for m no less than l; and a place means one thing.
-- Assumes nothing.
use Rattle.basis.proofs.Std.{ℕ, zero, suc, ◌≤◌, ◌≡◌, List, arith}
use Rattle.json_value.specs.Grammar.{Json, Jsons, Members, Value, Elements, Pairs}
use Rattle.json_value.specs.Means.{Means}
use Rattle.json_value.proofs.Complete as Complete

mutual
  pub value : {l : ℕ} {t r : List ℕ} {j : Json} (m : ℕ) → l ≤ m → Value l t r j → Value m t r j
  value m h Value.vnull = Value.vnull
  value m h Value.vtrue = Value.vtrue
  value m h Value.vfalse = Value.vfalse
  value m h (Value.vnum n e d) = Value.vnum n e d
  value m h (Value.vstr c) = Value.vstr c
  value zero h (Value.varr₀ w) = absurd (omega arith)
  value (suc m) h (Value.varr₀ w) = Value.varr₀ w
  value zero h (Value.varr i) = absurd (omega arith)
  value (suc m) h (Value.varr i) = Value.varr (elements m (omega arith) i)
  value zero h (Value.vobj₀ w) = absurd (omega arith)
  value (suc m) h (Value.vobj₀ w) = Value.vobj₀ w
  value zero h (Value.vobj i) = absurd (omega arith)
  value (suc m) h (Value.vobj i) = Value.vobj (pairs m (omega arith) i)

  elements : {l : ℕ} {t r : List ℕ} {js : Jsons} (m : ℕ) → l ≤ m → Elements l t r js → Elements m t r js
  elements m h (Elements.elast a x b) = Elements.elast a (value m h x) b
  elements m h (Elements.enext a x b i) = Elements.enext a (value m h x) b (elements m h i)

  pub pairs : {l : ℕ} {t r : List ℕ} {ms : Members} (m : ℕ) → l ≤ m → Pairs l t r ms → Pairs m t r ms
  pairs m h (Pairs.plast a x b) = Pairs.plast a (value m h x) b
  pairs m h (Pairs.pnext a x b i) = Pairs.pnext a (value m h x) b (pairs m h i)

pub means_once : {s : List ℕ} {p : ℕ} {j k : Json} → Means s p j → Means s p k → j ≡ k
means_once a b = (Complete.once a.stands b.stands).0
