-- `no_twice` tells whether a value has no name twice.
-- Assumes nothing.
use Rattle.basis.proofs.Std.{ℕ, suc, ◌≡◌, refl, sym, ap, ◌∙◌, Bool, true, false, false≢true, List, arith, pick, both, same_bytes, bool_cases, same_true, same_self, both_true}
use Rattle.json_value.specs.Grammar.{Json, Jsons, Members}
use Rattle.json_value.specs.Grammar.Json.{null, bool, num, str, arr, obj}
use Rattle.json_value.specs.Grammar.Jsons.{jnil, jcons}
use Rattle.json_value.specs.Grammar.Members.{mnil, mcons}
use Rattle.json_packet.specs.Names.{called, no_twice, all_once, once}
use Rattle.json_packet.specs.Once.{Element, Member, In, Distinct, NoNameTwice}
use Rattle.json_packet.specs.Once.Element.{first_element, next_element}
use Rattle.json_packet.specs.Once.Member.{first_member, next_member}
use Rattle.json_packet.specs.Once.In.{itself, in_array, in_object}

-- a member's name is called
named : {i : ℕ} {name : List ℕ} {j : Json} {ms : Members} → Member i name j ms → called name ms ≡ true
named (first_member {name = name}) = rw (same_self name)
named (next_member {name = name} {other = other} {ms = ms} m) =
    bool_cases (same_bytes other name) (λ e. rw e) (λ e. rw e (named m))

-- what `once` says of the first member and of the rest
record Begins (d : List ℕ) (j : Json) (ms : Members) : Type 0 where
  new : called d ms ≡ false
  value : no_twice j ≡ true
  rest : once ms ≡ true

begins : (d : List ℕ) (j : Json) (ms : Members) → once (mcons d j ms) ≡ true → Begins d j ms
unfolding once
begins d j ms e = by (called d ms) refl e
  where
    by : (q : Bool) → called d ms ≡ q → pick q false (both (no_twice j) (once ms)) ≡ true → Begins d j ms
    by true f g = absurd (false≢true g)
    by false f g = let p = both_true (no_twice j) (once ms) g in record { new = f; value = p.0; rest = p.1 }

distinct : {i k : ℕ} {name other : List ℕ} {x y : Json} {ms : Members} → once ms ≡ true → name ≡ other → Member i name x ms → Member k other y ms → i ≡ k
distinct e q first_member first_member = refl
distinct e q (first_member {name = name} {j = j} {ms = ms}) (next_member n) =
    absurd (false≢true (sym (begins name j ms e).new ∙ ap (λ (c : List ℕ). called c ms) q ∙ named n))
distinct e q (next_member m) (first_member {name = name} {j = j} {ms = ms}) =
    absurd (false≢true (sym (begins name j ms e).new ∙ ap (λ (c : List ℕ). called c ms) (sym q) ∙ named m))
distinct e q (next_member {other = other} {k = k} {ms = ms} m) (next_member n) = ap suc (distinct (begins other k ms e).rest q m n)

element_of : {i : ℕ} {j : Json} {js : Jsons} → all_once js ≡ true → Element i j js → no_twice j ≡ true
unfolding all_once
element_of e (first_element {j = j} {js = js}) = (both_true (no_twice j) (all_once js) e).0
element_of e (next_element {k = k} {js = js} m) = element_of (both_true (no_twice k) (all_once js) e).1 m

member_of : {i : ℕ} {name : List ℕ} {j : Json} {ms : Members} → once ms ≡ true → Member i name j ms → no_twice j ≡ true
member_of e (first_member {name = name} {j = j} {ms = ms}) = (begins name j ms e).value
member_of e (next_member {other = other} {k = k} {ms = ms} m) = member_of (begins other k ms e).rest m

inside : {x j : Json} → no_twice j ≡ true → In x j → no_twice x ≡ true
unfolding no_twice
inside e itself = e
inside e (in_array m i) = inside (element_of e m) i
inside e (in_object m i) = inside (member_of e m) i

object_once : (ms : Members) → no_twice (obj ms) ≡ true → once ms ≡ true
unfolding no_twice
object_once ms e = e

pub sound : (j : Json) → no_twice j ≡ true → NoNameTwice j
sound j e = record { objects = λ {ms} i. record { one = λ m n. distinct (object_once ms (inside e i)) refl m n } }

-- no member's name is called
uncalled : (name : List ℕ) (ms : Members) → ((i : ℕ) (j : Json) → Member i name j ms → ⊥) → called name ms ≡ false
uncalled name mnil h = refl
uncalled name (mcons d j ms) h =
    bool_cases (same_bytes d name)
    (λ e. absurd (h 0 j (rw (same_true d name e) first_member)))
    (λ e. rw e (uncalled name ms (λ i k m. h (suc i) k (next_member m))))

mutual
  unfolding no_twice all_once once

  pub complete : (j : Json) → NoNameTwice j → no_twice j ≡ true
  complete null h = refl
  complete (bool b) h = refl
  complete (num d) h = refl
  complete (str d) h = refl
  complete (arr js) h = each js (λ i j m. record { objects = λ o. h.objects (in_array m o) })
  complete (obj ms) h = apart ms (h.objects itself) (λ i name j m. record { objects = λ o. h.objects (in_object m o) })

  each : (js : Jsons) → ((i : ℕ) (j : Json) → Element i j js → NoNameTwice j) → all_once js ≡ true
  each jnil h = refl
  each (jcons j js) h = rw (complete j (h 0 j first_element)) (each js (λ i k m. h (suc i) k (next_element m)))

  apart : (ms : Members) → Distinct ms → ((i : ℕ) (name : List ℕ) (j : Json) → Member i name j ms → NoNameTwice j) → once ms ≡ true
  apart mnil p h = refl
  apart (mcons d j ms) p h =
      rw (uncalled d ms (λ i x m. let e = p.one first_member (next_member m) in omega arith), complete j (h 0 d j first_member))
      (apart ms (record { one = λ m n. let e = p.one (next_member m) (next_member n) in omega arith }) (λ i name x m. h (suc i) name x (next_member m)))
