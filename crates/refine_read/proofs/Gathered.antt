-- A list that the code gathers item by item is judged as the machine judges its entries, and holds them.
-- Assumes nothing.
use Rattle.basis.proofs.Std.{ℕ, suc, ◌+◌, ◌≤◌, zero-add, add-one, arith, ◌≡◌, refl, sym, ap, ap₂, ◌∙◌, Bool, true, false, not, List, [], ◌∷◌, ◌++◌, map, append-nil, append_assoc, Option, some, none, ltb, length, take, set, length-set, take-suc-set, lt-ltb, le-ltb, ltb-true, ltb-false, pick, bool_cases}
use Rattle.json_value.specs.Grammar.{Json, Jsons}
use Rattle.json_value.specs.Grammar.Json.{null, bool, num, str, arr, obj}
use Rattle.json_value.specs.Grammar.Jsons.{jnil, jcons}
use Rattle.read_head.specs.declared.Verdict.{Verdict}
use Rattle.read_head.specs.declared.Verdict.TheVariants.{Good, Missing, Bad}
use Rattle.read_head.specs.Values.{worst}
use Rattle.read_lists.specs.Items.{Item, item_in, items_in, list_of}
use Rattle.read_lists.specs.Gather.{gather, gathered}
use Rattle.read_lists.specs.Version.{one_more}
use Rattle.machine.specs.Words.{◌or◌, maybe, is_some, or_else, any}
use Rattle.machine.specs.Json.{listed, shape}
use Rattle.refine_read.specs.Verdicts.{verdict}
use Rattle.refine_read.proofs.Words.{found_of, worst_of, worst_good}

pub worst_assoc : (u v w : Verdict) → worst (worst u v) w ≡ worst u (worst v w)
worst_assoc Good v w = refl
worst_assoc Missing v w = refl
worst_assoc Bad Missing w = refl
worst_assoc Bad Bad Missing = refl
worst_assoc Bad Bad Bad = refl
worst_assoc Bad Bad Good = refl
worst_assoc Bad Good w = refl

or_swap : (a b c : Bool) → (a or (b or c)) ≡ (b or (a or c))
or_swap true true c = refl
or_swap true false c = refl
or_swap false true c = refl
or_swap false false c = refl

or_true : (b : Bool) → (b or true) ≡ true
or_true true = refl
or_true false = refl

pub or_parts : (a b : Bool) → (a or b) ≡ false → (a ≡ false) × (b ≡ false)
or_parts true b e = absurd (let z : ◌≡◌ {A = ℕ} 0 1 = cc in omega arith)
or_parts false b e = (refl, e)

pub good_parts : (a b : Bool) → verdict a b ≡ Good → (a ≡ false) × (b ≡ false)
good_parts true b e = absurd (let z : ◌≡◌ {A = ℕ} 0 1 = cc in omega arith)
good_parts false true e = absurd (let z : ◌≡◌ {A = ℕ} 0 1 = cc in omega arith)
good_parts false false e = (refl, refl)

-- what one more entry does to a list
pub record Pushes {A B : Type 0} (said : A → Verdict) (count : A → ℕ) (list : A → List B) (one : Json → Verdict) (value : Json → B) (a b : A) (x : Json) : Type 0 where
  pub judged : said b ≡ one_more (count a) (worst (said a) (one x))
  pub counted : count b ≡ pick (ltb (count a) 16) (count a + 1) (count a)
  pub holds : list b ≡ pick (ltb (count a) 16) (set (list a) (count a) (value x)) (list a)

-- the entries of an element
abbrev pub entries_of : Option Json → List Json
entries_of o = or_else [] (maybe none (λ v. (shape v).entries) o)

-- a list has all entries, "at most 16"
pub record Holds {A B : Type 0} (a : A) (count : A → ℕ) (list : A → List B) (value : Json → B) (xs : List Json) : Type 0 where
  pub counted : count a ≡ length xs
  pub all : take (count a) (list a) ≡ map value xs
  pub most : length xs ≤ 16

module _ {A B : Type 0} (said : A → Verdict) (count : A → ℕ) (list : A → List B) (one : Json → Verdict) (value : Json → B) (push : A → Item → A)
    (pushes : (a : A) (x : Json) → Pushes said count list one value a (push a (item_in x)) x)
  where
    module _ (missing bad : Json → Bool) (judge : (x : Json) → one x ≡ verdict (missing x) (bad x)) where
      after : ℕ → Jsons → Verdict
      after n js = verdict (any missing (listed js)) (ltb 16 (n + length (listed js)) or any bad (listed js))

      room : (n : ℕ) (v : Verdict) (x : Json) (js : Jsons) → worst (worst v (one x)) (after (n + 1) js) ≡ worst v (after n (jcons x js))
      unfolding after
      room n v x js =
          let e : n + 1 + length (listed js) ≡ n + suc (length (listed js)) = omega arith in
          let l = ltb 16 (n + suc (length (listed js))) in
          worst_assoc v (one x) (verdict (any missing (listed js)) (ltb 16 (n + 1 + length (listed js)) or any bad (listed js)))
          ∙ ap (worst v)
          (rw (judge x, e) (worst_of (missing x) (bad x) (any missing (listed js)) (l or any bad (listed js)))
          ∙ ap (verdict (missing x or any missing (listed js))) (or_swap (bad x) l (any bad (listed js))))

      full : (n : ℕ) → 16 ≤ n → (v : Verdict) (x : Json) (js : Jsons) → worst (worst (worst v (one x)) Bad) (after n js) ≡ worst v (after n (jcons x js))
      unfolding after
      full n h v x js =
          let a = after n js in
          let m = any missing (listed js) in
          let b = any bad (listed js) in
          let l = ltb 16 (n + length (listed js)) in
          let e : ltb 16 (n + suc (length (listed js))) ≡ true = lt-ltb 16 (n + suc (length (listed js))) (omega arith) in
          worst_assoc (worst v (one x)) Bad a
          ∙ worst_assoc v (one x) (worst Bad a)
          ∙ ap (worst v)
          (rw (judge x, e) (ap (worst (verdict (missing x) (bad x))) (worst_of false true m (l or b))
          ∙ worst_of (missing x) (bad x) m true
          ∙ ap (verdict (missing x or m)) (or_true (bad x))))

      all_judged : (js : Jsons) (a : A) → count a ≤ 16 → said (gather push a (items_in js)) ≡ worst (said a) (after (count a) js)
      unfolding gather after
      all_judged jnil a h = sym (rw (le-ltb 16 (count a + 0) (omega arith)) (worst_good (said a)))
      all_judged (jcons x js) a h =
          let p = pushes a x in
          bool_cases (ltb (count a) 16)
          (λ t.
          let c : count (push a (item_in x)) ≡ count a + 1 = rw t at p.counted in
          let j : said (push a (item_in x)) ≡ worst (said a) (one x) = rw t at p.judged in
          let i = all_judged js (push a (item_in x)) (omega (arith, ltb-true (count a) 16 t)) in
          i ∙ ap₂ (λ (v : Verdict) (n : ℕ). worst v (after n js)) j c ∙ room (count a) (said a) x js)
          (λ f.
          let c : count (push a (item_in x)) ≡ count a = rw f at p.counted in
          let j : said (push a (item_in x)) ≡ worst (worst (said a) (one x)) Bad = rw f at p.judged in
          let i = all_judged js (push a (item_in x)) (omega arith) in
          i ∙ ap₂ (λ (v : Verdict) (n : ℕ). worst v (after n js)) j c ∙ full (count a) (ltb-false (count a) 16 f) (said a) x js)

    -- where there is room for all of them, all are there
    all_there : (js : Jsons) (a : A) → count a + length (listed js) ≤ 16 → length (list a) ≡ 16
        → (count (gather push a (items_in js)) ≡ count a + length (listed js))
        × (take (count (gather push a (items_in js))) (list (gather push a (items_in js))) ≡ take (count a) (list a) ++ map value (listed js))
    unfolding gather
    all_there jnil a h n = (omega arith, sym (append-nil (take (count a) (list a))))
    all_there (jcons x js) a h n =
        let p = pushes a x in
        let t : ltb (count a) 16 ≡ true = lt-ltb (count a) 16 (omega arith) in
        let c : count (push a (item_in x)) ≡ count a + 1 = rw t at p.counted in
        let l : list (push a (item_in x)) ≡ set (list a) (count a) (value x) = rw t at p.holds in
        let i = all_there js (push a (item_in x)) (omega arith) (ap length l ∙ length-set (list a) (count a) (value x) ∙ n) in
        let q : take (count (push a (item_in x))) (list (push a (item_in x))) ≡ take (count a) (list a) ++ (value x ∷ []) =
        ap₂ take (c ∙ add-one (count a)) l ∙ take-suc-set (list a) (count a) (value x) (omega arith)
        in
        (omega (arith, i.0, c), i.1 ∙ ap (λ (xs : List B). xs ++ map value (listed js)) q ∙ append_assoc (take (count a) (list a)) (value x ∷ []) (map value (listed js)))

    module _ (missing bad : Json → Bool) (judge : (x : Json) → one x ≡ verdict (missing x) (bad x)) (start absent wrong : A)
        (empty : count start ≡ 0) (begun : said start ≡ Good) (not_there : said absent ≡ Missing) (no_list : said wrong ≡ Bad)
      where
        pub list_judged : (o : Option Json)
            → said (gathered push start absent wrong (list_of (found_of o)))
            ≡ verdict (not (is_some o) or any missing (entries_of o)) (maybe false (λ v. maybe true (λ xs. ltb 16 (length xs) or any bad xs) (shape v).entries) o)
        unfolding after
        list_judged none = not_there
        list_judged (some null) = no_list
        list_judged (some (bool b)) = no_list
        list_judged (some (num d)) = no_list
        list_judged (some (str d)) = no_list
        list_judged (some (obj ms)) = no_list
        list_judged (some (arr js)) =
            all_judged missing bad judge js start (omega (arith, empty))
            ∙ ap₂ (λ (v : Verdict) (n : ℕ). worst v (verdict (any missing (listed js)) (ltb 16 (n + length (listed js)) or any bad (listed js)))) begun empty
            ∙ ap (λ (n : ℕ). verdict (any missing (listed js)) (ltb 16 n or any bad (listed js))) (zero-add (length (listed js)))

        module _ (value' : Json → B) (same : (x : Json) → missing x ≡ false → bad x ≡ false → value x ≡ value' x) (places : length (list start) ≡ 16) where
          values : (xs : List Json) → any missing xs ≡ false → any bad xs ≡ false → map value xs ≡ map value' xs
          values [] m b = refl
          values (x ∷ xs) m b =
              let p = or_parts (missing x) (any missing xs) m in
              let q = or_parts (bad x) (any bad xs) b in
              ap₂ (λ (y : B) (ys : List B). y ∷ ys) (same x p.0 q.0) (values xs p.1 q.1)

          pub list_holds : (o : Option Json) → said (gathered push start absent wrong (list_of (found_of o))) ≡ Good
              → Holds (gathered push start absent wrong (list_of (found_of o))) count list value' (entries_of o)
          list_holds none g = absurd (let z = sym not_there ∙ g in let y : ◌≡◌ {A = ℕ} 0 1 = cc in omega arith)
          list_holds (some null) g = absurd (let z = sym no_list ∙ g in let y : ◌≡◌ {A = ℕ} 0 1 = cc in omega arith)
          list_holds (some (bool b)) g = absurd (let z = sym no_list ∙ g in let y : ◌≡◌ {A = ℕ} 0 1 = cc in omega arith)
          list_holds (some (num d)) g = absurd (let z = sym no_list ∙ g in let y : ◌≡◌ {A = ℕ} 0 1 = cc in omega arith)
          list_holds (some (str d)) g = absurd (let z = sym no_list ∙ g in let y : ◌≡◌ {A = ℕ} 0 1 = cc in omega arith)
          list_holds (some (obj ms)) g = absurd (let z = sym no_list ∙ g in let y : ◌≡◌ {A = ℕ} 0 1 = cc in omega arith)
          list_holds (some (arr js)) g =
              let p = good_parts (any missing (listed js)) (ltb 16 (length (listed js)) or any bad (listed js)) (sym (list_judged (some (arr js))) ∙ g) in
              let q = or_parts (ltb 16 (length (listed js))) (any bad (listed js)) p.1 in
              let m : length (listed js) ≤ 16 = ltb-false 16 (length (listed js)) q.0 in
              let t = all_there js start (omega (arith, empty)) places in
              record {
                counted = omega (arith, t.0, empty);
                all = t.1 ∙ rw empty (values (listed js) p.0 q.1);
                most = m;
              }
