-- Things read one behind the other into a place of n: what is read stands there, and what stands there is read.
-- Assumes nothing.
use Rattle.basis.proofs.Std.{◌≡◌, refl, sym, ap, ap₂, subst, ◌∙◌, List, [], ◌∷◌, ◌++◌, map, map-append, append_assoc, append-nil, ℕ, zero, suc, ◌+◌, ◌-◌, ◌≤◌, ◌<◌, sub-zero, add-zero, arith, length, drop, set, set_at, replicate, length-append, length-map, append_snoc}
use Rattle.label.specs.Padded.{padded}
use Rattle.label.proofs.Stands.{Stands, first, second, joined}
use Rattle.table_whole.specs.Bytes.{in_turn}
use Rattle.table_whole.specs.Allowed.{Every}
use Rattle.table_whole.specs.Allowed.Every.{none, more}

-- the element behind the list, set: the list has it at its end
set_padded : {A : Type 0} (n : ℕ) (z : A) (xs : List A) (i : ℕ) (x : A) → length xs ≡ i → i < n → set (padded n z xs) i x ≡ padded n z (xs ++ (x ∷ []))
set_padded n z xs i x e h =
    let k : n - length xs ≡ suc (n - length (xs ++ (x ∷ []))) = omega (arith, length-append xs (x ∷ [])) in
    ap (λ (m : ℕ). set (xs ++ replicate m z) i x) k
    ∙ set_at xs z _ x i e
    ∙ sym (append_snoc xs x _)

-- the place after i turns, and what was kept by then
abbrev pub place_to : (ℕ → ℕ) → ℕ → ℕ → ℕ
place_to next at zero = at
place_to next at (suc i) = next (place_to next at i)

abbrev pub kept_to : {X : Type 0} → ℕ → X → (ℕ → X) → (ℕ → ℕ) → ℕ → ℕ → List X
kept_to n z value next at zero = replicate n z
kept_to n z value next at (suc i) = set (kept_to n z value next at i) i (value (place_to next at i))

pub every_snoc : {A : Type 0} {P : A → Type 0} (xs : List A) (x : A) → Every P xs → P x → Every P (xs ++ (x ∷ []))
every_snoc [] x none p = more p none
every_snoc (y ∷ xs) x (more q qs) p = more q (every_snoc xs x qs p)

pub turn_snoc : {A : Type 0} (f : A → List ℕ) (xs : List A) (x : A) → in_turn f (xs ++ (x ∷ [])) ≡ in_turn f xs ++ f x
turn_snoc f [] x = append-nil (f x)
turn_snoc f (y ∷ xs) x = ap (λ (l : List ℕ). f y ++ l) (turn_snoc f xs x) ∙ sym (append_assoc (f y) (in_turn f xs) (f x))

module _ {A X : Type 0} (keep : A → X) (z : X) (bytes : A → List ℕ) (Valid : A → Type 0) (value : ℕ → X) (next : ℕ → ℕ) (s : List ℕ) (n : ℕ) where
  -- one thing was read at a place
  pub record One (at : ℕ) : Type 0 where
    pub thing : A
    pub valid : Valid thing
    pub stands : Stands s at (bytes thing)
    pub value_is : value at ≡ keep thing
    pub next_is : next at ≡ at + length (bytes thing)
    pub within : at ≤ length s

  -- these things were read from a place on
  pub record Some (at : ℕ) (xs : List A) : Type 0 where
    pub valid : Every Valid xs
    pub stands : Stands s at (in_turn bytes xs)
    pub kept_is : kept_to n z value next at (length xs) ≡ padded n z (map keep xs)
    pub place_is : place_to next at (length xs) ≡ at + length (in_turn bytes xs)

  start : (at : ℕ) → Some at []
  start at =
      record {
        valid = none;
        stands = record { rest = drop at s; parts = refl };
        kept_is = ap (λ (m : ℕ). replicate m z) (sym (sub-zero n));
        place_is = sym (add-zero at);
      }

  -- one more behind them
  after : (at : ℕ) (xs : List A) (x : A) → length xs < n → Some at xs → Valid x → Stands s (at + length (in_turn bytes xs)) (bytes x)
      → value (place_to next at (length xs)) ≡ keep x → next (place_to next at (length xs)) ≡ place_to next at (length xs) + length (bytes x)
      → Some at (xs ++ (x ∷ []))
  after at xs x l h v st ve ne =
      let t = turn_snoc bytes xs x in
      let c : length (xs ++ (x ∷ [])) ≡ suc (length xs) = length-append xs (x ∷ []) ∙ omega arith in
      record {
        valid = every_snoc xs x h.valid v;
        stands = subst (Stands s at) (sym t) (joined s at (in_turn bytes xs) (bytes x) h.stands st);
        kept_is =
            ap (kept_to n z value next at) c
            ∙ ap₂ (λ (k : List X) (w : X). set k (length xs) w) h.kept_is ve
            ∙ set_padded n z (map keep xs) (length xs) (keep x) (length-map xs keep) l
            ∙ ap (padded n z) (sym (map-append keep xs (x ∷ [])));
        place_is =
            ap (place_to next at) c
            ∙ ne
            ∙ ap (λ (m : ℕ). m + length (bytes x)) h.place_is
            ∙ omega (arith, length-append (in_turn bytes xs) (bytes x), ap length t);
      }

  -- i things were read
  pub record Counted (at i : ℕ) : Type 0 where
    pub things : List A
    pub count : length things ≡ i
    pub some : Some at things

  module _ (read : (at : ℕ) → next at ≤ length s → One at) where
    pub turns_sound : (at i : ℕ) → i ≤ n → place_to next at i ≤ length s → Counted at i
    turns_sound at zero l h = record { things = []; count = refl; some = start at }
    turns_sound at (suc i) l h =
        let o = read (place_to next at i) h in
        let p = turns_sound at i (omega arith) o.within in
        let xs = p.things in
        let x = o.thing in
        let e : place_to next at i ≡ place_to next at (length xs) = ap (place_to next at) (sym p.count) in
        let k : length xs < n = omega (arith, p.count) in
        record {
          things = xs ++ (x ∷ []);
          count = length-append xs (x ∷ []) ∙ omega (arith, p.count);
          some =
              after at xs x k p.some o.valid
              (subst (λ (m : ℕ). Stands s m (bytes x)) (e ∙ p.some.place_is) o.stands)
              (ap value (sym e) ∙ o.value_is)
              (ap next (sym e) ∙ o.next_is ∙ ap (λ (m : ℕ). m + length (bytes x)) e);
        }

  module _ (known : (at : ℕ) (x : A) → Valid x → Stands s at (bytes x) → (value at ≡ keep x) × (next at ≡ at + length (bytes x))) where
    -- some were read, and others stand behind them
    go : (at : ℕ) (xs zs : List A) → Some at xs → length xs + length zs ≤ n → Every Valid zs
        → Stands s (at + length (in_turn bytes xs)) (in_turn bytes zs) → Some at (xs ++ zs)
    go at xs [] h l none st = subst (Some at) (sym (append-nil xs)) h
    go at xs (x ∷ zs) h l (more v vs) st =
        let b = first s _ (bytes x) (in_turn bytes zs) st in
        let k = known _ x v b in
        let e : place_to next at (length xs) ≡ at + length (in_turn bytes xs) = h.place_is in
        let h2 = after at xs x (omega arith) h v b (ap value e ∙ k.0) (ap next e ∙ k.1 ∙ ap (λ (m : ℕ). m + length (bytes x)) (sym e)) in
        let p : at + length (in_turn bytes xs) + length (bytes x) ≡ at + length (in_turn bytes (xs ++ (x ∷ []))) =
        omega (arith, length-append (in_turn bytes xs) (bytes x), ap length (turn_snoc bytes xs x)) in
        subst (Some at) (append_snoc xs x zs)
        (go at (xs ++ (x ∷ [])) zs h2 (omega (arith, length-append xs (x ∷ []))) vs
        (subst (λ (m : ℕ). Stands s m (in_turn bytes zs)) p (second s _ (bytes x) (in_turn bytes zs) st)))

    pub turns_complete : (at : ℕ) (xs : List A) → length xs ≤ n → Every Valid xs → Stands s at (in_turn bytes xs) → Some at xs
    turns_complete at xs l v st =
        go at [] xs (start at) (omega arith) v (subst (λ (m : ℕ). Stands s m (in_turn bytes xs)) (sym (add-zero at)) st)
