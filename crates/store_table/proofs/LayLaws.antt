-- Bytes laid out one behind the other.
-- Assumes nothing.
use Rattle.basis.proofs.Std.{◌≡◌, refl, sym, ap, ◌∙◌, List, [], ◌∷◌, ◌++◌, append_assoc, append-nil, ℕ, ◌+◌, ◌<◌, ◌≤◌, add-one, arith, length, get_or, set, take, length-set, take_all, take-suc, take-suc-set}
use borrow.Rule.Slice.PartMut.{put_mid}
use Rattle.std.proofs.lemmas.Slice.{take-put_mid}
use Rattle.table_whole.specs.declared.SiteTable.{SiteTable}
use Rattle.table_whole.specs.Bytes.{in_turn}
use Rattle.store_table.specs.Layout.{label_bytes, item_bytes, head_bytes, layout_of, table_bytes}
use Rattle.store_table.specs.Laid.{Laid}

pub one : (xs : List ℕ) (at a : ℕ) → at < length xs → Laid xs at 1 (a ∷ []) (set xs at a)
one xs at a h = record { upto = ap (λ (m : ℕ). take m (set xs at a)) (add-one at) ∙ take-suc-set xs at a h }

-- a part that was written over
pub copied : (xs bs : List ℕ) (at k n : ℕ) → n ≡ length bs → at ≤ length xs → Laid xs at n bs (put_mid at k xs bs)
copied xs bs at k n e h = record { upto = take-put_mid at k xs bs (at + n) (ap (λ (m : ℕ). at + m) e) h }

-- one behind the other
pub then : {xs ys zs bs cs : List ℕ} {at n m k : ℕ} (p : ℕ) → Laid xs at n bs ys → Laid ys m k cs zs → m ≡ at + n → p ≡ n + k → Laid xs at p (bs ++ cs) zs
then {xs} {ys} {zs} {bs} {cs} {at} {n} {m} {k} p a b e f =
    let g : at + p ≡ m + k = omega arith in
    record {
      upto =
          ap (λ (q : ℕ). take q zs) g
          ∙ b.upto
          ∙ ap (λ (l : List ℕ). l ++ cs) (ap (λ (q : ℕ). take q ys) e ∙ a.upto)
          ∙ append_assoc (take at xs) bs cs;
    }

-- the same bytes, said in another way
pub said : {xs ys bs cs : List ℕ} {at n : ℕ} → Laid xs at n bs ys → bs ≡ cs → Laid xs at n cs ys
said {xs} {at = at} a e = record { upto = a.upto ∙ ap (λ (l : List ℕ). take at xs ++ l) e }

-- one more of a list
in_turn_append : {A : Type 0} (f : A → List ℕ) (xs ys : List A) → in_turn f (xs ++ ys) ≡ in_turn f xs ++ in_turn f ys
in_turn_append f [] ys = refl
in_turn_append f (x ∷ xs) ys = ap (λ (l : List ℕ). f x ++ l) (in_turn_append f xs ys) ∙ sym (append_assoc (f x) (in_turn f xs) (in_turn f ys))

pub in_turn_next : {A : Type 0} (f : A → List ℕ) (l : List A) (k : ℕ) (d : A) → k < length l → in_turn f (take k l) ++ f (get_or l k d) ≡ in_turn f (take (k + 1) l)
in_turn_next f l k d h =
    sym (ap (λ (m : ℕ). in_turn f (take m l)) (add-one k)
    ∙ ap (in_turn f) (take-suc l k d h)
    ∙ in_turn_append f (take k l) (get_or l k d ∷ [])
    ∙ ap (λ (m : List ℕ). in_turn f (take k l) ++ m) (append-nil (f (get_or l k d))))

-- every byte
pub laid_whole : (xs ys : List ℕ) (x : SiteTable) → length ys ≡ table_bytes
    → Laid xs 0 table_bytes (head_bytes x ++ (in_turn label_bytes x.components ++ (in_turn item_bytes x.alarms ++ (in_turn item_bytes x.statuses ++ in_turn item_bytes x.commands)))) ys
    → ys ≡ layout_of x
unfolding layout_of
laid_whole xs ys x e a = sym (take_all table_bytes ys (omega arith)) ∙ a.upto

-- three bytes
pub three : (xs : List ℕ) (at a b c : ℕ) → at + 3 ≤ length xs → Laid xs at 3 (a ∷ b ∷ c ∷ []) (set (set (set xs at a) (at + 1) b) (at + 2) c)
three xs at a b c h =
    let p = length-set xs at a in
    let q = length-set (set xs at a) (at + 1) b in
    then 3
    (then 2 (one xs at a (omega arith)) (one (set xs at a) (at + 1) b (omega (arith, p))) refl refl)
    (one (set (set xs at a) (at + 1) b) (at + 2) c (omega (arith, p, q))) refl refl
