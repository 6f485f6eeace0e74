-- A list walked from entry to entry.
-- Assumes nothing.
use Rattle.basis.proofs.Std.{◌≡◌, refl, sym, ap, ◌∙◌, Bool, true, false, List, [], ◌∷◌, ℕ, ◌≤◌, ◌<◌, eqb, length, drop, length-drop, get_or, arith}
use Rattle.json_text.specs.declared.Read.{Read}
use Rattle.json_text.specs.declared.Read.TheVariants.{End, Bad}
use Rattle.json_text.specs.Decoded.{Parsed}
use Rattle.json_text.specs.Decoded.Parsed.{ok, none}
use Rattle.json_text.specs.Ends.{Ends}
use Rattle.json_text.specs.Ends.Ends.{ends, fails}
use Rattle.json_value.specs.Reader.{skip_ws, unnamed, read_start}
use Rattle.json_value.specs.Answers.{Skipped}
use Rattle.json_character.proofs.Lists.{next, past}
use Rattle.json_text.proofs.Endings.{failed as ends_bad}
use Rattle.json_value.proofs.Places.{ended}
use Rattle.json_find.specs.Entries.{next_entry, entries, inside_at, entries_at, member_at}
use Rattle.json_find.proofs.Walks as Walks
use Rattle.read_lists.specs.Items.{Item, absent, begins, flag_behind, flag_found, flag_at, item_at, items_at, list_here, list_at}
use Rattle.read_lists.specs.Gather.{gather, gathered}

module _ (s : List ℕ) (i : ℕ) (first : ℕ) where
  pub begins_past : length s ≤ i → false ≡ begins first (drop i s)
  unfolding begins
  begins_past h = sym (rw (past s i h))

  pub begins_here : i < length s → eqb (get_or s i 0) first ≡ begins first (drop i s)
  unfolding begins
  begins_here h = sym (rw (next s i h))

module _ {A : Type 0} (push : A → Item → A) (s : List ℕ) where
  -- no entry
  pub none_in : (a : A) (i : ℕ) → Ends s i (inside_at 0x5b 0x5d (drop i s)) Bad → a ≡ gather push a (items_at (entries_at 0x5b 0x5d (drop i s)))
  unfolding entries_at gather
  none_in a i x = sym (rw (ends_bad x))

  -- the entries from the first on
  pub some_in : (a : A) (i e : ℕ) → Ends s i (inside_at 0x5b 0x5d (drop i s)) (End e) → gather push a (items_at (entries 0x5d (drop e s))) ≡ gather push a (items_at (entries_at 0x5b 0x5d (drop i s)))
  unfolding entries_at
  some_in a i e x = sym (rw (ended x).reads)

  -- one entry, and those after it
  module _ (a : A) (i : ℕ) {b : A} (p : b ≡ push a (item_at (skip_ws (drop i s)))) where
    pub last_item : Ends s i (next_entry 0x5d (drop i s)) Bad → b ≡ gather push a (items_at (entries 0x5d (drop i s)))
    unfolding gather
    last_item x = p ∙ sym (rw (Walks.ends_here s i 0x5d x))

    pub more_items : (e : ℕ) → Ends s i (next_entry 0x5d (drop i s)) (End e) → gather push b (items_at (entries 0x5d (drop e s))) ≡ gather push a (items_at (entries 0x5d (drop i s)))
    unfolding gather
    more_items e x = rw p (sym (rw (Walks.goes_on_lem s i 0x5d e x)))

  module _ (a : A) (i k : ℕ) (w : Skipped s i k) {b : A} (p : b ≡ push a (item_at (drop k s))) where
    skipped : b ≡ push a (item_at (skip_ws (drop i s)))
    skipped = p ∙ ap (λ (t : List ℕ). push a (item_at t)) (sym w.rest)

    pub last_one : Ends s i (next_entry 0x5d (drop i s)) Bad → b ≡ gather push a (items_at (entries 0x5d (drop i s)))
    last_one x = last_item a i skipped x

    pub and_more : (e : ℕ) → Ends s i (next_entry 0x5d (drop i s)) (End e) → gather push b (items_at (entries 0x5d (drop e s))) ≡ gather push a (items_at (entries 0x5d (drop i s)))
    and_more e x = more_items a i skipped e x

-- an item that begins with a byte is a value that begins there
begun : (first : ℕ) (t : List ℕ) → begins first t ≡ true → (unnamed t ≡ ok [] t) × (0 < length t)
unfolding begins
begun first [] h = let z : ◌≡◌ {A = ℕ} 0 1 = cc in absurd (omega arith)
begun first (b ∷ t) h = (refl, omega arith)

pub begun_start : (s : List ℕ) (i k first : ℕ) → Skipped s i k → begins first (drop k s) ≡ true → Ends s i (read_start 0x5d (drop i s)) (End k)
unfolding read_start
begun_start s i k first w h =
    let b = begun first (drop k s) h in
    rw (w.rest, b.0) (ends k w.from (omega (arith, b.1, length-drop k s)))

-- an element that is looked up in a text that stands behind place i
module _ (s t : List ℕ) (i : ℕ) (name : List ℕ) where
  pub list_missing : Ends s i (member_at name t) Bad → list_at t name ≡ absent
  unfolding list_at
  list_missing x = rw (ends_bad x)

  pub list_there : (v : ℕ) → Ends s i (member_at name t) (End v) → list_at t name ≡ list_here (drop v s)
  unfolding list_at
  list_there v x = rw (ended x).reads

flag_behind_lem : {s : List ℕ} {i : ℕ} {p : Parsed (List ℕ)} {r : Read} → Ends s i p r → flag_found s r ≡ flag_behind p
unfolding flag_found
flag_behind_lem (ends e a b) = refl
flag_behind_lem fails = refl

pub found_flag : (s t : List ℕ) (i : ℕ) (name : List ℕ) (r : Read) → Ends s i (member_at name t) r → flag_found s r ≡ flag_at t name
unfolding flag_at
found_flag s t i name r x = flag_behind_lem x

-- a list that is there, or is none
module _ {A : Type 0} (push : A → Item → A) (start none bad : A) (t : List ℕ) {b : Bool} (e : b ≡ begins 0x5b t) where
  pub a_list : b ≡ true → gather push start (items_at (entries_at 0x5b 0x5d t)) ≡ gathered push start none bad (list_here t)
  unfolding list_here
  a_list h = sym (rw (sym e ∙ h))

  pub no_list : b ≡ false → bad ≡ gathered push start none bad (list_here t)
  unfolding list_here
  no_list h = sym (rw (sym e ∙ h))
