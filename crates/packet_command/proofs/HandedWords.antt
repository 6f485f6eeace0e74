-- The words of commands, put one by one into those that are lent.
-- Assumes nothing.
use Rattle.basis.proofs.Std.{ℕ, zero, suc, ◌+◌, ◌<◌, ◌≡◌, refl, sym, ap, ap₂, ◌∙◌, List, [], ◌∷◌, ◌++◌, map, map-append, add-one, arith, length, set, drop, length-append, length-map}
use Rattle.table_whole.specs.declared.SiteTable.{SiteTable}
use Rattle.read_commands.specs.declared.CommandEntry.{CommandEntry}
use Rattle.read_commands.specs.declared.CommandFields.{CommandFields}
use Rattle.read_commands.specs.Command.{command_at}
use Rattle.packet_lookup.specs.declared.Sought.{Sought}
use Rattle.packet_lookup.specs.declared.Sought.TheVariants.{Is, Nothing}
use Rattle.packet_lookup.specs.Sought.{component_sought}
use Rattle.packet_command.specs.Commanding.{entry_at, command_of, commands_to, commands_of}
use Rattle.packet_command.specs.Handing.{command_word, handed_over, commands_in}

-- a word behind those of a list, the rest as it was
put_next : (xs ws : List ℕ) (w : ℕ) → length xs < length ws → set (xs ++ drop (length xs) ws) (length xs) w ≡ xs ++ (w ∷ []) ++ drop (suc (length xs)) ws
put_next [] [] w h = absurd (omega (arith, h))
put_next [] (y ∷ ws) w h = refl
put_next (x ∷ xs) [] w h = absurd (omega (arith, h))
put_next (x ∷ xs) (y ∷ ws) w h = ap (λ (zs : List ℕ). x ∷ zs) (put_next xs ws w (omega (arith, h)))

module _ (t : SiteTable) (component : ℕ) (entries : List CommandEntry) where
  pub commands_length : (n : ℕ) → length (commands_to t component entries n) ≡ n
  commands_length zero = refl
  commands_length (suc n) =
      omega (arith, length-append (commands_to t component entries n) (command_of t component (entry_at entries n) ∷ []), commands_length n)

  pub one_more_handed : (i : ℕ) (ws : List ℕ) {e : CommandEntry} {vs : List ℕ} {w : ℕ}
      → i < length ws
      → vs ≡ handed_over (commands_to t component entries i) ws
      → e ≡ entry_at entries i
      → w ≡ command_word (command_of t component e)
      → set vs i w ≡ handed_over (commands_to t component entries (i + 1)) ws
  one_more_handed i ws h f g k =
      let cs = commands_to t component entries i in
      let c = command_of t component (entry_at entries i) in
      let n : length (map command_word cs) ≡ i = length-map cs command_word ∙ commands_length i in
      let s = put_next (map command_word cs) ws (command_word c) (omega (arith, h, n)) in
      let m : length (cs ++ (c ∷ [])) ≡ suc i = omega (arith, length-append cs (c ∷ []), commands_length i) in
      let q : suc (length (map command_word cs)) ≡ length (cs ++ (c ∷ [])) = omega (arith, n, m) in
      rw add-one
      (ap₂ (λ (v : List ℕ) (x : ℕ). set v i x) f (k ∙ ap (λ (y : CommandEntry). command_word (command_of t component y)) g)
      ∙ ap₂ (λ (a b : ℕ). set (map command_word cs ++ drop a ws) b (command_word c)) (sym (length-map cs command_word)) (sym n)
      ∙ s
      ∙ ap₂ (λ (a : List ℕ) (b : ℕ). a ++ drop b ws) (sym (map-append command_word cs (c ∷ []))) q)

-- how many are handed over
pub how_many : (t : SiteTable) (component : ℕ) (f : CommandFields) {k : Sought} → k ≡ Is component → f.count ≡ length (commands_of t f k)
how_many t component f h =
    sym (commands_length t component f.entries f.count) ∙ ap (λ (x : Sought). length (commands_of t f x)) (sym h)

-- of a packet, by its component
module _ (t : SiteTable) (p : List ℕ) {f : CommandFields} {k : Sought} (e : f ≡ command_at p) (h : k ≡ component_sought t f.component) where
  of_packet : (cs : List ℕ) → handed_over (commands_of t f k) cs ≡ handed_over (commands_in t p) cs
  unfolding commands_in
  of_packet cs =
      ap (λ (x : Sought). handed_over (commands_of t f x) cs) h
      ∙ ap (λ (g : CommandFields). handed_over (commands_of t g (component_sought t g.component)) cs) e

  pub known_handed : (component : ℕ) (cs : List ℕ) {ds : List ℕ}
      → k ≡ Is component
      → ds ≡ handed_over (commands_to t component f.entries f.count) cs
      → ds ≡ handed_over (commands_in t p) cs
  known_handed component cs g w = w ∙ ap (λ (x : Sought). handed_over (commands_of t f x) cs) (sym g) ∙ of_packet cs

  pub unknown_handed : (cs : List ℕ) → k ≡ Nothing → cs ≡ handed_over (commands_in t p) cs
  unknown_handed cs g = ap (λ (x : Sought). handed_over (commands_of t f x) cs) (sym g) ∙ of_packet cs
