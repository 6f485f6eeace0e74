-- A list of commands that is good was gathered whole, and none has more than sixteen.
-- Assumes nothing.
use Rattle.basis.proofs.Std.{◌≡◌, refl, List, [], ◌∷◌, ℕ, ◌≤◌, arith, ltb, ltb-true, text, bool_cases}
use Rattle.json_value.specs.Grammar.{Json}
use Rattle.json_value.specs.Reader.{skip_ws}
use Rattle.json_find.specs.Lookup.{member}
use Rattle.read_head.specs.declared.Verdict.TheVariants.{Good, Missing, Bad}
use Rattle.read_head.specs.Word.{word_in}
use Rattle.read_head.specs.Values.{worst, got_label}
use Rattle.read_lists.specs.Items.{Item, Items, absent, other, items, list_of, list_in, list_at}
use Rattle.read_lists.specs.Gather.{gather}
use Rattle.read_lists.specs.Claims.{Counted}
use Rattle.read_lists.proofs.Worst.{not_missing, not_bad, both_good}
use Rattle.read_lists.proofs.Counts.{Pushed, counted}
use Rattle.read_commands.specs.declared.GotCommand.{GotCommand}
use Rattle.read_commands.specs.declared.CommandList.{CommandList}
use Rattle.read_commands.specs.Command.{command_of_item, no_commands, push_command, commands_of, command_in, command_at}

command_pushed : (l : CommandList) (g : GotCommand) → (push_command l g).verdict ≡ Good → Pushed l.verdict l.count (push_command l g).count
unfolding push_command
command_pushed l g e =
    bool_cases (ltb l.count 16)
    (λ t. record { good = (both_good l.verdict g.verdict (rw t at e)).0; room = ltb-true l.count 16 t; more = rw t refl })
    (λ f. absurd (not_bad (both_good (worst l.verdict g.verdict) Bad (rw f at e)).1))

pub commands : (j : Json) → (command_in j).verdict ≡ Good → Counted (member (text "arg") j) (command_in j).count
unfolding command_in list_in
commands j g =
    counted (λ (l : CommandList). l.verdict) (λ (l : CommandList). l.count) (λ l x. push_command l (command_of_item x))
    (λ l x. command_pushed l (command_of_item x))
    (no_commands Good) (no_commands Missing) (no_commands Bad) refl not_missing not_bad (member (text "arg") j)
    (both_good (got_label (word_in j (text "cId"))).verdict (commands_of (list_of (member (text "arg") j))).verdict g).1

one_more : (l : CommandList) (g : GotCommand) → l.count ≤ 16 → (push_command l g).count ≤ 16
unfolding push_command
one_more l g h = bool_cases (ltb l.count 16) (λ t. let k = ltb-true l.count 16 t in rw t (omega (arith, k))) (λ f. rw f h)

gathered_most : (l : CommandList) (xs : List Item) → l.count ≤ 16 → (gather (λ m x. push_command m (command_of_item x)) l xs).count ≤ 16
unfolding gather
gathered_most l [] h = h
gathered_most l (x ∷ xs) h = gathered_most (push_command l (command_of_item x)) xs (one_more l (command_of_item x) h)

listed_most : (i : Items) → (commands_of i).count ≤ 16
listed_most absent = omega arith
listed_most other = omega arith
listed_most (items xs) = gathered_most (no_commands Good) xs (omega arith)

pub most : (s : List ℕ) → (command_at s).count ≤ 16
unfolding command_at
most s = listed_most (list_at (skip_ws s) (text "arg"))
