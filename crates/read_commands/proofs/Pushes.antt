-- A command pushed behind those that were read, as the loop over a list does it: in its place, or refused where there is none.
-- Assumes nothing.
use Rattle.basis.proofs.Std.{ℕ, ◌+◌, ◌<◌, ◌≤◌, ◌≡◌, List, set, lt-ltb, le-ltb}
use Rattle.read_head.specs.declared.Verdict.{Verdict}
use Rattle.read_head.specs.declared.Verdict.TheVariants.{Bad}
use Rattle.read_head.specs.Values.{worst}
use Rattle.read_commands.specs.declared.CommandEntry.{CommandEntry}
use Rattle.read_commands.specs.declared.CommandList.{CommandList}
use Rattle.read_commands.specs.declared.GotCommand.{GotCommand}
use Rattle.read_commands.specs.Command.{push_command}

module _ (v : Verdict) (n : ℕ) (es : List CommandEntry) (g : GotCommand) where
  pub command_taken_lem : n < 16 → {w : Verdict} {m : ℕ} {fs : List CommandEntry} → w ≡ worst v g.verdict → m ≡ n + 1 → fs ≡ set es n g.entry → ◌≡◌ {A = CommandList} (record { verdict = w; count = m; entries = fs }) (push_command (record { verdict = v; count = n; entries = es }) g)
  unfolding push_command
  command_taken_lem h a b c = rw (lt-ltb n 16 h) (λ i. record { verdict = a i; count = b i; entries = c i })

  pub command_left : 16 ≤ n → {w : Verdict} {m : ℕ} {fs : List CommandEntry} → w ≡ worst (worst v g.verdict) Bad → m ≡ n → fs ≡ es → ◌≡◌ {A = CommandList} (record { verdict = w; count = m; entries = fs }) (push_command (record { verdict = v; count = n; entries = es }) g)
  unfolding push_command
  command_left h a b c = rw (le-ltb n 16 h) (λ i. record { verdict = a i; count = b i; entries = c i })
