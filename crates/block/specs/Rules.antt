-- Document 01, "One call": one pass, by the rule of the record's step.
use Rattle.std.specs.Prelude.{ℕ, cond, eqb}
use Rattle.block.specs.Record.{Dormant, Executing, Aborting, Resetting}
use Rattle.block.specs.Pass.{stop}
use Rattle.block.specs.Dormant.{dormant}
use Rattle.block.specs.Executing.{executing}
use Rattle.block.specs.Ended.{is_end, ended}
use Rattle.block.specs.Aborting.{aborting}
use Rattle.block.specs.Resetting.{resetting}
use Rattle.block.specs.declared.record.Record.{Record}
use Rattle.block.specs.declared.entry.Inputs.{Inputs}
use Rattle.block.specs.Entry.{Entry}
use Rattle.block.specs.declared.pass.Pass.{Pass}

-- the rule of step n; Done, Error and Aborted have one, and no sound record has a step past Resetting
unfoldable pub rule : ℕ → ℕ → Inputs → Entry → Record → Pass
rule n k i e r =
    cond (eqb n Dormant) (dormant k i e r)
    (cond (eqb n Executing) (executing k i e r)
    (cond (is_end n) (ended k i r)
    (cond (eqb n Aborting) (aborting k e r)
    (cond (eqb n Resetting) (resetting e r)
    (stop 0 r)))))

abbrev pub pass : ℕ → Inputs → Entry → Record → Pass
pass k i e r = rule r.step k i e r
