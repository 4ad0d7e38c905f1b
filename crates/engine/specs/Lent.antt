-- The lent buffers as one value of the code.
use Rattle.std.specs.Prelude.{◌≡◌}
use Rattle.engine.specs.Serve.{Buffers}
use Rattle.engine.specs.declared.lent.Lent.{Lent}

abbrev pub buffers_of : Lent → Buffers
buffers_of l = record { state = l.state.now; report = l.report.now; journal = l.journal.now; events = l.events }

-- it still writes to the caller's own buffers
pub record SameLoans (old new : Lent) : Type 0 where
  pub state : new.state.ghost_name ≡ old.state.ghost_name
  pub report : new.report.ghost_name ≡ old.report.ghost_name
  pub journal : new.journal.ghost_name ≡ old.journal.ghost_name
