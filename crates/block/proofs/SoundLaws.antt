-- A call from a sound record, with an entry in form, leaves a sound record. For the list of scans: a state that was sound is sound again.
-- The kind has to be one of the fourteen: kind 0 is no edge kind, so a start that falls would take it to Aborting, where it is not sound.
use Prim.Native.Nat.{ℕ}
use mathlib.Core.Bool.{true}
use mathlib.Core.Path.{◌≡◌}
use Rattle.kind.specs.Kind.{is_kind}
use Rattle.block.specs.Entry.{Entry, entry_fits}
use Rattle.block.specs.Sound.{sound}
use Rattle.block.specs.Call.{Outcome, Call, stops, goes}
use Rattle.block.specs.declared.record.Record.{Record}
use Rattle.block.specs.declared.entry.Inputs.{Inputs}
use Rattle.block.proofs.Shapes.{Settled, Shape, settled, settled_of, sound_of}
use Rattle.block.proofs.Passes.{passed}

-- a call leaves a settled record
pub call_settled : {k : ℕ} {i : Inputs} {e : Entry} {r : Record} {o : Outcome} → Shape k (entry_fits e ≡ true) r → Call k i e r o → Settled k (entry_fits e ≡ true) o.next
call_settled {k} {i} {e} s (stops r h) = (passed k i e s).rests h
call_settled {k} {i} {e} s (goes r o h c) = call_settled (passed k i e s).after c

pub call_sound : {k : ℕ} {i : Inputs} {e : Entry} {r : Record} {o : Outcome} → is_kind k ≡ true → entry_fits e ≡ true → sound k r ≡ true → Call k i e r o → sound k o.next ≡ true
call_sound {k} {i} {e} {r} {o} kind fits h c =
    sound_of k (entry_fits e ≡ true) kind fits o.next (call_settled (settled (settled_of k (entry_fits e ≡ true) r h)) c)
