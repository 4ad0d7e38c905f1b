-- Document 01, "Turned back": checks 20 to 41, from the top down; document 02, 3/14: "Numbers 20, 30 and 40 use the new lengths".
use Rattle.std.specs.Prelude.{ℕ, suc, ◌*◌, List, Ok, eqb, leb, length}
use Rattle.std.specs.Result.{result_and}
use Rattle.refusal.specs.Refusal.{Verdict, require, first_refused}
use Rattle.refusal.specs.declared.Place.TheVariants.{Header, Position}
use Rattle.refusal.specs.declared.Check.TheVariants.{StateLength, Unsound, FrameLength, EntryForm, ReportLength, JournalLength}
use Rattle.table.specs.Blocks.{Block, block_at}
use Rattle.layout.specs.Buffer.{record_length, entry_length, report_length, event_length, part}
use Rattle.layout.specs.RecordLayout.{sound_bytes}
use Rattle.layout.specs.EntryLayout.{entry_bytes}
use Rattle.engine.specs.Told.{Told}

-- 20: "length not 32 × blocks"; 40 since 3/14
abbrev pub state_length : List Block → List ℕ → Verdict → Verdict
state_length blocks state below = require (eqb (length state) (record_length * length blocks)) StateLength Header below

-- 21: "unsound (not for fresh); first position"
abbrev pub sound_at : List Block → List ℕ → ℕ → Verdict
sound_at blocks state i = require (sound_bytes (block_at blocks i).kind (part record_length i state)) Unsound (Position (suc i)) (Ok tt)

unfoldable pub state_sound : List Block → List ℕ → Verdict
state_sound blocks state = first_refused (sound_at blocks state) (length blocks)

-- the checks of a state
abbrev pub state_check : List Block → List ℕ → Verdict
state_check blocks state = state_length blocks state (state_sound blocks state)

-- 30: "length not 56 × blocks"; 64 since 3/14
abbrev pub frame_length : List Block → List ℕ → Verdict → Verdict
frame_length blocks frame below = require (eqb (length frame) (entry_length * length blocks)) FrameLength Header below

-- 31: "an entry not as above; first position"
abbrev pub form_at : List ℕ → ℕ → Verdict
form_at frame i = require (entry_bytes (part entry_length i frame)) EntryForm (Position (suc i)) (Ok tt)

unfoldable pub frame_form : List Block → List ℕ → Verdict
frame_form blocks frame = first_refused (form_at frame) (length blocks)

-- the checks of a frame
abbrev pub frame_check : List Block → List ℕ → Verdict
frame_check blocks frame = frame_length blocks frame (frame_form blocks frame)

-- 40: "length not 12 × blocks"; 16 since 3/14
abbrev pub report_length_is : List Block → List ℕ → Verdict → Verdict
report_length_is blocks report below = require (eqb (length report) (report_length * length blocks)) ReportLength Header below

-- "41 means under 24 × blocks": two events a block
abbrev pub journal_length : List Block → List ℕ → Verdict → Verdict
journal_length blocks journal below = require (leb (2 * event_length * length blocks) (length journal)) JournalLength Header below

-- the checks of the report and the journal
abbrev pub lent_check : List Block → List ℕ → List ℕ → Verdict
lent_check blocks report journal = report_length_is blocks report (journal_length blocks journal (Ok tt))

-- "then ... the scan 20 to 41"; "Checks run from the top down, the first that fails is given"
unfoldable pub verify_of : List Block → List ℕ → Told → List ℕ → List ℕ → Verdict
verify_of blocks state told report journal =
    result_and (state_check blocks state)
    (result_and (frame_check blocks told.frame)
    (lent_check blocks report journal))
