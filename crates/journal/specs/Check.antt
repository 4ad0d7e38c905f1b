-- Document 02, 6/14: a journal judged event by event, and what is answered.
use Rattle.std.specs.Prelude.{ℕ, suc, ◌-◌, ◌/◌, ◌%◌, Bool, cond, ◌&&◌, List, [], ◌∷◌, Result, Ok, eqb, length}
use Rattle.std.specs.Result.{result_and}
use Rattle.std.proofs.Math.Option.{Option, none, some}
use Rattle.membership.specs.Membership.{within}
use Rattle.refusal.specs.Refusal.{Verdict, require, refused}
use Rattle.refusal.specs.declared.Refusal.{Refusal}
use Rattle.refusal.specs.declared.Place.TheVariants.{Header, Event}
use Rattle.refusal.specs.declared.Check.TheVariants.{EventsLength, EventForm}
use Rattle.table.specs.Check.{check_of}
use Rattle.table.specs.Blocks.{Block, blocks_of, block_at}
use Rattle.layout.specs.Buffer.{event_length}
use Rattle.layout.specs.EventLayout.{decode_events}
use Rattle.layout.specs.declared.event.Posted.{Posted}
use Rattle.block.specs.Turns.{takes_turn, open_after}

-- the job that is open at each position, if any
abbrev pub OpenJobs : Type 0
OpenJobs = ℕ → Option ℕ

abbrev pub none_open : OpenJobs
none_open p = none

-- an event changes the open job of its own position alone
abbrev pub opened_by : Posted → OpenJobs → OpenJobs
opened_by e jobs p = cond (eqb p e.position) (open_after e.event) (jobs p)

-- whether an event is good after those before it, which left these jobs open: "a position in the table", and its block's turn
unfoldable pub is_good : List Block → OpenJobs → Posted → Bool
is_good blocks jobs e =
    within 1 (length blocks) e.position && takes_turn (block_at blocks (e.position - 1)).kind (jobs e.position) e.event

-- "the number of the first bad event, from 1", of events that come after n good ones
unfoldable pub first_bad : List Block → OpenJobs → ℕ → List Posted → Option ℕ
first_bad blocks jobs n [] = none
first_bad blocks jobs n (e ∷ es) = cond (is_good blocks jobs e) (first_bad blocks (opened_by e jobs) (suc n) es) (some (suc n))

-- "71 with the number of the first bad event, from 1, as its place"
abbrev pub events_verdict : Option ℕ → Verdict
events_verdict none = Ok tt
events_verdict (some n) = refused EventForm (Event n)

-- how many events a journal has, and the events
abbrev pub event_count : List ℕ → ℕ
event_count journal = length journal / event_length

abbrev pub events_of : List ℕ → List Posted
events_of journal = decode_events (event_count journal) journal

-- "70 for a length not a multiple of the event"
unfoldable pub journal_verdict : List Block → List ℕ → Verdict
journal_verdict blocks journal =
    require (eqb (length journal % event_length) 0) EventsLength Header
    (events_verdict (first_bad blocks none_open 0 (events_of journal)))

-- "both after the table checks"; "An accepted journal answers its event count."
unfoldable pub check_journal_of : List ℕ → List ℕ → Result ℕ Refusal
check_journal_of image journal = result_and (check_of image) (result_and (journal_verdict (blocks_of image) journal) (Ok (event_count journal)))
