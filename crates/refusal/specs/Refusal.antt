-- docs/RULES.md, "Checks": refusals by their numbers, and one check before those below it.
use Rattle.std.specs.Prelude.{ℕ, zero, suc, Bool, true, false, List, [], ◌++◌, Result, Ok, Err, decimal}
use lib.Chars.{codes}
use Rattle.std.specs.Result.{result_and}
use Rattle.refusal.specs.declared.Place.{Place}
use Rattle.refusal.specs.declared.Place.TheVariants.{Header, Slot, Position, Event}
use Rattle.refusal.specs.declared.Check.{Check}
use Rattle.refusal.specs.declared.Check.TheVariants.{
  ShortHeader,
  Version,
  SlotCount,
  ImageLength,
  LinkAbove,
  LinkAgain,
  RecordKind,
  TagForm,
  TagAgain,
  WireForm,
  SpareSlot,
  StateLength,
  Unsound,
  FrameLength,
  EntryForm,
  ReportLength,
  JournalLength,
  LookupForm,
  UnknownTag,
  OutputLength,
  EventsLength,
  EventForm,
  InputLength,
}
use Rattle.refusal.specs.declared.Refusal.{Refusal}

-- "a slot, a position, an event, or 0 where none is named"
abbrev pub place_number : Place → ℕ
place_number Header = 0
place_number (Slot k) = k
place_number (Position k) = k
place_number (Event k) = k

-- the number of each check, in the order of the table
abbrev pub check_number : Check → ℕ
check_number ShortHeader = 1
check_number Version = 2
check_number SlotCount = 3
check_number ImageLength = 4
check_number LinkAbove = 5
check_number LinkAgain = 6
check_number RecordKind = 7
check_number TagForm = 8
check_number TagAgain = 9
check_number WireForm = 10
check_number SpareSlot = 11
check_number StateLength = 20
check_number Unsound = 21
check_number FrameLength = 30
check_number EntryForm = 31
check_number ReportLength = 40
check_number JournalLength = 41
check_number LookupForm = 50
check_number UnknownTag = 51
check_number OutputLength = 60
check_number EventsLength = 70
check_number EventForm = 71
check_number InputLength = 75

-- no number of that table is higher
abbrev pub most_number : ℕ
most_number = 75

-- docs/RULES.md, "Answers": a value, or a refusal's number and place
pub data Answer : Type 0 where
  value : ℕ → Answer
  refusal : ℕ → ℕ → Answer

-- "accepted: the value", or "refused", with "number" and "place"
abbrev pub answer_of : Result ℕ Refusal → Answer
answer_of (Ok n) = value n
answer_of (Err r) = refusal (check_number r.check) (place_number r.place)

-- a refusal by a check, at a place
abbrev pub refused : {A : Type 0} → Check → Place → Result A Refusal
refused check place = Err (record { check = check; place = place })

-- what a group of checks finds: that all pass, or the refusal
abbrev pub Verdict : Type 0
Verdict = Result (Unit {0}) Refusal

-- "Checks run in the order of this table and the first that fails is the answer": one check, and those below it
abbrev pub require : {A : Type 0} → Bool → Check → Place → Result A Refusal → Result A Refusal
require true check place below = below
require false check place below = refused check place

-- the same of the checks 0 to n - 1 of a row
abbrev pub first_refused : (ℕ → Verdict) → ℕ → Verdict
first_refused check zero = Ok tt
first_refused check (suc n) = result_and (first_refused check n) (check n)

-- the place as programs print it: nothing where none is named
abbrev pub place_text : Place → List ℕ
place_text Header = []
place_text (Slot k) = codes " at slot " ++ decimal k
place_text (Position k) = codes " at position " ++ decimal k
place_text (Event k) = codes " at event " ++ decimal k

-- a refusal as programs print it: "refused 10 at slot 2"
abbrev pub refusal_text : Refusal → List ℕ
refusal_text r = codes "refused " ++ decimal (check_number r.check) ++ place_text r.place
