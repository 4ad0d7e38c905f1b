-- What the pieces of a call leave: the time of their clocks, added in order, and an error code of 2 or more with an error reply of an
-- entry in form. For the laws of a pass.
use Prim.Native.Nat.{ℕ, zero, suc, ◌+◌}
use native.Mathlib.Omega.{arith}
use native.Mathlib.Nat.{zero-add}
use mathlib.Core.Bool.{Bool, true, not, ◌&&◌}
use mathlib.Core.List.{List, [], ◌∷◌}
use mathlib.Core.Path.{◌≡◌, ◌∙◌, refl}
use lib.Dec.{eqb, leb, ltb}
use lib.ListN.{take}
use borrow.Author.Tests.{eqb-true, le-leb}
use Rattle.kind.specs.Kind.{has_time_limit}
use Rattle.clock.specs.Clock.{most_elapsed, tick}
use Rattle.clock.specs.declared.Timer.{Timer}
use Rattle.clock.proofs.ClockLaws.{tick_held}
use Rattle.block.specs.Entry.{Entry, Complete, ErrorReply, most_pieces, least_error_code, code_fits, piece_form, zero_piece, piece_fits, pieces_fit, entry_fits}
use Rattle.block.specs.Executing.{at_call, use_piece, ends_pieces, use_pieces, bounds_of, worked}
use Rattle.block.specs.History.{tick_all, clocks_of}
use Rattle.block.specs.declared.record.Record.{Record}
use Rattle.block.specs.declared.entry.Piece.{Piece}
use Rattle.block.specs.declared.executing.Work.{Work}
use Rattle.block.specs.declared.executing.Bounds.{Bounds}
use Rattle.membership.proofs.Logic.{and_left, and_right}
use Rattle.std.proofs.lemmas.Bool.{cond_both}
use Rattle.block.proofs.Tests.{none, or_cases, each}

-- work w that became work v by using the first pieces of a list
record Uses (w v : Work) (ps : List Piece) : Type 0 where
  count : ℕ
  used : v.used ≡ w.used + count
  timer : v.timer ≡ tick_all w.timer (take count (clocks_of ps))

uses : (several : Bool) (b : Bounds) (w : Work) (n : ℕ) (ps : List Piece) → Uses w (use_pieces several b w (take n ps)) ps
unfolding use_pieces tick_all clocks_of
uses several b w zero ps = record { count = 0; used = omega arith; timer = refl }
uses several b w (suc n) [] = record { count = 0; used = omega arith; timer = refl }
uses several b w (suc n) (p ∷ ps) =
    cond_both (ends_pieces several b (use_piece w p) p) _ _ (λ (v : Work). Uses w v (p ∷ ps))
    (λ h. record { count = 1; used = refl; timer = refl })
    (λ h. let u = uses several b (use_piece w p) n ps in record { count = suc u.count; used = omega (arith, u.used); timer = u.timer })

-- an error reply has a code of 2 or more
abbrev Coded : ℕ → ℕ → Type 0
Coded reply code = eqb reply ErrorReply ≡ true → leb least_error_code code ≡ true

pub coded : (reply code : ℕ) → code_fits reply code ≡ true → Coded reply code
coded reply code h e =
    or_cases (eqb reply ErrorReply && leb least_error_code code) (not (eqb reply ErrorReply) && eqb code 0) h
    (λ g. and_right (eqb reply ErrorReply) (leb least_error_code code) g)
    (λ g. none (rw e at (and_left (not (eqb reply ErrorReply)) (eqb code 0) g)))

coded_piece : (n i : ℕ) (p : Piece) → piece_fits n i p ≡ true → Coded p.reply p.code
coded_piece n i p h e =
    or_cases (ltb i n && piece_form p) (not (ltb i n) && zero_piece p) h
    (λ g. coded p.reply p.code (and_right (leb p.reply 2) (code_fits p.reply p.code) (and_right (ltb i n) (piece_form p) g)) e)
    (λ g.
    let z = eqb-true p.reply 0 (each (eqb p.reply 0) (eqb p.code 0 ∷ eqb p.clock 0 ∷ []) (and_right (not (ltb i n)) (zero_piece p) g)).0 in
    none (rw z at e))

-- what the reply, the code and the time of the work are
record Fair (form : Bool) (w : Work) : Type 0 where
  code : form ≡ true → Coded w.reply w.code
  held : leb w.timer.elapsed most_elapsed ≡ true

held_tick : (t : Timer) (c : ℕ) → leb (tick t c).elapsed most_elapsed ≡ true
held_tick t c = le-leb _ _ (tick_held t c)

fair_pieces : (form several : Bool) (b : Bounds) (w : Work) (n c i : ℕ) (ps : List Piece) → (form ≡ true → pieces_fit c i ps ≡ true) → Fair form w
    → Fair form (use_pieces several b w (take n ps))
unfolding use_pieces pieces_fit
fair_pieces form several b w zero c i ps f g = g
fair_pieces form several b w (suc n) c i [] f g = g
fair_pieces form several b w (suc n) c i (p ∷ ps) f g =
    let u : Fair form (use_piece w p) =
    record { code = λ h. coded_piece c i p (and_left (piece_fits c i p) (pieces_fit c (suc i) ps) (f h)); held = held_tick w.timer p.clock } in
    cond_both (ends_pieces several b (use_piece w p) p) _ _ (Fair form) (λ h. u)
    (λ h. fair_pieces form several b (use_piece w p) n c (suc i) ps (λ x. and_right (piece_fits c i p) (pieces_fit c (suc i) ps) (f x)) u)

-- what an entry in form says of its codes
pub record Form (e : Entry) : Type 0 where
  pub abort : code_fits e.abort_reply e.abort_code ≡ true
  pub pieces : pieces_fit e.count 0 e.pieces ≡ true

pub form : (e : Entry) → entry_fits e ≡ true → Form e
unfolding entry_fits
form e h =
    let code = code_fits e.abort_reply e.abort_code in
    let replies = leb e.abort_reply ErrorReply ∷ leb e.reset_reply Complete ∷ code ∷ pieces_fit e.count 0 e.pieces ∷ [] in
    let p = each (leb e.count most_pieces) replies h in
    record { abort = p.1.1.1.0; pieces = p.1.1.1.1 }

-- the work of Executing
pub record Worked (e : Entry) (t : Timer) (w : Work) : Type 0 where
  pub timer : w.timer ≡ tick_all (tick t e.clock) (take w.used (clocks_of e.pieces))
  pub code : entry_fits e ≡ true → eqb w.reply ErrorReply ≡ true → leb least_error_code w.code ≡ true
  pub held : leb w.timer.elapsed most_elapsed ≡ true

pub worked_laws : (k : ℕ) (e : Entry) (r : Record) → Worked e r.timer (worked k e r)
worked_laws k e r =
    let u = uses (has_time_limit k) (bounds_of k e r) (at_call e r) e.count e.pieces in
    let n : (worked k e r).used ≡ u.count = u.used ∙ zero-add u.count in
    let f = fair_pieces (entry_fits e) (has_time_limit k) (bounds_of k e r) (at_call e r) e.count e.count 0 e.pieces (λ h. (form e h).pieces)
    (record { code = λ h. none; held = held_tick r.timer e.clock }) in
    record { timer = rw n u.timer; code = f.code; held = f.held }
