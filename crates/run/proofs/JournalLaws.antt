-- A journal to which the events of a call are put after those before, with no bound on how many there are: reading it back gives the events before,
-- then those of the call. For the journal of a scan.
use Rattle.std.proofs.Common.{◌≡◌, ℕ, ◌+◌, ◌*◌, ◌≤◌, List, ◌++◌, length, take, drop, ◌∙◌, arith, length-append, take-append-drop, drop_at, length-take-le}
use Rattle.layout.specs.Buffer.{event_length, put}
use Rattle.layout.specs.EventLayout.{encode_events, decode_events}
use Rattle.layout.proofs.Fits.{All, EventFits}
use Rattle.layout.proofs.EventLaws.{posted, posted_length, posted_events, posted_fits, events_length, decode_split, decode_posted}
use Rattle.block.specs.declared.event.Event.{Event}
-- the first events stand in front
pub use Rattle.layout.proofs.EventLaws.{decode_front}

-- the events of a call, read back
decode_call : (position : ℕ) (vs : List Event) (x : List ℕ) → All EventFits vs → decode_events (length vs) (encode_events position vs ++ x) ≡ posted position vs
decode_call position vs x h = rw (← posted_length position vs, posted_events position vs) (decode_posted x (posted_fits position h))

module _ (n position : ℕ) (vs : List Event) (s : List ℕ) (room : event_length * n ≤ length s) where
  front : List ℕ
  front = take (event_length * n) s

  front_length : length front ≡ event_length * n
  unfolding front
  front_length = length-take-le (event_length * n) s room

  -- put after n events: those events, then the events of the call
  pub decode_after : All EventFits vs
      → decode_events (n + length vs) (put (event_length * n) (encode_events position vs) s) ≡ decode_events n s ++ posted position vs
  unfolding front
  decode_after h =
      let x = drop (event_length * n + length (encode_events position vs)) s in
      let y = encode_events position vs ++ x in
      let a : decode_events n (front ++ y) ≡ decode_events n front = decode_front n front y (omega (arith, front_length)) in
      let rest = drop (event_length * n) s in
      let b : decode_events n (front ++ rest) ≡ decode_events n front = decode_front n front rest (omega (arith, front_length)) in
      let c : drop (event_length * n) (front ++ y) ≡ y = drop_at front y (event_length * n) front_length in
      decode_split n (length vs) (front ++ y) ∙ rw (a, c, decode_call position vs x h, ← b, take-append-drop)

  -- and there is room for all of them
  pub room_after : event_length * (n + length vs) ≤ length (put (event_length * n) (encode_events position vs) s)
  unfolding front
  room_after = simp length-append (omega (arith, front_length, events_length position vs))
