-- What a fresh state that was made has: an accepted table, the right length, and every record fresh. For the run promise.
use Prim.Native.Nat.{ℕ, ◌*◌, ◌≤◌, ◌<◌}
use native.Mathlib.Decide.{dec_lt}
use native.Mathlib.Omega.{arith}
use mathlib.Core.Bool.{Bool, true, false}
use mathlib.Core.List.{List, []}
use mathlib.Core.Path.{◌≡◌, refl, ap, ◌∙◌}
use lib.Dec.{eqb}
use lib.ListN.{length, take, replicate, length-replicate, drop_of_length-le}
use borrow.Author.Tests.{eqb-true}
use Rattle.words.specs.Word.{number}
use Rattle.table.specs.Blocks.{blocks_of}
use Rattle.table.specs.Check.{check_of}
use Rattle.std.specs.Prelude.{Result, Ok, Err}
use Rattle.refusal.specs.declared.Refusal.{Refusal}
use Rattle.layout.specs.Buffer.{record_length, part}
use Rattle.layout.specs.RecordLayout.{decode_record, record_form}
use Rattle.layout.proofs.BufferLaws.{part_zeros}
use Rattle.layout.proofs.RecordLaws.{fresh_form, decode_fresh}
use Rattle.block.specs.Record.{fresh_record}
use Rattle.engine.specs.Fresh.{fresh_of}
use Rattle.engine.specs.Serve.{record_in}

pub record FreshMade (image buffer : List ℕ) (n : ℕ) : Type 0 where
  pub table : check_of image ≡ Ok n
  pub sized : length buffer ≡ record_length * length (blocks_of image)
  pub zeros : (fresh_of image buffer).state ≡ replicate (length buffer) 0

pub fresh_made : (image buffer : List ℕ) (n : ℕ) → (fresh_of image buffer).answer ≡ Ok n → FreshMade image buffer n
unfolding fresh_of
fresh_made image buffer n = after (check_of image) refl (eqb (length buffer) (record_length * length (blocks_of image))) refl
  where
    after : (c : Result ℕ Refusal) → check_of image ≡ c → (b : Bool) → eqb (length buffer) (record_length * length (blocks_of image)) ≡ b
        → (fresh_of image buffer).answer ≡ Ok n → FreshMade image buffer n
    after (Ok m) e true s a =
        record {
          table = e ∙ rw (e, s) at a;
          sized = eqb-true (length buffer) (record_length * length (blocks_of image)) s;
          zeros = rw (e, s);
        }
    after (Ok m) e false s a = let z = rw (e, s) at a in cc
    after (Err refusal) e b s a = let z = rw e at a in cc

-- every record of zeros is fresh, past the last one too
zeros_part : (n j : ℕ) → j < n → part record_length j (replicate (record_length * n) 0) ≡ replicate record_length 0
zeros_part n j l = part_zeros record_length j (record_length * n) (omega arith)

zeros_past : (n j : ℕ) → n ≤ j → part record_length j (replicate (record_length * n) 0) ≡ []
zeros_past n j l =
    let zeros : List ℕ = replicate (record_length * n) 0 in
    ap (take record_length) (drop_of_length-le zeros {i = record_length * j} (omega (arith, length-replicate {A = ℕ} (record_length * n) 0)))

pub zeros_fresh : (n j : ℕ) → record_in (replicate (record_length * n) 0) j ≡ fresh_record
unfolding decode_record number
zeros_fresh n j = go (dec_lt j n)
  where
    go : Dec (j < n) → record_in (replicate (record_length * n) 0) j ≡ fresh_record
    go (yes l) = ap decode_record (zeros_part n j l) ∙ decode_fresh
    go (no m) = ap decode_record (zeros_past n j (omega arith))

pub zeros_form : (n j : ℕ) → j < n → record_form (part record_length j (replicate (record_length * n) 0)) ≡ true
zeros_form n j l = ap record_form (zeros_part n j l) ∙ fresh_form
