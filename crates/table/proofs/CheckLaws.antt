-- What a header has that passed: for the proof of header::check_header and for AcceptedLaws.
use Rattle.std.proofs.Common.{ℕ, ◌≡◌, List, ◌&&◌, Ok, length}
use borrow.Author.Tests.{eqb-true}
use lib.Dec.{leb, eqb}
use Rattle.membership.specs.Membership.{within}
use Rattle.membership.proofs.Logic.{by_test}
use Rattle.membership.proofs.MembershipLaws.{within_bounds}
use Rattle.image.specs.Image.{header_length, most_slots, version, slot_count, header_zero, image_length}
use Rattle.table.specs.Header.{header_check, HeaderOk}

pub header_ok_by : (image : List ℕ) → header_check image ≡ Ok tt → HeaderOk image
unfolding header_check
header_ok_by image e =
    by_test (leb header_length (length image))
    (λ a. by_test (eqb (version image) 1 && eqb (header_zero image) 0)
    (λ b. by_test (within 1 most_slots (slot_count image))
    (λ n. by_test (eqb (length image) (image_length (slot_count image)))
    (λ l. record {
      some = (within_bounds 1 most_slots (slot_count image) n).0;
      few = (within_bounds 1 most_slots (slot_count image) n).1;
      sized = eqb-true (length image) (image_length (slot_count image)) l;
    })
    (λ l. let z = simp (a, b, n, l) at e in cc))
    (λ n. let z = simp (a, b, n) at e in cc))
    (λ b. let z = simp (a, b) at e in cc))
    (λ a. let z = simp a at e in cc)
