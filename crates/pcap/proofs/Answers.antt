-- Laws of the answers: what they tell of sizes.
use mathlib.Core.Path.{◌≡◌}
use Prim.Native.Nat.{ℕ, ◌+◌, ◌≤◌}
use borrow.Author.Tests.{le-ltb}
use Rattle.pkt.specs.Answers.{gives, fitting}
use Rattle.pkt.proofs.Deciding.{bounded}
use Rattle.pcap.specs.Answers.{record_answer}

-- What is not refused has room, and its length is answered.
pub fitting_fits : (size room k : ℕ) → fitting size room ≡ gives k → (size ≤ room) × (size ≡ k)
fitting_fits size room k e =
    let a = bounded room size 3 k _ e in
    (a.0, (let q : size ≡ k = cc a.1 in q))

-- A record that is not refused is short enough, has a time and has room, and its length is answered.
pub record_fits_lem : (n usec room k : ℕ) → record_answer n usec room ≡ gives k → (n ≤ 65535) × (usec ≤ 999999) × (16 + n ≤ room) × (16 + n ≡ k)
record_fits_lem n usec room k e =
    let a = bounded 65535 n 1 k _ e in
    let b = bounded 999999 usec 17 k _ a.1 in
    let c = fitting_fits (16 + n) room k b.1 in
    (a.0, b.0, c.0, c.1)

pub fitting_taken : (size room : ℕ) → size ≤ room → fitting size room ≡ gives size
fitting_taken size room h = simp (le-ltb _ _ h)

pub record_taken : (n usec room : ℕ) → n ≤ 65535 → usec ≤ 999999 → 16 + n ≤ room → record_answer n usec room ≡ gives (16 + n)
record_taken n usec room a b c = simp (le-ltb _ _ a, le-ltb _ _ b, le-ltb _ _ c)
