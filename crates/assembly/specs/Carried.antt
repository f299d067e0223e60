-- The piece that a packet carries, and the numbers 4 to 10 that refuse it.
use Rattle.std.specs.Prelude.{ℕ, ◌+◌, ◌*◌, ◌%◌, Bool, not, ◌&&◌, cond, List, length, ltb, eqb}
use Rattle.pkt.specs.Answers.{Answer, refused, gives, and_then, mapped}
use Rattle.inspect.specs.Header.{read_answer, data_of}
use Rattle.inspect.specs.declared.header.IpRead.{IpRead}
use Rattle.assembly.specs.declared.Key.{Key}
use Rattle.assembly.specs.Piece.{Piece}
use Rattle.assembly.specs.View.{piece}

-- Document 02, T-02: "RFC 791 names four fields: identification, source, destination and protocol."
abbrev pub key_of : IpRead → Key
key_of h = record { saddr = h.saddr; daddr = h.daddr; id = h.id; protocol = h.protocol }

unfoldable pub same_key : Key → Key → Bool
same_key a b = ((eqb a.saddr b.saddr && eqb a.daddr b.daddr) && eqb a.id b.id) && eqb a.protocol b.protocol

-- "The data part that starts behind the header"; "Bytes after the total length are ignored"
abbrev pub piece_of : List ℕ → IpRead → Piece
piece_of l h = piece h.off h.mf (data_of h l)

-- 9: "MF set and data length no multiple of 8"
unfoldable pub broken : Bool → ℕ → Bool
broken mf n = mf && not (eqb (n % 8) 0)

-- 9, then the number `far`: the end is above C, the payload buffer's size; n is the data length
unfoldable pub fit_answer : ℕ → ℕ → ℕ → IpRead → Answer IpRead
fit_answer C far n h = cond (broken h.mf n) (refused 9) (cond (ltb C (8 * h.off + n)) (refused far) (gives h))

-- 8: "key differs from the assembly's", "also for another protocol"
unfoldable pub keyed_answer : Key → IpRead → Answer IpRead
keyed_answer k h = cond (same_key (key_of h) k) (gives h) (refused 8)

-- "4 (under 20), 5, 6, 4 (total), 7, 8", or the header
unfoldable pub head_answer : Key → List ℕ → Answer IpRead
head_answer k l = and_then (read_answer l) (keyed_answer k)

-- .. then "9, 10", of which 10 is "end above 65,515", or the piece
unfoldable pub piece_answer : ℕ → Key → List ℕ → Answer Piece
piece_answer C k l = and_then (head_answer k l) (λ h. mapped (piece_of l) (fit_answer C 10 (length (data_of h l)) h))
