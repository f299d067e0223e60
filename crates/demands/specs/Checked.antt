-- What the check owes a packet that is built.
use Rattle.std.specs.Prelude.{Bool, false, cond, List, ℕ, ◌+◌, ◌%◌, length}
use Rattle.pkt.specs.Answers.{Answer, refused, gives}
use Rattle.ezpkt.specs.Build.{more_follow, piece_ip}
use Rattle.ezpkt.specs.declared.build.Request.{Request}
use Rattle.ezpkt.specs.declared.build.Request.TheVariants.{Tcp, Udp, Echo, Piece}
use Rattle.inspect.specs.declared.check.Verdict.{Verdict}
use Rattle.inspect.specs.declared.check.Verdict.TheVariants.{Good}
use Rattle.inspect.specs.Header.{has_bit}
use Rattle.inspect.specs.Check.{of_many, part_answer}
use Rattle.inspect.specs.Encoded.{read_of}

-- the reserved bit, and MF set or offset not 0, in the whole 16-bit field
abbrev pub reserved_field : ℕ → Bool
reserved_field x = has_bit 0x8000 x

abbrev pub piece_field : ℕ → Bool
piece_field x = of_many (has_bit 0x2000 x) (x % 0x2000)

-- What the check owes a request and its payload: 18 for what has the reserved bit; 13 for what has an offset or MF; else good; and for a
-- piece that is a whole datagram what its payload p is answered under its header.
abbrev pub check_of : Request → List ℕ → Answer Verdict
check_of (Tcp t) p = cond (reserved_field t.frag_off) (refused 18) (cond (piece_field t.frag_off) (refused 13) (gives Good))
check_of (Udp u) p = cond (reserved_field u.frag_off) (refused 18) (cond (piece_field u.frag_off) (refused 13) (gives Good))
check_of (Echo e) p = gives Good
check_of (Piece q) p =
    cond q.template.evil (refused 18)
    (cond (of_many (more_follow q (length p)) q.off) (refused 13) (part_answer (read_of (piece_ip q (20 + length p) false)) p))
