-- Pieces by name: document 01, 'Pieces'.
use Rattle.std.specs.Prelude.{◌≡◌, ℕ, ◌+◌, false, List, ◌++◌, length}
use Rattle.pkt.specs.Rfc791.{ip_header}
use Rattle.ezpkt.specs.Build.{piece_ip, packet_of}
use Rattle.ezpkt.specs.declared.ip4.Template.{Template}
use Rattle.ezpkt.specs.declared.build.Request.{Request}
use Rattle.ezpkt.specs.declared.build.Request.TheVariants.{Piece}

-- a request (off, len) in blocks
abbrev pub fragment_of : Template → ℕ → ℕ → Request
fragment_of t off len = Piece (record { template = t; off = off; len = len })

-- "`tail` takes len = n"
abbrev pub tail_of : Template → ℕ → ℕ → Request
tail_of t off n = fragment_of t off n

abbrev pub datagram_of : Template → ℕ → Request
datagram_of t n = tail_of t 0 n

-- "`datagram` carries all with offset 0 and MF clear": behind a header that says so stands the whole payload p
abbrev pub DatagramWhole : Type 0
DatagramWhole =
    (t : Template) (p : List ℕ)
    → packet_of (datagram_of t (length p)) p ≡ ip_header (piece_ip (record { template = t; off = 0; len = length p }) (20 + length p) false) ++ p
