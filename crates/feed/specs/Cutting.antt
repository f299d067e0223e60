-- Document 02, T-05: "cuts each UDP datagram .. into the fewest pieces, each but the last as full as blocks allow": as T-07's planner cuts.
use Rattle.std.specs.Prelude.{ℕ, List, map, length}
use Rattle.ezpkt.specs.Build.{packet_of}
use Rattle.ezpkt.specs.Ip4.{fragment_of}
use Rattle.ezpkt.specs.declared.ip4.Template.{Template}
use Rattle.pieces.specs.declared.BlockRequest.{BlockRequest}
use Rattle.planner.specs.Cutting.{requests_from, planned}

-- the packet of one request for bytes of d
abbrev pub packet_for : Template → List ℕ → BlockRequest → List ℕ
packet_for t d r = packet_of (fragment_of t r.off r.len) d

-- the packets of so many pieces of d from block off on, b blocks in a full one, in rising order
abbrev pub pieces_from : Template → List ℕ → ℕ → ℕ → ℕ → List (List ℕ)
pieces_from t d b count off = map (packet_for t d) (requests_from (length d) b count off)

-- all of d, on a link of m bytes
abbrev pub cut_for : Template → List ℕ → ℕ → List (List ℕ)
cut_for t d m = map (packet_for t d) (planned (length d) m)
