-- What the code's record, its lent buffers and a piece's numbers stand for.
use Rattle.std.specs.Prelude.{ℕ, List, Bool}
use Rattle.assembly.specs.declared.Rec.{Rec}
use Rattle.assembly.specs.Piece.{Piece}
use Rattle.assembly.specs.Assembly.{State}

-- a record with its payload buffer and its map
abbrev pub view : Rec → List ℕ → List ℕ → State
view r d m = record { key = r.key; payload = d; map = m; total = r.total; floor = r.floor; spoilt = r.spoilt }

-- and back: the record of a state
abbrev pub record_of : State → Rec
record_of s = record { key = s.key; total = s.total; floor = s.floor; spoilt = s.spoilt }

-- offset, MF and data
abbrev pub piece : ℕ → Bool → List ℕ → Piece
piece o m b = record { off = o; mf = m; body = b }
