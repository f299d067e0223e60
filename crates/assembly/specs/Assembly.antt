-- One datagram in progress, and what each piece does to it (document 01, "Assembly").
-- The capacity is the length of the lent buffers: no definition here fixes it.
use Rattle.std.specs.Prelude.{Bool, true, false, not, ◌&&◌, ◌||◌, cond, List, [], ◌∷◌, ℕ, suc, ◌+◌, ◌*◌, ◌/◌, max, length, get_or, take, leb, ltb, eqb, Option, None, Some}
use Rattle.std.proofs.lemmas.List.Edits.{sets}
use Rattle.assembly.specs.declared.Key.{Key}
use Rattle.assembly.specs.declared.Outcome.{Outcome}
use Rattle.assembly.specs.declared.Outcome.TheVariants.{Waiting, Complete, Spoilt}
use Rattle.assembly.specs.Map.{block_bit, mark, marked}
use Rattle.assembly.specs.Piece.{Piece, start, end}
use Rattle.pkt.specs.Written.{zeros}

-- "a lent payload buffer .., a lent map .., and a record: key, total (known or not), floor, spoilt"
pub record State : Type 0 where
  pub key : Key
  pub payload : List ℕ
  pub map : List ℕ
  pub total : Option ℕ
  pub floor : ℕ
  pub spoilt : Bool

-- all zero but the key, with a payload buffer of C bytes and a map of M; spoilt or not
abbrev pub cleared : Key → ℕ → ℕ → Bool → State
cleared k C M s = record { key = k; payload = zeros C; map = zeros M; total = None; floor = 0; spoilt = s }

-- "Opening zeroes all but the key."
abbrev pub opened : Key → ℕ → ℕ → State
opened k C M = cleared k C M false

-- "A new piece is tested against blocks whose bit is set": payload, map, the place of the data's first byte, data
unfoldable pub byte_clash : List ℕ → List ℕ → ℕ → List ℕ → Bool
byte_clash d m k [] = false
byte_clash d m k (x ∷ xs) = (eqb (block_bit m (k / 8)) 1 && not (eqb (get_or d k 0) x)) || byte_clash d m (suc k) xs

-- ".. the total and the floor": total, floor, MF, end
unfoldable pub end_clash : Option ℕ → ℕ → Bool → ℕ → Bool
end_clash None f true e = false
end_clash (Some t) f true e = leb t e
end_clash None f false e = ltb e f
end_clash (Some t) f false e = not (eqb t e) || ltb e f

-- the test of a piece: whether it contradicts what is held
unfoldable pub clashes : State → Piece → Bool
clashes s p = end_clash s.total s.floor p.mf (end p) || byte_clash s.payload s.map (start p) p.body

-- ".. with MF clear, total becomes end."
unfoldable pub new_total : Bool → Option ℕ → ℕ → Option ℕ
new_total true t e = t
new_total false t e = Some e

-- "With MF set, floor becomes the larger of floor and end + 1"
unfoldable pub new_floor : Bool → ℕ → ℕ → ℕ
new_floor true f e = max f (e + 1)
new_floor false f e = f

-- "Data is copied and its blocks are marked."
unfoldable pub accept : State → Piece → State
accept s p =
    record {
      key = s.key;
      payload = sets s.payload (start p) p.body;
      map = mark s.map p.off ((length p.body + 7) / 8);
      total = new_total p.mf s.total (end p);
      floor = new_floor p.mf s.floor (end p);
      spoilt = false;
    }

-- "On a contradiction payload and map become zero, the total unknown, floor 0, spoilt yes;
-- a spoilt record and its buffers are then left unchanged."
unfoldable pub step : State → Piece → State
step s p = cond s.spoilt s (cond (clashes s p) (cleared s.key (length s.payload) (length s.map) true) (accept s p))

-- pieces taken one after the other
unfoldable pub run : State → List Piece → State
run s [] = s
run s (p ∷ ps) = run (step s p) ps

-- whether every byte below the total is held: a block is marked if one of its bytes came, and only the datagram's last may be short
unfoldable pub held_to : List ℕ → Option ℕ → Bool
held_to m None = false
held_to m (Some t) = marked m ((t + 7) / 8)

-- a total that a payload buffer of C bytes has room for, or none
unfoldable pub total_fits : ℕ → Option ℕ → Bool
total_fits C None = true
total_fits C (Some t) = leb t C

-- what refusal 11 asks of a record: not "total above 65,515 or floor above 65,513", where C is 65,515
unfoldable pub record_fits : ℕ → Option ℕ → ℕ → Bool
record_fits C t f = total_fits C t && leb f (8 * (C / 8) + 1)

abbrev pub record_valid : State → Bool
record_valid s = record_fits (length s.payload) s.total s.floor

-- "Complete: total known and every byte below it held."
unfoldable pub complete : State → Bool
complete s = not s.spoilt && held_to s.map s.total

-- the payload's bytes below the total; none where it is not known
unfoldable pub bytes_below : Option ℕ → List ℕ → List ℕ
bytes_below None d = []
bytes_below (Some t) d = take t d

-- what is held of a complete datagram; nothing of any other
unfoldable pub held_bytes : State → List ℕ
held_bytes s = cond (complete s) (bytes_below s.total s.payload) []

-- "Each accepted call answers waiting, complete or spoilt."
unfoldable pub outcome : State → Outcome
outcome s = cond s.spoilt Spoilt (cond (held_to s.map s.total) Complete Waiting)
